-- A record that is read leaves the counts within their limits: the checks 6 and 7 ask just that.
use Rattle.rules.specs.Refusals.{CUT, MARK, COUNT, BONUS, PLAY_FIELD}
use mathlib.Core.Path.{◌≡◌, sym, ap}
use mathlib.Core.Bool.{true, false}
use mathlib.Core.List.{List}
use Prim.Native.Nat.{ℕ, ◌+◌, ◌≤◌, ◌<◌}
use native.Mathlib.Omega.{arith}
use lib.Dec.{eqb, leb, ltb}
use borrow.Author.Tests.{leb-true, leb-false, ltb-true, ltb-false, eqb-true, not-false}
use Rattle.std.specs.Prelude.{Option}
use Rattle.rules.specs.Limits.{max_breaks, max_objects, max_bonus}
use Rattle.numbers.specs.Words.{word_at}
use Rattle.records.specs.Marks.{MH, BR, CI, SL, SP, PL}
use Rattle.records.specs.Records.{Content, header, break, object, play, header_of, break_of, circle_of, slider_of, spinner_of, play_of, object_of, content_view}
use Rattle.map_file.specs.Order.{header_rank, break_rank, object_rank, play_rank, place, rank_of, in_order, is_full, over_bonus, content_bonus, body_of, record_of}
use Rattle.map_file.specs.View.{Fits}
use Rattle.map_file.specs.declared.file.Counts.{Counts}
use Rattle.map_file.specs.declared.file.Rank.{Rank}
use Rattle.rules.proofs.All.{All, none, that, all_bind, all_any, all_when, all_pick}
use Rattle.map_file.proofs.Bodies.{bonus_kept}
use Rattle.map_file.proofs.Ranks.{none_is}
use Rattle.rules.proofs.Laws.{and_left, and_right}

-- the place of a content in the order
abbrev pub content_rank : Content → Option Rank
content_rank (header s) = header_rank
content_rank (break b) = break_rank
content_rank (object o) = object_rank
content_rank (play p) = play_rank

-- a record's content is of its mark's place
abbrev pub Placed : ℕ → Content × ℕ → Type 0
Placed m f = content_rank f.0 ≡ rank_of m

object_placed : (r : List ℕ) (m : ℕ) → eqb m MH ≡ false → eqb m BR ≡ false → All (Placed m) (object_of r m)
unfolding object_of circle_of slider_of spinner_of
object_placed r m n₁ n₂ =
    all_pick (eqb m CI) (λ e. all_when CUT _ _ (λ _. all_any _ _ (λ a. that (simp (n₁, n₂, e))))) (λ n₃.
    all_pick (eqb m SL) (λ e. all_when CUT _ _ (λ _. all_any _ _ (λ a. all_when COUNT _ _ (λ _. all_when CUT _ _ (λ _. all_any _ _ (λ is. that (simp (n₁, n₂, n₃, e)))))))) (λ n₄.
    all_pick (eqb m SP) (λ e. all_when CUT _ _ (λ _. all_any _ _ (λ a. all_any _ _ (λ b. that (simp (n₁, n₂, n₃, n₄, e)))))) (λ _. none)))

pub body_placed : (r : List ℕ) (m : ℕ) → All (Placed m) (body_of r m)
unfolding body_of header_of break_of play_of
body_placed r m =
    all_pick (eqb m MH) (λ e. all_when CUT _ _ (λ _. all_any _ _ (λ hp. all_any _ _ (λ od. all_any _ _ (λ cs. that (simp e)))))) (λ n₁.
    all_pick (eqb m BR) (λ e. all_when CUT _ _ (λ _. all_any _ _ (λ a. all_any _ _ (λ b. that (simp (n₁, e)))))) (λ n₂.
    all_pick (eqb m PL) (λ e. all_when CUT _ _ (λ _. all_any _ _ (λ o. all_any _ _ (λ s. all_when PLAY_FIELD _ _ (λ _. all_any _ _ (λ x. that (play_place m e))))))) (λ _. object_placed r m n₁ n₂)))
  where
    play_place : (m : ℕ) → eqb m PL ≡ true → play_rank ≡ rank_of m
    play_place m e = ap rank_of (sym (eqb-true m PL e))

fits : (c : Counts) (m : ℕ) (x : Content) → content_rank x ≡ rank_of m → is_full c (rank_of m) ≡ false → over_bonus c (content_bonus x) ≡ false → Fits c (content_view x)
fits c m (header s) p q h = tt
fits c m (break b) p q h = leb-false max_breaks c.breaks (rw (sym p) at q)
fits c m (object o) p q h = (leb-false max_objects c.objects (rw (sym p) at q), (let k : c.bonus + content_bonus (object o) ≤ max_bonus = ltb-false max_bonus _ h in rw (bonus_kept (object o)) k))
fits c m (play s) p q h = tt

pub record_fits : (r : List ℕ) (c : Counts) → All (λ f. Fits c (content_view f.0)) (record_of r c)
unfolding record_of
record_fits r c =
    all_when CUT _ _ (λ _. all_when MARK _ _ (λ _. all_when COUNT _ _ (λ few.
    all_bind (body_of r (word_at r 0 2)) _ (body_placed r (word_at r 0 2)) (λ f h. all_when BONUS _ _ (λ low. that (fits c (word_at r 0 2) f.0 h few low))))))

ordered : (last : Option Rank) (m : ℕ) (x : Content) → content_rank x ≡ rank_of m → in_order last (rank_of m) ≡ true → place last ≤ place (content_rank x)
ordered last m (header s) p q = let e = ap place (none_is last (rw (sym p) at q)) in omega (arith, e)
ordered last m (break b) p q = leb-true (place last) 2 (and_right (ltb 0 (place last)) (leb (place last) 2) (rw (sym p) at q))
ordered last m (object o) p q = leb-true (place last) 3 (and_right (ltb 0 (place last)) (leb (place last) 3) (rw (sym p) at q))
ordered last m (play s) p q = leb-true (place last) 4 (and_right (ltb 0 (place last)) (leb (place last) 4) (rw (sym p) at q))

pub record_ordered : (r : List ℕ) (c : Counts) → All (λ f. place c.last ≤ place (content_rank f.0)) (record_of r c)
unfolding record_of
record_ordered r c =
    all_when CUT _ _ (λ _. all_when MARK _ _ (λ order. all_when COUNT _ _ (λ _.
    all_bind (body_of r (word_at r 0 2)) _ (body_placed r (word_at r 0 2)) (λ f h. all_when BONUS _ _ (λ _. that (ordered c.last (word_at r 0 2) f.0 h (not-false _ order)))))))

-- a record that is no header comes after one
abbrev pub Begun : Counts → Content → Type 0
Begun c (header s) = Unit
Begun c (break b) = 0 < place c.last
Begun c (object o) = 0 < place c.last
Begun c (play p) = 0 < place c.last

begun : (c : Counts) (m : ℕ) (x : Content) → content_rank x ≡ rank_of m → in_order c.last (rank_of m) ≡ true → Begun c x
begun c m (header s) p q = tt
begun c m (break b) p q = ltb-true 0 (place c.last) (and_left _ _ (rw (sym p) at q))
begun c m (object o) p q = ltb-true 0 (place c.last) (and_left _ _ (rw (sym p) at q))
begun c m (play s) p q = ltb-true 0 (place c.last) (and_left _ _ (rw (sym p) at q))

pub record_begun : (r : List ℕ) (c : Counts) → All (λ f. Begun c f.0) (record_of r c)
unfolding record_of
record_begun r c =
    all_when CUT _ _ (λ _. all_when MARK _ _ (λ order. all_when COUNT _ _ (λ _.
    all_bind (body_of r (word_at r 0 2)) _ (body_placed r (word_at r 0 2)) (λ f h. all_when BONUS _ _ (λ _. that (begun c (word_at r 0 2) f.0 h (not-false _ order)))))))
