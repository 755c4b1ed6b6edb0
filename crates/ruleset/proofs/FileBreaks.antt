-- The breaks of a file stand behind its header, 18 bytes each: what was read of the file so far keeps this. Assumes nothing.
use Rattle.std.specs.Prelude.{Option, Some, None}
use Rattle.std.proofs.Common.{◌≡◌, ℕ, zero, suc, ◌+◌, ◌*◌, ◌<◌, ◌≤◌, Bool, true, false, ◌&&◌, eqb, ltb, leb, List, [], ◌∷◌, ◌++◌, length, drop, sym, refl, ap, ◌∙◌, arith, ltb-true, eqb-true, leb-true}
use borrow.Author.Tests.{not-false}
use Rattle.std.proofs.lemmas.Bool.{and_parts}
use lib.Ieee.{binary64, of_bits, neg, le}
use Rattle.numbers.specs.Words.{word_at}
use Rattle.numbers.proofs.words.Laws.{word_at-drop}
use Rattle.rules.specs.Refusals.{good, pick, CUT, MARK, COUNT, BONUS, PLAY_FIELD}
use Rattle.records.specs.Fields.{ranged, time_of, time_limit}
use Rattle.records.specs.Marks.{MH, BR, CI, SL, SP, PL}
use Rattle.records.specs.Records.{Content, header, break, object, play, header_of, break_of, play_of, object_of, circle_of, slider_of, spinner_of}
use Rattle.map_file.specs.Order.{no_rank, place, rank_of, in_order, body_of, record_of}
use Rattle.map_file.specs.File.{File, counts_of, with_record, nothing_read}
use Rattle.records.specs.declared.beatmap.BreakPeriod.{BreakPeriod}
use Rattle.map_file.specs.declared.file.Counts.{Counts}
use Rattle.map_file.specs.declared.file.Rank.{Rank}
use Rattle.rules.proofs.All.{All, none, that, all_bind, all_any, all_when, all_pick, all_out}
use Rattle.rules.proofs.Laws.{never}
use Rattle.map_file.proofs.Ranks.{none_is}
use Rattle.map_file.proofs.Reading.{found_at, length_snoc}
use Rattle.ruleset.specs.Drain.{break_at, breaks_from, breaks_in}

-- ---- one record
pub time_is : (b : ℕ) → All (λ x. x ≡ of_bits binary64 b) (ranged (time_of b))
time_is b = go (le (neg time_limit) (of_bits binary64 b) && le (of_bits binary64 b) time_limit)
  where
    go : (t : Bool) → All (λ x. x ≡ of_bits binary64 b) (ranged (pick t (Some (of_bits binary64 b)) None))
    go true = that refl
    go false = none

-- the mark, the size and the times of a header or a break
abbrev Marked : List ℕ → ℕ → Content → ℕ → Type 0
Marked r m (header s) n = (m ≡ MH) × (n ≡ 14)
Marked r m (break b) n = (m ≡ BR) × (n ≡ 18) × (b ≡ break_at r 0)
Marked r m (object o) n = Unit
Marked r m (play p) n = Unit

object_marked : (r : List ℕ) (m : ℕ) → All (λ f. Marked r m f.0 f.1) (object_of r m)
unfolding object_of circle_of slider_of spinner_of
object_marked r m =
    all_pick (eqb m CI) (λ _. all_when CUT _ _ (λ _. all_any _ _ (λ a. that tt))) (λ _.
    all_pick (eqb m SL) (λ _. all_when CUT _ _ (λ _. all_any _ _ (λ a. all_when COUNT _ _ (λ _. all_when CUT _ _ (λ _. all_any _ _ (λ is. that tt)))))) (λ _.
    all_pick (eqb m SP) (λ _. all_when CUT _ _ (λ _. all_any _ _ (λ a. all_any _ _ (λ b. that tt)))) (λ _. none)))

body_marked : (r : List ℕ) (m : ℕ) → All (λ f. Marked r m f.0 f.1) (body_of r m)
unfolding body_of header_of break_of play_of
body_marked r m =
    all_pick (eqb m MH) (λ e. all_when CUT _ _ (λ _. all_any _ _ (λ hp. all_any _ _ (λ od. all_any _ _ (λ cs. that (eqb-true m MH e, refl)))))) (λ _.
    all_pick (eqb m BR) (λ e. all_when CUT _ _ (λ _.
    all_bind _ _ (time_is (word_at r 2 8)) (λ a p. all_bind _ _ (time_is (word_at r 10 8)) (λ b q. that (eqb-true m BR e, refl, rw (p, q)))))) (λ _.
    all_pick (eqb m PL) (λ _. all_when CUT _ _ (λ _. all_any _ _ (λ o. all_any _ _ (λ s. all_when PLAY_FIELD _ _ (λ _. all_any _ _ (λ x. that tt)))))) (λ _. object_marked r m)))

-- and where they stand in the order
abbrev pub Placed : List ℕ → Option Rank → Content → ℕ → Type 0
Placed r last (header s) n = (last ≡ no_rank) × (n ≡ 14)
Placed r last (break b) n = (0 < place last) × (place last ≤ 2) × (n ≡ 18) × (b ≡ break_at r 0)
Placed r last (object o) n = Unit
Placed r last (play p) n = Unit

placed : (r : List ℕ) (last : Option Rank) (m : ℕ) (x : Content) (n : ℕ) → in_order last (rank_of m) ≡ true → Marked r m x n → Placed r last x n
placed r last m (header s) n o h = (none_is last (rw h.0 at o), h.1)
placed r last m (break b) n o h = let p = and_parts (ltb 0 (place last)) (leb (place last) 2) (rw h.0 at o) in (ltb-true 0 (place last) p.0, leb-true (place last) 2 p.1, h.1, h.2)
placed r last m (object o) n e h = tt
placed r last m (play p) n e h = tt

pub record_placed : (r : List ℕ) (c : Counts) → All (λ f. Placed r c.last f.0 f.1) (record_of r c)
unfolding record_of
record_placed r c =
    all_when CUT _ _ (λ _. all_when MARK _ _ (λ order. all_when COUNT _ _ (λ _.
    all_bind (body_of r (word_at r 0 2)) _ (body_marked r (word_at r 0 2)) (λ f h. all_when BONUS _ _ (λ _.
    that (placed r c.last (word_at r 0 2) f.0 f.1 (not-false _ order) h))))))

-- ---- what was read so far
pub record Standing (s : List ℕ) (f : File) : Type 0 where
  pub none_yet : f.last ≡ no_rank → (f.at ≡ 0) × (f.map.breaks ≡ [])
  pub stands : 0 < place f.last → place f.last ≤ 2 → f.at ≡ 14 + 18 * length f.map.breaks
  pub same : breaks_in s (length f.map.breaks) ≡ f.map.breaks

pub standing_start : (s : List ℕ) → Standing s nothing_read
unfolding breaks_from
standing_start s = record { none_yet = λ _. (refl, refl); stands = λ h _. absurd (omega (arith, h)); same = refl }

breaks_more : (s : List ℕ) (at n : ℕ) → breaks_from s at (n + 1) ≡ breaks_from s at n ++ (break_at s (at + 18 * n) ∷ [])
unfolding breaks_from
breaks_more s at zero = let e : at + 18 * 0 ≡ at = omega arith in rw e
breaks_more s at (suc n) =
    let e : suc n + 1 ≡ suc (n + 1) = omega arith in
    let k : at + 18 + 18 * n ≡ at + 18 * suc n = omega arith in
    rw e (ap (λ (l : List BreakPeriod). break_at s at ∷ l) (breaks_more s (at + 18) n ∙ rw k))

break_there : (s : List ℕ) (at : ℕ) → break_at (drop at s) 0 ≡ break_at s at
break_there s at = simp (word_at-drop s at 2 8, word_at-drop s at 10 8)

standing_with : (s : List ℕ) (f : File) (x : Content) (n : ℕ) → Placed (drop f.at s) f.last x n → Standing s f → Standing s (with_record f (x, n))
unfolding with_record
standing_with s f (header t) n h w =
    let e = w.none_yet h.0 in
    let z : length f.map.breaks ≡ 0 = ap length e.1 in
    record { none_yet = λ k. never (cc); stands = λ _ _. omega (arith, e.0, h.1, z); same = w.same }
standing_with s f (break b) n h w =
    let here = w.stands h.0 h.1 in
    let more = length_snoc f.map.breaks b in
    let is : break_at s (14 + 18 * length f.map.breaks) ≡ b = ap (break_at s) (sym here) ∙ sym (break_there s f.at) ∙ sym h.3 in
    record {
      none_yet = λ k. never (cc);
      stands = λ _ _. omega (arith, here, h.2, more);
      same = rw more (breaks_more s 14 (length f.map.breaks) ∙ rw is (ap (λ (l : List BreakPeriod). l ++ (b ∷ [])) w.same));
    }
standing_with s f (object o) n h w = record { none_yet = λ k. never (cc); stands = λ _ k. absurd (omega (arith, k)); same = w.same }
standing_with s f (play p) n h w = record { none_yet = λ k. never (cc); stands = λ _ k. absurd (omega (arith, k)); same = w.same }

pub standing_step : (s : List ℕ) (f : File) (r : Content × ℕ) → found_at s f ≡ good r → Standing s f → Standing s (with_record f r)
unfolding counts_of
standing_step s f r e w = standing_with s f r.0 r.1 (all_out (rw e at (record_placed (drop f.at s) (counts_of f)))) w
