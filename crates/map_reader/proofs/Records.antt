-- What the definition finds behind a map that was read so far: a good object or break is the next record, and which records can follow at all.
use mathlib.Core.Path.{◌≡◌, refl, sym, ap, ◌∙◌, subst}
use mathlib.Core.Bool.{Bool, true, false}
use mathlib.Core.List.{List}
use Prim.Native.Nat.{ℕ, ◌+◌, ◌≤◌, ◌<◌}
use native.Mathlib.Omega.{arith}
use borrow.Author.Tests.{lt-ltb, le-ltb, lt-leb, le-leb, eqb-true}
use lib.Dec.{eqb}
use lib.Ieee.{binary64, of_bits}
use lib.ListN.{length}
use Rattle.std.specs.Prelude.{Option}
use Rattle.numbers.specs.Words.{word_at}
use Rattle.rules.specs.Limits.{max_objects, max_breaks, max_bonus, circle_size}
use Rattle.rules.specs.Refusals.{good, refused, ◌>>=◌, ◌>>◌, refuse◌when◌, pick, BONUS, CUT, COUNT}
use Rattle.rules.proofs.Laws.{never}
use Rattle.rules.proofs.All.{All, none, that, all_bind, all_any, all_when, all_pick, all_out}
use Rattle.records.specs.Marks.{MH, BR, CI, SL, SP, PL}
use Rattle.records.specs.Objects.{Object, kind_bonus}
use Rattle.records.specs.Records.{Content, header, break, object, play, break_of, circle_of, slider_of, spinner_of, object_of}
use Rattle.records.specs.declared.beatmap.BreakPeriod.{BreakPeriod}
use Rattle.map_file.specs.Order.{no_rank, header_rank, break_rank, object_rank, play_rank, place, rank_of, body_of, record_of}
use Rattle.map_file.specs.declared.file.Counts.{Counts}
use Rattle.map_file.specs.declared.file.Rank.{Rank}
use Rattle.map_file.proofs.Room.{content_rank, Placed, body_placed}
use Rattle.map_file.proofs.Local.{record_body}
use Rattle.ruleset.proofs.FileBreaks.{time_is}

-- ---- marks and their places in the order
rank_pick : (b : Bool) (n k l : Option Rank) → (n ≡ k → ⊥) → pick b k l ≡ n → (b ≡ false) × (l ≡ n)
rank_pick true n k l h e = absurd (h (sym e))
rank_pick false n k l h e = (refl, e)

-- a mark of the place of plays is theirs
pub rank_play : (m : ℕ) → rank_of m ≡ play_rank → m ≡ PL
rank_play m e =
    let a = rank_pick (eqb m MH) play_rank header_rank _ (λ k. never (cc)) e in
    let b = rank_pick (eqb m BR) play_rank break_rank _ (λ k. never (cc)) a.1 in
    let c = rank_pick (eqb m CI) play_rank object_rank _ (λ k. never (cc)) b.1 in
    let d = rank_pick (eqb m SL) play_rank object_rank _ (λ k. never (cc)) c.1 in
    let f = rank_pick (eqb m SP) play_rank object_rank _ (λ k. never (cc)) d.1 in
    go (eqb m PL) refl f.1
  where
    go : (b : Bool) → eqb m PL ≡ b → pick b play_rank no_rank ≡ play_rank → m ≡ PL
    go true e q = eqb-true m PL e
    go false e q = never (cc)

pub rank_break : (m : ℕ) → rank_of m ≡ break_rank → m ≡ BR
rank_break m e =
    let a = rank_pick (eqb m MH) break_rank header_rank _ (λ k. never (cc)) e in
    go (eqb m BR) refl a.1
  where
    rest : pick (eqb m CI) object_rank (pick (eqb m SL) object_rank (pick (eqb m SP) object_rank (pick (eqb m PL) play_rank no_rank))) ≡ break_rank → ⊥
    rest q =
        let c = rank_pick (eqb m CI) break_rank object_rank _ (λ k. never (cc)) q in
        let d = rank_pick (eqb m SL) break_rank object_rank _ (λ k. never (cc)) c.1 in
        let f = rank_pick (eqb m SP) break_rank object_rank _ (λ k. never (cc)) d.1 in
        let g = rank_pick (eqb m PL) break_rank play_rank _ (λ k. never (cc)) f.1 in
        let z = g.1 in
        never (cc)

    go : (b : Bool) → eqb m BR ≡ b
        → pick b break_rank (pick (eqb m CI) object_rank (pick (eqb m SL) object_rank (pick (eqb m SP) object_rank (pick (eqb m PL) play_rank no_rank)))) ≡ break_rank → m ≡ BR
    go true e q = eqb-true m BR e
    go false e q = absurd (rest q)

-- an object's mark, and what is read behind it
record Third (r : List ℕ) (m : ℕ) : Type 0 where
  rank : rank_of m ≡ object_rank
  body : body_of r m ≡ object_of r m

module _ (r : List ℕ) (m : ℕ) where
  third_at : (k : ℕ) → Third r k → eqb m k ≡ true → Third r m
  third_at k h e = subst (Third r) (sym (eqb-true m k e)) h

  third_by : (a b c : Bool) → eqb m CI ≡ a → eqb m SL ≡ b → eqb m SP ≡ c → (a ≡ false → b ≡ false → c ≡ false → Third r m) → Third r m
  unfolding object_of body_of
  third_by true b c p q w h = third_at CI (record { rank = refl; body = refl }) p
  third_by false true c p q w h = third_at SL (record { rank = refl; body = refl }) q
  third_by false false true p q w h = third_at SP (record { rank = refl; body = refl }) w
  third_by false false false p q w h = h refl refl refl

  third : (f : Content × ℕ) → object_of r m ≡ good f → Third r m
  unfolding object_of
  third f e = third_by (eqb m CI) (eqb m SL) (eqb m SP) refl refl refl (λ p q w. (let z = simp (p, q, w) at e in cc))

  third_rank : rank_of m ≡ object_rank → Third r m
  third_rank e =
      let a = rank_pick (eqb m MH) object_rank header_rank _ (λ k. never (cc)) e in
      let b = rank_pick (eqb m BR) object_rank break_rank _ (λ k. never (cc)) a.1 in
      third_by (eqb m CI) (eqb m SL) (eqb m SP) refl refl refl (λ p q w. (
      let z = simp (p, q, w) at b.1 in
      let f = rank_pick (eqb m PL) object_rank play_rank _ (λ k. never (cc)) z in
      let n = f.1 in
      never (cc)))

-- ---- an object that is read behind a map is the next record, if rule 7 lets it pass
module _ (r : List ℕ) (c : Counts) (two : 2 ≤ length r) where
  pub object_good : (o : Object) (n : ℕ) → object_of r (word_at r 0 2) ≡ good (object o, n) → 0 < place c.last → place c.last ≤ 3 → c.objects < max_objects
      → c.bonus + kind_bonus o.kind ≤ max_bonus → record_of r c ≡ good (object o, n)
  unfolding record_of ◌>>=◌ ◌>>◌ refuse◌when◌
  object_good o n e begun order room low =
      let is = third r (word_at r 0 2) (object o, n) e in
      let here : body_of r (word_at r 0 2) ≡ good (object o, n) = is.body ∙ e in
      simp (le-ltb (length r) 2 two, is.rank, lt-ltb 0 (place c.last) begun, le-leb (place c.last) 3 order, lt-leb max_objects c.objects room, here, le-ltb max_bonus _ low)

  pub object_over : (o : Object) (n : ℕ) → object_of r (word_at r 0 2) ≡ good (object o, n) → 0 < place c.last → place c.last ≤ 3 → c.objects < max_objects
      → max_bonus < c.bonus + kind_bonus o.kind → record_of r c ≡ refused BONUS
  unfolding record_of ◌>>=◌ ◌>>◌ refuse◌when◌
  object_over o n e begun order room high =
      let is = third r (word_at r 0 2) (object o, n) e in
      let here : body_of r (word_at r 0 2) ≡ good (object o, n) = is.body ∙ e in
      simp (le-ltb (length r) 2 two, is.rank, lt-ltb 0 (place c.last) begun, le-leb (place c.last) 3 order, lt-leb max_objects c.objects room, here, lt-ltb max_bonus _ high)

  -- and so is a break
  pub break_good : (b : BreakPeriod) → word_at r 0 2 ≡ BR → break_of r ≡ good (break b, 18) → 0 < place c.last → place c.last ≤ 2 → c.breaks < max_breaks → c.bonus ≤ max_bonus
      → record_of r c ≡ good (break b, 18)
  unfolding record_of body_of ◌>>=◌ ◌>>◌ refuse◌when◌
  break_good b m e begun order room low =
      let k : c.bonus + 0 ≤ max_bonus = omega (arith, low) in
      simp (le-ltb (length r) 2 two, m, lt-ltb 0 (place c.last) begun, le-leb (place c.last) 2 order, lt-leb max_breaks c.breaks room, e, le-ltb max_bonus _ k)

-- ---- a record that is found is that of its mark
found_placed : (r : List ℕ) (c : Counts) (f : Content × ℕ) → record_of r c ≡ good f → content_rank f.0 ≡ rank_of (word_at r 0 2)
found_placed r c f e = all_out (subst (All (Placed (word_at r 0 2))) (record_body r c f e) (body_placed r (word_at r 0 2)))

pub found_object : (r : List ℕ) (c : Counts) (o : Object) (n : ℕ) → record_of r c ≡ good (object o, n) → object_of r (word_at r 0 2) ≡ good (object o, n)
found_object r c o n e =
    let is = third_rank r (word_at r 0 2) (sym (found_placed r c (object o, n) e)) in sym is.body ∙ record_body r c (object o, n) e

pub found_break : (r : List ℕ) (c : Counts) (b : BreakPeriod) (n : ℕ) → record_of r c ≡ good (break b, n) → (word_at r 0 2 ≡ BR) × (break_of r ≡ good (break b, n))
unfolding body_of
found_break r c b n e =
    let m = rank_break (word_at r 0 2) (sym (found_placed r c (break b, n) e)) in
    let body = record_body r c (break b, n) e in
    (m, ap (λ (k : ℕ). body_of r k) (sym m) ∙ body)

pub found_play : (r : List ℕ) (c : Counts) (f : Content × ℕ) → record_of r c ≡ good f → content_rank f.0 ≡ play_rank → word_at r 0 2 ≡ PL
found_play r c f e p = rank_play (word_at r 0 2) (sym (found_placed r c f e) ∙ p)

-- ---- no object is shorter than a circle, and each has its start behind its mark
pub object_long : (r : List ℕ) (m : ℕ) → All (λ f. circle_size ≤ f.1) (object_of r m)
unfolding object_of circle_of slider_of spinner_of
object_long r m =
    all_pick (eqb m CI) (λ _. all_when CUT _ _ (λ _. all_any _ _ (λ a. that (omega arith)))) (λ _.
    all_pick (eqb m SL) (λ _. all_when CUT _ _ (λ _. all_any _ _ (λ a. all_when COUNT _ _ (λ _. all_when CUT _ _ (λ _. all_any _ _ (λ is. that (omega arith))))))) (λ _.
    all_pick (eqb m SP) (λ _. all_when CUT _ _ (λ _. all_any _ _ (λ a. all_any _ _ (λ b. that (omega arith))))) (λ _. none)))

abbrev StartsBehind : List ℕ → Content → Type 0
StartsBehind r (header s) = Unit
StartsBehind r (break b) = Unit
StartsBehind r (object o) = o.start ≡ of_bits binary64 (word_at r 2 8)
StartsBehind r (play p) = Unit

starts-behind : (r : List ℕ) (m : ℕ) → All (λ f. StartsBehind r f.0) (object_of r m)
unfolding object_of circle_of slider_of spinner_of
starts-behind r m =
    all_pick (eqb m CI) (λ _. all_when CUT _ _ (λ _. all_bind _ _ (time_is (word_at r 2 8)) (λ a p. that p))) (λ _.
    all_pick (eqb m SL) (λ _. all_when CUT _ _ (λ _. all_bind _ _ (time_is (word_at r 2 8)) (λ a p. all_when COUNT _ _ (λ _. all_when CUT _ _ (λ _. all_any _ _ (λ is. that p)))))) (λ _.
    all_pick (eqb m SP) (λ _. all_when CUT _ _ (λ _. all_bind _ _ (time_is (word_at r 2 8)) (λ a p. all_any _ _ (λ b. that p)))) (λ _. none)))

pub object_start : (r : List ℕ) (m : ℕ) (o : Object) (n : ℕ) → object_of r m ≡ good (object o, n) → o.start ≡ of_bits binary64 (word_at r 2 8)
object_start r m o n e = all_out (subst (All (λ f. StartsBehind r f.0)) e (starts-behind r m))
