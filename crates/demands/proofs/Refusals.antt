-- On any lent memory a refused edit or read has one of document 01's numbers, 2 to 13 but for 10, with factors 14 too; so none has 0, which a host takes for a good
-- call. And what a play is told of its misses lies from its misses to its judgements. Assumes nothing.
use mathlib.Core.Bool.{Bool, true, false, ◌&&◌, ◌||◌, true≢false}
use mathlib.Core.List.{List, [], ◌∷◌}
use mathlib.Core.Path.{◌≡◌, refl, sym}
use Prim.Native.Nat.{ℕ, zero, suc, ◌+◌, ◌*◌, ◌≤◌, zero-le}
use native.Mathlib.Nat.{mul-pos, zero-lt-suc}
use native.Mathlib.Omega.{arith}
use borrow.Author.Tests.{eqb-true, le-ltb}
use lib.Dec.{T, eqb, lit≤}
use lib.Ieee.{Float, nan, inf, fin, up, down, le, lt, eq, is_nan, of_int}
use lib.Ieee.Fits.{up_pos, down_pos}
use Rattle.numbers.specs.Floats.{whole}
use Rattle.numbers.proofs.Bounds.{plain}
use Rattle.numbers.proofs.Order.{whole_le, le_of_not_lt}
use Rattle.numbers.proofs.Intervals.{whole-at_least, of_tests_between, wider, between_below}
use Rattle.rules.specs.Refusals.{Checked, OrRefusal, good, refused, pick, PLACE, FACTOR, refusal_at, at_0, number_of, ◌>>=◌}
use Rattle.rules.specs.declared.refusal.Rule.{Rule}
use Rattle.play_state.specs.declared.Play.{Play}
use Rattle.records.specs.declared.beatmap.Settings.{Settings}
use Rattle.map_file.specs.File.{file_of}
use Rattle.encoding.specs.Limits.{HitsWithin}
use Rattle.simulator.specs.Attributes.{score_attributes_at}
use Rattle.simulator.specs.declared.attributes.OsuDifficultyAttributes.{OsuDifficultyAttributes}
use Rattle.miss_calc.specs.Counts.{total_hits}
use Rattle.estimates.specs.Effective.{estimates_of}
use Rattle.estimates.proofs.Range.{FromMissesToJudgements, effective_range}
use Rattle.play_score.specs.PlayRules.{given_score}
use Rattle.play_score.specs.declared.PlayScore.{PlayScore}
use Rattle.slider_breaks.specs.Given.{BreaksScore, factors_bad, breaks_score, with_breaks}
use Rattle.slider_breaks.specs.declared.calculator.SliderFactors.{SliderFactors}
use Rattle.scoring.specs.Scores.{Scores, scores_of, given_play_of}
use Rattle.scoring.proofs.Rules.{IsRule, Ruled, fine, rule, refusal_rule, ruled_given}
use Rattle.entries.specs.Entry.{entry_of}
use Rattle.tree.specs.Size.{levels_of, cap_of}
use Rattle.board.specs.Place.{put_place}
use Rattle.board.specs.Edit.{edit_of}
use Rattle.board.specs.Read.{read_of}
use Rattle.board.proofs.Numbers.{Number, number_is, Numbered, value, number, numbered_bind, numbered_then, numbered_when, room_numbered, climbed_numbered, read_numbered}
use Rattle.demands.proofs.Boards.{record_ruled}

-- the numbers of a file's rules are 2 to 9
number_in : (highest : ℕ) (n : Rule) → IsRule n → 9 ≤ highest → Number highest (number_of n)
number_in highest n r h = record { least = r.0; most = omega (arith, r.1, h); not_10 = λ e. omega (arith, r.1, e) }

pub numbered_rule : {A : Type 0} {x : Checked A} → Ruled x → Numbered x
numbered_rule fine = value
numbered_rule (rule {n = n} r) = number (number_in 13 n r (omega arith))

-- ---- an edit
pub edit_numbered : (b : List ℕ) (ts : List Float) (n place : ℕ) (r : List ℕ) → Numbered (edit_of b ts n place r)
unfolding edit_of put_place
edit_numbered b ts n place r =
    numbered_then _ _ (room_numbered b ts n) (numbered_then _ _ (numbered_when PLACE _ refl) (numbered_bind _ _ (numbered_rule (record_ruled r)) (λ o.
    numbered_bind _ _ (climbed_numbered (levels_of n) b (cap_of n + place) (entry_of (o ∷ []))) (λ w. value))))

-- ---- with factors
-- values, or one of the numbers 2 to 14
pub data BreaksNumbered : OrRefusal BreaksScore → Type 0 where
  scored : {s : BreaksScore} → BreaksNumbered (good s)
  numbered : {n : Rule} {at : ℕ} → Number 14 (number_of n) → BreaksNumbered (refused (refusal_at n at))

numbered_with : (p : Play) (f : SliderFactors) (x : Checked PlayScore) → Numbered x → BreaksNumbered (with_breaks p f (at_0 x))
numbered_with p f (refused n) (number h) = numbered (record { least = h.least; most = omega (arith, h.most); not_10 = h.not_10 })
numbered_with p f (good s) value = go (factors_bad f)
  where
    go : (t : Bool) → BreaksNumbered (pick t (refused (refusal_at FACTOR 0)) (good (breaks_score p f s)))
    go true = numbered {n = FACTOR} (number_is 14 (number_of FACTOR) refl)
    go false = scored

pub read_breaks_numbered : (b : List ℕ) (ts : List Float) (n : ℕ) (s : Settings) (br : List Float) (p : Play) (f : SliderFactors)
    → BreaksNumbered (with_breaks p f (at_0 (read_of b ts n s br p)))
read_breaks_numbered b ts n s br p f = numbered_with p f (read_of b ts n s br p) (read_numbered b ts n s br p)

pub play_breaks_numbered : (s : List ℕ) (p : Play) (f : SliderFactors) → BreaksNumbered (with_breaks p f (given_play_of p (scores_of (file_of s))))
unfolding ◌>>=◌
play_breaks_numbered s p f = go (scores_of (file_of s)) refl
  where
    go : (x : OrRefusal Scores) → scores_of (file_of s) ≡ x → BreaksNumbered (with_breaks p f (given_play_of p x))
    go (refused r) e = let is = refusal_rule s r.rule r.offset e in numbered (number_in 14 r.rule is (omega arith))
    go (good sc) e =
        let a = score_attributes_at sc.map p.passed_objects in
        numbered_with p f (given_score p a) (numbered_rule (ruled_given p a))

-- ---- the misses of a play
judged_range : (p : Play) (a : OsuDifficultyAttributes) → total_hits p.hitresults ≤ 262140 → FromMissesToJudgements (estimates_of p a).effective p.hitresults
unfolding estimates_of
judged_range p a k = go (eqb (total_hits p.hitresults) 0) refl
  where
    go : (t : Bool) → eqb (total_hits p.hitresults) 0 ≡ t → FromMissesToJudgements (estimates_of p a).effective p.hitresults
    go true e =
        let nothing = eqb-true (total_hits p.hitresults) 0 e in
        let missed : p.hitresults.misses ≡ 0 = omega (arith, nothing) in
        rw e (record { above = rw missed (whole_le 0 0 (omega arith)); below = rw nothing (whole_le 0 0 (omega arith)) })
    go false e = rw e (effective_range _ _ p.hitresults k)

-- by the widths of its fields
pub effective_of_a_play : (p : Play) (a : OsuDifficultyAttributes) → HitsWithin p.hitresults → FromMissesToJudgements (estimates_of p a).effective p.hitresults
effective_of_a_play p a w = judged_range p a (omega (arith, w.n300, w.n100, w.n50, w.misses))

-- what is no less than a number that is not negative is no less than 0
level_zero : (x y z : ℕ) → (eqb x y && (false || eqb x z)) ≡ true → z ≡ 0 → y ≡ 0
level_zero x y z h e = go (eqb x y) (eqb x z) refl refl h
  where
    go : (s t : Bool) → eqb x y ≡ s → eqb x z ≡ t → (s && (false || t)) ≡ true → y ≡ 0
    go true true q r h = let p = eqb-true x y q in let o = eqb-true x z r in omega (arith, p, o, e)
    go true false q r h = absurd (true≢false (sym h))
    go false t q r h = absurd (true≢false (sym h))

above_none : (y x : Float) → T (plain y) → le y x ≡ true → le (whole 0) x ≡ true
unfolding le lt eq is_nan of_int
above_none nan x p h = absurd p
above_none (inf s) x p h = absurd p
above_none (fin true a k) x p h = absurd p
above_none (fin false a k) nan p h = absurd (true≢false (sym h))
above_none (fin false a k) (inf true) p h = absurd (true≢false (sym h))
above_none (fin false a k) (inf false) p h = refl
above_none (fin false a k) (fin false n d) p h = le_of_not_lt (fin false n d) (whole 0) refl refl (le-ltb (n * up d * 1) (0 * 1 * down d) (omega arith))
above_none (fin false a k) (fin true zero d) p h = le_of_not_lt (fin true zero d) (whole 0) refl refl (le-ltb 0 (0 * up d * 1 + 0 * 1 * down d) (omega arith))
above_none (fin false a k) (fin true (suc n) d) p h =
    let some = mul-pos (mul-pos (zero-lt-suc n) (up_pos d)) (down_pos k) in
    let none = level_zero (a * up k * down d) (suc n * up d * down k) 0 h refl in
    absurd (omega (arith, some, none))

-- so its effective misses lie from 0 to the most judgements
pub effective_of_counts : (p : Play) (a : OsuDifficultyAttributes) → total_hits p.hitresults ≤ 262140
    → (le (whole 0) (estimates_of p a).effective ≡ true) × (le (estimates_of p a).effective (whole 262140) ≡ true)
effective_of_counts p a k =
    let range = judged_range p a k in
    let above = above_none _ _ (whole-at_least p.hitresults.misses (omega (arith, k))).is range.above in
    let held = of_tests_between _ (total_hits p.hitresults) (omega (arith, k)) above range.below in
    (above, between_below (wider 0 262140 0 held zero-le (omega (arith, k))) (lit≤ tt))
