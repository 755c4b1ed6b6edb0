-- Each estimate lies from 0 to n100, since the logistic is at most 1, the smoothstep at most 17/16, and the breaks times the `ok_adjustment` at most
-- 15/16 of n100: up to 5/8 of n100 meets an adjustment of at most 3/2, and more than that one of at most 7/8. Assumes nothing.
use mathlib.Core.Path.{◌≡◌, refl, ap}
use mathlib.Core.Bool.{Bool, true, false, not, cond, ◌||◌, true≢false}
use mathlib.Core.Logic.{inl, inr}
use Prim.Native.Nat.{ℕ, zero, suc, ◌+◌, ◌-◌, ◌*◌, ◌^◌, ◌≤◌, ◌<◌, zero-le}
use native.Mathlib.Nat.{mul-le-mul, mul-le-mul_left, mul-le-mul_right}
use native.Mathlib.Omega.{arith}
use borrow.Author.Tests.{eqb-false}
use lib.Dec.{T, eqb, lit<, lit≤}
use lib.Ieee.{Float, binary64, le, lt, neg, sub, of_int}
use Rattle.numbers.specs.Floats.{whole, part, ◌⊕◌, ◌⊖◌, ◌⊗◌, ◌⊘◌}
use Rattle.numbers.specs.MinMax.{min_of}
use Rattle.numbers.proofs.Intervals.{Between, round_between, mul_between, add_between, sub_between, div_between, wider, either_side, in_part, whole_between, whole-at_least, of_tests_between, between_above, between_below, clamp_between, unsigned, unsigned_number, square_unsigned, one_over}
use Rattle.numbers.proofs.Magnitudes.{Magnitude, AtLeast, magnitude_number, mul_magnitude, add_magnitude, sub_magnitude, div_magnitude}
use Rattle.numbers.proofs.Order.{min_below, min_above, whole-number, whole_le}
use Rattle.exponential.specs.Exp.{series_of, squared, exp_of}
use Rattle.rules.specs.Refusals.{pick}
use Rattle.rules.proofs.Laws.{and_left, and_right}
use Rattle.play_state.specs.declared.Play.{Play}
use Rattle.estimates.specs.ComboBased.{is_classic_of}
use Rattle.slider_breaks.specs.Difficulty.{reverse_lerp_of, smoothstep_of, logistic_of}
use Rattle.slider_breaks.specs.SliderBreaks.{adjusted_of, missed_combo_of, slider_breaks_of, both_of, no_breaks, estimated_breaks}
use Rattle.slider_breaks.specs.Given.{is_factor, factors_bad}
use Rattle.slider_breaks.specs.declared.calculator.SliderFactors.{SliderFactors}
use Rattle.slider_breaks.specs.declared.calculator.SliderBreaks.{SliderBreaks}

-- from 0 to the count of 100s
pub record FromNoneToOks (x : Float) (n100 : ℕ) : Type 0 where
  pub above : le (whole 0) x ≡ true
  pub below : le x (whole n100) ≡ true

pub record BreaksInRange (b : SliderBreaks) (n100 : ℕ) : Type 0 where
  pub aim : FromNoneToOks b.aim n100
  pub speed : FromNoneToOks b.speed n100

one : Between (whole 1) 1 1 0
one = whole_between 1 0 (lit< tt) zero-le

-- ---- the logistic: exp is a square of a number, so 1 / (1 + exp v) lies from 0 to 1
series_size : (y : Float) (j k : ℕ) (h : Float) → j + k ≤ 2 ^ 52 → Magnitude y 1 0 → Magnitude h k 0 → (q : ℕ) × Magnitude (series_of y j h) q 0
unfolding series_of
series_size y zero k h l p q = (k, q)
series_size y (suc j) k h l p q =
    let term = div_magnitude binary64 1 0 p (whole-at_least (suc j) (omega arith)) (omega arith) (omega arith) (lit< tt) zero-le in
    series_size y j (1 + 1 * k) (whole 1 ⊕ y ⊘ whole (suc j) ⊗ h) (omega arith) p
    (add_magnitude binary64 one.size (mul_magnitude binary64 term q (omega arith) zero-le) (omega arith) zero-le)

squared_unsigned : (n : ℕ) (x : Float) → T (unsigned x) → T (unsigned (squared n x))
unfolding squared
squared_unsigned zero x h = h
squared_unsigned (suc n) x h = squared_unsigned n (x ⊗ x) (square_unsigned binary64 x (unsigned_number x h))

exp_unsigned : (v : Float) (q : ℕ) → q ≤ 1024 → Magnitude v q 0 → T (unsigned (exp_of v))
unfolding exp_of squared of_int
exp_unsigned v q l h = go (lt v (neg (whole 700)))
  where
    small : Magnitude (v ⊘ whole 1024) 1 0
    small = div_magnitude binary64 1 0 h (whole-at_least 1024 (lit≤ tt)) (lit< tt) (omega arith) (lit< tt) zero-le

    go : (b : Bool) → T (unsigned (cond b (whole 0) (squared 10 (series_of (v ⊘ whole 1024) 8 (whole 1)))))
    go true = tt
    go false =
        let number = magnitude_number (series_size (v ⊘ whole 1024) 8 1 (whole 1) (lit≤ tt) small one.size).1 in
        squared_unsigned 9 _ (square_unsigned binary64 _ number)

logistic_between : (x : Float) → Magnitude x 2 0 → Between (logistic_of x (part 33 100) (whole 15)) 0 1 0
unfolding logistic_of
logistic_between x h =
    let midpoint = round_between binary64 false 33 100 0 1 0 (lit< tt) absurd zero-le (lit≤ tt) (lit< tt) zero-le in
    let fifteen = whole_between 15 0 (lit< tt) zero-le in
    let v = mul_magnitude binary64 fifteen.size (sub_magnitude binary64 midpoint.size h (lit< tt) zero-le) (lit< tt) zero-le in
    one_over _ (exp_unsigned _ 45 (lit≤ tt) v)

missed_size : (combo most : ℕ) → combo ≤ most → 1 ≤ most → most < 2 ^ 32 → Magnitude (whole 1 ⊖ whole combo ⊘ whole most) 2 0
missed_size combo most h l k =
    let reached = whole_between combo 0 (omega arith) zero-le in
    let ratio = div_magnitude binary64 1 0 reached.size (whole-at_least most (omega arith)) l (omega arith) (lit< tt) zero-le in
    sub_magnitude binary64 one.size ratio (lit< tt) zero-le

-- ---- the smoothstep: where t lies from k / 32 to (k + 1) / 32, it is at most ((k + 1) / 32)² × (3 - 2 × k / 32)
cubic : (u v : ℕ) → u + v ≡ 32 → u * u * (34 + 2 * v) ≤ 34816
cubic u v e =
    let s : (u + v) * (u + v) ≡ 32 * 32 = ap (λ (z : ℕ). z * z) e in
    let h : u * v * u ≤ u * v * 32 = mul-le-mul_left (u * v) (omega arith) in
    omega arith

step_at : (k : ℕ) {t : Float} → k < 32 → Between t k (suc k) 5 → Between (t ⊗ t ⊗ (whole 3 ⊖ whole 2 ⊗ t)) 0 17 4
step_at k below t =
    let rest : 96 - 2 * k ≡ 34 + 2 * (31 - k) = omega arith in
    let most : suc k * suc k * (96 - 2 * k) ≤ 34816 = rw rest (cubic (suc k) (31 - k) (omega arith)) in
    let squares : suc k * suc k ≤ 32 * 32 = mul-le-mul below below in
    let square = mul_between binary64 t t (omega arith) (lit≤ tt) in
    let double = mul_between binary64 (whole_between 2 0 (lit< tt) zero-le) t (omega arith) (lit≤ tt) in
    let falling = sub_between binary64 (whole_between 3 5 (lit< tt) (lit≤ tt)) double (omega arith) (lit< tt) (lit≤ tt) in
    wider 0 17 4 (mul_between binary64 square falling (omega arith) (lit≤ tt)) zero-le (omega arith)

step_between : {t : Float} → Between t 0 1 0 → Between (t ⊗ t ⊗ (whole 3 ⊖ whole 2 ⊗ t)) 0 17 4
step_between h = let found = in_part 31 0 refl (wider 0 32 5 h zero-le (lit≤ tt)) in step_at found.0 found.1 found.2

smoothstep_between : {x : Float} {q : ℕ} → q < 2 ^ 52 → Magnitude x q 0 → Between (smoothstep_of x (whole 1) (whole 2)) 0 17 4
unfolding smoothstep_of reverse_lerp_of sub of_int
smoothstep_between {x} {q} l h =
    let unit : AtLeast (whole 2 ⊖ whole 1) 1 = record { is = tt; at_least = lit≤ tt } in
    let past = sub_magnitude binary64 h one.size (omega arith) zero-le in
    let way = div_magnitude binary64 (q + 1) 0 past unit (lit< tt) (omega arith) (omega arith) zero-le in
    step_between (clamp_between _ 1 (magnitude_number way) (lit≤ tt))

-- ---- the product
half : Between (part 1 2) 4 4 3
half = round_between binary64 false 1 2 4 4 3 (lit< tt) absurd (lit≤ tt) (lit≤ tt) (lit< tt) (lit≤ tt)

-- breaks from lo, which is (8 - w) / 8 of n100, to u / 8 of it
product_between : (n lo u w : ℕ) {b step likely : Float} → 1 ≤ n → n ≤ 65535 → u ≤ 8 → w ≤ 8 → lo + w * n ≡ n * 8 → u * 17 * (w + 4) ≤ 1024
    → Between b lo (u * n) 3 → Between step 0 17 4 → Between likely 0 1 0 → Between (adjusted_of (whole n) b step likely) 0 n 0
unfolding adjusted_of
product_between n lo u w l small U W e h b step likely =
    let un : u * n ≤ 8 * n = mul-le-mul_right n U in
    let wn : w * n ≤ 8 * n = mul-le-mul_right n W in
    let w1 : w * 1 ≤ w * n = mul-le-mul_left w l in
    let most : n * (u * 17 * (w + 4)) ≤ n * 1024 = mul-le-mul_left n h in
    let left = sub_between binary64 (whole_between n 3 (omega arith) (lit≤ tt)) b (omega arith) (omega arith) (lit≤ tt) in
    let more = add_between binary64 left half (omega arith) (lit≤ tt) in
    let ok = div_between binary64 (w + 4) 3 more (whole-at_least n (omega arith)) l (omega arith) (omega arith) (lit≤ tt) in
    let stepped = mul_between binary64 b step (omega arith) (lit≤ tt) in
    let adjusted = mul_between binary64 stepped ok (omega arith) (lit≤ tt) in
    wider 0 n 0 (mul_between binary64 adjusted likely (omega arith) (lit≤ tt)) zero-le (omega arith)

adjusted_between : (n : ℕ) {b step likely : Float} → 1 ≤ n → n ≤ 65535 → Between b 0 n 0 → Between step 0 17 4 → Between likely 0 1 0
    → Between (adjusted_of (whole n) b step likely) 0 n 0
adjusted_between n l small b step likely =
    elim (either_side (5 * n) (wider 0 (8 * n) 3 b zero-le (omega arith))) [
      | inl few ↦ product_between n 0 5 8 l small (lit≤ tt) (lit≤ tt) (omega arith) (lit≤ tt) few step likely
      | inr many ↦ product_between n (5 * n) 8 3 l small (lit≤ tt) (lit≤ tt) (omega arith) (lit≤ tt) many step likely
    ]

-- ---- an estimate
none_range : (n : ℕ) → FromNoneToOks (whole 0) n
none_range n = record { above = whole_le 0 0 zero-le; below = whole_le 0 n zero-le }

factor_between : (x : Float) → is_factor x ≡ true → Between x 0 10 0
unfolding is_factor
factor_between x h = of_tests_between x 10 (lit≤ tt) (and_left (le (whole 0) x) (le x (whole 10)) h) (and_right (le (whole 0) x) (le x (whole 10)) h)

estimate_range : (p : Play) (highest : ℕ) (effective factor : Float)
    → p.hitresults.n100 ≤ 65535 → p.max_combo ≤ highest → (1 ≤ p.hitresults.n100 → 1 ≤ highest) → highest < 2 ^ 32
    → le (whole 0) effective ≡ true → le effective (whole 262140) ≡ true → is_factor factor ≡ true
    → FromNoneToOks (slider_breaks_of p highest effective factor) p.hitresults.n100
unfolding slider_breaks_of
estimate_range p highest effective factor few combo some most above below factored = go (not (is_classic_of p.origin)) (eqb n100 0) (eqb-false n100 0)
  where
    n100 : ℕ
    n100 = p.hitresults.n100

    count : Between effective 0 262140 0
    count = of_tests_between effective 262140 (lit≤ tt) above below

    weighted : Between (effective ⊗ factor) 0 2621400 0
    weighted = mul_between binary64 count (factor_between factor factored) (lit< tt) zero-le

    breaks : Between (min_of (effective ⊗ factor) (whole n100)) 0 n100 0
    breaks =
        of_tests_between _ n100 (omega arith) (min_above (whole 0) (effective ⊗ factor) (whole n100) (between_above weighted) (whole_le 0 n100 zero-le))
        (min_below (effective ⊗ factor) (whole n100) (whole-number n100 (omega arith)))

    go : (u v : Bool) → (v ≡ false → n100 ≡ 0 → ⊥)
        → FromNoneToOks
        (cond (u || v) (whole 0) (adjusted_of (whole n100) (min_of (effective ⊗ factor) (whole n100)) (smoothstep_of effective (whole 1) (whole 2))
        (logistic_of (missed_combo_of p highest) (part 33 100) (whole 15))))
        n100
    go true v e = none_range n100
    go false true e = none_range n100
    go false false e =
        let l : 1 ≤ n100 = positive n100 (e refl) in
        let likely = logistic_between (missed_combo_of p highest) (missed_size p.max_combo highest combo (some l) most) in
        let r = adjusted_between n100 l few breaks (smoothstep_between (lit< tt) count.size) likely in
        record { above = between_above r; below = between_below r (omega arith) }
      where
        positive : (n : ℕ) → (n ≡ 0 → ⊥) → 1 ≤ n
        positive zero f = absurd (f refl)
        positive (suc n) f = omega arith

-- of both factors; without a 100 the map's max combo may be 0
pub breaks_range : (p : Play) (highest : ℕ) (effective : Float) (f : SliderFactors)
    → p.hitresults.n100 ≤ 65535 → p.max_combo ≤ highest → (1 ≤ p.hitresults.n100 → 1 ≤ highest) → highest < 2 ^ 32
    → le (whole 0) effective ≡ true → le effective (whole 262140) ≡ true → factors_bad f ≡ false
    → BreaksInRange (estimated_breaks p highest effective f) p.hitresults.n100
unfolding estimated_breaks factors_bad
breaks_range p highest effective f few combo some most above below good = go (lt (whole 0) effective)
  where
    both : (x y : Bool) → (not x || not y) ≡ false → (x ≡ true) × (y ≡ true)
    both true true e = (refl, refl)
    both true false e = absurd (true≢false e)
    both false y e = absurd (true≢false e)

    go : (b : Bool) → BreaksInRange (pick b (both_of p highest effective f) no_breaks) p.hitresults.n100
    go true =
        let factors = both (is_factor f.aim) (is_factor f.speed) good in
        record {
          aim = estimate_range p highest effective f.aim few combo some most above below factors.0;
          speed = estimate_range p highest effective f.speed few combo some most above below factors.1;
        }
    go false = record { aim = none_range p.hitresults.n100; speed = none_range p.hitresults.n100 }
