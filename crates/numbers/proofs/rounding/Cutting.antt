-- A float cut toward zero, by the tests that lead to each answer: the ends of the range over its width w, and between them, to 31 bits, by the sum with
-- 3 * 2 ^ 51, which is x rounded: one too many where that is above x. Assumes nothing.
use Rattle.std.proofs.Common.{◌≡◌, ℕ, suc, ◌+◌, ◌-◌, ◌*◌, ◌/◌, ◌%◌, ◌^◌, ◌<◌, ◌≤◌, min, true, false, ltb, ℤ, pos, sym, refl, ap, ◌∙◌, subst, true≢false, le_of_eq, div-lt_iff_lt-mul, le_antisymm, lt_of_mul-lt-mul_right, one-mul, le-div_iff_mul-le, mul-one, mul_right_comm, le_of_mul-le-mul_right, arith, lit<, pow_pos, ltb-false, ltb-true, le-ltb}
use Prim.Native.Nat.{compare}
use mathlib.Core.Bool.{false≢true}
use lib.Ieee.{Float, nan, inf, fin, binary64, up, down, neg, sum, add, sub, lt, is_nan, of_int, of_bits, to_bits, to_unsigned}
use lib.Ieee.Exact.{HasValue}
use lib.Ieee.Fits.{down_pos, nearest-le}
use lib.Ieee.Nearest.{closest, nearest-ge}
use lib.Ieee.Scale.{round_same}
use Rattle.numbers.specs.Floats.{whole}
use Rattle.numbers.proofs.Wholes.{whole_is}
use Rattle.numbers.proofs.rounding.Closest.{closest_under}
use Rattle.numbers.proofs.rounding.Added.{wholes, with_wholes, added_value, bits_at, value_number}

-- not above 0
none : (a d w : ℕ) → 0 < d → ltb (0 * 1 * d) (a * 1) ≡ false → min (a / d) (w - 1) ≡ 0
none a d w D h =
    let z : a * 1 ≤ 0 * 1 * d = ltb-false (0 * 1 * d) (a * 1) h in
    let q : a / d < 1 = (div-lt_iff_lt-mul D).1 (omega (arith, z)) in
    omega arith

pub cut_low : (w : ℕ) (x : Float) → lt (fin false 0 (pos 0)) x ≡ false → to_unsigned w x ≡ 0
unfolding lt to_unsigned
cut_low w nan h = refl
cut_low w (inf true) h = refl
cut_low w (inf false) h = absurd (true≢false h)
cut_low w (fin true m e) h = refl
cut_low w (fin false m e) h = none (m * up e) (down e) (2 ^ w) (down_pos e) h

over : (a w : ℕ) → w ≤ a → 0 < w → min a (w - 1) ≡ w - 1
over a w h k = omega arith

cross_not : (p a d : ℕ) → 0 < d → ltb (a * 1) (1 * p * d) ≡ false → p ≤ a / d
cross_not p a d D h =
    (le-div_iff_mul-le D).1
    (subst (λ (z : ℕ). p * d ≤ z) (mul-one a) (subst (λ (z : ℕ). z * d ≤ a * 1) (one-mul p) (ltb-false (a * 1) (1 * p * d) h)))

-- above 0 and not below 2 ^ w
pub cut_high : (w : ℕ) (x : Float) → lt (fin false 0 (pos 0)) x ≡ true → lt x (fin false 1 (pos w)) ≡ false → to_unsigned w x ≡ 2 ^ w - 1
unfolding lt to_unsigned
cut_high w nan g h = absurd (false≢true g)
cut_high w (inf true) g h = absurd (false≢true g)
cut_high w (inf false) g h = refl
cut_high w (fin true m e) g h = absurd (false≢true g)
cut_high w (fin false m e) g h = over (m * up e / down e) (2 ^ w) (cross_not (2 ^ w) (m * up e) (down e) (down_pos e) h) (pow_pos w)

-- ---- a whole number that is above x, or not
abbrev Compared : ℕ → ℤ → ℕ → Float → Type 0
Compared m e n y = (lt (fin false m e) y ≡ true → m * up e < n * down e) × (lt (fin false m e) y ≡ false → n * down e ≤ m * up e)

compared : (m : ℕ) (e : ℤ) (n : ℕ) (y : Float) → HasValue y false n 1 → Compared m e n y
unfolding lt
compared m e n nan v = absurd v
compared m e n (inf s) v = absurd v
compared m e n (fin true k d) v = absurd (true≢false v.0)
compared m e n (fin false k d) v = (
  λ t. less (m * up e) (down e) (k * up d) (down d) v.1 (ltb-true (m * up e * down d) (k * up d * down e) t),
  λ t. upto (m * up e) (down e) (k * up d) (down d) (down_pos d) v.1 (ltb-false (m * up e * down d) (k * up d * down e) t),
)
  where
    less : (x c y d : ℕ) → y * 1 ≡ n * d → x * d < y * c → x < n * c
    less x c y d p h =
        let q : y * c ≡ n * d * c = ap (λ (z : ℕ). z * c) (sym (mul-one y) ∙ p) in
        lt_of_mul-lt-mul_right d (let l : x * d < n * c * d = omega (arith, h, q) in l)

    upto : (x c y d : ℕ) → 0 < d → y * 1 ≡ n * d → y * c ≤ x * d → n * c ≤ x
    upto x c y d D p h =
        let q : y * c ≡ n * d * c = ap (λ (z : ℕ). z * c) (sym (mul-one y) ∙ p) in
        let l : n * c * d ≤ x * d = omega (arith, h, q) in
        le_of_mul-le-mul_right l D

-- ---- above 0 and below 2 ^ 31
-- 3 * 2 ^ 51 taken away again
difference : (y : Float) (n : ℕ) → HasValue y false ((wholes + n) * 2 ^ 1074) (2 ^ 1074) → sub binary64 y (of_bits binary64 0x4338000000000000) ≡ whole n
unfolding sub add neg sum of_bits of_int
difference nan n v = absurd v
difference (inf s) n v = absurd v
difference (fin true k d) n v = absurd (true≢false v.0)
difference (fin false k d) n v =
    let y = k * up d in
    let c = down d in
    let C = down_pos d in
    let is : y ≡ (wholes + n) * c = same y (wholes + n) c v.1 in
    rw (le-ltb (y * 1) (wholes * c) (omega (arith, is)))
    (round_same binary64 false (y * 1 - wholes * c) (c * 1) n 1 (omega (arith, C)) (lit< tt) (omega (arith, is)))
  where
    same : (y a c : ℕ) → y * 2 ^ 1074 ≡ a * 2 ^ 1074 * c → y ≡ a * c
    same y a c h =
        let e : y * 2 ^ 1074 ≡ a * c * 2 ^ 1074 = h ∙ mul_right_comm a (2 ^ 1074) c in
        le_antisymm (le_of_mul-le-mul_right (le_of_eq e) (pow_pos 1074)) (le_of_mul-le-mul_right (le_of_eq (sym e)) (pow_pos 1074))

abbrev nearest_of : Float → ℕ
nearest_of x = to_bits binary64 (with_wholes x) - 0x4338000000000000

abbrev back_of : Float → Float
back_of x = sub binary64 (with_wholes x) (of_bits binary64 0x4338000000000000)

pub record CutBySum (x : Float) : Type 0 where
  pub number : is_nan (with_wholes x) ≡ false
  pub least : 0x4338000000000000 ≤ to_bits binary64 (with_wholes x)
  pub above : lt x (back_of x) ≡ true → nearest_of x ≡ suc (to_unsigned 31 x)
  pub is : lt x (back_of x) ≡ false → nearest_of x ≡ to_unsigned 31 x

by_value : (m : ℕ) (e : ℤ) → m * up e < 2 ^ 31 * down e → CutBySum (fin false m e)
unfolding to_unsigned
by_value m e h =
    let a = m * up e in
    let c = down e in
    let n = closest a c in
    let C = down_pos e in
    let few : n ≤ 2 ^ 31 = closest_under (2 ^ 31) a c C (omega (arith, h)) in
    let value = added_value false m e (omega (arith, h)) in
    let bits : to_bits binary64 (with_wholes (fin false m e)) ≡ 1074 * 2 ^ 52 + (wholes + n) = bits_at _ (wholes + n) value (omega arith) (omega (arith, few)) in
    let less : nearest_of (fin false m e) ≡ n = omega (arith, bits) in
    let back : back_of (fin false m e) ≡ whole n = difference (with_wholes (fin false m e)) n value in
    let side : Compared m e n (whole n) = compared m e n (whole n) (whole_is n (omega (arith, few))) in
    let under : a / c < 2 ^ 31 = (div-lt_iff_lt-mul C).1 h in
    let lo : a / c ≤ n = nearest-ge (a / c) (compare (a % c * 2) c) in
    let hi : n ≤ suc (a / c) = nearest-le (a / c) (compare (a % c * 2) c) in
    record {
      number = value_number _ false ((wholes + n) * 2 ^ 1074) (2 ^ 1074) value;
      least = omega (arith, bits);
      above = λ t.
          let l : a / c < n = (div-lt_iff_lt-mul C).1 (side.0 (subst (λ (y : Float). lt (fin false m e) y ≡ true) back t)) in
          less ∙ omega (arith, l, hi, under);
      is = λ t.
          let l : n ≤ a / c = (le-div_iff_mul-le C).1 (side.1 (subst (λ (y : Float). lt (fin false m e) y ≡ false) back t)) in
          less ∙ omega (arith, l, lo, under);
    }

pub cut_by_sum : (x : Float) → lt (fin false 0 (pos 0)) x ≡ true → lt x (fin false 1 (pos 31)) ≡ true → CutBySum x
unfolding lt
cut_by_sum nan g h = absurd (false≢true g)
cut_by_sum (inf true) g h = absurd (false≢true g)
cut_by_sum (inf false) g h = absurd (false≢true h)
cut_by_sum (fin true m e) g h = absurd (false≢true g)
cut_by_sum (fin false m e) g h = by_value m e (omega (arith, ltb-true (m * up e * 1) (1 * 2 ^ 31 * down e) h))
