-- A number rounded after its 53 leading digits, and the bits of a value. Assumes nothing.
use Rattle.std.proofs.Common.{◌≡◌, ℕ, suc, ◌+◌, ◌-◌, ◌*◌, ◌/◌, ◌^◌, ◌<◌, ◌≤◌, Bool, false, cond, sym, refl, ap, ◌∙◌, subst, inl, inr, le_of_eq, mul-le-mul_right, mul_assoc, eq-or-lt_of_le, mul-lt-mul_of_pos_right, zero-add, mul-div_cancel, arith, pow_pos, pow-add}
use lib.Arith.{digits_div, digits_mod}
use lib.Ieee.{Float, nan, inf, fin, binary64, up, down, size, units, round, to_bits}
use lib.Ieee.Exact.{HasValue}
use lib.Ieee.Fits.{down_pos, round_is}
use lib.Ieee.Nearest.{closest, closest_same}
use Rattle.numbers.proofs.bits.Fields.{powers, size_is}
use Rattle.numbers.proofs.rounding.Closest.{closest_lt, closest_gt}

-- ---- the nearest whole number, where the remainder is known
near_down : (a d r : ℕ) → r < d → r * 2 < d → closest (a * d + r) d ≡ a
near_down a d r h k = closest_lt (a * d + r) d (subst (λ (x : ℕ). x * 2 < d) (sym (digits_mod a h)) k) ∙ digits_div a h

near_up : (a d r : ℕ) → r < d → d < r * 2 → closest (a * d + r) d ≡ suc a
near_up a d r h k = closest_gt (a * d + r) d (subst (λ (x : ℕ). d < x * 2) (sym (digits_mod a h)) k) ∙ ap suc (digits_div a h)

-- W lies between q * u and (q + 1) * u, and for an odd q above q * u: to the nearest multiple of u * 2
pub even_case : (a u W : ℕ) → a * 2 * u ≤ W → W < (a * 2 + 1) * u → closest W (u * 2) ≡ (a * 2 + 1) / 2
even_case a u W h k =
    let r = W - a * (u * 2) in
    let e : a * (u * 2) + r ≡ W = omega arith in
    subst (λ (w : ℕ). closest w (u * 2) ≡ (a * 2 + 1) / 2) e (near_down a (u * 2) r (omega arith) (omega arith) ∙ half a)
  where
    half : (a : ℕ) → a ≡ (a * 2 + 1) / 2
    half a = omega arith

pub odd_case : (a u W : ℕ) → (a * 2 + 1) * u < W → W < (a * 2 + 1 + 1) * u → closest W (u * 2) ≡ (a * 2 + 1 + 1) / 2
odd_case a u W h k =
    let r = W - a * (u * 2) in
    let e : a * (u * 2) + r ≡ W = omega arith in
    subst (λ (w : ℕ). closest w (u * 2) ≡ (a * 2 + 1 + 1) / 2) e (near_up a (u * 2) r (omega arith) (omega arith) ∙ half a)
  where
    half : (a : ℕ) → suc a ≡ (a * 2 + 1 + 1) / 2
    half a = omega arith

-- ---- W / 2 ^ 601 rounded, for a W of j + 55 digits
pub rounded : (W j : ℕ) → 2 ^ (j + 54) ≤ W → W < 2 ^ (j + 55) → round binary64 false W (2 ^ 601) ≡ units binary64 false (closest W (2 ^ (j + 2))) (j + 475)
rounded W j lo hi =
    let cut : W * 2 ^ 1074 / 2 ^ 601 ≡ W * 2 ^ 473 =
    ap (λ (x : ℕ). x / 2 ^ 601) (sym (mul_assoc W (2 ^ 473) (2 ^ 601))) ∙ mul-div_cancel (W * 2 ^ 473) (pow_pos 601) in
    let low : 2 ^ (j + 527) ≤ W * 2 ^ 473 = subst (λ (x : ℕ). x ≤ W * 2 ^ 473) (powers (j + 54) 473 (j + 527) (omega arith)) (mul-le-mul_right (2 ^ 473) lo) in
    let high : W * 2 ^ 473 < 2 ^ (j + 527 + 1) =
    subst (λ (x : ℕ). W * 2 ^ 473 < x) (powers (j + 55) 473 (j + 527 + 1) (omega arith)) (mul-lt-mul_of_pos_right hi (pow_pos 473)) in
    let k : size (W * 2 ^ 1074 / 2 ^ 601) - 53 ≡ j + 475 = omega (arith, ap size cut ∙ size_is (W * 2 ^ 473) (j + 527) low high) in
    let m : 2 ^ 1074 * 2 ^ (j + 2) ≡ 2 ^ 601 * 2 ^ (j + 475) = powers 1074 (j + 2) (j + 1076) (omega arith) ∙ sym (powers 601 (j + 475) (j + 1076) (omega arith)) in
    round_is binary64 false W (2 ^ 601)
    ∙ ap (λ (x : ℕ). units binary64 false (closest (W * 2 ^ 1074) (2 ^ 601 * 2 ^ x)) x) k
    ∙ ap (λ (x : ℕ). units binary64 false x (j + 475))
    (closest_same (W * 2 ^ 1074) (2 ^ 601 * 2 ^ (j + 475)) W (2 ^ (j + 2)) (positive j) (pow_pos (j + 2))
    (mul_assoc W (2 ^ 1074) (2 ^ (j + 2)) ∙ ap (λ (x : ℕ). W * x) m))
  where
    positive : (j : ℕ) → 0 < 2 ^ 601 * 2 ^ (j + 475)
    positive j = subst (λ (x : ℕ). 0 < x) (sym (powers 601 (j + 475) (j + 1076) (omega arith))) (pow_pos (j + 1076))

-- ---- the bits of a value that is A of the smallest values
plus_zero : (t : Bool) (a b : ℕ) → t ≡ false → cond t (2 ^ 63) 0 + a + b ≡ a + b
plus_zero t a b e = ap (λ (s : Bool). cond s (2 ^ 63) 0 + a + b) e ∙ ap (λ (x : ℕ). x + b) (zero-add a)

pub bits_at : (y : Float) (A : ℕ) → HasValue y false A (2 ^ 1074) → to_bits binary64 y ≡ (size A - 53) * 2 ^ 52 + A / 2 ^ (size A - 53)
unfolding to_bits
bits_at nan A h = absurd h
bits_at (inf t) A h = absurd h
bits_at (fin t m e) A h =
    let n : m * up e * 2 ^ 1074 / down e ≡ A = ap (λ (x : ℕ). x / down e) h.1 ∙ mul-div_cancel A (down_pos e) in
    ap (λ (x : ℕ). cond t (2 ^ 63) 0 + (size x - 53) * 2 ^ 52 + x / 2 ^ (size x - 53)) n ∙ plus_zero t ((size A - 53) * 2 ^ 52) (A / 2 ^ (size A - 53)) h.0

-- r * 2 ^ k, for an r of 53 digits or 2 ^ 53
pub bits_of : (r k : ℕ) → 2 ^ 52 ≤ r → r ≤ 2 ^ 53 → (size (r * 2 ^ k) - 53) * 2 ^ 52 + r * 2 ^ k / 2 ^ (size (r * 2 ^ k) - 53) ≡ k * 2 ^ 52 + r
bits_of r k lo hi =
    elim (eq-or-lt_of_le hi) [
      | inl e ↦
          let s : size (2 ^ 53 * 2 ^ k) ≡ k + 53 + 1 =
          size_is (2 ^ 53 * 2 ^ k) (k + 53) (le_of_eq (sym (powers 53 k (k + 53) (omega arith))))
          (subst (λ (x : ℕ). x < 2 ^ (k + 53 + 1)) (sym (powers 53 k (k + 53) (omega arith))) (grows (k + 53))) in
          let t : size (2 ^ 53 * 2 ^ k) - 53 ≡ k + 1 = omega arith in
          let d : 2 ^ 53 * 2 ^ k / 2 ^ (k + 1) ≡ 2 ^ 52 =
          ap (λ (x : ℕ). x / 2 ^ (k + 1)) (powers 53 k (52 + (k + 1)) (omega arith) ∙ pow-add 2 52 (k + 1)) ∙ mul-div_cancel (2 ^ 52) (pow_pos (k + 1)) in
          subst (λ (q : ℕ). (size (q * 2 ^ k) - 53) * 2 ^ 52 + q * 2 ^ k / 2 ^ (size (q * 2 ^ k) - 53) ≡ k * 2 ^ 52 + q) (sym e)
          (ap (λ (x : ℕ). x * 2 ^ 52 + 2 ^ 53 * 2 ^ k / 2 ^ x) t ∙ ap (λ (x : ℕ). (k + 1) * 2 ^ 52 + x) d ∙ carried k)
      | inr l ↦
          let s : size (r * 2 ^ k) ≡ k + 52 + 1 =
          size_is (r * 2 ^ k) (k + 52) (subst (λ (x : ℕ). x ≤ r * 2 ^ k) (powers 52 k (k + 52) (omega arith)) (mul-le-mul_right (2 ^ k) lo))
          (subst (λ (x : ℕ). r * 2 ^ k < x) (powers 53 k (k + 52 + 1) (omega arith)) (mul-lt-mul_of_pos_right l (pow_pos k))) in
          let t : size (r * 2 ^ k) - 53 ≡ k = omega arith in
          ap (λ (x : ℕ). x * 2 ^ 52 + r * 2 ^ k / 2 ^ x) t ∙ ap (λ (x : ℕ). k * 2 ^ 52 + x) (mul-div_cancel r (pow_pos k))
    ]
  where
    carried : (k : ℕ) → (k + 1) * 2 ^ 52 + 2 ^ 52 ≡ k * 2 ^ 52 + 2 ^ 53
    carried k = omega arith

    grows : (k : ℕ) → 2 ^ k < 2 ^ (k + 1)
    grows k = subst (λ (x : ℕ). 2 ^ k < x) (powers k 1 (k + 1) refl) (twice (2 ^ k) (pow_pos k))
      where
        twice : (p : ℕ) → 0 < p → p < p * 2
        twice p h = omega arith
