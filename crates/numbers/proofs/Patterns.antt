-- The order of f64 bit patterns: without the sign, a larger pattern stands for a larger size, with the infinity and the NaNs above all numbers. So a bound on
-- the size of a value is one test of its bits. Assumes nothing.
use Rattle.std.proofs.Common.{◌≡◌, ℕ, zero, suc, ◌+◌, ◌-◌, ◌*◌, ◌/◌, ◌%◌, ◌^◌, ◌<◌, ◌≤◌, Bool, true, false, cond, ◌&&◌, T, eqb, ltb, leb, sym, refl, ap, ◌∙◌, subst, inl, inr, le_trans, lt_of_lt_of_le, le_of_lt, mul-le-mul_right, eq-or-lt_of_le, mul-le-mul_left, mul-lt-mul_of_pos_right, arith, pow_pos, pow_mono, ltb-false, ltb-true}
use borrow.Author.Tests.{lt-leb}
use lib.Bits.{bit_and, and_mask}
use lib.Ieee.{Float, nan, inf, fin, binary64, neg, le, of_fields, of_bits}
use lib.Ieee.Exact.{HasValue}
use lib.Ieee.Scale.{finite}
use Rattle.numbers.proofs.Within.{within_size, beyond_size, beyond_all}
use Rattle.numbers.proofs.bits.Fields.{of_bits_is, low_value, high_value, powers}

-- ---- a number's size by the fields of its pattern, in smallest values
abbrev size_of_lem : ℕ → ℕ → ℕ
size_of_lem zero t = t * 2 ^ 0
size_of_lem (suc x) t = (2 ^ 52 + t) * 2 ^ x

value_of : (s : Bool) (x t : ℕ) → t < 2 ^ 52 → x < 2047 → HasValue (of_fields binary64 s x t) s (size_of_lem x t) (2 ^ 1074)
value_of s zero t h l = (low_value s t h).value
value_of s (suc x) t h l = (high_value s x t h l).value

-- a field of x: below 2 ^ (52 + x), from where the next field goes on
size_below : (x t : ℕ) → t < 2 ^ 52 → size_of_lem x t < 2 ^ 52 * 2 ^ x
size_below zero t h = omega arith
size_below (suc x) t h =
    let twice : 2 ^ 52 + t < 2 ^ 52 * 2 = omega arith in
    omega (arith, mul-lt-mul_of_pos_right twice (pow_pos x), powers 1 x (suc x) (omega arith))

size_least : (x t : ℕ) → 2 ^ 52 * 2 ^ x ≤ size_of_lem (suc x) t
size_least x t = mul-le-mul_right (2 ^ x) (least t)
  where
    least : (t : ℕ) → 2 ^ 52 ≤ 2 ^ 52 + t
    least t = omega arith

size_digits : (x t u : ℕ) → t < u → size_of_lem x t < size_of_lem x u
size_digits zero t u h = omega arith
size_digits (suc x) t u h = mul-lt-mul_of_pos_right (more t u h) (pow_pos x)
  where
    more : (t u : ℕ) → t < u → 2 ^ 52 + t < 2 ^ 52 + u
    more t u h = omega arith

size_fields : (x y t u : ℕ) → t < 2 ^ 52 → x < y → size_of_lem x t < size_of_lem y u
size_fields x zero t u h l = absurd (omega arith)
size_fields x (suc y) t u h l =
    let k : x ≤ y = omega arith in
    lt_of_lt_of_le (size_below x t h) (le_trans (mul-le-mul_left (2 ^ 52) (pow_mono k)) (size_least y u))

-- a pattern without its sign
abbrev size_of : ℕ → ℕ
size_of m = size_of_lem (m / 2 ^ 52) (m % 2 ^ 52)

digits_lt : (m : ℕ) → m % 2 ^ 52 < 2 ^ 52
digits_lt m = omega arith

size_mono : (m n : ℕ) → m < n → size_of m < size_of n
size_mono m n h =
    let fields : m / 2 ^ 52 ≤ n / 2 ^ 52 = omega arith in
    elim (eq-or-lt_of_le fields) [
      | inl e ↦ subst (λ (x : ℕ). size_of m < size_of_lem x (n % 2 ^ 52)) e (size_digits (m / 2 ^ 52) (m % 2 ^ 52) (n % 2 ^ 52) (omega arith))
      | inr l ↦ size_fields (m / 2 ^ 52) (n / 2 ^ 52) (m % 2 ^ 52) (n % 2 ^ 52) (digits_lt m) l
    ]

size_le : (m n : ℕ) → m ≤ n → size_of m ≤ size_of n
size_le m n h = elim (eq-or-lt_of_le h) [ inl e ↦ subst (λ (z : ℕ). size_of m ≤ size_of z) e (omega arith) | inr l ↦ le_of_lt (size_mono m n l) ]

-- ---- by the bits
-- the pattern of the infinity
abbrev pub infinity : ℕ
infinity = 2047 * 2 ^ 52

bits_value : (w m : ℕ) → w % 2 ^ 63 ≡ m → m < infinity → HasValue (of_bits binary64 w) (leb (2 ^ 63) w) (size_of m) (2 ^ 1074)
bits_value w m e h =
    let s = leb (2 ^ 63) w in
    let low : w % 2 ^ 52 ≡ m % 2 ^ 52 = omega arith in
    subst (λ (x : Float). HasValue x s (size_of m) (2 ^ 1074))
    (sym (of_bits_is w ∙ ap (λ (x : ℕ). of_fields binary64 s (x / 2 ^ 52) (w % 2 ^ 52)) e ∙ ap (λ (t : ℕ). of_fields binary64 s (m / 2 ^ 52) t) low))
    (value_of s (m / 2 ^ 52) (m % 2 ^ 52) (digits_lt m) (omega arith))

bits_top : (w : ℕ) → infinity ≤ w % 2 ^ 63 → T (finite (of_bits binary64 w)) → ⊥
unfolding of_fields
bits_top w h t =
    let s = leb (2 ^ 63) w in
    let field : w % 2 ^ 63 / 2 ^ 52 ≡ 2047 = omega arith in
    none (eqb (w % 2 ^ 52) 0) s (subst (λ (x : Float). T (finite x)) (of_bits_is w ∙ ap (λ (x : ℕ). of_fields binary64 s x (w % 2 ^ 52)) field) t)
  where
    none : (b s : Bool) → T (finite (cond b (inf s) nan)) → ⊥
    none true s t = absurd t
    none false s t = absurd t

limit_value : (l : ℕ) → l < infinity → HasValue (of_bits binary64 l) false (size_of l) (2 ^ 1074)
limit_value l h =
    let below : l < 2 ^ 63 = omega arith in
    subst (λ (s : Bool). HasValue (of_bits binary64 l) s (size_of l) (2 ^ 1074)) (lt-leb (2 ^ 63) l below) (bits_value l l (omega arith) h)

value_finite : (x : Float) (s : Bool) (a c : ℕ) → HasValue x s a c → T (finite x)
value_finite nan s a c h = absurd h
value_finite (inf t) s a c h = absurd h
value_finite (fin t m e) s a c h = tt

-- Within ±k, where k has the bits l, is what has at most these bits beside the sign.
module _ (l w : ℕ) (L : l < infinity) where
  pub within_bits : bit_and w (2 ^ 63 - 1) ≤ l → (le (neg (of_bits binary64 l)) (of_bits binary64 w) && le (of_bits binary64 w) (of_bits binary64 l)) ≡ true
  within_bits h =
      let m : w % 2 ^ 63 ≤ l = omega (arith, and_mask w 63) in
      within_size (of_bits binary64 w) (of_bits binary64 l) (leb (2 ^ 63) w) (size_of (w % 2 ^ 63)) (size_of l) (2 ^ 1074) (pow_pos 1074)
      (bits_value w (w % 2 ^ 63) refl (omega arith)) (limit_value l L) (size_le (w % 2 ^ 63) l m)

  pub beyond_bits : l < bit_and w (2 ^ 63 - 1) → (le (neg (of_bits binary64 l)) (of_bits binary64 w) && le (of_bits binary64 w) (of_bits binary64 l)) ≡ false
  beyond_bits h = go (ltb (w % 2 ^ 63) infinity) refl
    where
      m : l < w % 2 ^ 63
      m = omega (arith, and_mask w 63)

      go : (t : Bool) → ltb (w % 2 ^ 63) infinity ≡ t → (le (neg (of_bits binary64 l)) (of_bits binary64 w) && le (of_bits binary64 w) (of_bits binary64 l)) ≡ false
      go true e =
          beyond_size (of_bits binary64 w) (of_bits binary64 l) (leb (2 ^ 63) w) (size_of (w % 2 ^ 63)) (size_of l) (2 ^ 1074)
          (bits_value w (w % 2 ^ 63) refl (ltb-true (w % 2 ^ 63) infinity e)) (limit_value l L) (size_mono l (w % 2 ^ 63) m)
      go false e =
          beyond_all (of_bits binary64 w) (of_bits binary64 l) (bits_top w (ltb-false (w % 2 ^ 63) infinity e))
          (value_finite (of_bits binary64 l) false (size_of l) (2 ^ 1074) (limit_value l L))
