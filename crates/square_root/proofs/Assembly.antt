-- The bits that the code makes of the root's digits are those of `rooted`. Assumes nothing.
use Rattle.std.proofs.Common.{◌≡◌, ℕ, zero, suc, ◌+◌, ◌*◌, ◌/◌, ◌%◌, ◌^◌, ◌<◌, ◌≤◌, Bool, true, false, cond, T, eqb, ◌⊎◌, sym, refl, ap, ◌∙◌, subst, inl, inr, zero-le, le_trans, le_of_eq, lt_of_lt_of_le, lt_of_le_of_lt, le_of_lt, mul-le-mul_right, mod-eq_of_lt, mul_assoc, mul-le-mul, eq-or-lt_of_le, mul-le-mul_left, mul-lt-mul_of_pos_right, mul-pos, arith, lit<, eqb→eq, pow_pos, pow_mono}
use native.Mathlib.Nat.{mul-mul-mul_comm, eq_of_mul-eq-mul_right, mod-le}
use lib.Pow.{pow-lt}
use lib.Ieee.{Float, binary64, units, to_bits, of_bits, fits}
use lib.Ieee.Bits.{of_bits-to_bits}
use lib.Ieee.Exact.{HasValue, units_val}
use lib.Ieee.Fits.{round-fits}
use lib.Ieee.Nearest.{closest}
use Rattle.square_root.specs.Roots.{isqrt, rooted}
use Rattle.square_root.proofs.Isqrt.{IsRoot, isqrt_root, sq_lt, four_pow, scaled}
use Rattle.square_root.proofs.Rounded.{even_case, odd_case, rounded, bits_at, bits_of}
use Rattle.numbers.proofs.bits.Fields.{powers}

-- a root of M * 2 ^ 54 has 54 digits
pub root_ge : (q M : ℕ) → 2 ^ 52 ≤ M → IsRoot q (M * 2 ^ 54) → 2 ^ 53 ≤ q
root_ge q M h v = let k : 2 ^ 53 < q + 1 = sq_lt (2 ^ 53) (q + 1) (lt_of_le_of_lt (big M h) v.1) in omega arith
  where
    big : (M : ℕ) → 2 ^ 52 ≤ M → 2 ^ 53 * 2 ^ 53 ≤ M * 2 ^ 54
    big M h = omega arith

pub root_lt : (q M : ℕ) → M < 2 ^ 54 → IsRoot q (M * 2 ^ 54) → q < 2 ^ 54
root_lt q M h v = sq_lt q (2 ^ 54) (lt_of_le_of_lt v.0 (small M h))
  where
    small : (M : ℕ) → M < 2 ^ 54 → M * 2 ^ 54 < 2 ^ 54 * 2 ^ 54
    small M h = omega arith

-- ---- the last digit of W: W is Q * 2, and one more unless Q * Q is all of the number
abbrev pub last : ℕ → ℕ → ℕ
last Q n = Q * 2 + cond (eqb (Q * Q) n) 0 1

digit : (b : Bool) → cond b 0 1 ≤ 1
digit true = omega arith
digit false = omega arith

between : (q p Q d : ℕ) → q * p ≤ Q → Q < (q + 1) * p → d ≤ 1 → (q * (p * 2) ≤ Q * 2 + d) × (Q * 2 + d < (q + 1) * (p * 2))
between q p Q d h k l = (omega arith, omega arith)

-- an odd number's square is no multiple of four
pub no_square : (a M : ℕ) → (a * 2 + 1) * (a * 2 + 1) ≡ M * 2 ^ 54 → ⊥
no_square a M e = omega arith

-- so something is cut at an odd q
strict : (a M j Q : ℕ) → (a * 2 + 1) * 2 ^ j ≤ Q → (b : Bool) → (T b → Q * Q ≡ M * 2 ^ 54 * 4 ^ j) → (a * 2 + 1) * (2 ^ j * 2) < Q * 2 + cond b 0 1
strict a M j Q h true e = elim (eq-or-lt_of_le h) [
  | inl z ↦
      let q = a * 2 + 1 in
      let p = 2 ^ j in
      let w : q * q * (p * p) ≡ M * 2 ^ 54 * (p * p) = mul-mul-mul_comm q q p p ∙ ap (λ (x : ℕ). x * x) z ∙ e tt ∙ ap (λ (x : ℕ). M * 2 ^ 54 * x) (four_pow j) in
      absurd (no_square a M (eq_of_mul-eq-mul_right (p * p) (mul-pos (pow_pos j) (pow_pos j)) (q * q) (M * 2 ^ 54) w))
  | inr l ↦ omega arith
]
strict a M j Q h false e = omega arith

-- q is twice its half, or one more
pub halves : (q : ℕ) → (q ≡ q / 2 * 2) ⊎ (q ≡ q / 2 * 2 + 1)
halves q = go (q % 2) refl
  where
    go : (r : ℕ) → q % 2 ≡ r → (q ≡ q / 2 * 2) ⊎ (q ≡ q / 2 * 2 + 1)
    go zero e = inl (omega arith)
    go (suc r) e = inr (omega arith)

nearest_half : (q M j Q : ℕ) → q * 2 ^ j ≤ Q → Q < (q + 1) * 2 ^ j → closest (last Q (M * 2 ^ 54 * 4 ^ j)) (2 ^ j * 2 * 2) ≡ (q + 1) / 2
nearest_half q M j Q h k =
    let n = M * 2 ^ 54 * 4 ^ j in
    let b = eqb (Q * Q) n in
    let t = between q (2 ^ j) Q (cond b 0 1) h k (digit b) in
    elim (halves q) [
      | inl e ↦
          subst (λ (x : ℕ). closest (last Q n) (2 ^ j * 2 * 2) ≡ (x + 1) / 2) (sym e)
          (even_case (q / 2) (2 ^ j * 2) (last Q n) (subst (λ (x : ℕ). x * (2 ^ j * 2) ≤ last Q n) e t.0)
          (subst (λ (x : ℕ). last Q n < (x + 1) * (2 ^ j * 2)) e t.1))
      | inr e ↦
          subst (λ (x : ℕ). closest (last Q n) (2 ^ j * 2 * 2) ≡ (x + 1) / 2) (sym e)
          (odd_case (q / 2) (2 ^ j * 2) (last Q n) (strict (q / 2) M j Q (subst (λ (x : ℕ). x * 2 ^ j ≤ Q) e h) b (eqb→eq (Q * Q) n))
          (subst (λ (x : ℕ). last Q n < (x + 1) * (2 ^ j * 2)) e t.1))
    ]

-- W, for the root of M * 2 ^ 54 * 4 ^ j: its size, and what it rounds to
pub rounding : (M q j Q : ℕ) → 2 ^ 52 ≤ M → M < 2 ^ 54 → IsRoot q (M * 2 ^ 54) → IsRoot Q (M * 2 ^ 54 * 4 ^ j)
    → (2 ^ (j + 54) ≤ last Q (M * 2 ^ 54 * 4 ^ j)) × (last Q (M * 2 ^ 54 * 4 ^ j) < 2 ^ (j + 55)) × (closest (last Q (M * 2 ^ 54 * 4 ^ j)) (2 ^ (j + 2)) ≡ (q + 1) / 2)
rounding M q j Q lo hi own whole =
    let n = M * 2 ^ 54 * 4 ^ j in
    let W = last Q n in
    let s = scaled q (M * 2 ^ 54) j Q own whole in
    let t = between q (2 ^ j) Q (cond (eqb (Q * Q) n) 0 1) s.0 s.1 (digit (eqb (Q * Q) n)) in
    let p2 : 2 ^ j * 2 ≡ 2 ^ (j + 1) = powers j 1 (j + 1) refl in
    let low : 2 ^ (j + 54) ≤ W =
    le_trans (le_of_eq (sym (powers 53 (j + 1) (j + 54) (omega arith))))
    (le_trans (mul-le-mul_right (2 ^ (j + 1)) (root_ge q M lo own)) (subst (λ (x : ℕ). q * x ≤ W) p2 t.0)) in
    let high : W < 2 ^ (j + 55) =
    lt_of_lt_of_le t.1
    (le_trans (mul-le-mul_right (2 ^ j * 2) (up_to q (root_lt q M hi own)))
    (le_of_eq (ap (λ (x : ℕ). 2 ^ 54 * x) p2 ∙ powers 54 (j + 1) (j + 55) (omega arith)))) in
    let c : closest W (2 ^ (j + 2)) ≡ (q + 1) / 2 =
    ap (λ (x : ℕ). closest W x) (sym (ap (λ (x : ℕ). x * 2) p2 ∙ powers (j + 1) 1 (j + 2) (omega arith))) ∙ nearest_half q M j Q s.0 s.1 in
    (low, high, c)
  where
    up_to : (q : ℕ) → q < 2 ^ 54 → q + 1 ≤ 2 ^ 54
    up_to q g = omega arith

pub rooted_fits : (n : ℕ) → T (fits binary64 (rooted n))
unfolding rooted
rooted_fits n = round-fits binary64 false (last (isqrt n) n) (2 ^ 601)

-- ---- the bits and the value of the root of M * 2 ^ 54 * 4 ^ (h + 4), from the whole root q of M * 2 ^ 54
module _ (M h q : ℕ) (lo : 2 ^ 52 ≤ M) (hi : M < 2 ^ 54) (short : h < 1056) (own : IsRoot q (M * 2 ^ 54)) where
  j : ℕ
  j = h + 4

  n : ℕ
  unfolding j
  n = M * 2 ^ 54 * 4 ^ j

  pub as_units : rooted (M * 2 ^ 54 * 4 ^ (h + 4)) ≡ units binary64 false ((q + 1) / 2) (h + 479)
  unfolding rooted n j
  as_units =
      let r = rounding M q j (isqrt n) lo hi own (isqrt_root n) in
      rounded (last (isqrt n) n) j r.0 r.1 ∙ ap (λ (x : ℕ). units binary64 false x (j + 475)) r.2 ∙ ap (λ (x : ℕ). units binary64 false ((q + 1) / 2) x) (omega arith)

  half_ge : 2 ^ 52 ≤ (q + 1) / 2
  half_ge = omega (arith, root_ge q M lo own)

  half_le : (q + 1) / 2 ≤ 2 ^ 53
  half_le = omega (arith, root_lt q M hi own)

  below_infinity : (q + 1) / 2 * 2 ^ (h + 479) < 2 ^ (1074 + 1024)
  below_infinity =
      lt_of_le_of_lt (mul-le-mul_right (2 ^ (h + 479)) half_le)
      (subst (λ (x : ℕ). x < 2 ^ 2098) (sym (powers 53 (h + 479) (h + 532) (omega arith))) (pow-lt {j = 2098} (omega arith)))

  -- the digits of the root, in units of the smallest value
  pub value_is : HasValue (rooted (M * 2 ^ 54 * 4 ^ (h + 4))) false ((q + 1) / 2 * 2 ^ (h + 479)) (2 ^ 1074)
  unfolding n j
  value_is =
      subst (λ (y : Float). HasValue y false ((q + 1) / 2 * 2 ^ (h + 479)) (2 ^ 1074)) (sym as_units) (units_val binary64 false ((q + 1) / 2) (h + 479) below_infinity)

  bits_are : to_bits binary64 (rooted n) ≡ (h + 479) * 2 ^ 52 + (q + 1) / 2
  unfolding n j
  bits_are = bits_at (rooted n) ((q + 1) / 2 * 2 ^ (h + 479)) value_is ∙ bits_of ((q + 1) / 2) (h + 479) half_ge half_le

  pub bits_right : of_bits binary64 ((h + 479) * 2 ^ 52 + (q + 1) / 2) ≡ rooted (M * 2 ^ 54 * 4 ^ (h + 4))
  unfolding n j
  bits_right = ap (λ (b : ℕ). of_bits binary64 b) (sym bits_are) ∙ of_bits-to_bits binary64 (rooted n) (rooted_fits n)

-- s * 2 ^ x * 2 ^ 62 with the exponent x parted into its half and its last digit
pub parted : (s x : ℕ) → s < 2 ^ 53 → s * 2 ^ (x % 2) % 2 ^ 64 * 2 ^ 54 * 4 ^ (x / 2 + 4) ≡ s * 2 ^ x * 2 ^ 62
parted s x g =
    let o = x % 2 in
    let m : s * 2 ^ o % 2 ^ 64 ≡ s * 2 ^ o = mod-eq_of_lt (lt_of_le_of_lt (mul-le-mul (le_of_lt g) (pow_mono {j = 1} (omega arith))) (lit< tt)) in
    ap (λ (y : ℕ). y * 2 ^ 54 * 4 ^ (x / 2 + 4)) m
    ∙ ap (λ (y : ℕ). s * 2 ^ o * 2 ^ 54 * y) (four_pow (x / 2 + 4) ∙ powers (x / 2 + 4) (x / 2 + 4) (x / 2 * 2 + 8) (omega arith))
    ∙ mul_assoc (s * 2 ^ o) (2 ^ 54) (2 ^ (x / 2 * 2 + 8))
    ∙ ap (λ (y : ℕ). s * 2 ^ o * y) (powers 54 (x / 2 * 2 + 8) (x / 2 * 2 + 62) (omega arith))
    ∙ mul_assoc s (2 ^ o) (2 ^ (x / 2 * 2 + 62))
    ∙ ap (λ (y : ℕ). s * y) (powers o (x / 2 * 2 + 62) (x + 62) (omega arith) ∙ sym (powers x 62 (x + 62) refl))
    ∙ sym (mul_assoc s (2 ^ x) (2 ^ 62))

-- the number that goes to `whole_root`
pub doubled_lt : (s x : ℕ) → s < 2 ^ 53 → s * 2 ^ (x % 2) % 2 ^ 64 < 2 ^ 54
doubled_lt s x g =
    lt_of_le_of_lt (mod-le (s * 2 ^ (x % 2)) (2 ^ 64))
    (lt_of_lt_of_le (mul-lt-mul_of_pos_right g (pow_pos (x % 2))) (mul-le-mul_left (2 ^ 53) (pow_mono {j = 1} (omega arith))))

pub doubled_ge : (s x : ℕ) → 2 ^ 52 ≤ s → s < 2 ^ 53 → 2 ^ 52 ≤ s * 2 ^ (x % 2) % 2 ^ 64
doubled_ge s x l g =
    let m : s * 2 ^ (x % 2) % 2 ^ 64 ≡ s * 2 ^ (x % 2) = mod-eq_of_lt (lt_of_le_of_lt (mul-le-mul (le_of_lt g) (pow_mono {j = 1} (omega arith))) (lit< tt)) in
    subst (λ (y : ℕ). 2 ^ 52 ≤ y) (sym m) (mul-le-mul l (pow_mono {i = 0} zero-le))
