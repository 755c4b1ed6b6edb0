-- `isqrt` is the whole square root, and how it goes with a power of four. Assumes nothing.
use Rattle.std.proofs.Common.{◌≡◌, ℕ, zero, suc, ◌+◌, ◌*◌, ◌/◌, ◌^◌, ◌<◌, ◌≤◌, Bool, true, false, cond, not, T, leb, sym, refl, ap, ◌∙◌, subst, le_trans, le_of_eq, le_antisymm, lt_of_lt_of_le, le_of_suc-le-suc, lt_of_le_of_lt, mul-le-mul_right, div-lt_iff_lt-mul, mul-le-mul, mul-lt-mul_of_pos_right, mul-pos, pow-suc, lt_of_not-le, not-le_of_lt, add-one, arith, lit≤, leb→le, pow_pos}
use native.Mathlib.Nat.{mul-mul-mul_comm, pow-le-pow_left}
use lib.Dec.{nleb→lt}
use lib.Ieee.Digits.{size-lt}
use lib.Ieee.{size}
use Rattle.square_root.specs.Roots.{root_digits, isqrt}

-- q is the whole square root of n
abbrev pub IsRoot : ℕ → ℕ → Type 0
IsRoot q n = (q * q ≤ n) × (n < (q + 1) * (q + 1))

more_digits : (r n : ℕ) → IsRoot r (n / 4) → (b : Bool) → (T b → (r * 2 + 1) * (r * 2 + 1) ≤ n) → (T (not b) → n < (r * 2 + 1) * (r * 2 + 1))
    → IsRoot (cond b (r * 2 + 1) (r * 2)) n
more_digits r n h true y no' = (y tt, above r n h.1)
  where
    above : (r n : ℕ) → n / 4 < (r + 1) * (r + 1) → n < (r * 2 + 1 + 1) * (r * 2 + 1 + 1)
    above r n h = omega arith
more_digits r n h false y no' = (under r n h.0, no' tt)
  where
    under : (r n : ℕ) → r * r ≤ n / 4 → r * 2 * (r * 2) ≤ n
    under r n h = omega arith

root_digits_root : (k n : ℕ) → n < 4 ^ k → IsRoot (root_digits k n) n
unfolding root_digits
root_digits_root zero n h = (omega arith, h)
root_digits_root (suc k) n h =
    let r = root_digits k (n / 4) in
    let t = r * 2 + 1 in
    more_digits r n (root_digits_root k (n / 4) ((div-lt_iff_lt-mul (lit≤ tt)).1 (subst (λ (p : ℕ). n < p) (pow-suc 4 k) h))) (leb (t * t) n)
    (leb→le (t * t) n) (nleb→lt (t * t) n)

pub isqrt_root : (n : ℕ) → IsRoot (isqrt n) n
unfolding isqrt
isqrt_root n = root_digits_root (size n) n (lt_of_lt_of_le (size-lt n) (pow-le-pow_left (lit≤ tt) (size n)))

-- ---- the root of N * 4 ^ j begins with the digits of that of N
pub sq_lt : (a b : ℕ) → a * a < b * b → a < b
sq_lt a b h = lt_of_not-le (λ (g : b ≤ a). not-le_of_lt h (mul-le-mul g g))

pub four_pow : (j : ℕ) → 4 ^ j ≡ 2 ^ j * 2 ^ j
four_pow zero = refl
four_pow (suc j) = pow-suc 4 j ∙ ap (λ (p : ℕ). p * 4) (four_pow j) ∙ twice (2 ^ j) ∙ sym (ap (λ (p : ℕ). p * p) (pow-suc 2 j))
  where
    twice : (p : ℕ) → p * p * 4 ≡ p * 2 * (p * 2)
    twice p = omega arith

pub scaled : (q N j Q : ℕ) → IsRoot q N → IsRoot Q (N * 4 ^ j) → (q * 2 ^ j ≤ Q) × (Q < (q + 1) * 2 ^ j)
scaled q N j Q h k =
    let p = 2 ^ j in
    let f : 4 ^ j ≡ p * p = four_pow j in
    let lo : q * p * (q * p) ≤ N * 4 ^ j =
    le_trans (le_of_eq (mul-mul-mul_comm q p q p)) (subst (λ (z : ℕ). q * q * (p * p) ≤ N * z) (sym f) (mul-le-mul_right (p * p) h.0)) in
    let hi : N * 4 ^ j < (q + 1) * p * ((q + 1) * p) =
    lt_of_lt_of_le (subst (λ (z : ℕ). N * z < (q + 1) * (q + 1) * (p * p)) (sym f) (mul-lt-mul_of_pos_right h.1 (mul-pos (pow_pos j) (pow_pos j))))
    (le_of_eq (mul-mul-mul_comm (q + 1) (q + 1) p p)) in (
      le_of_suc-le-suc (subst (λ (z : ℕ). q * p < z) (add-one Q) (sq_lt (q * p) (Q + 1) (lt_of_le_of_lt lo k.1))),
      sq_lt Q ((q + 1) * p)
          (lt_of_le_of_lt k.0 hi),
    )

-- a number has one whole root
one_root : (q p n : ℕ) → IsRoot q n → IsRoot p n → q ≤ p
one_root q p n h k = le_of_suc-le-suc (subst (λ (z : ℕ). q < z) (add-one p) (sq_lt q (p + 1) (lt_of_le_of_lt h.0 k.1)))

pub root_is : (q r n : ℕ) → q * q + r ≡ n → r ≤ q * 2 → q ≡ isqrt n
root_is q r n e h =
    let own : IsRoot q n = (omega arith, omega arith) in
    le_antisymm (one_root q (isqrt n) n own (isqrt_root n)) (one_root (isqrt n) q n (isqrt_root n) own)

pub root_least : (b n : ℕ) → b * b ≤ n → b ≤ isqrt n
root_least b n h = le_of_suc-le-suc (subst (λ (z : ℕ). b < z) (add-one (isqrt n)) (sq_lt b (isqrt n + 1) (lt_of_le_of_lt h (isqrt_root n).1)))
