-- The whole number nearest to a fraction, by how twice the remainder compares with the divisor. Assumes nothing.
use Rattle.std.proofs.Common.{◌≡◌, ℕ, zero, suc, ◌+◌, ◌-◌, ◌*◌, ◌/◌, ◌%◌, ◌^◌, ◌<◌, ◌≤◌, sym, ap, ◌∙◌, subst, le_trans, le_of_suc-le-suc, not-suc-le-zero, mod-eq_of_lt, zero-lt-suc, mul_assoc, div-lt_iff_lt-mul, mul-le-mul, one-mul, le-div_iff_mul-le, arith, pow_pos, pow_mono, pow-add}
use Prim.Native.Nat.compare
use Prim.Native.Nat.{compare, Ordering}
use lib.Pow.{pow-lt}
use lib.Bits.{bit_and, and_mask}
use lib.Ieee.{nearest}
use lib.Ieee.Nearest.{closest, closest_mono, closest_same, nearest-ge}

pub is_lt : (a b : ℕ) → a < b → compare a b ≡ Ordering.lt
is_lt zero zero h = absurd (not-suc-le-zero h)
is_lt zero (suc b) h = compare.zero-suc b
is_lt (suc a) zero h = absurd (not-suc-le-zero h)
is_lt (suc a) (suc b) h = compare.suc-suc a b ∙ is_lt a b (le_of_suc-le-suc h)

pub is_gt : (a b : ℕ) → b < a → compare a b ≡ Ordering.gt
is_gt zero zero h = absurd (not-suc-le-zero h)
is_gt (suc a) zero h = compare.suc-zero a
is_gt zero (suc b) h = absurd (not-suc-le-zero h)
is_gt (suc a) (suc b) h = compare.suc-suc a b ∙ is_gt a b (le_of_suc-le-suc h)

pub is_eq : (a : ℕ) → compare a a ≡ Ordering.eq
is_eq zero = compare.zero-zero
is_eq (suc a) = compare.suc-suc a a ∙ is_eq a

pub closest_lt : (a d : ℕ) → a % d * 2 < d → closest a d ≡ a / d
closest_lt a d h = ap (λ (o : Ordering). nearest (a / d) o) (is_lt (a % d * 2) d h)

pub closest_gt : (a d : ℕ) → d < a % d * 2 → closest a d ≡ suc (a / d)
closest_gt a d h = ap (λ (o : Ordering). nearest (a / d) o) (is_gt (a % d * 2) d h)

pub closest_eq : (a d : ℕ) → a % d * 2 ≡ d → closest a d ≡ a / d + a / d % 2
closest_eq a d h = ap (λ (o : Ordering). nearest (a / d) o) (ap (λ (x : ℕ). compare x d) h ∙ is_eq d)

-- a / c at most k rounds to at most k
pub closest_under : (k a c : ℕ) → 0 < c → a ≤ k * c → closest a c ≤ k
closest_under k a c C h =
    let whole : closest k 1 ≡ k = closest_lt k 1 (omega arith) ∙ omega arith in
    subst (λ (n : ℕ). closest a c ≤ n) whole (closest_mono a c k 1 C (zero-lt-suc 0) (omega (arith, h)))

no_whole : (a d : ℕ) → a < d → a / d ≡ 0
no_whole a d h =
    let p : 0 < d = omega arith in
    let k : a / d < 1 = (div-lt_iff_lt-mul p).1 (subst (λ (z : ℕ). a < z) (sym (one-mul d)) h) in
    omega arith

-- below a half
pub closest_zero : (a d : ℕ) → a * 2 < d → closest a d ≡ 0
closest_zero a d h =
    let l : a < d = omega arith in
    closest_lt a d (subst (λ (z : ℕ). z * 2 < d) (sym (mod-eq_of_lt l)) h) ∙ no_whole a d l

-- `1 << k`
pub one_shl : (k : ℕ) → k < 64 → (1 * 2 ^ k) % 2 ^ 64 ≡ 2 ^ k
one_shl k h = ap (λ (z : ℕ). z % 2 ^ 64) (one-mul (2 ^ k)) ∙ mod-eq_of_lt (pow-lt h)

-- 2 ^ e cancels
pub closest_shift : (a e k : ℕ) → e ≤ k → closest (a * 2 ^ e) (2 ^ k) ≡ closest a (2 ^ (k - e))
closest_shift a e k h =
    let p : 2 ^ e * 2 ^ (k - e) ≡ 2 ^ k = sym (pow-add 2 e (k - e)) ∙ ap (λ (x : ℕ). 2 ^ x) (omega arith) in
    closest_same (a * 2 ^ e) (2 ^ k) a (2 ^ (k - e)) (pow_pos k) (pow_pos (k - e)) (mul_assoc a (2 ^ e) (2 ^ (k - e)) ∙ ap (λ (x : ℕ). a * x) p)

pub closest_large : (a e k b : ℕ) → k ≤ e → b ≤ a → b ≤ closest (a * 2 ^ e) (2 ^ k)
closest_large a e k b h g =
    le_trans ((le-div_iff_mul-le (pow_pos k)).1 (mul-le-mul g (pow_mono h))) (nearest-ge (a * 2 ^ e / 2 ^ k) (compare (a * 2 ^ e % 2 ^ k * 2) (2 ^ k)))

-- a fact of the remainder by 2 ^ k and of 2 ^ k, from the fact of the mask and of the shift that the code makes
pub unmasked : (P : ℕ → ℕ → Type 0) (a k : ℕ) → k < 64 → P (bit_and a ((1 * 2 ^ k) % 2 ^ 64 - 1)) ((1 * 2 ^ k) % 2 ^ 64) → P (a % 2 ^ k) (2 ^ k)
unmasked P a k h p = subst (λ (r : ℕ). P r (2 ^ k)) (and_mask a k) (subst (λ (u : ℕ). P (bit_and a (u - 1)) u) (one_shl k h) p)
