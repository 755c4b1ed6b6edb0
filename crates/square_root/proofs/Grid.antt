-- Doubles as whole numbers of units of 2 ^ -1074: at most 53 digits and zeros after them, so that large doubles are multiples of a power of two. Assumes nothing.
use Rattle.std.proofs.Common.{◌≡◌, ℕ, zero, suc, ◌+◌, ◌-◌, ◌*◌, ◌/◌, ◌^◌, ◌<◌, ◌≤◌, Bool, false, T, ℤ, sym, refl, ap, ◌∙◌, subst, le_trans, lt_of_lt_of_le, mul-le-mul_right, zero-lt-suc, mul_assoc, mul-le-mul_left, mul-lt-mul_of_pos_right, lt_of_not-le, zero-mul, not-le_of_lt, arith, pow_pos, pow_mono}
use native.Mathlib.Nat.{eq_of_mul-eq-mul_right}
use lib.Ieee.{Float, nan, inf, fin, binary64, up, down, size, fits}
use lib.Ieee.Digits.{size-lt, size_reaches}
use lib.Ieee.Exact.{HasValue}
use lib.Ieee.Fits.{down_pos}
use lib.Ieee.Scale.{finite}
use Rattle.numbers.specs.Bits.{parts_of}
use Rattle.numbers.proofs.bits.Fields.{IsFinite, parts_value, powers}

-- every finite double is a whole number of units
pub record InUnits (y : Float) : Type 0 where
  pub negative : Bool
  pub count : ℕ
  pub value : HasValue y negative count (2 ^ 1074)

-- ---- the digits of a double in units

pub record Counted (ny : ℕ) : Type 0 where
  pub digits : ℕ
  pub zeros : ℕ
  pub is : ny ≡ digits * 2 ^ zeros
  pub small : digits < 2 ^ 53
  pub range : zeros < 2046

parts : (t : Bool) (m : ℕ) (e : ℤ) → T (fits binary64 (fin t m e)) →
    (let n = m * up e * 2 ^ 1074 / down e in IsFinite (fin t m e) t (n / 2 ^ (size n - 53)) (size n - 53))
unfolding parts_of
parts t m e h = let n = m * up e * 2 ^ 1074 / down e in parts_value (fin t m e) h t (n / 2 ^ (size n - 53)) (size n - 53) refl

pub in_units : (y : Float) → T (fits binary64 y) → T (finite y) → InUnits y
in_units nan h f = absurd f
in_units (inf t) h f = absurd f
in_units (fin t m e) h f =
    let n = m * up e * 2 ^ 1074 / down e in
    record { negative = t; count = n / 2 ^ (size n - 53) * 2 ^ (size n - 53); value = (parts t m e h).value }

pub counted : (y : Float) (ny : ℕ) → T (fits binary64 y) → HasValue y false ny (2 ^ 1074) → Counted ny
counted nan ny h k = absurd k
counted (inf t) ny h k = absurd k
counted (fin t m e) ny h k =
    let n = m * up e * 2 ^ 1074 / down e in
    let f = parts t m e h in
    record {
      digits = n / 2 ^ (size n - 53);
      zeros = size n - 53;
      is = eq_of_mul-eq-mul_right (down e) (down_pos e) ny (n / 2 ^ (size n - 53) * 2 ^ (size n - 53)) (sym k.1 ∙ f.value.1);
      small = f.small;
      range = f.range;
    }

-- from 2 ^ 53 * 2 ^ p on, the doubles are multiples of 2 ^ (p + 1)
coarse : (g x p : ℕ) → g < 2 ^ 53 → 2 ^ 53 * 2 ^ p ≤ g * 2 ^ x → p < x
coarse g x p h k =
    lt_of_not-le (λ (l : x ≤ p). not-le_of_lt (lt_of_lt_of_le (mul-lt-mul_of_pos_right h (pow_pos x)) (mul-le-mul_left (2 ^ 53) (pow_mono l))) k)

pub record Multiple (ny D : ℕ) : Type 0 where
  pub times : ℕ
  pub is : ny ≡ times * D

pub multiple : (ny p : ℕ) → Counted ny → 2 ^ 53 * 2 ^ p ≤ ny → Multiple ny (2 ^ (p + 1))
multiple ny p c k =
    let g = c.digits in
    let x = c.zeros in
    let l : p < x = coarse g x p c.small (subst (λ (z : ℕ). 2 ^ 53 * 2 ^ p ≤ z) c.is k) in
    record {
      times = g * 2 ^ (x - (p + 1));
      is = c.is ∙ ap (λ (z : ℕ). g * z) (sym (powers (x - (p + 1)) (p + 1) x (omega arith))) ∙ sym (mul_assoc g (2 ^ (x - (p + 1))) (2 ^ (p + 1)));
    }

-- two multiples that differ, differ by D
pub apart : (a b D : ℕ) → a * D < b * D → (a + 1) * D ≤ b * D
apart a b D h = let k : a < b = lt_of_not-le (λ (l : b ≤ a). not-le_of_lt h (mul-le-mul_right D l)) in mul-le-mul_right D (omega arith)

-- ---- a significand of 53 digits, from one of fewer, whose leading digit is that of 2 ^ l

pub record Leading (g l : ℕ) : Type 0 where
  pub low : 2 ^ l ≤ g
  pub high : g < 2 * 2 ^ l
  pub few : l ≤ 52

pub leading : (g l : ℕ) → 2 ^ l ≤ g → g < 2 * 2 ^ l → g < 2 ^ 53 → Leading g l
leading g l low high h =
    record {
      low = low;
      high = high;
      few = let k : l < 53 = lt_of_not-le (λ (k : 53 ≤ l). not-le_of_lt h (le_trans (pow_mono {i = 53} k) low)) in omega arith;
    }

pub raised_ge : (g l : ℕ) → Leading g l → 2 ^ 52 ≤ g * 2 ^ (52 - l)
raised_ge g l r =
    let whole : 2 ^ l * 2 ^ (52 - l) ≡ 2 ^ 52 = powers l (52 - l) 52 (omega (arith, r.few)) in
    omega (arith, whole, mul-le-mul_right (2 ^ (52 - l)) r.low)

pub raised_lt : (g l : ℕ) → Leading g l → g * 2 ^ (52 - l) < 2 ^ 53
raised_lt g l r =
    let whole : 2 ^ l * 2 ^ (52 - l) ≡ 2 ^ 52 = powers l (52 - l) 52 (omega (arith, r.few)) in
    omega (arith, whole, mul-lt-mul_of_pos_right r.high (pow_pos (52 - l)))

pub raised_same : (g l x : ℕ) → Leading g l → g * 2 ^ (52 - l) * 2 ^ (x + 64 - (52 - l)) ≡ g * 2 ^ (x + 64)
raised_same g l x r =
    mul_assoc g (2 ^ (52 - l)) (2 ^ (x + 64 - (52 - l))) ∙ ap (λ (z : ℕ). g * z) (powers (52 - l) (x + 64 - (52 - l)) (x + 64) (omega (arith, r.few)))

-- the place of the leading digit, by the number of digits
pub leading_place : (g : ℕ) → 0 < g → g < 2 ^ 53 → Leading g (size g - 1)
leading_place g p h =
    let some : 0 < size g = lt_of_not-le (λ (none : size g ≤ 0). not-le_of_lt p (one (size g) none (size-lt g))) in
    let twice : 2 * 2 ^ (size g - 1) ≡ 2 ^ size g = powers 1 (size g - 1) (size g) (omega arith) in
    leading g (size g - 1) (size_reaches g (size g - 1) (omega arith)) (omega (arith, twice, size-lt g)) h
  where
    one : (k : ℕ) → k ≤ 0 → g < 2 ^ k → g ≤ 0
    one zero l h = omega arith
    one (suc k) l h = absurd (omega arith)

pub factor_pos : (g x n : ℕ) → n ≡ g * 2 ^ x → 0 < n → 0 < g
factor_pos zero x n e p = let z : 0 * 2 ^ x ≡ 0 = zero-mul (2 ^ x) in absurd (omega arith)
factor_pos (suc g) x n e p = zero-lt-suc g
