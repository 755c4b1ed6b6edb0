-- The order of floats that are numbers is total, and goes with that of the whole numbers. So Rust's max and min give the larger and the smaller.
use Rattle.std.proofs.Common.{◌≡◌, ℕ, ◌^◌, ◌≤◌, Bool, true, false, refl, arith, lit<}
use lib.Ieee.{Float, nan, inf, fin, binary64, lt, le, is_nan, of_int}
use lib.Ieee.Bits.{is_true}
use lib.Ieee.Exact.{HasValue}
use lib.Ieee.Order.{round_mono}
use Rattle.std.proofs.lemmas.Float.{le_refl, le_of_not-lt, T_from_false}
use Rattle.numbers.specs.Floats.{whole}
use Rattle.numbers.specs.MinMax.{max_of, min_of}
use Rattle.numbers.proofs.Wholes.{whole_is}

pub le_of_not_lt : (x y : Float) → is_nan x ≡ false → is_nan y ≡ false → lt x y ≡ false → le y x ≡ true
le_of_not_lt x y p q e = is_true (le y x) (le_of_not-lt x y (T_from_false (is_nan x) p) (T_from_false (is_nan y) q) (T_from_false (lt x y) e))

pub le_self : (x : Float) → is_nan x ≡ false → le x x ≡ true
le_self x n = is_true (le x x) (le_refl x (T_from_false (is_nan x) n))

-- ---- max and min of two operands of which the second is a number
cases : {P : Type 0} (b : Bool) → (b ≡ true → P) → (b ≡ false → P) → P
cases true p q = p refl
cases false p q = q refl

pub max_above : (x y : Float) → is_nan y ≡ false → le y (max_of x y) ≡ true
unfolding max_of
max_above x y n = cases (is_nan x) (λ p. simp p (le_self y n)) (λ p. cases (lt x y) (λ q. simp (p, q) (le_self y n)) (λ q. simp (p, q) (le_of_not_lt x y p n q)))

pub min_below : (x y : Float) → is_nan y ≡ false → le (min_of x y) y ≡ true
unfolding min_of
min_below x y n = cases (is_nan x) (λ p. simp p (le_self y n)) (λ p. cases (lt y x) (λ q. simp (p, q) (le_self y n)) (λ q. simp (p, q) (le_of_not_lt y x n p q)))

-- what is below both is below the smaller
pub min_above : (z x y : Float) → le z x ≡ true → le z y ≡ true → le z (min_of x y) ≡ true
unfolding min_of
min_above z x y p q = cases (is_nan x) (λ e. simp e q) (λ e. cases (lt y x) (λ f. simp (e, f) q) (λ f. simp (e, f) p))

-- ---- whole numbers
pub whole-number : (n : ℕ) → n ≤ 2 ^ 53 → is_nan (whole n) ≡ false
unfolding is_nan
whole-number n h = go (whole n) (whole_is n h)
  where
    go : (x : Float) → HasValue x false n 1 → is_nan x ≡ false
    go nan v = absurd v
    go (inf s) v = refl
    go (fin s m e) v = refl

pub whole_le : (a b : ℕ) → a ≤ b → le (whole a) (whole b) ≡ true
unfolding of_int
whole_le a b h = is_true (le (whole a) (whole b)) (round_mono binary64 a 1 b 1 (lit< tt) (lit< tt) (omega (arith, h)))
