-- A difference within the machine epsilon, 2 ^ -52, is so by the definition too: the library's `abs` also turns -0.0 into 0.0, and either lies within.
use mathlib.Core.Path.{◌≡◌, refl, ◌∙◌}
use mathlib.Core.Bool.{Bool, true, false, ◌||◌}
use Prim.Native.Nat.{ℕ, zero, suc, ◌*◌, ◌^◌, zero-le}
use native.Mathlib.Nat.{zero-mul, zero-add}
use native.Mathlib.Omega.{arith}
use lib.IntN.{ℤ}
use lib.Ieee.{Float, nan, inf, fin, binary64, up, down, below, level, lt, le, eq, neg, of_bits, of_int, round, div}
use lib.Ieee.Fits.{up_pos}
use borrow.Author.Tests.{lt-ltb, le-ltb}
use Rattle.std.specs.Float.{float_with_sign}
use Rattle.std.proofs.Math.Nat.{mul-pos}
use Rattle.numbers.specs.Floats.{whole, ◌⊘◌}
use Rattle.estimates.specs.Accuracy.{abs_of}

-- ---- which numbers lie below 0
negative : (m : ℕ) (e : ℤ) → lt (fin true (suc m) e) (whole 0) ≡ true
unfolding lt of_int
negative m e = lt-ltb 0 _ (omega (arith, mul-pos {m = suc m} {n = up e} (omega arith) (up_pos e)))

not_negative : (m : ℕ) (e : ℤ) → lt (fin false m e) (whole 0) ≡ false
unfolding lt of_int
not_negative m e = le-ltb _ _ (omega arith)

no_zero : (e : ℤ) → lt (fin true zero e) (whole 0) ≡ false
unfolding lt of_int
no_zero e = le-ltb _ _ (omega arith)

-- ---- a zero's sign is in no comparison
signs : (a b : ℕ) (t : Bool) → a ≡ 0 → (below true a t b || level true a t b) ≡ (below false a t b || level false a t b)
signs a b false e = rw e (simp (zero-add b))
signs a b true e = rw e (simp (le-ltb b 0 zero-le))

either_zero : (e : ℤ) (y : Float) → le (fin true zero e) y ≡ le (fin false zero e) y
unfolding le lt eq
either_zero e nan = refl
either_zero e (inf t) = refl
either_zero e (fin t n d) = signs (zero * up e * down d) (n * up d * down e) t (simp (zero-mul (up e), zero-mul (down d)))

magnitude : (x : Float) → le (abs_of x) (whole 1 ⊘ whole (2 ^ 52)) ≡ le (float_with_sign false x) (of_bits binary64 0x3cb0_0000_0000_0000)
unfolding abs_of float_with_sign neg of_bits of_int round div lt
magnitude nan = refl
magnitude (inf true) = refl
magnitude (inf false) = refl
magnitude (fin false m e) = rw (not_negative m e) refl
magnitude (fin true zero e) = rw (no_zero e) (either_zero e _)
magnitude (fin true (suc m) e) = rw (negative m e) refl

-- the test of the code, and that of the definition
pub at_epsilon : (x : Float) (b : Bool) → le (float_with_sign false x) (of_bits binary64 0x3cb0_0000_0000_0000) ≡ b → le (abs_of x) (whole 1 ⊘ whole (2 ^ 52)) ≡ b
at_epsilon x b h = magnitude x ∙ h
