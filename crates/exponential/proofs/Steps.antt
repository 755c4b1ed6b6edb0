-- One term of the series, and one squaring, goes over from what is left to do to what is done. Assumes nothing.
use mathlib.Core.Path.{◌≡◌}
use Prim.Native.Nat.{ℕ, zero, suc, ◌+◌, ◌-◌, ◌<◌}
use native.Mathlib.Nat.{not-suc-le-zero}
use native.Mathlib.Numerals.{unary_clauses}
use native.Mathlib.Omega.{arith}
use lib.Ieee.{Float}
use Rattle.numbers.specs.Floats.{whole, ◌⊕◌, ◌⊗◌, ◌⊘◌}
use Rattle.exponential.specs.Exp.{series_of, squared}

pub term : (y : Float) (j : ℕ) (h : Float) → 0 < j → series_of y (j - 1) (whole 1 ⊕ y ⊘ whole j ⊗ h) ≡ series_of y j h
unfolding series_of
term y zero h some = absurd (not-suc-le-zero some)
term y (suc j) h some = simp unary_clauses

pub squaring : (i : ℕ) (x : Float) → i < 10 → squared (10 - (i + 1)) (x ⊗ x) ≡ squared (10 - i) x
unfolding squared
squaring i x some = let more : 10 - i ≡ suc (10 - (i + 1)) = omega arith in rw more
