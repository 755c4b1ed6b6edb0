-- The ratio by the test on the drain's word. Assumes nothing.
use Rattle.std.proofs.Common.{◌≡◌, ℕ, zero, suc, ◌-◌, ◌^◌, ◌<◌, ℤ, pos, negsuc, refl, arith, w64, of_z}
use lib.Ieee.{binary64, of_int}
use lib.Signed.{mag}
use Rattle.numbers.specs.Floats.{whole, ◌⊗◌, ◌⊘◌}
use Rattle.numbers.specs.MinMax.{clamp_of}
use Rattle.ruleset.specs.Stars.{ratio_of}

no_suc : (n : ℕ) → suc n ≡ 0 → ⊥
no_suc n e = omega arith

no_negsuc : (n : ℕ) → n < 2 ^ 63 → 2 ^ 64 - suc n ≡ 0 → ⊥
no_negsuc n h e = omega arith

pub at_zero : (k : ℕ) (z : ℤ) → mag z < 2 ^ 63 → of_z w64 z ≡ 0 → whole 16 ≡ ratio_of k z
unfolding ratio_of
at_zero k (pos zero) f e = refl
at_zero k (pos (suc n)) f e = absurd (no_suc n e)
at_zero k (negsuc n) f e = absurd (no_negsuc n f e)

pub at_other : (k : ℕ) (z : ℤ) → (of_z w64 z ≡ 0 → ⊥) → clamp_of (whole k ⊘ of_int binary64 z ⊗ whole 8) (whole 0) (whole 16) ≡ ratio_of k z
unfolding ratio_of
at_other k (pos zero) h = absurd (h refl)
at_other k (pos (suc n)) h = refl
at_other k (negsuc n) h = refl
