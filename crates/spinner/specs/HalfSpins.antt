-- Document 01, "Spinner": "s = duration / 1000; T = s × (477/60) × 2 and R = s × 3, each operation rounded, then cut toward zero."
use Rattle.std.specs.Prelude.{ℕ, Float}
use Rattle.std.specs.Float.Ieee.{to_unsigned}
use Rattle.numbers.specs.Floats.{whole, ◌⊗◌, ◌⊘◌}

abbrev pub seconds : Float → Float
seconds d = d ⊘ whole 1000

-- T: the half spins that the duration allows
unfoldable pub total_half_spins : Float → ℕ
total_half_spins d = to_unsigned 31 (seconds d ⊗ (whole 477 ⊘ whole 60) ⊗ whole 2)

-- R: the half spins that completing the spinner takes
unfoldable pub required_half_spins : Float → ℕ
required_half_spins d = to_unsigned 31 (seconds d ⊗ whole 3)
