-- Document 01, "Spinner": "B = R + 3. For i from 0 to T: if i > B and i - B is even, 1100 legacy and 50 standardised; else if i > 1 and even,
-- 100 and 10."
use Rattle.std.specs.Prelude.{ℕ, zero, suc, ◌+◌, ◌-◌, ◌/◌, ◌%◌, min, Bool, cond, ◌&&◌, ltb, eqb, Float}
use Rattle.spinner.specs.HalfSpins.{total_half_spins, required_half_spins}
use Rattle.spinner.specs.declared.BonusScores.{BonusScores}

-- the half spin i earns the large bonus
abbrev pub is_large : ℕ → ℕ → Bool
is_large b i = ltb b i && eqb ((i - b) % 2) 0

-- and else the small one
abbrev pub is_small : ℕ → Bool
is_small i = ltb 1 i && eqb (i % 2) 0

-- the points of the half spins 0 to n - 1, a large bonus and a small one given
unfoldable pub half_spin_points : ℕ → ℕ → ℕ → ℕ → ℕ
half_spin_points large small b zero = 0
half_spin_points large small b (suc i) = half_spin_points large small b i + cond (is_large b i) large (cond (is_small i) small 0)

-- before the first half spin
abbrev pub no_bonus : BonusScores
no_bonus = record { legacy = record { 0 = 0 }; standardised = record { 0 = 0 } }

-- both sums before the half spin i: those of the half spins 0 to i - 1
abbrev pub sums_before : ℕ → ℕ → BonusScores
sums_before b i = record { legacy = record { 0 = half_spin_points 1100 100 b i }; standardised = record { 0 = half_spin_points 50 10 b i } }

-- "For i from 0 to T", of a duration
unfoldable pub legacy_of : Float → ℕ
legacy_of d = half_spin_points 1100 100 (required_half_spins d + 3) (suc (total_half_spins d))

unfoldable pub standardised_of : Float → ℕ
standardised_of d = half_spin_points 50 10 (required_half_spins d + 3) (suc (total_half_spins d))

-- how many half spins of the walk to t earn each bonus, in closed form
abbrev pub large_count : ℕ → ℕ → ℕ
large_count b t = (t - b) / 2

abbrev pub small_count : ℕ → ℕ → ℕ
small_count b t = cond (eqb (b % 2) 0) (min t b / 2) (t / 2)
