-- Document 01's runs (7) and (8), half spin by half spin: both sums behind each of them, worked out by hand from its rule. B is even in the first, odd in
-- the second.
use Rattle.std.specs.Prelude.{◌≡◌, refl, List, [], ◌∷◌, ◌++◌, ℕ, zero, suc, ◌+◌, Float}
use Rattle.std.specs.Float.Ieee.{of_int, mul, div, to_unsigned}
use Rattle.numbers.specs.Floats.{whole}
use Rattle.spinner.specs.HalfSpins.{total_half_spins, required_half_spins}
use Rattle.spinner.specs.Bonus.{half_spin_points, sums_before}

-- the sums behind the half spins 0 to n - 1
unfoldable behind_each : ℕ → ℕ → List (ℕ × ℕ)
behind_each b zero = []
behind_each b (suc i) = behind_each b i ++ (((sums_before b (suc i)).legacy.0, (sums_before b (suc i)).standardised.0) ∷ [])

abbrev spun : Float → List (ℕ × ℕ)
spun d = behind_each (required_half_spins d + 3) (suc (total_half_spins d))

run_7 : spun (whole 1000) ≡ (
    (0, 0) ∷ (0, 0) ∷ (100, 10) ∷ (100, 10) ∷ (200, 20) ∷ (200, 20) ∷ (300, 30) ∷ (300, 30)
    ∷ (1400, 80) ∷ (1400, 80) ∷ (2500, 130) ∷ (2500, 130) ∷ (3600, 180) ∷ (3600, 180) ∷ (4700, 230) ∷ (4700, 230) ∷ [])
unfolding behind_each half_spin_points total_half_spins required_half_spins of_int mul div to_unsigned
run_7 = refl

run_8 : spun (whole 1400) ≡ (
    (0, 0) ∷ (0, 0) ∷ (100, 10) ∷ (100, 10) ∷ (200, 20) ∷ (200, 20) ∷ (300, 30) ∷ (300, 30)
    ∷ (400, 40) ∷ (1500, 90) ∷ (1600, 100) ∷ (2700, 150) ∷ (2800, 160) ∷ (3900, 210) ∷ (4000, 220) ∷ (5100, 270)
    ∷ (5200, 280) ∷ (6300, 330) ∷ (6400, 340) ∷ (7500, 390) ∷ (7600, 400) ∷ (8700, 450) ∷ (8800, 460) ∷ [])
unfolding behind_each half_spin_points total_half_spins required_half_spins of_int mul div to_unsigned
run_8 = refl
