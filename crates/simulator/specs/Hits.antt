-- Document 01, "Simulation" and "Spinner", and the ScoreV1 rules of the osu! wiki: the hits of an object, one by one, in the order of play.
use Rattle.std.specs.Prelude.{ℕ, zero, suc, ◌+◌, Bool, true, false, cond, List, [], ◌∷◌, ◌++◌, map, Float}
use Rattle.spinner.specs.HalfSpins.{total_half_spins, required_half_spins}
use Rattle.spinner.specs.Bonus.{is_large, is_small}
use Rattle.records.specs.Objects.{Item, tick, repeat, Kind, circle, slider, spinner}
use Rattle.ruleset.specs.declared.hit_result.HitResult.{HitResult}
use Rattle.ruleset.specs.declared.hit_result.HitResult.TheVariants.{SmallBonus, LargeBonus}

-- where the value of a hit counts: in the accuracy score, or as a bonus of a kind
pub data Account : Type 0 where
  accuracy : Account
  bonus : HitResult → Account

-- what a hit is worth, where that counts, whether it raises the combo, and whether it earns combo points
pub record Hit : Type 0 where
  pub value : ℕ
  pub account : Account
  pub raises : Bool
  pub earns : Bool

-- "A circle, a spinner at its end ..": the 300 of a circle or spinner; "Circle and spinner then add 1 to the combo"
abbrev pub great : Hit
great = record { value = 300; account = accuracy; raises = true; earns = true }

-- ".. and a slider at its end"; "its end adds no combo"
abbrev pub slider_end : Hit
slider_end = record { value = 300; account = accuracy; raises = false; earns = true }

-- "30 accuracy and 1 combo for its head, 30 and 1 per repeat and tail"
abbrev pub big_tick : Hit
big_tick = record { value = 30; account = accuracy; raises = true; earns = false }

-- "10 and 1 per tick"
abbrev pub small_tick : Hit
small_tick = record { value = 10; account = accuracy; raises = true; earns = false }

-- "1100 legacy and 50 standardised": the standardised points are those of the bonus's kind
abbrev pub large_bonus : Hit
large_bonus = record { value = 1100; account = bonus LargeBonus; raises = false; earns = false }

-- "100 and 10"
abbrev pub small_bonus : Hit
small_bonus = record { value = 100; account = bonus SmallBonus; raises = false; earns = false }

abbrev pub item_hit : Item → Hit
item_hit tick = small_tick
item_hit repeat = big_tick

-- "if i > B and i - B is even, 1100 legacy and 50 standardised; else if i > 1 and even, 100 and 10"
abbrev pub half_spin : ℕ → ℕ → List Hit
half_spin b i = cond (is_large b i) (large_bonus ∷ []) (cond (is_small i) (small_bonus ∷ []) [])

-- the half spins 0 to n - 1
unfoldable pub half_spins : ℕ → ℕ → List Hit
half_spins b zero = []
half_spins b (suc i) = half_spins b i ++ half_spin b i

-- "For i from 0 to T", with B = R + 3
abbrev pub spins : Float → List Hit
spins d = half_spins (required_half_spins d + 3) (suc (total_half_spins d))

unfoldable pub hits_of : Kind → List Hit
hits_of circle = great ∷ []
hits_of (slider is) = big_tick ∷ map item_hit is ++ (big_tick ∷ slider_end ∷ [])
hits_of (spinner d) = spins d ++ (great ∷ [])
