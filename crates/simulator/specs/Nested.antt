-- Document 01, "Nested score": `NestedScorePerObject::calculate`. "Repeats and ticks are counts of nested items".
use Rattle.std.specs.Prelude.{ℕ, ◌+◌, ◌-◌, ◌*◌, ◌/◌, List, [], ◌∷◌, Float}
use Rattle.numbers.specs.Floats.{whole, ◌⊕◌, ◌⊗◌, ◌⊘◌}
use Rattle.spinner.specs.HalfSpins.{total_half_spins, required_half_spins}
use Rattle.records.specs.Objects.{Object, Kind, circle, slider, spinner, repeats, ticks}
use Rattle.simulator.specs.declared.legacy_score.NestedScorePerObject.{NestedScorePerObject}

-- 100 for each full turn, which is two half spins, and 1000 for each bonus turn. For the average case half as many bonus turns as there are
-- full turns are taken off, down to none: a difference of numbers is 0 where it would be below.
abbrev pub spins_score : ℕ → ℕ → ℕ
spins_score total required =
    let full = total / 2 in
    let bonus = (total - (required + 3)) / 2 in
    100 * full + 1000 * (bonus - full / 2)

unfoldable pub spinner_score_of : Float → ℕ
spinner_score_of d = spins_score (total_half_spins d) (required_half_spins d)

abbrev pub no_object : NestedScorePerObject
no_object = record {
  object_count = 0;
  n_circles = 0;
  n_sliders = 0;
  n_spinners = 0;
  n_repeats = 0;
  amount_of_small_ticks = 0;
  spinner_score = 0;
}

-- the counts with one more object
unfoldable pub counted : NestedScorePerObject → Kind → NestedScorePerObject
counted c circle = record {
  object_count = c.object_count + 1;
  n_circles = c.n_circles + 1;
  n_sliders = c.n_sliders;
  n_spinners = c.n_spinners;
  n_repeats = c.n_repeats;
  amount_of_small_ticks = c.amount_of_small_ticks;
  spinner_score = c.spinner_score;
}
counted c (slider is) = record {
  object_count = c.object_count + 1;
  n_circles = c.n_circles;
  n_sliders = c.n_sliders + 1;
  n_spinners = c.n_spinners;
  n_repeats = c.n_repeats + repeats is;
  amount_of_small_ticks = c.amount_of_small_ticks + ticks is;
  spinner_score = c.spinner_score;
}
counted c (spinner d) = record {
  object_count = c.object_count + 1;
  n_circles = c.n_circles;
  n_sliders = c.n_sliders;
  n_spinners = c.n_spinners + 1;
  n_repeats = c.n_repeats;
  amount_of_small_ticks = c.amount_of_small_ticks;
  spinner_score = c.spinner_score + spinner_score_of d;
}

unfoldable pub counted_all : NestedScorePerObject → List Object → NestedScorePerObject
counted_all c [] = c
counted_all c (o ∷ os) = counted_all (counted c o.kind) os

-- a big tick is a head, a tail or a repeat. "With no object the value is not a number": 0 / 0
unfoldable pub nested_score_of : NestedScorePerObject → Float
nested_score_of c =
    let big = c.n_sliders * 2 + c.n_repeats in
    let slider = whole big ⊗ whole 30 ⊕ whole c.amount_of_small_ticks ⊗ whole 10 in
    (slider ⊕ whole c.spinner_score) ⊘ whole c.object_count
