-- What both combo-based counts share: the full combo threshold, and how many slider breaks the missing combo allows.
use Rattle.std.specs.Prelude.{ℕ, ◌+◌, ◌-◌, ◌/◌, min, cond, Float}
use Rattle.std.specs.Float.Ieee.{lt}
use Rattle.numbers.specs.Floats.{whole, part, ◌⊖◌, ◌⊗◌}
use Rattle.simulator.specs.declared.attributes.OsuDifficultyAttributes.{OsuDifficultyAttributes}

-- full combo is the maximum combo less dropped slider ends, which classic scores estimate at a tenth of the sliders
unfoldable pub threshold_of : OsuDifficultyAttributes → Float
threshold_of a = whole a.max_combo ⊖ part 1 10 ⊗ whole a.n_sliders

-- every slider has at least 2 combo: half of the missing combo, and no more than there are sliders
abbrev pub slider_breaks_of : OsuDifficultyAttributes → ℕ → ℕ
slider_breaks_of a combo = min ((a.max_combo - combo) / 2) a.n_sliders

-- a miss count that has more slider breaks than that above the misses is cut to them
unfoldable pub capped_of : Float → ℕ → OsuDifficultyAttributes → ℕ → Float
capped_of count misses a combo =
    cond (lt (whole (slider_breaks_of a combo)) (count ⊖ whole misses)) (whole (misses + slider_breaks_of a combo)) count
