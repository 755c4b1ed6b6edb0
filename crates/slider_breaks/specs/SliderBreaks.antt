-- Document 02, §1: `calculate_estimated_slider_breaks`, each operation rounded once, in the Rust's order. "The effective count is document 01's, and
-- no flag zeroes the breaks."
use Rattle.std.specs.Prelude.{ℕ, not, cond, ◌||◌, eqb, Float}
use Rattle.std.specs.Float.Ieee.{lt}
use Rattle.numbers.specs.Floats.{whole, part, ◌⊕◌, ◌⊖◌, ◌⊗◌, ◌⊘◌}
use Rattle.numbers.specs.MinMax.{min_of}
use Rattle.rules.specs.Refusals.{pick}
use Rattle.play_state.specs.declared.Play.{Play}
use Rattle.estimates.specs.ComboBased.{is_classic_of}
use Rattle.slider_breaks.specs.Difficulty.{smoothstep_of, logistic_of}
use Rattle.slider_breaks.specs.declared.calculator.SliderFactors.{SliderFactors}
use Rattle.slider_breaks.specs.declared.calculator.SliderBreaks.{SliderBreaks}

-- the breaks, which are at most n100, by `smoothstep`, by the `ok_adjustment`, which takes them as they were before, and by `logistic`
unfoldable pub adjusted_of : Float → Float → Float → Float → Float
adjusted_of n100 breaks step likely = breaks ⊗ step ⊗ ((n100 ⊖ breaks ⊕ part 1 2) ⊘ n100) ⊗ likely

-- the part of the passed objects' max combo that the play's lacks
abbrev pub missed_combo_of : Play → ℕ → Float
missed_combo_of p highest = whole 1 ⊖ whole p.max_combo ⊘ whole highest

-- of a play, the passed objects' max combo, its effective misses and a factor: 0 with origin 1 or without a 100
unfoldable pub slider_breaks_of : Play → ℕ → Float → Float → Float
slider_breaks_of p highest effective factor =
    let n100 = whole p.hitresults.n100 in
    cond (not (is_classic_of p.origin) || eqb p.hitresults.n100 0)
    (whole 0)
    (adjusted_of n100 (min_of (effective ⊗ factor) n100) (smoothstep_of effective (whole 1) (whole 2)) (logistic_of (missed_combo_of p highest) (part 33 100) (whole 15)))

-- "estimated slider breaks for aim and for speed"
abbrev pub both_of : Play → ℕ → Float → SliderFactors → SliderBreaks
both_of p highest effective f = record { aim = slider_breaks_of p highest effective f.aim; speed = slider_breaks_of p highest effective f.speed }

abbrev pub no_breaks : SliderBreaks
no_breaks = record { aim = whole 0; speed = whole 0 }

-- "an effective count of 0 gives 0"
unfoldable pub estimated_breaks : Play → ℕ → Float → SliderFactors → SliderBreaks
estimated_breaks p highest effective f = pick (lt (whole 0) effective) (both_of p highest effective f) no_breaks
