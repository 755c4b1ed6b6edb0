-- `calculate_combo_based_estimated_miss_count`.
use Rattle.std.specs.Prelude.{ℕ, ◌+◌, ◌-◌, Bool, true, false, cond, eqb, Float}
use Rattle.std.specs.Float.Ieee.{lt}
use Rattle.numbers.specs.Floats.{whole, ◌⊘◌}
use Rattle.numbers.specs.MinMax.{max_of, min_of}
use Rattle.play_state.specs.declared.OsuScoreOrigin.{OsuScoreOrigin}
use Rattle.play_state.specs.declared.OsuScoreOrigin.TheVariants.{Stable, WithSliderAcc, WithoutSliderAcc}
use Rattle.play_state.specs.declared.Play.{Play}
use Rattle.simulator.specs.declared.attributes.OsuDifficultyAttributes.{OsuDifficultyAttributes}
use Rattle.miss_calc.specs.Counts.{imperfect_hits}
use Rattle.estimates.specs.Accuracy.{large_ticks}
use Rattle.miss_calc.specs.Threshold.{threshold_of, capped_of}

-- how often the combo goes into a threshold that it stays below, else the misses
unfoldable pub broken_of : Float → ℕ → ℕ → Float
broken_of threshold combo misses = cond (lt (whole combo) threshold) (threshold ⊘ max_of (whole combo) (whole 1)) (whole misses)

-- "Origins 0 and 2 use classic slider accuracy"
abbrev pub is_classic_of : OsuScoreOrigin → Bool
is_classic_of Stable = true
is_classic_of WithSliderAcc = false
is_classic_of WithoutSliderAcc = true

-- classic: no more misses than imperfect judgements, and no more slider breaks than the missing combo allows
unfoldable pub classic_of : Play → OsuDifficultyAttributes → Float
classic_of p a =
    capped_of (min_of (broken_of (threshold_of a) p.max_combo p.hitresults.misses) (whole (imperfect_hits p.hitresults))) p.hitresults.misses a p.max_combo

-- with slider accuracy: dropped ends and missed ticks are known. The differences rest on rule 9.
unfoldable pub lazer_of : Play → OsuDifficultyAttributes → Float
lazer_of p a =
    min_of (broken_of (whole (a.max_combo - (a.n_sliders - p.hitresults.slider_end_hits))) p.max_combo p.hitresults.misses)
    (whole ((large_ticks a - p.hitresults.large_tick_hits) + p.hitresults.misses))

unfoldable pub combo_based_of : Play → OsuDifficultyAttributes → Float
combo_based_of p a =
    cond (eqb a.n_sliders 0) (whole p.hitresults.misses) (cond (is_classic_of p.origin) (classic_of p a) (lazer_of p a))
