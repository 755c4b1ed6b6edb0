-- `OsuLegacyScoreMissCalculator`: the misses that a ScoreV1 score tells of, in the source's order.
use Rattle.std.specs.Prelude.{ℕ, ◌-◌, ◌*◌, cond, eqb, Float, Option, Some, None}
use Rattle.std.specs.Float.Ieee.{neg, lt, le}
use Rattle.numbers.specs.Floats.{whole, ◌⊕◌, ◌⊖◌, ◌⊗◌, ◌⊘◌}
use Rattle.numbers.specs.MinMax.{max_of, min_of}
use Rattle.square_root.specs.Roots.{power_of}
use Rattle.simulator.specs.declared.attributes.OsuDifficultyAttributes.{OsuDifficultyAttributes}
use Rattle.miss_calc.specs.Counts.{total_hits, imperfect_hits}
use Rattle.miss_calc.specs.Threshold.{threshold_of, capped_of}
use Rattle.miss_calc.specs.Multiplier.{score_multiplier_of}
use Rattle.miss_calc.specs.declared.legacy_score_miss_calc.OsuLegacyScoreMissCalculator.{OsuLegacyScoreMissCalculator}

abbrev pub Calculator : Type 0
Calculator = OsuLegacyScoreMissCalculator

-- the combo portion of a score at multiplier 1 follows an arithmetic progression over the objects
unfoldable pub combo_portion_of : Float → Float → Float
combo_portion_of per objects =
    cond (lt (whole 0) per) ((whole 2 ⊗ (per ⊖ whole 1) ⊕ (objects ⊖ whole 1) ⊗ per) ⊗ objects ⊘ whole 2) (whole 0)

-- `calculate_score_at_combo`: the score that a combo is worth, its combo portion and the rest
unfoldable pub score_at_combo_of : Calculator → ℕ → Float → Float → Float
score_at_combo_of k combo per multiplier =
    combo_portion_of per (whole combo ⊘ per ⊖ whole 1) ⊗ (k.acc ⊗ whole 300 ⊘ whole 25 ⊗ multiplier)
    ⊕ (whole 300 ⊕ k.attrs.nested_score_per_object) ⊗ k.acc
    ⊗ (whole (total_hits k.hitresults - k.hitresults.misses) ⊗ whole combo ⊘ whole k.attrs.max_combo)

-- (combo - 2) × combo, which is -1 at combo 1
unfoldable pub combo_product_of : ℕ → Float
combo_product_of combo = cond (eqb combo 1) (neg (whole 1)) (whole ((combo - 2) * combo))

-- `calculate_relevant_score_combo_per_object`: the combo of an object, if it were the same for all
unfoldable pub combo_per_object_of : OsuDifficultyAttributes → Float
combo_per_object_of a =
    combo_product_of a.max_combo
    ⊘ max_of (whole a.max_combo ⊕ whole 2 ⊗ (a.maximum_legacy_combo_score ⊘ (whole 300 ⊘ whole 25 ⊗ a.legacy_score_base_multiplier) ⊖ whole 1)) (whole 1)

-- how often the combo goes into the threshold, to the power 2.5, where it stays below it
unfoldable pub broken_miss_count_of : Calculator → Float
broken_miss_count_of k =
    cond (lt (whole k.max_combo) (threshold_of k.attrs)) (power_of (threshold_of k.attrs ⊘ max_of (whole k.max_combo) (whole 1))) (whole 0)

-- `calculate_maximum_combo_based_miss_count`
unfoldable pub maximum_miss_count_of : Calculator → Float
maximum_miss_count_of k =
    cond (eqb k.attrs.n_sliders 0) (whole k.hitresults.misses)
    (capped_of (min_of (broken_miss_count_of k) (whole (imperfect_hits k.hitresults))) k.hitresults.misses k.attrs k.max_combo)

-- `calculate`, with a score and a combo to reach: what is left of the score against what the combo that is left would bring
unfoldable pub miss_count_of : Calculator → ℕ → Float
miss_count_of k score =
    let multiplier = k.attrs.legacy_score_base_multiplier ⊗ score_multiplier_of k.mods in
    let per = combo_per_object_of k.attrs in
    let remaining = whole score ⊖ score_at_combo_of k k.max_combo per multiplier in
    let expected = score_at_combo_of k (k.attrs.max_combo - k.max_combo) per multiplier in
    cond (le remaining (whole 0)) (maximum_miss_count_of k) (min_of (max_of (expected ⊘ remaining) (whole 1)) (maximum_miss_count_of k))

-- "A play .. without a score has no score-based estimate"
unfoldable pub score_based_of : Calculator → Option ℕ → Option Float
score_based_of k None = None
score_based_of k (Some score) = Some (cond (eqb k.attrs.max_combo 0) (whole 0) (miss_count_of k score))
