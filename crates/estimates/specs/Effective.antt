-- `effective_miss_count` before the relax part, and all that a play is told.
use Rattle.std.specs.Prelude.{eqb, Float, Option, Some, None}
use Rattle.numbers.specs.Floats.{whole}
use Rattle.numbers.specs.MinMax.{max_of, min_of}
use Rattle.rules.specs.Refusals.{pick}
use Rattle.play_state.specs.declared.OsuHitResults.{OsuHitResults}
use Rattle.play_state.specs.declared.Play.{Play}
use Rattle.simulator.specs.declared.attributes.OsuDifficultyAttributes.{OsuDifficultyAttributes}
use Rattle.miss_calc.specs.Counts.{total_hits}
use Rattle.estimates.specs.Accuracy.{accuracy_of}
use Rattle.estimates.specs.ComboBased.{is_classic_of, combo_based_of}
use Rattle.miss_calc.specs.ScoreBased.{score_based_of}
use Rattle.estimates.specs.declared.calculator.Estimates.{Estimates}

-- "A play with origin 1 or without a score has no score-based estimate"
unfoldable pub score_based_for : Play → Float → OsuDifficultyAttributes → Option Float
score_based_for p acc a = pick (is_classic_of p.origin)
    (score_based_of (record { acc = acc; max_combo = p.max_combo; hitresults = p.hitresults; mods = p.mods; attrs = a }) p.legacy_total_score)
    None

-- no fewer than the misses and no more than the judgements
unfoldable pub held_of : Float → OsuHitResults → Float
held_of x h = min_of (max_of x (whole h.misses)) (whole (total_hits h))

-- the score-based count, or the combo-based one where there is none
unfoldable pub effective_of : Float → Option Float → OsuHitResults → Float
effective_of combo None h = held_of combo h
effective_of combo (Some x) h = held_of x h

-- "If the judgements sum to 0, combo-based and effective are 0 and score-based is absent"
unfoldable pub estimates_of : Play → OsuDifficultyAttributes → Estimates
estimates_of p a =
    let acc = accuracy_of p.hitresults p.origin a in
    let combo = combo_based_of p a in
    let score = score_based_for p acc a in
    pick (eqb (total_hits p.hitresults) 0)
    (record { accuracy = acc; combo_based = whole 0; score_based = None; effective = whole 0 })
    (record { accuracy = acc; combo_based = combo; score_based = score; effective = effective_of combo score p.hitresults })
