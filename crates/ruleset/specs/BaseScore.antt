-- The points of a hit's result in osu!standard, by the public table of results.
use Rattle.std.specs.Prelude.{ℕ}
use Rattle.ruleset.specs.declared.hit_result.HitResult.{HitResult}
use Rattle.ruleset.specs.declared.hit_result.HitResult.TheVariants as result

abbrev pub base_score : HitResult → ℕ
base_score result.SmallTickHit = 10
base_score result.LargeTickHit = 30
base_score result.SliderTailHit = 150
base_score result.Meh = 50
base_score result.Ok = 100
base_score result.Good = 200
base_score result.Great = 300
base_score result.Perfect = 300
base_score result.SmallBonus = 10
base_score result.LargeBonus = 50
base_score result.None = 0
base_score result.Miss = 0
base_score result.SmallTickMiss = 0
base_score result.LargeTickMiss = 0
base_score result.IgnoreMiss = 0
base_score result.IgnoreHit = 0
base_score result.ComboBreak = 0
base_score result.LegacyComboIncrease = 0
