-- Document 01, "Records of the map file" and "What a caller gets": what a play is refused for on its map (9, and 8 of a play that is no record),
-- and its score.
use Rattle.std.specs.Prelude.{Bool, not, ◌&&◌, ◌||◌, ltb}
use Rattle.records.specs.Fields.{is_rate}
use Rattle.rules.specs.Refusals.{Checked, good, ◌>>◌, refuse◌when◌, PLAY_FIELD, PLAY_EXCEEDS}
use Rattle.play_state.specs.Play.{flags_bad}
use Rattle.play_state.specs.declared.GameMods.{GameMods}
use Rattle.play_state.specs.declared.OsuHitResults.{OsuHitResults}
use Rattle.play_state.specs.declared.OsuScoreOrigin.{OsuScoreOrigin}
use Rattle.play_state.specs.declared.Play.{Play}
use Rattle.simulator.specs.declared.attributes.OsuDifficultyAttributes.{OsuDifficultyAttributes}
use Rattle.simulator.specs.declared.attributes.ScoreAttributes.{ScoreAttributes}
use Rattle.miss_calc.specs.Counts.{total_hits}
use Rattle.estimates.specs.Accuracy.{large_ticks}
use Rattle.estimates.specs.ComboBased.{is_classic_of}
use Rattle.estimates.specs.Effective.{estimates_of}
use Rattle.play_score.specs.declared.PlayScore.{PlayScore}

-- "8: a play field is out of range": "higher bits are 0"; "clock rate f64 above 0 and at most 100"
unfoldable pub mods_bad : GameMods → Bool
mods_bad m = flags_bad m.flags || not (is_rate m.clock_rate)

-- "or, for origin 1 only, slider end hits exceed sliders or large tick hits exceed ticks plus repeats"
unfoldable pub hits_exceed : OsuHitResults → OsuScoreOrigin → OsuDifficultyAttributes → Bool
hits_exceed h o a = not (is_classic_of o) && (ltb a.n_sliders h.slider_end_hits || ltb (large_ticks a) h.large_tick_hits)

-- "A play exceeds its map if its four judgements sum to more than the passed objects .., its max combo is above theirs, or .."
unfoldable pub exceeds : Play → ScoreAttributes → Bool
exceeds p a =
    ltb a.object_count (total_hits p.hitresults)
    || ltb a.difficulty.max_combo p.max_combo
    || hits_exceed p.hitresults p.origin a.difficulty

-- "9: a play exceeds its map"; "a play then 9 and 10", of which document 02, §3 leaves 9
unfoldable pub play_score : Play → ScoreAttributes → Checked PlayScore
play_score p a = do
  refuse PLAY_EXCEEDS when exceeds p a
  good (record { attributes = a; estimates = estimates_of p a.difficulty })

-- "The checks of one record run: .. fixed fields in layout order (4 or 8 ..) ..; a play then 9 .."
unfoldable pub given_score : Play → ScoreAttributes → Checked PlayScore
given_score p a = do
  refuse PLAY_FIELD when mods_bad p.mods
  play_score p a
