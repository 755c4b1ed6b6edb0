-- Document 01, "What a caller gets": a read checks 6 and 11, then "its settings and breaks, starts and ends in turn, an odd count 4, then 8", then
-- "13 and 7 entry by entry as read, and .. at last 9 ..".
use Rattle.std.specs.Prelude.{ℕ, ◌%◌, min, ◌*◌, Bool, false, not, ◌||◌, List, [], ◌∷◌, eqb, ltb, ℤ, pos, Float, length}
use Rattle.records.specs.Fields.{is_setting}
use Rattle.rules.specs.Limits.{max_breaks}
use Rattle.rules.specs.Refusals.{Checked, ◌>>=◌, ◌>>◌, refuse◌when◌, pick, RANGE, COUNT, PLAY_FIELD}
use Rattle.records.specs.declared.beatmap.Settings.{Settings}
use Rattle.play_state.specs.declared.Play.{Play}
use Rattle.ruleset.specs.Drain.{drain_of, breaks_length, breaks_of}
use Rattle.ruleset.specs.Stars.{multiplier_of}
use Rattle.simulator.specs.Attributes.{score_attributes_of}
use Rattle.simulator.specs.View.{times}
use Rattle.simulator.specs.declared.attributes.ScoreAttributes.{ScoreAttributes}
use Rattle.play_score.specs.PlayRules.{mods_bad, play_score}
use Rattle.play_score.specs.declared.PlayScore.{PlayScore}
use Rattle.entries.specs.Scores.{state_in, counts_in}
use Rattle.board.specs.Place.{room_for}
use Rattle.board.specs.Search.{time_bad, found_of}
use Rattle.board.specs.declared.search.Starts.{Starts}
use Rattle.board.specs.declared.search.Found.{Found}

-- "three floats of 32 bits, each from 0 to 12"
abbrev pub setting_bad : Float → Bool
setting_bad x = not (is_setting x)

unfoldable pub settings_bad : Settings → Bool
settings_bad s = setting_bad s.hp || setting_bad s.od || setting_bad s.cs

-- "starts and ends in turn"
unfoldable pub times_bad : List Float → Bool
times_bad [] = false
times_bad (x ∷ xs) = time_bad x || times_bad xs

-- "4: a time, setting or duration is not finite or out of range"; "an odd count 4"
unfoldable pub arguments_bad : Settings → List Float → Bool
arguments_bad s br = settings_bad s || times_bad br || eqb (length br % 2) 1

-- the drain of what was found, with n objects
unfoldable pub drain_from : Starts → List Float → ℕ → ℤ
drain_from s br n = pick (eqb n 0) (pos 0) (drain_of s.first s.last (breaks_length s.last (breaks_of br)))

-- the score attributes of what was found: "its passed objects number the combined q"
unfoldable pub attributes_from : Found → Settings → List Float → ℕ → ScoreAttributes
attributes_from f s br n =
    let m = multiplier_of s f.sum.object_count (drain_from f.starts br n) in
    score_attributes_of (times m (state_in f.sum)) (counts_in f.sum) m

-- behind the arguments' checks
unfoldable pub score_from : List ℕ → List Float → ℕ → Settings → List Float → Play → Checked PlayScore
score_from b ts n s br p = do
  found ← found_of b ts n (min p.passed_objects n)
  play_score p (attributes_from found s br n)

-- "6: a 129th break, an 8,193rd object"; "8: a play field is out of range"
unfoldable pub read_of : List ℕ → List Float → ℕ → Settings → List Float → Play → Checked PlayScore
read_of b ts n s br p = do
  refuse COUNT when ltb (2 * max_breaks) (length br)
  room_for b ts n
  refuse RANGE when arguments_bad s br
  refuse PLAY_FIELD when mods_bad p.mods
  score_from b ts n s br p
