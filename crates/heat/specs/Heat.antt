-- Document 02, §2: "A whole heat in one call. A heat has up to 64 plays on one map. The host hands over a lent list of play states and a list for the
-- outcomes, and gets for each play what a single call without factors gives, its refusal included, with offset 0; outcomes beyond the last play stay."
use Rattle.std.specs.Prelude.{ℕ, Bool, ◌||◌, List, map, ◌++◌, length, drop, ltb}
use Rattle.rules.specs.Limits.{max_plays}
use Rattle.rules.specs.Refusals.{OrRefusal, good, refused, ◌>>=◌, ◌>>◌, refuse◌when◌, at_0, pick, HEAT}
use Rattle.play_state.specs.declared.Play.{Play}
use Rattle.map_file.specs.File.{Result}
use Rattle.simulator.specs.declared.attributes.ScoreAttributes.{ScoreAttributes}
use Rattle.play_reader.specs.View.{simulated_of}
use Rattle.play_score.specs.PlayRules.{given_score}
use Rattle.play_score.specs.declared.PlayScore.{PlayScore}
use Rattle.scoring.specs.Scores.{Scores, map_score_of}
use Rattle.host.specs.Play.{play_in}
use Rattle.host.specs.Answer.{given_answer_of, single_of}
use Rattle.host.specs.declared.answer.PlayAnswer.{PlayAnswer}
use Rattle.host.specs.declared.play.HostPlay.{HostPlay}
use Rattle.host.specs.Status.{status_of}
use Rattle.host.specs.declared.status.Status.{Status}

-- "15: more than 64 plays, or fewer outcomes than plays"
abbrev pub counts_bad : ℕ → ℕ → Bool
counts_bad plays outcomes = ltb max_plays plays || ltb outcomes plays

-- "after the map, before any play": the file's number at its offset, then 15, whose offset is 0; else the attributes of all objects
abbrev pub start_of : OrRefusal Scores → ℕ → ℕ → OrRefusal ScoreAttributes
start_of x plays outcomes = do
  all ← map_score_of x
  at_0 do
    refuse HEAT when counts_bad plays outcomes
    good all

-- of the call: a refused play is no refused call
abbrev pub heat_status_of : OrRefusal ScoreAttributes → Status
heat_status_of = status_of

-- "for each play what a single call without factors gives, its refusal included": `single_of`, the answer of `pjp_score_play`; "outcomes beyond the last play stay", and where the call is refused all of them do
abbrev pub outcomes_of : OrRefusal ScoreAttributes → OrRefusal Scores → List HostPlay → List PlayAnswer → List PlayAnswer
outcomes_of (good all) x plays outcomes = map (single_of x) plays ++ drop (length plays) outcomes
outcomes_of (refused r) x plays outcomes = outcomes

-- the status of the call, and the outcomes that it leaves
unfoldable pub heat_of : OrRefusal Scores → List HostPlay → List PlayAnswer → Status × List PlayAnswer
heat_of x plays outcomes =
    let s : OrRefusal ScoreAttributes = start_of x (length plays) (length outcomes) in (heat_status_of s, outcomes_of s x plays outcomes)

-- ---- the same play by play, as the code has it (proofs/Loop)
-- how many plays get their outcome
abbrev pub due_of : OrRefusal ScoreAttributes → ℕ → ℕ
due_of (good all) plays = plays
due_of (refused r) plays = 0

-- the attributes of the passed objects: those of all where these are no more, else worked out again from the file, whose plays are checked by then
abbrev pub passed_of : Result → ScoreAttributes → ℕ → OrRefusal ScoreAttributes
passed_of f all passed = pick (ltb passed all.object_count) (simulated_of f passed) (good all)

abbrev pub score_one : Result → OrRefusal ScoreAttributes → Play → OrRefusal PlayScore
score_one f start p = do
  all ← start
  passed ← passed_of f all p.passed_objects
  at_0 (given_score p passed)

abbrev pub one_of : Result → OrRefusal ScoreAttributes → HostPlay → PlayAnswer
one_of f start p = given_answer_of (score_one f start (play_in p))
