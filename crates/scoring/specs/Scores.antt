-- Document 01, "What a caller gets": a map file with its plays gives its values, or the first refusal in the input with its offset.
use Rattle.std.specs.Prelude.{ℕ, List, [], ◌∷◌, length, slice_get, Option}
use Rattle.rules.specs.Refusals.{Checked, good, refused, ◌>>=◌, ◌>>◌, OrRefusal, refusal_at, at_0, at_offset}
use Rattle.map_file.specs.File.{Map, Result, accepted, refused_at}
use Rattle.play_state.specs.declared.Play.{Play}
use Rattle.simulator.specs.Attributes.{score_attributes_at}
use Rattle.simulator.specs.declared.attributes.ScoreAttributes.{ScoreAttributes}
use Rattle.play_score.specs.PlayRules.{play_score, given_score}
use Rattle.play_score.specs.declared.PlayScore.{PlayScore}

-- a play's score: "Attributes are those of the passed objects"
abbrev pub play_score_on : Map → Play → Checked PlayScore
play_score_on m p = play_score p (score_attributes_at m p.passed_objects)

-- the scores of plays with their offsets, in order; "The first refusal in the input stands"
unfoldable pub play_scores : Map → List (ℕ × Play) → OrRefusal (List PlayScore)
play_scores m [] = good []
play_scores m (p ∷ ps) = do
  s ← at_offset p.0 (play_score_on m p.1)
  ss ← play_scores m ps
  good (s ∷ ss)

-- a file's map, and the scores of its plays
pub record Scores : Type 0 where
  pub map : Map
  pub plays : List PlayScore

-- the plays' refusals come before that of a later record
abbrev pub scores_of : Result → OrRefusal Scores
scores_of (accepted f) = do
  ss ← play_scores f.map f.plays
  good (record { map = f.map; plays = ss })
scores_of (refused_at n at f) = do
  play_scores f.map f.plays
  refused (refusal_at n at)

-- ---- the answers of the calls, where the file is good
-- "the score of a map file": the attributes of all objects
abbrev pub map_score_of : OrRefusal Scores → OrRefusal ScoreAttributes
map_score_of x = do
  s ← x
  good (score_attributes_at s.map (length s.map.objects))

-- the score of a play that is given beside the file
abbrev pub given_play_of : Play → OrRefusal Scores → OrRefusal PlayScore
given_play_of p x = do
  s ← x
  at_0 (given_score p (score_attributes_at s.map p.passed_objects))

-- the play at an index of the file, if there is one
abbrev pub listed_play_of : ℕ → OrRefusal Scores → OrRefusal (Option PlayScore)
listed_play_of i x = do
  s ← x
  good (slice_get s.plays i)
