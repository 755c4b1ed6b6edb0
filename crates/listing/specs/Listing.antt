-- Document 01, "Runs to reproduce": the text of the listing program. Definitions only.
use Rattle.std.specs.Prelude.{ℕ, suc, ◌≡◌, List, [], ◌∷◌, ◌++◌, ltb, length, Option}
use Rattle.std.specs.Bool.{then_some}
use Rattle.rules.specs.Limits.{max_input}
use Rattle.lines.specs.Lines.{map_line, play_line, refused_line}
use Rattle.rules.specs.Refusals.{OrRefusal, good, refused, refusal_at, pick, INPUT}
use Rattle.map_file.specs.File.{file_of}
use Rattle.map_reader.specs.Map.{MapIs}
use Rattle.map_reader.specs.declared.map.Map.{Map}
use Rattle.simulator.specs.Attributes.{score_attributes_at}
use Rattle.scoring.specs.Scores.{Scores, scores_of}
use Rattle.play_score.specs.declared.PlayScore.{PlayScore}

-- a line for each play, numbered from an index on
unfoldable pub play_lines : ℕ → List PlayScore → List ℕ
play_lines i [] = []
play_lines i (s ∷ ss) = play_line i s.estimates ++ play_lines (suc i) ss

-- "Map, of all objects"; "A refusal prints only `refused N at OFFSET`"
abbrev pub text_of : OrRefusal Scores → List ℕ
text_of (refused r) = refused_line r
text_of (good s) = map_line (score_attributes_at s.map (length s.map.objects)) ++ play_lines 0 s.plays

-- the listing of a map file
unfoldable pub file_text : List ℕ → List ℕ
file_text s = text_of (scores_of (file_of s))

-- "1: the program's input is above 65,536 bytes (the library has no such limit)"
unfoldable pub input_text : List ℕ → List ℕ
input_text s = pick (ltb max_input (length s)) (refused_line (refusal_at INPUT 0)) (file_text s)

-- a text that leaves the space no byte does not fit
abbrev pub if_fits : ℕ → ℕ → Option ℕ
if_fits at room = then_some (ltb at room) at

-- the length of a text that fits
abbrev pub listed_of : List ℕ → ℕ → Option ℕ
listed_of text room = if_fits (length text) room

-- ---- what the code keeps
abbrev pub plays_text : OrRefusal Scores → List ℕ
plays_text (refused r) = []
plays_text (good s) = play_lines 0 s.plays

-- m is the map of a file that is not refused
pub record GoodFile (s : List ℕ) (m : Map) : Type 0 where
  pub p : ℕ
  pub map : MapIs s p m
  pub scores : Scores
  pub good : scores_of (file_of s) ≡ good scores
