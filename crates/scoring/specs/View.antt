-- What the code keeps while it reads the plays of a file, and what it answers.
use Rattle.std.specs.Prelude.{ℕ, zero, suc, ◌-◌, min, ◌≡◌, Bool, List, [], ◌∷◌, eqb, Option, Some, None}
use Rattle.rules.specs.Refusals.{Checked, OrRefusal, good, refused, ◌>>=◌, pick}
use Rattle.rules.specs.declared.refusal.Refusal.{Refusal}
use Rattle.play_state.specs.declared.Play.{Play}
use Rattle.map_file.specs.File.{file_of}
use Rattle.map_reader.specs.Map.{MapIs}
use Rattle.map_reader.specs.declared.map.Map.{Map}
use Rattle.play_reader.proofs.Playing.{ReadTo}
use Rattle.simulator.specs.Attributes.{score_attributes_at}
use Rattle.simulator.specs.declared.attributes.ScoreAttributes.{ScoreAttributes}
use Rattle.scoring.specs.Scores.{Scores, play_score_on, play_scores, scores_of}
use Rattle.play_score.specs.declared.PlayScore.{PlayScore}
use Rattle.marks.specs.Marks.{passed_of, scored_anew}
use Rattle.scoring.specs.declared.plays.Wanted.{Wanted}
use Rattle.scoring.specs.declared.plays.Wanted.TheVariants as wanted

-- the play at an index of the scores, or how far it is ahead of them
unfoldable pub wanted_of : ℕ → List PlayScore → Wanted
wanted_of i [] = wanted.Ahead i
wanted_of zero (s ∷ ss) = wanted.Is s
wanted_of (suc i) (s ∷ ss) = wanted_of i ss

-- behind one more play
unfoldable pub wanted_after : Wanted → PlayScore → Wanted
wanted_after (wanted.Is found) s = wanted.Is found
wanted_after (wanted.Ahead n) s = pick (eqb n 0) (wanted.Is s) (wanted.Ahead (n - 1))

-- the same by the play on its map, where that is good
abbrev pub AfterPlay : List ℕ → Map → Play → Wanted → Wanted → Type 0
AfterPlay s m q w r = (y : PlayScore) → good y ≡ scored_anew s m q → r ≡ wanted_after w y

-- as many of n objects as a count of p passes
abbrev pub passes_as_many : Play → ℕ → ℕ → Bool
passes_as_many q p n = eqb (passed_of n q) (min p n)

-- some plays behind the map were read and are good; w is the one at the index i, if it was among them
pub record Playing (s : List ℕ) (m : Map) (at : ℕ) (w : Wanted) (i : ℕ) : Type 0 where
  pub p : ℕ
  pub to : ReadTo s p m at
  pub scores : List PlayScore
  pub same : play_scores to.file.map to.file.plays ≡ good scores
  pub wanted : w ≡ wanted_of i scores

pub record AnyPlaying (s : List ℕ) (m : Map) (at : ℕ) (w : Wanted) : Type 0 where
  pub i : ℕ
  pub is : Playing s m at w i

-- m is the map of the file, and a the attributes of its first p objects
pub record Attributed (s : List ℕ) (p : ℕ) (m : Map) (a : ScoreAttributes) : Type 0 where
  pub map : MapIs s p m
  pub attributes : a ≡ score_attributes_at map.file.map p

-- the score of a play on the map, whatever is known of it
abbrev pub ScoredOn : List ℕ → ℕ → Map → ScoreAttributes → Play → Checked PlayScore → Type 0
ScoredOn s p m a q r = (k : Attributed s p m a) → r ≡ play_score_on k.map.file.map q

-- at the end of a file: the play at the index i
abbrev pub checked_of : ℕ → OrRefusal Scores → OrRefusal Wanted
checked_of i x = do
  s ← x
  good (wanted_of i s.plays)

-- the rest of a file, whatever the index of the wanted play
abbrev pub CheckedFrom : List ℕ → Map → ℕ → Wanted → OrRefusal Wanted → Type 0
CheckedFrom s m at w r = (i : ℕ) → Playing s m at w i → r ≡ checked_of i (scores_of (file_of s))

-- the map too, with the attributes of its first p objects
pub data PlaysOf (s : List ℕ) (p : ℕ) : OrRefusal (Map × ScoreAttributes) → Type 0 where
  are : {m : Map} {a : ScoreAttributes} (k : MapIs s p m) (x : Scores) → scores_of (file_of s) ≡ good x → x.map ≡ k.file.map
      → a ≡ score_attributes_at x.map p → PlaysOf s p (good (m, a))
  refuses : {r : Refusal} → scores_of (file_of s) ≡ refused r → PlaysOf s p (refused r)

-- the wanted play of a good file
abbrev pub listed_by : Wanted → Option PlayScore
listed_by (wanted.Ahead n) = None
listed_by (wanted.Is x) = Some x
