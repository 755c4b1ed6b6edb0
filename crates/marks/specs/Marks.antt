-- The states kept at marks, and a play from a state before it.
use Rattle.rules.specs.Refusals.{Checked, good}
use Rattle.std.specs.Prelude.{ℕ, ◌+◌, ◌*◌, ◌-◌, ◌/◌, ◌≤◌, min, ◌≡◌, Bool, true, false, List, get_or}
use Rattle.std.specs.Result.{result_unwrap_or}
use Rattle.numbers.specs.Floats.{whole}
use Rattle.simulator.specs.declared.attributes.ScoreAttributes.{ScoreAttributes}
use Rattle.play_state.specs.declared.Play.{Play}
use Rattle.map_reader.specs.Objects.{objects_at, ran_of}
use Rattle.map_reader.specs.Map.{objects_from, MapIs}
use Rattle.map_reader.specs.Attributes.{attributes_in}
use Rattle.map_reader.specs.declared.objects.Objects.{Objects}
use Rattle.map_reader.specs.declared.map.Map.{Map}
use Rattle.play_score.specs.PlayRules.{play_score}
use Rattle.play_score.specs.declared.PlayScore.{PlayScore}
use Rattle.marks.specs.declared.Marks.{Marks}

abbrev pub stride_of : ℕ → ℕ
stride_of objects = objects / 128 + 1

-- m is the map of the file
pub record IsMap (s : List ℕ) (m : Map) : Type 0 where
  pub p : ℕ
  pub is : MapIs s p m

-- the state that a run came to
abbrev pub state_or : Bool → List ℕ → Objects → ℕ → Objects
state_or w s from count = result_unwrap_or (ran_of w (count - from.nested.object_count) s from) from

-- before the first object
abbrev pub first_of : Map → Objects
first_of m = objects_at (objects_from m.breaks.count)

-- the state behind i strides of objects, for which no half spin is walked
abbrev pub IsMark : List ℕ → Map → ℕ → Objects → Type 0
IsMark s m i x = good x ≡ ran_of false (i * stride_of m.objects) s (first_of m)

pub record MarksOf (s : List ℕ) (m : Map) (marks : Marks) : Type 0 where
  pub each : (i : ℕ) (d : Objects) → i * stride_of m.objects ≤ m.objects → IsMark s m i (get_or marks.states i d)

-- "Attributes are those of the passed objects": how many a play passed of so many, and the mark before them
abbrev pub passed_of : ℕ → Play → ℕ
passed_of objects q = min q.passed_objects objects

abbrev pub mark_before : ℕ → Play → ℕ
mark_before objects q = passed_of objects q / stride_of objects

-- a state behind objects that a play passed; w says whether half spins were walked for it
pub record StateBefore (w : Bool) (s : List ℕ) (m : Map) (q : Play) (x : Objects) : Type 0 where
  pub n : ℕ
  pub passed : n ≤ passed_of m.objects q
  pub is : good x ≡ ran_of w n s (first_of m)

abbrev pub with_passed : Map → Objects → Map
with_passed m x = record { end = m.end; settings = m.settings; breaks = m.breaks; objects = m.objects; first_start = m.first_start; passed = x }

-- the attributes of a play's passed objects, from a state before it
abbrev pub attributes_from : Bool → List ℕ → Map → Objects → Play → ScoreAttributes
attributes_from w s m x q = attributes_in s (with_passed m (state_or w s x (passed_of m.objects q)))

abbrev pub scored_anew : List ℕ → Map → Play → Checked PlayScore
scored_anew s m q = play_score q (attributes_from true s m (first_of m) q)

-- attributes of which no bonus is known: 9 and the estimates take none
abbrev pub without_bonus : ScoreAttributes → ScoreAttributes
without_bonus a = record {
  object_count = a.object_count;
  multiplier = a.multiplier;
  standardised_bonus_score = record { 0 = 0 };
  legacy = record {
    accuracy_score = a.legacy.accuracy_score;
    combo_score = a.legacy.combo_score;
    bonus_score_ratio = whole 0;
    bonus_score = record { 0 = 0 };
    max_combo = a.legacy.max_combo;
  };
  difficulty = a.difficulty;
}
