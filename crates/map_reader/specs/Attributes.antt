-- The attributes of a map's passed objects, from what the code keeps of the map.
use Rattle.std.specs.Prelude.{ℕ, List, eqb, ℤ, pos, Float}
use Rattle.rules.specs.Limits.{max_objects}
use Rattle.rules.specs.Refusals.{pick}
use Rattle.encoding.specs.Limits.{SettingsWithin}
use Rattle.ruleset.specs.Stars.{multiplier_of}
use Rattle.ruleset.specs.Drain.{drain_of, breaks_length, breaks_in}
use Rattle.simulator.specs.Attributes.{score_attributes_of}
use Rattle.simulator.specs.Limits.{Within, Counted}
use Rattle.simulator.specs.View.{times}
use Rattle.simulator.specs.declared.attributes.ScoreAttributes.{ScoreAttributes}
use Rattle.map_reader.specs.declared.map.Map.{Map}

-- "Passed 0 takes the first object as last"
abbrev pub last_start_of : Map → Float
last_start_of m = pick (eqb m.passed.nested.object_count 0) m.first_start m.passed.last_start

-- 0 where the map has no object
unfoldable pub drain_in : List ℕ → Map → ℤ
drain_in s m = pick (eqb m.objects 0) (pos 0) (drain_of m.first_start (last_start_of m) (breaks_length (last_start_of m) (breaks_in s m.breaks.count)))

-- the map is within its limits
abbrev pub Complete : Map → Type 0
Complete m =
    SettingsWithin m.settings × Within max_objects m.passed.score × Counted max_objects m.passed.nested

abbrev pub multiplier_in : List ℕ → Map → ℕ
multiplier_in s m = multiplier_of m.settings m.passed.nested.object_count (drain_in s m)

abbrev pub attributes_in : List ℕ → Map → ScoreAttributes
attributes_in s m = score_attributes_of (times (multiplier_in s m) m.passed.score) m.passed.nested (multiplier_in s m)
