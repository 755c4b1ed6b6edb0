-- A map file as a whole: its map (settings, breaks and objects) and its plays, or the first refusal.
use Rattle.std.specs.Prelude.{ℕ, zero, suc, ◌+◌, List, [], ◌∷◌, ◌++◌, Option, is_none, ltb, length, drop}
use Rattle.std.specs.Float.{binary32}
use Rattle.std.specs.Float.Ieee.{of_bits}
use Rattle.rules.specs.Refusals.{Checked, good, refused, pick, INPUT, MARK}
use Rattle.rules.specs.declared.refusal.Rule.{Rule}
use Rattle.records.specs.Objects.{Object, bonus}
use Rattle.records.specs.Records.{Content, header, break, object, play}
use Rattle.map_file.specs.Order.{record_of, no_rank, header_rank, break_rank, object_rank, play_rank}
use Rattle.records.specs.declared.beatmap.Settings.{Settings}
use Rattle.records.specs.declared.beatmap.BreakPeriod.{BreakPeriod}
use Rattle.play_state.specs.declared.Play.{Play}
use Rattle.map_file.specs.declared.file.Counts.{Counts}
use Rattle.map_file.specs.declared.file.Rank.{Rank}

-- "A map is settings, breaks and objects"
pub record Map : Type 0 where
  pub settings : Settings
  pub breaks : List BreakPeriod
  pub objects : List Object

-- what was read before the offset `at`: the map, the plays with their offsets, and the place in the order of the last record
pub record File : Type 0 where
  pub at : ℕ
  pub last : Option Rank
  pub map : Map
  pub plays : List (ℕ × Play)

unfoldable pub counts_of : File → Counts
counts_of f = record { last = f.last; breaks = length f.map.breaks; objects = length f.map.objects; bonus = bonus f.map.objects }

-- the file with one more record, which is `size` bytes long
unfoldable pub with_record : File → Content × ℕ → File
with_record f r = elim r.0 [
  | header s ↦ record { at = f.at + r.1; last = header_rank; map = record { settings = s; breaks = f.map.breaks; objects = f.map.objects }; plays = f.plays }
  | break b ↦ record { at = f.at + r.1; last = break_rank; map = record { settings = f.map.settings; breaks = f.map.breaks ++ (b ∷ []); objects = f.map.objects }; plays = f.plays }
  | object o ↦ record { at = f.at + r.1; last = object_rank; map = record { settings = f.map.settings; breaks = f.map.breaks; objects = f.map.objects ++ (o ∷ []) }; plays = f.plays }
  | play p ↦ record { at = f.at + r.1; last = play_rank; map = f.map; plays = f.plays ++ ((f.at, p) ∷ []) }
]

-- a whole file; or the rule that it breaks and the offset, and what was read before it
pub data Result : Type 0 where
  accepted : File → Result
  refused_at : Rule → ℕ → File → Result

-- at the end of the input: the offset "is 0 .. for a missing header"
abbrev pub ended : File → Result
ended f = pick (is_none f.last) (refused_at MARK 0 f) (accepted f)

-- "The offset is that of the record's first mark byte"
abbrev pub follow : File → Checked (Content × ℕ) → (Content × ℕ → Result) → Result
follow f (refused n) go = refused_at n f.at f
follow f (good r) go = go r

-- the records from an offset on, to the end of the input or the first refusal. `fuel` bounds how many there are: a record has bytes, so that
-- the first line is never reached from file_of
unfoldable pub file_from : ℕ → List ℕ → File → Result
file_from zero s f = refused_at INPUT 0 f
file_from (suc fuel) s f =
    pick (ltb f.at (length s)) (follow f (record_of (drop f.at s) (counts_of f)) (λ r. file_from fuel s (with_record f r))) (ended f)

-- nothing was read yet; the settings are there only to have a value
abbrev pub nothing_read : File
nothing_read = record {
  at = 0;
  last = no_rank;
  map = record { settings = record { hp = of_bits binary32 0; od = of_bits binary32 0; cs = of_bits binary32 0 }; breaks = []; objects = [] };
  plays = [];
}

unfoldable pub file_of : List ℕ → Result
file_of s = file_from (suc (length s)) s nothing_read
