-- A build's pass over a map file: each object's own entry and its start are laid at its place.
use Rattle.rules.specs.Refusals.{Checked, good, refused}
use Rattle.std.specs.Prelude.{ℕ, ◌+◌, ◌*◌, ◌≤◌, ◌<◌, ◌≡◌, List, ◌++◌, Float, length, drop, set}
use Rattle.rules.specs.Limits.{max_nested}
use Rattle.records.specs.Objects.{Object}
use Rattle.map_file.specs.File.{File, Result, accepted, refused_at, file_of}
use Rattle.records.specs.declared.record.Record.{Record}
use Rattle.records.specs.declared.record.Record.TheVariants as record_case
use Rattle.map_reader.specs.Map.{MapIs}
use Rattle.map_reader.specs.declared.map.Map.{Map}
use Rattle.simulator.specs.Limits.{nested_count}
use Rattle.entries.specs.Entry.{own_entry, place_words}
use Rattle.entries.specs.Words.{put_entry}
use Rattle.tree.specs.Board.{starts_of}
use Rattle.tree.specs.Build.{laid}

-- there is room for an object at its place
abbrev pub LaysRecord : ℕ → ℕ → Record → List ℕ → List Float → Type 0
LaysRecord cap place (record_case.Header s) b ts = Unit
LaysRecord cap place (record_case.Break x) b ts = Unit
LaysRecord cap place (record_case.Object o) b ts =
    (nested_count o.kind ≤ max_nested) × (place < cap) × (place_words * cap ≤ length b) × (place < length ts)
LaysRecord cap place (record_case.Play p) b ts = Unit

abbrev pub record_laid : ℕ → ℕ → Record → List ℕ → List Float → List ℕ × List Float
record_laid cap place (record_case.Header s) b ts = (b, ts)
record_laid cap place (record_case.Break x) b ts = (b, ts)
record_laid cap place (record_case.Object o) b ts = (put_entry b (cap + place) (own_entry o.kind), set ts place o.start_time)
record_laid cap place (record_case.Play p) b ts = (b, ts)

-- what an object lays as it was read, and its size
abbrev pub LaysRead : ℕ → ℕ → Checked (Record × ℕ) → List ℕ → List Float → Type 0
LaysRead cap place (refused n) b ts = Unit
LaysRead cap place (good f) b ts = LaysRecord cap place f.0 b ts

abbrev pub read_laid : ℕ → ℕ → Checked (Record × ℕ) → List ℕ → List Float → ℕ × List ℕ × List Float
read_laid cap place (refused n) b ts = (0, b, ts)
read_laid cap place (good f) b ts = let after = record_laid cap place f.0 b ts in (f.1, after.0, after.1)

-- an accepted file, the map that stands in it, and room for its objects
pub record Lays (cap : ℕ) (s : List ℕ) (m : Map) (b : List ℕ) (ts : List Float) : Type 0 where
  pub file : File
  pub read : file_of s ≡ accepted file
  pub p : ℕ
  pub map : MapIs s p m
  pub places : m.objects ≤ cap
  pub words : place_words * cap ≤ length b
  pub numbers : m.objects ≤ length ts

-- the objects of a file
abbrev pub objects_of : Result → List Object
objects_of (accepted f) = f.map.objects
objects_of (refused_at n at f) = f.map.objects

abbrev pub objects_laid : ℕ → Result → List ℕ → List Float → List ℕ × List Float
objects_laid cap r b ts = (laid cap (objects_of r) b, starts_of (objects_of r) ++ drop (length (objects_of r)) ts)
