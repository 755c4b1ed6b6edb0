-- What the code keeps of a file: offsets and counts in place of the lists.
use Rattle.std.specs.Prelude.{ℕ, ◌+◌, ◌≤◌, ◌<◌}
use Rattle.std.specs.Float.{binary32}
use Rattle.std.specs.Float.Ieee.{of_bits}
use Rattle.map_file.specs.Order.{no_rank}
use Rattle.rules.specs.Limits.{max_breaks, max_objects, max_bonus}
use Rattle.spinner.specs.Bonus.{legacy_of}
use Rattle.map_file.specs.File.{File, counts_of}
use Rattle.records.specs.declared.hit_object.HitObjectKind.{HitObjectKind}
use Rattle.records.specs.declared.hit_object.HitObjectKind.TheVariants as kind
use Rattle.records.specs.declared.record.Record.{Record}
use Rattle.records.specs.declared.record.Record.TheVariants as record_case
use Rattle.map_file.specs.declared.file.Counts.{Counts}
use Rattle.map_file.specs.declared.file.Reader.{Reader}

abbrev pub kind_bonus_in : HitObjectKind → ℕ
kind_bonus_in kind.Circle = 0
kind_bonus_in (kind.Slider s) = 0
kind_bonus_in (kind.Spinner s) = legacy_of s.duration

abbrev pub bonus_in : Record → ℕ
bonus_in (record_case.Header s) = 0
bonus_in (record_case.Break b) = 0
bonus_in (record_case.Object o) = kind_bonus_in o.kind
bonus_in (record_case.Play p) = 0

-- the limits leave room for one more record
abbrev pub Fits : Counts → Record → Type 0
Fits c (record_case.Header s) = Unit
Fits c (record_case.Break b) = c.breaks < max_breaks
Fits c (record_case.Object o) = (c.objects < max_objects) × (c.bonus + kind_bonus_in o.kind ≤ max_bonus)
Fits c (record_case.Play p) = Unit

unfoldable pub view : File → Reader
view f = record { at = f.at; settings = f.map.settings; counts = counts_of f }

-- that of a fresh file
abbrev pub fresh_of : Reader
fresh_of = record { at = 0; settings = record { hp = of_bits binary32 0; od = of_bits binary32 0; cs = of_bits binary32 0 }; counts = record { last = no_rank; breaks = 0; objects = 0; bonus = 0 } }
