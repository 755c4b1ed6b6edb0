-- A map as a value that no file holds: hp is the double 0.1, which is no float of 32 bits. Its file gets no number, since it is that of another map, and
-- the map is not accepted: reading the file back gives another one.
use mathlib.Core.Bool.{true, false}
use mathlib.Core.List.{[]}
use mathlib.Core.Path.{◌≡◌, refl, subst}
use lib.Dec.{T}
use lib.Ieee.{binary32, binary64, fits, of_bits, to_bits, le, lt, eq, neg}
use Rattle.numbers.specs.Words.{word_at, bytes_of}
use Rattle.rules.specs.Refusals.{◌>>=◌, ◌>>◌, refuse◌when◌}
use Rattle.records.specs.Objects.{bonus}
use Rattle.records.specs.Records.{header_of, break_of, circle_of, nested_of, slider_of, spinner_of, play_of, object_of}
use Rattle.map_file.specs.Order.{body_of, record_of}
use Rattle.map_file.specs.File.{Map, counts_of, with_record, file_from, file_of}
use Rattle.encoding.specs.Encoding.{fields_of, header_bytes, break_bytes, nested_bytes, object_bytes, each, map_file}
use Rattle.demands.specs.Calls.{is_accepted, AcceptedMap}
use Rattle.demands.proofs.Maps.{accepted_is_within}

odd : Map
odd = record {
  settings = record { hp = of_bits binary64 0x3fb9_9999_9999_999a; od = of_bits binary32 0; cs = of_bits binary32 0 };
  breaks = [];
  objects = [];
}

gets_none_lem : is_accepted odd ≡ true
unfolding is_accepted odd map_file header_bytes break_bytes nested_bytes object_bytes each fields_of file_of file_from with_record counts_of bonus record_of body_of object_of header_of break_of circle_of slider_of spinner_of play_of nested_of word_at bytes_of ◌>>=◌ ◌>>◌ refuse◌when◌ of_bits le lt eq neg to_bits
gets_none_lem = refl

no_single : fits binary32 odd.settings.hp ≡ false
unfolding odd fits of_bits
no_single = refl

not_accepted : AcceptedMap odd → ⊥
not_accepted a = subst T no_single (accepted_is_within odd a).settings.hp.held
