-- What a host is told of a map file.
use Rattle.rules.specs.Refusals.{OrRefusal, good, refused, number_of}
use Rattle.rules.specs.declared.refusal.Refusal.{Refusal}
use Rattle.std.specs.Float.{binary32}
use Rattle.std.specs.Float.Ieee.{of_bits}
use Rattle.map_file.specs.declared.file.Reader.{Reader}
use Rattle.host.specs.declared.map.MapInfo.{MapInfo}

-- of an accepted file: its settings, how many breaks it has and how many objects
abbrev pub map_info_in : Reader → MapInfo
map_info_in r = record {
  status = 0;
  offset = 0;
  settings = r.settings;
  breaks = r.counts.breaks;
  objects = r.counts.objects;
}

-- of a refused one: the number and the offset, and every value 0
abbrev pub map_info_refused : Refusal → MapInfo
map_info_refused r = record {
  status = number_of r.rule;
  offset = r.offset;
  settings = record { hp = of_bits binary32 0; od = of_bits binary32 0; cs = of_bits binary32 0 };
  breaks = 0;
  objects = 0;
}

-- what a reading answers
abbrev pub map_info_of : OrRefusal Reader → MapInfo
map_info_of (good reader) = map_info_in reader
map_info_of (refused r) = map_info_refused r
