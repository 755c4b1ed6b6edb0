-- The file of a map and the record of a play: document 01's layouts, written.
use Rattle.std.specs.Prelude.{ℕ, ◌+◌, List, [], ◌∷◌, ◌++◌, length, Float, Option, Some, None}
use Rattle.std.specs.Float.{binary32, binary64}
use Rattle.std.specs.Float.Ieee.{to_bits}
use Rattle.numbers.specs.Words.{bytes_of}
use Rattle.records.specs.Marks.{MH, BR, CI, SL, SP, PL}
use Rattle.records.specs.Objects.{Item, tick, repeat, Kind, circle, slider, spinner, Object}
use Rattle.map_file.specs.File.{Map}
use Rattle.records.specs.declared.beatmap.Settings.{Settings}
use Rattle.records.specs.declared.beatmap.BreakPeriod.{BreakPeriod}
use Rattle.play_state.specs.declared.OsuScoreOrigin.{OsuScoreOrigin}
use Rattle.play_state.specs.declared.OsuScoreOrigin.TheVariants.{Stable, WithSliderAcc, WithoutSliderAcc}
use Rattle.play_state.specs.declared.Play.{Play}

-- a list of fields, each a width in bytes and a number
unfoldable pub fields_of : List (ℕ × ℕ) → List ℕ
fields_of [] = []
fields_of (f ∷ fs) = bytes_of f.0 f.1 ++ fields_of fs

-- "floats are IEEE 754 bits"
abbrev pub single : Float → ℕ × ℕ
single x = (4, to_bits binary32 x)

abbrev pub double : Float → ℕ × ℕ
double x = (8, to_bits binary64 x)

-- ---- the fixed part of each record, behind its mark
abbrev pub header_fields : Settings → List (ℕ × ℕ)
header_fields s = (2, MH) ∷ single s.hp ∷ single s.od ∷ single s.cs ∷ []

abbrev pub break_fields : BreakPeriod → List (ℕ × ℕ)
break_fields b = (2, BR) ∷ double b.start_time ∷ double b.end_time ∷ []

abbrev pub circle_fields : Float → List (ℕ × ℕ)
circle_fields start = (2, CI) ∷ double start ∷ []

abbrev pub slider_fields : Float → ℕ → List (ℕ × ℕ)
slider_fields start count = (2, SL) ∷ double start ∷ (2, count) ∷ []

abbrev pub spinner_fields : Float → Float → List (ℕ × ℕ)
spinner_fields start duration = (2, SP) ∷ double start ∷ double duration ∷ []

abbrev pub origin_byte : OsuScoreOrigin → ℕ
origin_byte Stable = 0
origin_byte WithSliderAcc = 1
origin_byte WithoutSliderAcc = 2

-- "score present u8 (0 or 1); score u32 (0 if absent)"
abbrev pub present_byte : Option ℕ → ℕ
present_byte None = 0
present_byte (Some n) = 1

abbrev pub score_number : Option ℕ → ℕ
score_number None = 0
score_number (Some n) = n

abbrev pub play_fields : Play → List (ℕ × ℕ)
play_fields p =
    (2, PL) ∷ (2, p.passed_objects) ∷ (4, p.max_combo) ∷ (2, p.hitresults.n300) ∷ (2, p.hitresults.n100) ∷ (2, p.hitresults.n50) ∷ (2, p.hitresults.misses)
    ∷ (4, p.hitresults.large_tick_hits) ∷ (4, p.hitresults.small_tick_hits) ∷ (4, p.hitresults.slider_end_hits)
    ∷ (1, origin_byte p.origin) ∷ (1, present_byte p.legacy_total_score) ∷ (4, score_number p.legacy_total_score)
    ∷ (2, p.mods.flags) ∷ double p.mods.clock_rate ∷ []

-- ---- the records
unfoldable pub header_bytes : Settings → List ℕ
header_bytes s = fields_of (header_fields s)

unfoldable pub break_bytes : BreakPeriod → List ℕ
break_bytes b = fields_of (break_fields b)

-- "0 tick, 1 repeat, 2 tail"
abbrev pub item_byte : Item → ℕ
item_byte tick = 0
item_byte repeat = 1

unfoldable pub nested_bytes : List Item → List ℕ
nested_bytes [] = 2 ∷ []
nested_bytes (i ∷ is) = item_byte i ∷ nested_bytes is

abbrev pub kind_bytes : Float → Kind → List ℕ
kind_bytes start circle = fields_of (circle_fields start)
kind_bytes start (slider is) = fields_of (slider_fields start (length is + 1)) ++ nested_bytes is
kind_bytes start (spinner d) = fields_of (spinner_fields start d)

unfoldable pub object_bytes : Object → List ℕ
object_bytes o = kind_bytes o.start o.kind

unfoldable pub play_bytes : Play → List ℕ
play_bytes p = fields_of (play_fields p)

-- ---- the records of a list, one after the other
unfoldable pub each : {A : Type 0} → (A → List ℕ) → List A → List ℕ
each f [] = []
each f (a ∷ l) = f a ++ each f l

-- "A map is settings, breaks and objects, accepted if its file without plays gets no number": that file
unfoldable pub map_file : Map → List ℕ
map_file m = header_bytes m.settings ++ (each break_bytes m.breaks ++ each object_bytes m.objects)
