-- Document 01, "Records of the map file": each record from its mark on, with its size. The checks stand in the document's order: fixed part
-- cut (2), fixed fields in layout order (4 or 8, a nested count 6), nested list cut (2), nested list (5).
use Rattle.std.specs.Prelude.{ℕ, ◌+◌, List, [], ◌∷◌, eqb, ltb, take, drop, Option, Some, None, Float}
use Rattle.rules.specs.Limits.{max_nested, header_size, break_size, circle_size, slider_size, spinner_size, play_size}
use Rattle.numbers.specs.Words.{word_at}
use Rattle.rules.specs.Refusals.{Checked, good, refused, ◌>>=◌, ◌>>◌, refuse◌when◌, pick, CUT, MARK, NESTED, COUNT, PLAY_FIELD}
use Rattle.records.specs.Marks.{CI, SL, SP}
use Rattle.records.specs.Fields.{cut, time_of, duration_of, rate_of, setting_of, ranged}
use Rattle.records.specs.Objects.{Item, tick, repeat, circle, slider, spinner, Object, slider_view, object_view}
use Rattle.play_state.specs.Play.{origin_of, score_of, flags_bad, hitresults_of, played}
use Rattle.records.specs.declared.beatmap.Settings.{Settings}
use Rattle.records.specs.declared.beatmap.BreakPeriod.{BreakPeriod}
use Rattle.records.specs.declared.hit_object.Slider.{Slider}
use Rattle.records.specs.declared.hit_object.Spinner.{Spinner}
use Rattle.records.specs.declared.hit_object.HitObject.{HitObject}
use Rattle.records.specs.declared.hit_object.HitObjectKind.{HitObjectKind}
use Rattle.records.specs.declared.hit_object.HitObjectKind.TheVariants as kind
use Rattle.play_state.specs.declared.Play.{Play}
use Rattle.records.specs.declared.record.Record.{Record}
use Rattle.records.specs.declared.record.Record.TheVariants.{Header, Break, Object as ObjectRecord, Play as PlayRecord}

-- a record's content
pub data Content : Type 0 where
  header : Settings → Content
  break : BreakPeriod → Content
  object : Object → Content
  play : Play → Content

-- a record's content and its size in bytes
abbrev pub FoundRecord : Type 0
FoundRecord = Checked (Content × ℕ)

-- "MH: hp, od, cs"
unfoldable pub header_of : List ℕ → FoundRecord
header_of r = do
  refuse CUT when cut r header_size
  hp ← ranged (setting_of (word_at r 2 4))
  od ← ranged (setting_of (word_at r 6 4))
  cs ← ranged (setting_of (word_at r 10 4))
  good (header (record { hp = hp; od = od; cs = cs }), header_size)

-- "BR: start and end, f64"
unfoldable pub break_of : List ℕ → FoundRecord
break_of r = do
  refuse CUT when cut r break_size
  start ← ranged (time_of (word_at r 2 8))
  end ← ranged (time_of (word_at r 10 8))
  good (break (record { start_time = start; end_time = end }), break_size)

-- "CI: circle, start f64"
unfoldable pub circle_of : List ℕ → FoundRecord
circle_of r = do
  refuse CUT when cut r circle_size
  start ← ranged (time_of (word_at r 2 8))
  good (object (record { start = start; kind = circle }), circle_size)

-- "0 tick, 1 repeat, 2 tail"
abbrev pub item_of : ℕ → Checked Item
item_of b = pick (eqb b 0) (good tick) (pick (eqb b 1) (good repeat) (refused NESTED))

-- "The last byte is the only tail; count 0 is refused (5)": the items before the tail
unfoldable pub nested_of : List ℕ → Checked (List Item)
nested_of [] = refused NESTED
nested_of (b ∷ []) = pick (eqb b 2) (good []) (refused NESTED)
nested_of (b ∷ c ∷ bs) = do
  item ← item_of b
  items ← nested_of (c ∷ bs)
  good (item ∷ items)

-- "SL: slider, start f64, count u16, then count bytes"; "more than 1,000 nested items" is 6
unfoldable pub slider_of : List ℕ → FoundRecord
slider_of r = do
  refuse CUT when cut r slider_size
  start ← ranged (time_of (word_at r 2 8))
  refuse COUNT when ltb max_nested (word_at r 10 2)
  refuse CUT when cut r (slider_size + word_at r 10 2)
  items ← nested_of (take (word_at r 10 2) (drop slider_size r))
  good (object (record { start = start; kind = slider items }), slider_size + word_at r 10 2)

-- "SP: spinner, start f64, duration f64"
unfoldable pub spinner_of : List ℕ → FoundRecord
spinner_of r = do
  refuse CUT when cut r spinner_size
  start ← ranged (time_of (word_at r 2 8))
  duration ← ranged (duration_of (word_at r 10 8))
  good (object (record { start = start; kind = spinner duration }), spinner_size)

-- "PL, 42 bytes after the mark": passed, max combo and the hits have no range of their own
unfoldable pub play_of : List ℕ → FoundRecord
play_of r = do
  refuse CUT when cut r play_size
  origin ← played (origin_of (word_at r 28 1))
  score ← played (score_of (word_at r 29 1) (word_at r 30 4))
  refuse PLAY_FIELD when flags_bad (word_at r 34 2)
  rate ← played (rate_of (word_at r 36 8))
  good (
    play (record {
      passed_objects = word_at r 2 2;
      max_combo = word_at r 4 4;
      hitresults = hitresults_of r;
      origin = origin;
      legacy_total_score = score;
      mods = record { flags = word_at r 34 2; clock_rate = rate };
    }),
    play_size,
  )

-- ---- what the code keeps
abbrev pub nested_view : Checked (List Item) → Option Slider
nested_view (refused n) = None
nested_view (good is) = Some (slider_view is)

abbrev pub content_view : Content → Record
content_view (header s) = Header s
content_view (break b) = Break b
content_view (object o) = ObjectRecord (object_view o)
content_view (play p) = PlayRecord p

abbrev pub record_read : FoundRecord → Checked (Record × ℕ)
record_read (refused n) = refused n
record_read (good f) = good (content_view f.0, f.1)

-- what the reader of one kind gives, as a record and its size
abbrev pub header_read : Checked Settings → Checked (Record × ℕ)
header_read (refused n) = refused n
header_read (good t) = good (Header t, header_size)

abbrev pub break_read : Checked BreakPeriod → Checked (Record × ℕ)
break_read (refused n) = refused n
break_read (good b) = good (Break b, break_size)

abbrev pub object_at : Float → HitObjectKind → Record
object_at start k = ObjectRecord (record { start_time = start; kind = k })

abbrev pub circle_read : Checked Float → Checked (Record × ℕ)
circle_read (refused n) = refused n
circle_read (good start) = good (object_at start kind.Circle, circle_size)

abbrev pub slider_read : Checked (Float × Slider × ℕ) → Checked (Record × ℕ)
slider_read (refused n) = refused n
slider_read (good (start, s, n)) = good (object_at start (kind.Slider s), n)

abbrev pub spinner_read : Checked (Float × Spinner) → Checked (Record × ℕ)
spinner_read (refused n) = refused n
spinner_read (good (start, s)) = good (object_at start (kind.Spinner s), spinner_size)

abbrev pub object_read : Checked (HitObject × ℕ) → Checked (Record × ℕ)
object_read (refused n) = refused n
object_read (good (o, n)) = good (ObjectRecord o, n)

abbrev pub play_read : Checked Play → Checked (Record × ℕ)
play_read (refused n) = refused n
play_read (good p) = good (PlayRecord p, play_size)

-- the object behind a mark
unfoldable pub object_of : List ℕ → ℕ → FoundRecord
object_of r mark = pick (eqb mark CI) (circle_of r) (pick (eqb mark SL) (slider_of r) (pick (eqb mark SP) (spinner_of r) (refused MARK)))
