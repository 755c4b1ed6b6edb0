-- The maps and plays within document 01's limits: those whose file the library accepts (proofs/RoundTrip and proofs/Accepted).
use Rattle.std.specs.Prelude.{ℕ, ◌+◌, ◌≤◌, ◌<◌, ◌^◌, ◌≡◌, true, false, List, [], ◌∷◌, T, length, Float, Option, Some, None}
use Rattle.std.specs.Float.{Format, binary32, binary64}
use Rattle.std.specs.Float.Ieee.{fits, of_bits, neg, lt, le}
use Rattle.rules.specs.Limits.{max_nested, max_breaks, max_objects, max_bonus}
use Rattle.records.specs.Fields.{time_limit, setting_limit, duration_limit, rate_limit}
use Rattle.records.specs.Objects.{Kind, circle, slider, spinner, Object, bonus}
use Rattle.play_state.specs.Play.{flags_bad}
use Rattle.map_file.specs.File.{Map}
use Rattle.records.specs.declared.beatmap.Settings.{Settings}
use Rattle.records.specs.declared.beatmap.BreakPeriod.{BreakPeriod}
use Rattle.play_state.specs.declared.OsuHitResults.{OsuHitResults}
use Rattle.play_state.specs.declared.GameMods.{GameMods}
use Rattle.play_state.specs.declared.Play.{Play}

-- a float of a format, from low to high
pub record Within (f : Format) (low high x : Float) : Type 0 where
  pub held : T (fits f x)
  pub above : le low x ≡ true
  pub below : le x high ≡ true

-- "Times are milliseconds from -8,000,000 to 8,000,000"
abbrev pub IsTime : Float → Type 0
IsTime x = Within binary64 (neg time_limit) time_limit x

-- "three floats of 32 bits, each from 0 to 12"
abbrev pub IsSetting : Float → Type 0
IsSetting x = Within binary32 (of_bits binary32 0) setting_limit x

-- "duration f64 from 0 to 3,600,000"
abbrev pub IsDuration : Float → Type 0
IsDuration x = Within binary64 (of_bits binary64 0) duration_limit x

-- what holds of each element
pub data Each {A : Type 0} (P : A → Type 0) : List A → Type 0 where
  none : Each P []
  one : {a : A} {l : List A} → P a → Each P l → Each P (a ∷ l)

pub record SettingsWithin (s : Settings) : Type 0 where
  pub hp : IsSetting s.hp
  pub od : IsSetting s.od
  pub cs : IsSetting s.cs

pub record BreakWithin (b : BreakPeriod) : Type 0 where
  pub start : IsTime b.start_time
  pub end : IsTime b.end_time

-- a slider has its tail and at most 999 nested items before it: "1,000 nested items pass"
abbrev pub KindWithin : Kind → Type 0
KindWithin circle = Unit
KindWithin (slider is) = length is + 1 ≤ max_nested
KindWithin (spinner d) = IsDuration d

pub record ObjectWithin (o : Object) : Type 0 where
  pub start : IsTime o.start
  pub kind : KindWithin o.kind

pub record MapWithin (m : Map) : Type 0 where
  pub settings : SettingsWithin m.settings
  pub breaks : Each BreakWithin m.breaks
  pub few_breaks : length m.breaks ≤ max_breaks
  pub objects : Each ObjectWithin m.objects
  pub few_objects : length m.objects ≤ max_objects
  pub low_bonus : bonus m.objects ≤ max_bonus

-- ---- a play's fields, in the widths of its record
pub record HitsWithin (h : OsuHitResults) : Type 0 where
  pub n300 : h.n300 < 2 ^ 16
  pub n100 : h.n100 < 2 ^ 16
  pub n50 : h.n50 < 2 ^ 16
  pub misses : h.misses < 2 ^ 16
  pub large : h.large_tick_hits < 2 ^ 32
  pub small : h.small_tick_hits < 2 ^ 32
  pub ends : h.slider_end_hits < 2 ^ 32

abbrev pub ScoreWithin : Option ℕ → Type 0
ScoreWithin None = Unit
ScoreWithin (Some n) = n < 2 ^ 32

-- flags and clock rate in their widths: they may be out of their ranges (8), and the rate infinite or not a number
pub record ModsSized (m : GameMods) : Type 0 where
  pub flags : m.flags < 2 ^ 16
  pub held : T (fits binary64 m.clock_rate)

-- what a play's types alone ask
pub record PlaySized (p : Play) : Type 0 where
  pub passed : p.passed_objects < 2 ^ 16
  pub combo : p.max_combo < 2 ^ 32
  pub hits : HitsWithin p.hitresults
  pub score : ScoreWithin p.legacy_total_score
  pub mods : ModsSized p.mods

-- "higher bits are 0"; "clock rate f64 above 0 and at most 100"
pub record ModsWithin (m : GameMods) : Type 0 where
  pub known : flags_bad m.flags ≡ false
  pub above : lt (of_bits binary64 0) m.clock_rate ≡ true
  pub below : le m.clock_rate rate_limit ≡ true

pub record PlayWithin (p : Play) : Type 0 where
  pub sized : PlaySized p
  pub mods : ModsWithin p.mods
