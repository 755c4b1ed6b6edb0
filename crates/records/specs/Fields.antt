-- Document 01, "Records of the map file": the ranges of the float fields. A value that is not a number is in no range.
use Rattle.std.specs.Option.{ok_or}
use Rattle.std.specs.Prelude.{ℕ, Bool, ◌&&◌, List, ltb, length, Float, Option, Some, None}
use Rattle.std.specs.Float.{binary32, binary64}
use Rattle.std.specs.Float.Ieee.{of_bits, neg, lt, le}
use Rattle.rules.specs.Refusals.{Checked, pick, RANGE}

-- the input ends before n bytes
abbrev pub cut : List ℕ → ℕ → Bool
cut r n = ltb (length r) n

-- ---- the ranges, by value: a NaN is in none
abbrev pub within : Float → Float → Float → Bool
within low high x = le low x && le x high

-- 8,000,000 as a double
abbrev pub time_limit : Float
time_limit = of_bits binary64 0x415e848000000000

-- "Times are milliseconds from -8,000,000 to 8,000,000"
abbrev pub is_time : Float → Bool
is_time = within (neg time_limit) time_limit

-- 3,600,000 as a double
abbrev pub duration_limit : Float
duration_limit = of_bits binary64 0x414b774000000000

-- "duration f64 from 0 to 3,600,000"
abbrev pub is_duration : Float → Bool
is_duration = within (of_bits binary64 0) duration_limit

-- 100 as a double
abbrev pub rate_limit : Float
rate_limit = of_bits binary64 0x4059000000000000

-- "clock rate f64 above 0 and at most 100"
abbrev pub is_rate : Float → Bool
is_rate x = lt (of_bits binary64 0) x && le x rate_limit

-- 12 as a float of 32 bits
abbrev pub setting_limit : Float
setting_limit = of_bits binary32 0x41400000

-- "three floats of 32 bits, each from 0 to 12"
abbrev pub is_setting : Float → Bool
is_setting = within (of_bits binary32 0) setting_limit

-- ---- a field's bits
abbrev pub if_in : Bool → Float → Option Float
if_in ok x = pick ok (Some x) None

abbrev pub time_of : ℕ → Option Float
time_of bits = if_in (is_time (of_bits binary64 bits)) (of_bits binary64 bits)

abbrev pub duration_of : ℕ → Option Float
duration_of bits = if_in (is_duration (of_bits binary64 bits)) (of_bits binary64 bits)

abbrev pub rate_of : ℕ → Option Float
rate_of bits = if_in (is_rate (of_bits binary64 bits)) (of_bits binary64 bits)

abbrev pub setting_of : ℕ → Option Float
setting_of bits = if_in (is_setting (of_bits binary32 bits)) (of_bits binary32 bits)

-- "4: a time, setting or duration is not finite or out of range"
abbrev pub ranged : Option Float → Checked Float
ranged x = ok_or x RANGE
