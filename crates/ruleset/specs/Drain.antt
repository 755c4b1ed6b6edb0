-- Document 01, "Multiplier": the drain, the seconds from the first object's start to the last one's without the breaks.
use Rattle.std.specs.Prelude.{ℕ, zero, suc, ◌+◌, ◌-◌, min, List, [], ◌∷◌, length, ℤ, pos, ◌+ℤ◌, ◌-ℤ◌, from_bits, int_div, Float}
use Rattle.std.specs.Float.{binary64}
use Rattle.std.specs.Float.Ieee.{lt}
use Rattle.rules.specs.Limits.{header_size, break_size}
use Rattle.numbers.specs.Floats.{whole}
use Rattle.numbers.specs.Rounding.{round_ties_even_i32}
use Rattle.numbers.specs.Words.{word_at}
use Rattle.rules.specs.Refusals.{pick}
use Rattle.records.specs.Objects.{Object}
use Rattle.records.specs.declared.beatmap.BreakPeriod.{BreakPeriod}

-- the milliseconds from one time to another, each rounded to a whole number, ties to the even one
abbrev pub length_of : Float → Float → ℤ
length_of start end = round_ties_even_i32 end -ℤ round_ties_even_i32 start

-- "Breaks count until the first whose end is not before the last object's start"
unfoldable pub breaks_length : Float → List BreakPeriod → ℤ
breaks_length last [] = pos 0
breaks_length last (b ∷ bs) =
    pick (lt b.end_time last) (length_of b.start_time b.end_time +ℤ breaks_length last bs) (pos 0)

-- "The drain quotient is cut toward zero"
abbrev pub drain_of : Float → Float → ℤ → ℤ
drain_of first last breaks = int_div (length_of first last -ℤ breaks) (pos 1000)

-- "Passed 0 takes the first object as last; passed beyond the end takes the last"
abbrev pub last_place : ℕ → ℕ → ℕ
last_place count p = min p count - 1

abbrev pub start_of : List Object → ℕ → Float
start_of [] i = whole 0
start_of (o ∷ os) zero = o.start
start_of (o ∷ os) (suc i) = start_of os i

-- the drain of the first p objects, 0 where the map has none
unfoldable pub drain_at : List BreakPeriod → List Object → ℕ → ℤ
drain_at bs [] p = pos 0
drain_at bs (o ∷ os) p =
    let last = start_of (o ∷ os) (last_place (length (o ∷ os)) p) in drain_of o.start last (breaks_length last bs)

-- ---- breaks as numbers
-- start, end, start, end
unfoldable pub breaks_of : List Float → List BreakPeriod
breaks_of [] = []
breaks_of (a ∷ []) = []
breaks_of (a ∷ b ∷ xs) = record { start_time = a; end_time = b } ∷ breaks_of xs

-- the break record at an offset of a map file
abbrev pub break_at : List ℕ → ℕ → BreakPeriod
break_at s at = record { start_time = from_bits binary64 (word_at s (at + 2) 8); end_time = from_bits binary64 (word_at s (at + 10) 8) }

-- break records one after the other from an offset on; the first stands behind the header
unfoldable pub breaks_from : List ℕ → ℕ → ℕ → List BreakPeriod
breaks_from s at zero = []
breaks_from s at (suc n) = break_at s at ∷ breaks_from s (at + break_size) n

abbrev pub breaks_in : List ℕ → ℕ → List BreakPeriod
breaks_in s count = breaks_from s header_size count
