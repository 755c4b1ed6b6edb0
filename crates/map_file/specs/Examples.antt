-- Document 01, "What a caller gets", computed: the smallest file of each number, which of two faults of a record is told, and each limit at its
-- edge. Limits and numbers stand as document 01 writes them, not by their names, so that a name for a wrong one is found. (For the smallest file
-- of 7 see `over_bonus_lem` of the crate `encoding`: it has 76 spinners.)
use Rattle.std.specs.Prelude.{ℕ, ◌-◌, ◌≡◌, refl, List, [], ◌∷◌, ◌++◌, Option, map, take, replicate}
use Rattle.std.specs.Float.Ieee.{of_bits, of_int, round, to_unsigned, mul, div, le, lt, eq, neg}
use Rattle.numbers.specs.Words.{word_at, bytes_of}
use Rattle.spinner.specs.HalfSpins.{total_half_spins, required_half_spins}
use Rattle.spinner.specs.Bonus.{half_spin_points, legacy_of}
use Rattle.rules.specs.Refusals.{refused, good, number_of, ◌>>=◌, ◌>>◌, refuse◌when◌}
use Rattle.records.specs.Objects.{bonus}
use Rattle.play_state.specs.Play.{flags_bad, hitresults_of}
use Rattle.records.specs.Records.{FoundRecord, header_of, break_of, circle_of, nested_of, slider_of, spinner_of, play_of, object_of}
use Rattle.map_file.specs.Order.{no_rank, header_rank, break_rank, object_rank, play_rank, beyond_rank, body_of, record_of}
use Rattle.map_file.specs.File.{Result, accepted, refused_at, counts_of, with_record, file_from, file_of}
use Rattle.map_file.specs.declared.file.Counts.{Counts}
use Rattle.map_file.specs.declared.file.Rank.{Rank}

-- ---- the records, by document 01's layout; a float is given by its bits
abbrev header : ℕ → ℕ → ℕ → List ℕ
header hp od cs = 0x4d ∷ 0x48 ∷ bytes_of 4 hp ++ bytes_of 4 od ++ bytes_of 4 cs

abbrev break : ℕ → ℕ → List ℕ
break start end = 0x42 ∷ 0x52 ∷ bytes_of 8 start ++ bytes_of 8 end

abbrev circle : ℕ → List ℕ
circle start = 0x43 ∷ 0x49 ∷ bytes_of 8 start

abbrev slider : ℕ → ℕ → List ℕ → List ℕ
slider start count items = 0x53 ∷ 0x4c ∷ bytes_of 8 start ++ bytes_of 2 count ++ items

abbrev spinner : ℕ → ℕ → List ℕ
spinner start duration = 0x53 ∷ 0x50 ∷ bytes_of 8 start ++ bytes_of 8 duration

-- passed, max combo, judgements and hits, 26 bytes, are 0
abbrev play : ℕ → ℕ → ℕ → ℕ → ℕ → List ℕ
play origin present score flags rate = 0x50 ∷ 0x4c ∷ replicate 26 0 ++ origin ∷ present ∷ bytes_of 4 score ++ bytes_of 2 flags ++ bytes_of 8 rate

-- doubles, and a NaN of 32 bits
abbrev minus_zero : ℕ
minus_zero = 0x8000_0000_0000_0000

abbrev infinity : ℕ
infinity = 0x7ff0_0000_0000_0000

abbrev not_a_number : ℕ
not_a_number = 0x7ff8_0000_0000_0000

abbrev one : ℕ
one = 0x3ff0_0000_0000_0000

abbrev thousand : ℕ
thousand = 0x408f_4000_0000_0000

abbrev not_a_number32 : ℕ
not_a_number32 = 0x7fc0_0000

-- ---- the smallest file that gets each of the numbers 2 to 6 and 8, and two that get none
-- a refusal's number and offset, and 0 at 0 for an accepted file
abbrev pub refusal : Result → ℕ × ℕ
refusal (accepted f) = (0, 0)
refusal (refused_at n at f) = (number_of n, at)

abbrev empty : List ℕ
empty = header 0 0 0

files : List (List ℕ × ℕ × ℕ)
files =
    (empty, 0, 0)
    ∷ (0 ∷ [], 2, 0)
    ∷ ([], 3, 0)
    ∷ (header 0 0 not_a_number32, 4, 0)
    ∷ (empty ++ slider 0 0 [], 5, 14)
    ∷ (empty ++ slider 0 1001 [], 6, 14)
    ∷ (empty ++ play 3 0 0 0 one, 8, 14)
    ∷ (empty ++ play 2 0 0 0 one, 0, 0)
    ∷ []

smallest : map (λ (f : List ℕ × ℕ × ℕ). refusal (file_of f.0)) files ≡ map (λ (f : List ℕ × ℕ × ℕ). (f.1, f.2)) files
unfolding files file_of file_from with_record counts_of bonus record_of body_of object_of header_of break_of circle_of slider_of spinner_of play_of nested_of hitresults_of flags_bad word_at bytes_of ◌>>=◌ ◌>>◌ refuse◌when◌ of_bits le lt eq neg
smallest = refl

-- ---- one record, from its mark on, behind those counted
abbrev behind : Option Rank → Counts
behind rank = record { last = rank; breaks = 0; objects = 0; bonus = 0 }

abbrev breaks : ℕ → Counts
breaks n = record { last = break_rank; breaks = n; objects = 0; bonus = 0 }

-- objects behind 128 breaks
abbrev objects : ℕ → ℕ → Counts
objects n bonus = record { last = object_rank; breaks = 128; objects = n; bonus = bonus }

-- the number of a record, and 0 for one that passes
abbrev number : FoundRecord → ℕ
number (refused n) = number_of n
number (good f) = 0

abbrev Row : Type 0
Row = List ℕ × Counts × ℕ

-- "The checks of one record run: mark cut (2), mark (3), record count (6), fixed part cut (2), fixed fields in layout order (4 or 8, a nested
-- count 6), nested list cut (2), nested list (5), bonus so far (7)": two faults, and the number of the first
orders : List Row
orders =
    -- 2 before 3: one byte is left, and no mark starts with it
    (0 ∷ [], behind header_rank, 2)
    -- 3 before 6: a break behind an object, the 129th
    ∷ (break 0 0, objects 1 0, 3)
    -- 3 before 2, and before 4: of a break behind an object the mark alone; a second header, hp a NaN
    ∷ (take 2 (break 0 0), behind object_rank, 3)
    ∷ (header not_a_number32 0 0, behind header_rank, 3)
    -- 6 before 2: of the 129th break, and of the 8,193rd object, the mark alone
    ∷ (take 2 (break 0 0), breaks 128, 6)
    ∷ (take 2 (circle 0), objects 8192 0, 6)
    -- 6 before 4: the start of the 129th break, and of the 8,193rd object, is a NaN
    ∷ (break not_a_number 0, breaks 128, 6)
    ∷ (circle not_a_number, objects 8192 0, 6)
    -- 2 before 4: a header that ends behind hp, which is a NaN; the other records without their last byte, their start a NaN
    ∷ (take 6 (header not_a_number32 0 0), behind no_rank, 2)
    ∷ (take 17 (break not_a_number 0), behind header_rank, 2)
    ∷ (take 11 (slider not_a_number 0 []), behind header_rank, 2)
    ∷ (take 17 (spinner not_a_number 0), behind header_rank, 2)
    -- 2 before 8: a play of origin 3 without its last byte
    ∷ (take 43 (play 3 0 0 0 one), behind header_rank, 2)
    -- 4 before 6: a slider that starts at a NaN, with 1,001 items
    ∷ (slider not_a_number 1001 [], behind header_rank, 4)
    -- 6 before 2: a slider of 1,001 items without its list
    ∷ (slider 0 1001 [], behind header_rank, 6)
    -- 4 before the list's 2: a slider that starts at a NaN, without its list
    ∷ (slider not_a_number 2 [], behind header_rank, 4)
    -- 2 before 5: a list of 2 without its last byte, with a tail too early, or an item 3
    ∷ (slider 0 2 (2 ∷ []), behind header_rank, 2)
    ∷ (slider 0 2 (3 ∷ []), behind header_rank, 2)
    -- 4 before 5: a slider that starts at a NaN, with an item 3, or with count 0
    ∷ (slider not_a_number 2 (3 ∷ 2 ∷ []), behind header_rank, 4)
    ∷ (slider not_a_number 0 [], behind header_rank, 4)
    -- 2 before 7, and 4: a spinner without its last byte, and one of 4,000,000, where the bonus so far is at its limit
    ∷ (take 17 (spinner 0 thousand), objects 1 2147483647, 2)
    ∷ (spinner 0 0x414e_8480_0000_0000, objects 1 2147483647, 4)
    ∷ []

-- "The order is MH once, any BR, any objects, any PL"; "3: a mark is unknown or out of order"
marks : List Row
marks =
    (header 0 0 0, behind no_rank, 0)
    ∷ (break 0 0, behind no_rank, 3)
    ∷ (circle 0, behind no_rank, 3)
    ∷ (slider 0 1 (2 ∷ []), behind no_rank, 3)
    ∷ (spinner 0 0, behind no_rank, 3)
    ∷ (play 0 0 0 0 one, behind no_rank, 3)
    ∷ (header 0 0 0, behind header_rank, 3)
    ∷ (break 0 0, behind header_rank, 0)
    ∷ (circle 0, behind header_rank, 0)
    ∷ (play 0 0 0 0 one, behind header_rank, 0)
    ∷ (header 0 0 0, behind break_rank, 3)
    ∷ (break 0 0, behind break_rank, 0)
    ∷ (circle 0, behind break_rank, 0)
    ∷ (play 0 0 0 0 one, behind break_rank, 0)
    ∷ (header 0 0 0, behind object_rank, 3)
    ∷ (break 0 0, behind object_rank, 3)
    ∷ (circle 0, behind object_rank, 0)
    ∷ (slider 0 1 (2 ∷ []), behind object_rank, 0)
    ∷ (spinner 0 0, behind object_rank, 0)
    ∷ (play 0 0 0 0 one, behind object_rank, 0)
    ∷ (header 0 0 0, behind play_rank, 3)
    ∷ (break 0 0, behind play_rank, 3)
    ∷ (circle 0, behind play_rank, 3)
    ∷ (slider 0 1 (2 ∷ []), behind play_rank, 3)
    ∷ (spinner 0 0, behind play_rank, 3)
    ∷ (play 0 0 0 0 one, behind play_rank, 0)
    ∷ (header 0 0 0, behind beyond_rank, 3)
    ∷ (break 0 0, behind beyond_rank, 3)
    ∷ (circle 0, behind beyond_rank, 3)
    ∷ (play 0 0 0 0 one, behind beyond_rank, 3)
    -- unknown: zeros, and the mark of a break with its bytes swapped
    ∷ (replicate 18 0, behind no_rank, 3)
    ∷ (replicate 18 0, behind header_rank, 3)
    ∷ (0x52 ∷ 0x42 ∷ replicate 16 0, behind header_rank, 3)
    ∷ []

-- each limit: what it lets pass, and what is just beyond it
edges : List Row
edges =
    -- "2: the input ends inside a record": each record without its last byte
    (take 13 (header 0 0 0), behind no_rank, 2)
    ∷ (take 17 (break 0 0), behind header_rank, 2)
    ∷ (take 9 (circle 0), behind header_rank, 2)
    ∷ (take 11 (slider 0 0 []), behind header_rank, 2)
    ∷ (slider 0 1 [], behind header_rank, 2)
    ∷ (take 17 (spinner 0 0), behind header_rank, 2)
    ∷ (take 43 (play 0 0 0 0 one), behind header_rank, 2)
    -- "6: a 129th break, an 8,193rd object, or more than 1,000 nested items"
    ∷ (break 0 0, breaks 127, 0)
    ∷ (break 0 0, breaks 128, 6)
    ∷ (circle 0, objects 8191 0, 0)
    ∷ (circle 0, objects 8192 0, 6)
    ∷ (slider 0 1000 (replicate 999 0 ++ 2 ∷ []), behind header_rank, 0)
    ∷ (slider 0 1001 (replicate 1000 0 ++ 2 ∷ []), behind header_rank, 6)
    -- "7: the legacy bonus of all objects is above 2,147,483,647": a spinner of 1,000 has 4,700
    ∷ (spinner 0 thousand, objects 1 (2147483647 - 4700), 0)
    ∷ (spinner 0 thousand, objects 1 (2147483647 - 4699), 7)
    -- "Times are milliseconds from -8,000,000 to 8,000,000": at both ends, -0.0, next to both ends, not finite
    ∷ (circle 0x415e_8480_0000_0000, behind header_rank, 0)
    ∷ (circle 0xc15e_8480_0000_0000, behind header_rank, 0)
    ∷ (circle minus_zero, behind header_rank, 0)
    ∷ (circle 0x415e_8480_0000_0001, behind header_rank, 4)
    ∷ (circle 0xc15e_8480_0000_0001, behind header_rank, 4)
    ∷ (circle infinity, behind header_rank, 4)
    ∷ (circle not_a_number, behind header_rank, 4)
    -- each record that has a time
    ∷ (break 0x415e_8480_0000_0000 0xc15e_8480_0000_0000, behind header_rank, 0)
    ∷ (break 0x415e_8480_0000_0001 0, behind header_rank, 4)
    ∷ (break 0 0xc15e_8480_0000_0001, behind header_rank, 4)
    ∷ (slider 0x415e_8480_0000_0001 1 (2 ∷ []), behind header_rank, 4)
    ∷ (spinner 0x415e_8480_0000_0001 0, behind header_rank, 4)
    -- "three floats of 32 bits, each from 0 to 12": at the ends, -0.0, next to the ends
    ∷ (header 0x4140_0000 0x4140_0000 0x4140_0000, behind no_rank, 0)
    ∷ (header 0x8000_0000 0x8000_0000 0x8000_0000, behind no_rank, 0)
    ∷ (header 0x4140_0001 0 0, behind no_rank, 4)
    ∷ (header 0 0x4140_0001 0, behind no_rank, 4)
    ∷ (header 0 0 0x4140_0001, behind no_rank, 4)
    ∷ (header 0x8000_0001 0 0, behind no_rank, 4)
    ∷ (header not_a_number32 0 0, behind no_rank, 4)
    -- "duration f64 from 0 to 3,600,000": for the upper end itself see `longest`
    ∷ (spinner 0 minus_zero, behind header_rank, 0)
    ∷ (spinner 0 0x8000_0000_0000_0001, behind header_rank, 4)
    ∷ (spinner 0 0x414b_7740_0000_0001, behind header_rank, 4)
    ∷ (spinner 0 infinity, behind header_rank, 4)
    ∷ (spinner 0 not_a_number, behind header_rank, 4)
    -- "count bytes: 0 tick, 1 repeat, 2 tail. The last byte is the only tail; count 0 is refused (5)"
    ∷ (slider 0 1 (2 ∷ []), behind header_rank, 0)
    ∷ (slider 0 3 (0 ∷ 1 ∷ 2 ∷ []), behind header_rank, 0)
    ∷ (slider 0 0 [], behind header_rank, 5)
    ∷ (slider 0 2 (2 ∷ 2 ∷ []), behind header_rank, 5)
    ∷ (slider 0 2 (3 ∷ 2 ∷ []), behind header_rank, 5)
    ∷ (slider 0 2 (0 ∷ 1 ∷ []), behind header_rank, 5)
    -- "origin u8 (0 Stable, 1 WithSliderAcc, 2 WithoutSliderAcc)"
    ∷ (play 1 0 0 0 one, behind header_rank, 0)
    ∷ (play 2 0 0 0 one, behind header_rank, 0)
    ∷ (play 3 0 0 0 one, behind header_rank, 8)
    -- "score present u8 (0 or 1); score u32 (0 if absent)"
    ∷ (play 0 1 0 0 one, behind header_rank, 0)
    ∷ (play 0 1 0xffff_ffff 0 one, behind header_rank, 0)
    ∷ (play 0 0 1 0 one, behind header_rank, 8)
    ∷ (play 0 2 0 0 one, behind header_rank, 8)
    -- "Flag bits, from the lowest: nf, ez, hd, hr, fl, so, rx, ap, sv2; higher bits are 0"
    ∷ (play 0 0 0 511 one, behind header_rank, 0)
    ∷ (play 0 0 0 512 one, behind header_rank, 8)
    -- "clock rate f64 above 0 and at most 100": the least above 0, 100, the next above, 0, -0.0, -1, not finite
    ∷ (play 0 0 0 0 1, behind header_rank, 0)
    ∷ (play 0 0 0 0 0x4059_0000_0000_0000, behind header_rank, 0)
    ∷ (play 0 0 0 0 0x4059_0000_0000_0001, behind header_rank, 8)
    ∷ (play 0 0 0 0 0, behind header_rank, 8)
    ∷ (play 0 0 0 0 minus_zero, behind header_rank, 8)
    ∷ (play 0 0 0 0 0xbff0_0000_0000_0000, behind header_rank, 8)
    ∷ (play 0 0 0 0 infinity, behind header_rank, 8)
    ∷ (play 0 0 0 0 not_a_number, behind header_rank, 8)
    ∷ []

rows : List Row
rows = orders ++ marks ++ edges

record_numbers : map (λ (r : Row). number (record_of r.0 r.1)) rows ≡ map (λ (r : Row). r.2) rows
unfolding rows orders marks edges record_of body_of object_of header_of break_of circle_of slider_of spinner_of play_of nested_of hitresults_of flags_bad legacy_of half_spin_points total_half_spins required_half_spins word_at bytes_of ◌>>=◌ ◌>>◌ refuse◌when◌ of_bits of_int round to_unsigned mul div le lt eq neg
record_numbers = refl

-- a spinner of 3,600,000, by its own checks alone: its bonus is a walk over 57,241 half spins
longest : number (spinner_of (spinner 0 0x414b_7740_0000_0000)) ≡ 0
unfolding spinner_of word_at bytes_of ◌>>=◌ ◌>>◌ refuse◌when◌ of_bits le lt eq neg
longest = refl
