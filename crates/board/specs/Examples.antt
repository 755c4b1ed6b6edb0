-- Document 01, "What a caller gets" and "The board", computed: an edit's record, and edits and reads on lent memory that no build made: which of two
-- faults is told, what is read, and each limit of an entry at its edge.
use Rattle.std.specs.Prelude.{ℕ, ◌+◌, ◌-◌, ◌*◌, ◌≡◌, refl, List, [], ◌∷◌, ◌++◌, map, take, set, replicate, Float, Some}
use Rattle.std.specs.Float.{binary32, binary64}
use Rattle.std.specs.Float.Ieee.{of_bits, of_int, round, to_unsigned, mul, div, le, lt, eq, neg}
use Rattle.numbers.specs.Words.{word_at, bytes_of}
use Rattle.spinner.specs.HalfSpins.{total_half_spins, required_half_spins}
use Rattle.spinner.specs.Bonus.{half_spin_points as turned, legacy_of, standardised_of}
use Rattle.rules.specs.Refusals.{Checked, refused, good, number_of, ◌>>=◌, ◌>>◌, refuse◌when◌}
use Rattle.records.specs.Objects.{repeats, ticks}
use Rattle.play_state.specs.Play.{flags_bad}
use Rattle.records.specs.Records.{circle_of, nested_of, slider_of, spinner_of, object_of}
use Rattle.records.specs.declared.beatmap.Settings.{Settings}
use Rattle.play_state.specs.declared.OsuScoreOrigin.TheVariants.{Stable}
use Rattle.play_state.specs.declared.Play.{Play}
use Rattle.simulator.specs.Nested.{spinner_score_of}
use Rattle.simulator.specs.Attributes.{difficulty_attributes_of, score_attributes_of}
use Rattle.play_score.specs.PlayRules.{mods_bad, hits_exceed, exceeds, play_score}
use Rattle.entries.specs.Entry.{total, entry_of, joined, in_limits, checked}
use Rattle.entries.specs.Words.{entry_at}
use Rattle.entries.specs.Scores.{unsound}
use Rattle.tree.specs.Size.{levels_from, levels_of}
use Rattle.tree.specs.Limited.{limited, after_of}
use Rattle.tree.specs.Put.{above_of, climbed}
use Rattle.tree.specs.First.{walked}
use Rattle.board.specs.Place.{room_for, put_place}
use Rattle.board.specs.Edit.{object_in, edit_of}
use Rattle.board.specs.Search.{starts_in, found_of}
use Rattle.board.specs.Read.{settings_bad, times_bad, arguments_bad, attributes_from, score_from, read_of}

-- the number of a call, and 0 for one that passes
abbrev number : {A : Type 0} → Checked A → ℕ
number (refused n) = number_of n
number (good a) = 0

-- ---- an edit's record. A float is given by its bits
abbrev not_a_number : ℕ
not_a_number = 0x7ff8_0000_0000_0000

abbrev thousand : ℕ
thousand = 0x408f_4000_0000_0000

abbrev circle : ℕ → List ℕ
circle start = 0x43 ∷ 0x49 ∷ bytes_of 8 start

abbrev slider : ℕ → ℕ → List ℕ → List ℕ
slider start count items = 0x53 ∷ 0x4c ∷ bytes_of 8 start ++ bytes_of 2 count ++ items

abbrev spinner : ℕ → ℕ → List ℕ
spinner start duration = 0x53 ∷ 0x50 ∷ bytes_of 8 start ++ bytes_of 8 duration

records : List (List ℕ × ℕ)
records =
    (circle 0, 0)
    ∷ (slider 0 1 (2 ∷ []), 0)
    ∷ (spinner 0 thousand, 0)
    -- "3: .. or the input is empty"; "2: .. or one byte is left for a mark"
    ∷ ([], 3)
    ∷ (0 ∷ [], 2)
    -- MH, BR and PL, and no mark: 3, also before the 2 of a record without its last byte
    ∷ (0x4d ∷ 0x48 ∷ replicate 12 0, 3)
    ∷ (0x42 ∷ 0x52 ∷ replicate 16 0, 3)
    ∷ (0x50 ∷ 0x4c ∷ replicate 42 0, 3)
    ∷ (0 ∷ 0 ∷ replicate 8 0, 3)
    ∷ (0x42 ∷ 0x52 ∷ replicate 15 0, 3)
    -- each record without its last byte
    ∷ (take 9 (circle 0), 2)
    ∷ (slider 0 1 [], 2)
    ∷ (take 17 (spinner 0 thousand), 2)
    -- "in an edit also, checked last, if bytes follow the object's record": 3, and behind 4, 5 and 6
    ∷ (circle 0 ++ 0 ∷ [], 3)
    ∷ (slider 0 1 (2 ∷ 2 ∷ []), 3)
    ∷ (spinner 0 thousand ++ 0 ∷ [], 3)
    ∷ (circle not_a_number ++ 0 ∷ [], 4)
    ∷ (slider 0 2 (2 ∷ 2 ∷ 0 ∷ []), 5)
    ∷ (slider 0 1001 (replicate 1000 0 ++ 2 ∷ 0 ∷ []), 6)
    -- "6: .. more than 1,000 nested items", before the 2 of the list
    ∷ (slider 0 1001 [], 6)
    ∷ []

record_numbers : map (λ (r : List ℕ × ℕ). number (object_in r.0)) records ≡ map (λ (r : List ℕ × ℕ). r.1) records
unfolding records object_in object_of circle_of slider_of spinner_of nested_of word_at bytes_of ◌>>=◌ ◌>>◌ refuse◌when◌ of_bits le lt eq neg
record_numbers = refl

-- ---- lent memory, by document 01's words: "q objects, k combo gain, s, f, accuracy, legacy bonus, standardised bonus, circles, sliders, spinners,
-- repeats, ticks, spinner nested score"
abbrev none : List ℕ
none = replicate 13 0

abbrev one_circle : List ℕ
one_circle = 1 ∷ 1 ∷ 0 ∷ 1 ∷ 300 ∷ 0 ∷ 0 ∷ 1 ∷ 0 ∷ 0 ∷ 0 ∷ 0 ∷ 0 ∷ []

-- objects, and a legacy bonus, alone
abbrev objects : ℕ → ℕ → List ℕ
objects n legacy = n ∷ n ∷ 0 ∷ 0 ∷ 0 ∷ legacy ∷ 0 ∷ 0 ∷ 0 ∷ 0 ∷ 0 ∷ 0 ∷ 0 ∷ []

-- "Limits: q, circles, sliders, spinners 8,192; k, repeats, ticks 8,200,192; s 137,438,953,472; f 1; the others 2,147,483,647"
abbrev most : List ℕ
most =
    8192 ∷ 8200192 ∷ 137438953472 ∷ 1 ∷ 2147483647 ∷ 2147483647 ∷ 2147483647 ∷ 8192 ∷ 8192 ∷ 8192 ∷ 8200192 ∷ 8200192 ∷ 2147483647 ∷ []

-- the boards of one, two and four places: entry 0, then the others
abbrev one : List ℕ → List ℕ
one e1 = none ++ e1

abbrev two : List ℕ → List ℕ → List ℕ
two e2 e3 = none ++ none ++ e2 ++ e3

abbrev four : List ℕ → List ℕ → List ℕ → List ℕ
four e2 e3 e5 = none ++ none ++ e2 ++ e3 ++ none ++ e5 ++ none ++ none

-- n starts at 0, and one that is a NaN
abbrev starts : ℕ → List Float
starts n = replicate n (of_bits binary64 0)

abbrev bad_start : List Float
bad_start = of_bits binary64 not_a_number ∷ []

-- ---- edits: "Other calls on a board check 6, 11 and 12 first, then their arguments (an edit its record ..), then 13 and 7 entry by entry as read"
abbrev Edit : Type 0
Edit = List ℕ × List Float × ℕ × ℕ × List ℕ × ℕ

-- the board, the starts, the object count, the place, the record, and the number
edits : List Edit
edits =
    -- 6 before 11, and an object fewer
    ([], [], 8193, 0, circle 0, 6)
    ∷ ([], [], 8192, 0, circle 0, 11)
    -- "11: the board has fewer than 26 × C words, or the start table fewer numbers than objects": C is 1, 1, 2 and 4
    ∷ (one one_circle, starts 1, 1, 0, circle 0, 0)
    ∷ (take 25 (one one_circle), starts 1, 1, 0, circle 0, 11)
    ∷ (one one_circle, [], 1, 0, circle 0, 11)
    ∷ (take 25 (one none), [], 0, 0, circle 0, 11)
    ∷ (take 51 (two none none), starts 2, 2, 0, circle 0, 11)
    ∷ (take 103 (four none none none), starts 3, 3, 0, circle 0, 11)
    ∷ (four none none none, starts 3, 3, 2, circle 0, 0)
    -- 11 before 12
    ∷ (take 25 (one one_circle), starts 1, 1, 1, circle 0, 11)
    ∷ (one one_circle, [], 1, 1, circle 0, 11)
    -- "12: an edited place is not below the object count", also with no object; 12 before 3
    ∷ (one one_circle, starts 1, 1, 1, circle 0, 12)
    ∷ (one none, [], 0, 0, circle 0, 12)
    ∷ (one one_circle, starts 1, 1, 1, [], 12)
    -- "13: a board word .. that the call reads is outside its limits": the other half; the record's 3 and 4 come before it
    ∷ (two none (objects 8193 0), starts 2, 2, 0, circle 0, 13)
    ∷ (two (objects 8193 0) none, starts 2, 2, 1, circle 0, 13)
    ∷ (two none (objects 8193 0), starts 2, 2, 0, circle 0 ++ 0 ∷ [], 3)
    ∷ (two none (objects 8193 0), starts 2, 2, 0, circle not_a_number, 4)
    -- the replaced entry and the starts are not read
    ∷ (two (objects 8193 0) none, bad_start ++ bad_start, 2, 0, circle 0, 0)
    -- "a combined word is above its limit"
    ∷ (two none (objects 8191 0), starts 2, 2, 0, circle 0, 0)
    ∷ (two none (objects 8192 0), starts 2, 2, 0, circle 0, 13)
    -- "a legacy sum above it is 7": a spinner of 1,000 has 4,700; 13 of the same entry comes first
    ∷ (two none (objects 1 (2147483647 - 4700)), starts 2, 2, 0, spinner 0 thousand, 0)
    ∷ (two none (objects 1 (2147483647 - 4699)), starts 2, 2, 0, spinner 0 thousand, 7)
    ∷ (two none (objects 1 2147483648), starts 2, 2, 0, spinner 0 thousand, 13)
    ∷ (two none (objects 8192 2147483647), starts 2, 2, 0, spinner 0 thousand, 13)
    -- "entry by entry as read", "from the bottom up": 7 at entry 5 before 13 at entry 3, and 13 before 7
    ∷ (four none (objects 8193 0) (objects 1 2147483647), starts 4, 4, 0, spinner 0 thousand, 7)
    ∷ (four none (objects 1 2147483647) (objects 8193 0), starts 4, 4, 0, spinner 0 thousand, 13)
    ∷ []

edit_numbers : map (λ (r : Edit). number (edit_of r.0 r.1 r.2 r.3 r.4)) edits ≡ map (λ (r : Edit). r.5) edits
unfolding edits edit_of room_for levels_of levels_from object_in object_of circle_of slider_of spinner_of nested_of put_place climbed above_of checked limited in_limits joined entry_at entry_of total repeats ticks legacy_of standardised_of spinner_score_of turned total_half_spins required_half_spins word_at bytes_of ◌>>=◌ ◌>>◌ refuse◌when◌ of_bits of_int round to_unsigned mul div le lt eq neg
edit_numbers = refl

-- ---- reads: "then their arguments (.. a read its settings and breaks, starts and ends in turn, an odd count 4, then 8), then 13 and 7 entry by
-- entry as read, and a read at last 9 ..": document 02, §3 took 10 away
abbrev Read : Type 0
Read = List ℕ × List Float × ℕ × Settings × List Float × Play × ℕ

abbrev settings : ℕ → ℕ → ℕ → Settings
settings hp od cs = record { hp = of_bits binary32 hp; od = of_bits binary32 od; cs = of_bits binary32 cs }

abbrev fine : Settings
fine = settings 0 0 0

abbrev bad : Settings
bad = settings 0x4140_0001 0 0

abbrev time : ℕ → Float
time = of_bits binary64

-- passed objects, 300s, flags, the bits of the clock rate; a score of 0 is there, so that an estimate is due
abbrev modded : ℕ → ℕ → ℕ → ℕ → Play
modded passed n300 flags rate = record {
  passed_objects = passed;
  max_combo = 0;
  hitresults = record { n300 = n300; n100 = 0; n50 = 0; misses = 0; large_tick_hits = 0; small_tick_hits = 0; slider_end_hits = 0 };
  origin = Stable;
  legacy_total_score = Some 0;
  mods = record { flags = flags; clock_rate = of_bits binary64 rate };
}

abbrev play : ℕ → ℕ → Play
play passed n300 = modded passed n300 0 0x3ff0_0000_0000_0000

abbrev flagged : Play
flagged = modded 1 1 512 0x3ff0_0000_0000_0000

-- the board, the starts, the object count, the settings, the break numbers, the play, and the number
reads : List Read
reads =
    (one one_circle, starts 1, 1, fine, [], play 1 1, 0)
    -- 6 before 11: an 8,193rd object, and a 129th break that has begun; one fewer
    ∷ ([], [], 8193, fine, [], play 1 1, 6)
    ∷ ([], [], 1, fine, starts 257, play 1 1, 6)
    ∷ ([], [], 8192, fine, starts 256, play 1 1, 11)
    ∷ (one one_circle, starts 1, 1, fine, starts 256, play 1 1, 0)
    -- 11 before 4
    ∷ (take 25 (one one_circle), starts 1, 1, bad, [], play 1 1, 11)
    ∷ (one one_circle, [], 1, bad, [], play 1 1, 11)
    -- 4: each setting, a start, an end, and an odd count
    ∷ (one one_circle, starts 1, 1, settings 0x4140_0001 0 0, [], play 1 1, 4)
    ∷ (one one_circle, starts 1, 1, settings 0 0x4140_0001 0, [], play 1 1, 4)
    ∷ (one one_circle, starts 1, 1, settings 0 0 0x4140_0001, [], play 1 1, 4)
    ∷ (one one_circle, starts 1, 1, settings 0x4140_0000 0x4140_0000 0x8000_0000, [], play 1 1, 0)
    ∷ (one one_circle, starts 1, 1, fine, time 0x415e_8480_0000_0000 ∷ time 0xc15e_8480_0000_0000 ∷ [], play 1 1, 0)
    ∷ (one one_circle, starts 1, 1, fine, time 0x415e_8480_0000_0001 ∷ time 0 ∷ [], play 1 1, 4)
    ∷ (one one_circle, starts 1, 1, fine, time 0 ∷ time 0xc15e_8480_0000_0001 ∷ [], play 1 1, 4)
    ∷ (one one_circle, starts 1, 1, fine, starts 1, play 1 1, 4)
    ∷ (one one_circle, starts 1, 1, fine, starts 255, play 1 1, 4)
    -- 4 before 8
    ∷ (one one_circle, starts 1, 1, bad, [], flagged, 4)
    ∷ (one one_circle, starts 1, 1, fine, starts 1, flagged, 4)
    -- 8: flags, and a rate of 0; 8 before 13, of an entry and of a start, and before 9
    ∷ (one one_circle, starts 1, 1, fine, [], flagged, 8)
    ∷ (one one_circle, starts 1, 1, fine, [], modded 1 1 0 0, 8)
    ∷ (one (objects 8193 0), starts 1, 1, fine, [], flagged, 8)
    ∷ (one one_circle, bad_start, 1, fine, [], flagged, 8)
    ∷ (one one_circle, starts 1, 1, fine, [], modded 1 2 512 0, 8)
    -- 13: each word of an entry at its limit and above it
    ∷ (one most, starts 1, 1, fine, [], play 1 0, 0)
    ∷ (one (set most 0 8193), starts 1, 1, fine, [], play 1 0, 13)
    ∷ (one (set most 1 8200193), starts 1, 1, fine, [], play 1 0, 13)
    ∷ (one (set most 2 137438953473), starts 1, 1, fine, [], play 1 0, 13)
    ∷ (one (set most 3 2), starts 1, 1, fine, [], play 1 0, 13)
    ∷ (one (set most 4 2147483648), starts 1, 1, fine, [], play 1 0, 13)
    ∷ (one (set most 5 2147483648), starts 1, 1, fine, [], play 1 0, 13)
    ∷ (one (set most 6 2147483648), starts 1, 1, fine, [], play 1 0, 13)
    ∷ (one (set most 7 8193), starts 1, 1, fine, [], play 1 0, 13)
    ∷ (one (set most 8 8193), starts 1, 1, fine, [], play 1 0, 13)
    ∷ (one (set most 9 8193), starts 1, 1, fine, [], play 1 0, 13)
    ∷ (one (set most 10 8200193), starts 1, 1, fine, [], play 1 0, 13)
    ∷ (one (set most 11 8200193), starts 1, 1, fine, [], play 1 0, 13)
    ∷ (one (set most 12 2147483648), starts 1, 1, fine, [], play 1 0, 13)
    -- "13: .. a read's combined k is below 2 × sliders or its s + f below q": k of 1 slider is 2, s + f of 1 object is 1
    ∷ (one (1 ∷ 2 ∷ 2 ∷ 0 ∷ 390 ∷ 0 ∷ 0 ∷ 0 ∷ 1 ∷ 0 ∷ 0 ∷ 0 ∷ 0 ∷ []), starts 1, 1, fine, [], play 1 1, 0)
    ∷ (one (1 ∷ 1 ∷ 2 ∷ 0 ∷ 390 ∷ 0 ∷ 0 ∷ 0 ∷ 1 ∷ 0 ∷ 0 ∷ 0 ∷ 0 ∷ []), starts 1, 1, fine, [], play 1 1, 13)
    ∷ (one (set one_circle 3 0), starts 1, 1, fine, [], play 1 1, 13)
    -- 13: the start of the first object, also where none is passed; then no entry is read
    ∷ (one one_circle, bad_start, 1, fine, [], play 0 0, 13)
    ∷ (one (objects 8193 0), starts 1, 1, fine, [], play 0 0, 0)
    ∷ (one one_circle, bad_start, 1, fine, [], play 1 1, 13)
    ∷ (four none none none, bad_start ++ starts 2, 3, fine, [], play 2 0, 13)
    -- and of the last passed one, no other
    ∷ (four none none none, starts 1 ++ bad_start ++ starts 1, 3, fine, [], play 1 0, 0)
    ∷ (four none none none, starts 1 ++ bad_start ++ starts 1, 3, fine, [], play 2 0, 13)
    ∷ (four none none none, starts 1 ++ bad_start ++ starts 1, 3, fine, [], play 3 0, 0)
    -- with no object none is read
    ∷ (one none, [], 0, fine, [], play 0 0, 0)
    -- "reads the largest entries that together cover just the first p places": of 4 places entry 4 alone; entry 2 alone; entries 2 and 6, also
    -- where 4 of 3 are passed; entry 1
    ∷ (four (objects 8193 0) none (objects 8193 0), starts 4, 4, fine, [], play 1 0, 0)
    ∷ (four (objects 8193 0) none none, starts 4, 4, fine, [], play 2 0, 13)
    ∷ (four none (objects 8193 0) (objects 8193 0), starts 4, 4, fine, [], play 2 0, 0)
    ∷ (set (four none none none) (1 * 13) 8193, starts 3, 3, fine, [], play 3 0, 0)
    ∷ (set (four none none none) (1 * 13) 8193, starts 3, 3, fine, [], play 4 0, 0)
    ∷ (set (four none none none) (6 * 13) 8193, starts 3, 3, fine, [], play 3 0, 13)
    ∷ (set (four none none none) (1 * 13) 8193, starts 4, 4, fine, [], play 4 0, 13)
    -- "a legacy sum above it is 7": of entries 2 and 6; before the 13 of a start, and behind that of entry 2
    ∷ (set (four (objects 0 2147483646) none none) (6 * 13 + 5) 1, starts 3, 3, fine, [], play 3 0, 0)
    ∷ (set (four (objects 0 2147483647) none none) (6 * 13 + 5) 1, starts 3, 3, fine, [], play 3 0, 7)
    ∷ (set (four (objects 0 2147483647) none none) (6 * 13 + 5) 1, bad_start ++ starts 2, 3, fine, [], play 3 0, 7)
    ∷ (set (four (objects 8193 2147483647) none none) (6 * 13 + 5) 1, starts 3, 3, fine, [], play 3 0, 13)
    -- 13 before 9
    ∷ (one one_circle, bad_start, 1, fine, [], play 1 2, 13)
    ∷ (one one_circle, starts 1, 1, fine, [], play 1 2, 9)
    -- and no combo within the limit of its word is refused
    ∷ (one (set one_circle 1 46342), starts 1, 1, fine, [], play 1 2, 9)
    ∷ (one (set one_circle 1 46342), starts 1, 1, fine, [], play 1 1, 0)
    ∷ (one (set one_circle 1 8200192), starts 1, 1, fine, [], play 1 1, 0)
    ∷ []

read_numbers : map (λ (r : Read). number (read_of r.0 r.1 r.2 r.3 r.4 r.5)) reads ≡ map (λ (r : Read). r.6) reads
unfolding reads read_of room_for levels_of levels_from arguments_bad settings_bad times_bad mods_bad flags_bad score_from found_of walked after_of checked limited in_limits joined entry_at starts_in unsound attributes_from score_attributes_of difficulty_attributes_of play_score exceeds hits_exceed ◌>>=◌ ◌>>◌ refuse◌when◌ of_bits le lt eq neg
read_numbers = refl
