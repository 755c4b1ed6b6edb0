-- The limits of documents 01 and 02, each under one name: their rules, the board's words and the code's bounds cite them.
use Rattle.std.specs.Prelude.{ℕ, ◌+◌, ◌*◌}

-- "1: the program's input is above 65,536 bytes"
abbrev pub max_input : ℕ
max_input = 65536

-- "6: a 129th break, an 8,193rd object, or more than 1,000 nested items"
abbrev pub max_breaks : ℕ
max_breaks = 128

abbrev pub max_objects : ℕ
max_objects = 8192

abbrev pub max_nested : ℕ
max_nested = 1000

-- "7: the legacy bonus of all objects is above 2,147,483,647"
abbrev pub max_bonus : ℕ
max_bonus = 2147483647

-- the most combo that one object adds: a slider's head and its nested items
abbrev pub max_gain : ℕ
max_gain = max_nested + 1

-- "k, repeats, ticks 8,200,192": that of 8,192 objects
abbrev pub combo_limit : ℕ
combo_limit = max_objects * max_gain

-- "s 137,438,953,472"
abbrev pub max_combos_before : ℕ
max_combos_before = 137438953472

-- "C is the smallest power of two not below max(1, object count)": at most 2 ^ 13
abbrev pub max_levels : ℕ
max_levels = 13

-- document 02, §2: "A heat has up to 64 plays on one map"
abbrev pub max_plays : ℕ
max_plays = 64

-- ---- the bytes of a record, from its mark on; of a slider those before its nested items
abbrev pub mark_size : ℕ
mark_size = 2

abbrev pub header_size : ℕ
header_size = 14

abbrev pub break_size : ℕ
break_size = 18

abbrev pub circle_size : ℕ
circle_size = 10

abbrev pub slider_size : ℕ
slider_size = 12

abbrev pub spinner_size : ℕ
spinner_size = 18

abbrev pub play_size : ℕ
play_size = 44
