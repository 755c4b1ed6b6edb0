-- Document 01, "Runs to reproduce": the runs as one table, under one proof.
use Rattle.std.specs.Prelude.{◌≡◌, refl, List, [], ◌∷◌, map, flat_map, ℕ, ◌+◌, ◌*◌, ℤ, pos, length}
use Rattle.std.proofs.Common.{arith}
use Rattle.std.specs.Float.{binary64}
use Rattle.std.specs.Float.Ieee.{add, sub, mul, div, neg, lt, is_nan, of_int, to_bits, to_unsigned}
use Rattle.numbers.specs.Floats.{whole, ◌⊘◌}
use Rattle.numbers.specs.Rounding.{round_ties_even_i32}
use Rattle.spinner.specs.HalfSpins.{total_half_spins, required_half_spins}
use Rattle.records.specs.Objects.{tick, repeat, Kind, circle, slider, spinner, Object, repeats, ticks}
use Rattle.map_file.specs.File.{Map}
use Rattle.ruleset.specs.Drain.{breaks_length, drain_at}
use Rattle.ruleset.specs.Stars.{ratio_of, stars_of, multiplier_at}
use Rattle.simulator.specs.Hits.{half_spins, hits_of}
use Rattle.simulator.specs.Walk.{fresh, walk, after}
use Rattle.simulator.specs.Nested.{spinner_score_of, counted, counted_all, nested_score_of}
use Rattle.simulator.specs.Attributes.{bonus_ratio_of, legacy_attributes_of, difficulty_attributes_of, score_attributes_of, score_attributes_at}
use Rattle.miss_calc.specs.ScoreBased.{combo_product_of, combo_per_object_of}
use Rattle.entries.specs.Entry.{total, entry_of}
use Rattle.tree.specs.Size.{levels_from, levels_of}
use Rattle.tree.specs.Board.{covered, entry_in, board_entry}
use Rattle.numbers.specs.MinMax.{clamp_of, max_of}

-- what a run says of all objects of a map: drain, multiplier, accuracy, combo points, max combo, T and B of each spinner, legacy bonus,
-- standardised bonus, the bits of the ratio and of the nested score, and, where the run tells them, those of the combo per object and the words q,
-- k, s and f of the board's top entry
abbrev Says : Type 0
Says = ℤ × ℕ × ℕ × ℕ × ℕ × List (ℕ × ℕ) × ℕ × ℕ × ℕ × ℕ × List ℕ × List (ℕ × ℕ × ℕ × ℕ)

-- the settings, all three alike, the objects, and what is said of them
record Run : Type 0 where
  settings : ℕ
  objects : List Object
  says : Says

abbrev run : ℕ → List Object → Says → Run
run x os says = record { settings = x; objects = os; says = says }

abbrev at : ℕ → Kind → Object
at t k = record { start = whole t; kind = k }

abbrev three : List Object
three = at 0 circle ∷ at 5000 circle ∷ at 10000 circle ∷ []

abbrev mixed : List Object
mixed = at 0 circle ∷ at 5000 (slider (tick ∷ repeat ∷ tick ∷ [])) ∷ at 10000 circle ∷ []

table : List Run
table =
    -- (1) no objects: sums 0, nested nan
    run 5 [] (pos 0, 4, 0, 0, 0, [], 0, 0, 0, 0x7ff8_0000_0000_0000, [], [])
    -- (2) one circle: combo 1, accuracy 300, combo points 0
    ∷ run 5 (at 0 circle ∷ []) (pos 0, 4, 300, 0, 1, [], 0, 0, 0, 0, [], [])
    -- (3) two circles: combo points 0
    ∷ run 5 (at 0 circle ∷ at 10000 circle ∷ []) (pos 10, 2, 600, 0, 2, [], 0, 0, 0, 0, [], [])
    -- (4) circle, slider (tick, repeat, tick, tail), circle: accuracy 1010, combo 7, combo points 120 × multiplier
    ∷ run 5 mixed (pos 10, 2, 1010, 120 * 2, 7, [], 0, 0, 0, 0x4042_5555_5555_5555, [], [])
    -- (5) its top entry: q 3, k 7, s 12, f 1
    ∷ run 5 mixed (pos 10, 2, 1010, 120 * 2, 7, [], 0, 0, 0, 0x4042_5555_5555_5555, [], (3, 7, 12, 1) ∷ [])
    -- (6) spinner 0: bonus 0, ratio 0
    ∷ run 5 (at 0 (spinner (whole 0)) ∷ []) (pos 0, 4, 300, 0, 1, (0, 3) ∷ [], 0, 0, 0, 0, [], [])
    -- (7) spinner 1000: T 15, B 6, legacy 4700, standardised 230, nested 1700
    ∷ run 5 (at 0 (spinner (whole 1000)) ∷ [])
    (pos 0, 4, 300, 0, 1, (15, 6) ∷ [], 4700, 230, to_bits binary64 (whole 230 ⊘ whole 4700), to_bits binary64 (whole 1700), [], [])
    -- (8) spinner 1400: 8800, 460, 3100
    ∷ run 5 (at 0 (spinner (whole 1400)) ∷ [])
    (pos 0, 4, 300, 0, 1, (22, 7) ∷ [], 8800, 460, to_bits binary64 (whole 460 ⊘ whole 8800), to_bits binary64 (whole 3100), [], [])
    -- (9) settings 5, three objects, starts 0 to 10,000: multiplier 2
    ∷ run 5 three (pos 10, 2, 900, 12 * 2, 3, [], 0, 0, 0, 0, [], [])
    -- (10) settings 5, two objects starting 500 then 0: drain 0, multiplier 4
    ∷ run 5 (at 500 circle ∷ at 0 circle ∷ []) (pos 0, 4, 600, 0, 2, [], 0, 0, 0, 0, [], [])
    -- (11) settings 0, three circles 0, 5,000, 10,000: multiplier 0, combo per object 3
    ∷ run 0 three (pos 10, 0, 900, 0, 3, [], 0, 0, 0, 0, to_bits binary64 (whole 3) ∷ [], [])
    ∷ []

-- ---- the same by the definitions
abbrev spinner_turns : Kind → List (ℕ × ℕ)
spinner_turns circle = []
spinner_turns (slider is) = []
spinner_turns (spinner d) = (total_half_spins d, required_half_spins d + 3) ∷ []

abbrev turns : List Object → List (ℕ × ℕ)
turns = flat_map (λ (o : Object). spinner_turns o.kind)

abbrev map_of : Run → Map
map_of r = record {
  settings = record { hp = whole r.settings; od = whole r.settings; cs = whole r.settings };
  breaks = [];
  objects = r.objects;
}

-- the board's top entry
abbrev top_of : List Object → ℕ × ℕ × ℕ × ℕ
top_of os = let e = board_entry os 1 in (e.object_count, e.combo, e.combos_before, e.first_no_slider)

-- a value where the run tells it
abbrev told : {A : Type 0} → List A → A → List A
told [] x = []
told (y ∷ l) x = x ∷ []

abbrev worked : Run → Says
worked r =
    let n = length r.objects in
    let a = score_attributes_at (map_of r) n in (
      drain_at [] r.objects n,
      a.multiplier,
      a.legacy.accuracy_score,
      a.legacy.combo_score,
      a.legacy.max_combo,
      turns r.objects,
      a.legacy.bonus_score.0,
      a.standardised_bonus_score.0,
      to_bits binary64 a.legacy.bonus_score_ratio,
      to_bits binary64 a.difficulty.nested_score_per_object,
      told r.says.10 (to_bits binary64 (combo_per_object_of a.difficulty)),
      told r.says.11 (top_of r.objects),
    )

right : map worked table ≡ map (λ (r : Run). r.says) table
unfolding table total entry_of levels_from levels_of covered entry_in board_entry multiplier_at drain_at breaks_length stars_of ratio_of clamp_of round_ties_even_i32 total_half_spins required_half_spins half_spins hits_of walk after spinner_score_of counted counted_all repeats ticks nested_score_of bonus_ratio_of legacy_attributes_of difficulty_attributes_of score_attributes_of score_attributes_at combo_product_of combo_per_object_of max_of add sub mul div lt is_nan neg of_int to_bits to_unsigned
right = refl

-- (4) "combo points 120 × multiplier", whatever the multiplier
run_4 : (k : ℕ) → (after k fresh mixed).combo_score ≡ 120 * k
unfolding after walk hits_of
run_4 k = omega arith
