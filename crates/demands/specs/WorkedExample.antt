-- Document 01, "Runs to reproduce": the listing of its worked example, computed from the bytes of the file to the two lines that it prints.
use Rattle.std.specs.Prelude.{◌≡◌, refl, List, [], ◌∷◌, ◌++◌, ℕ}
use Rattle.std.specs.Float.Ieee.{add, sub, mul, div, neg, lt, le, eq, is_nan, of_int, of_bits, to_bits, to_unsigned, round}
use Rattle.text.specs.Ascii.{ascii}
use Rattle.numbers.specs.Bits.{parts_of}
use Rattle.numbers.specs.MinMax.{max_of, min_of, clamp_of}
use Rattle.numbers.specs.Rounding.{round_ties_even_i32}
use Rattle.numbers.specs.Words.{word_at, bytes_of}
use Rattle.square_root.specs.Roots.{root_digits, isqrt, rooted, root_of, power_of}
use Rattle.rules.specs.Refusals.{◌>>=◌, ◌>>◌, refuse◌when◌}
use Rattle.spinner.specs.Bonus.{half_spin_points, legacy_of, standardised_of}
use Rattle.spinner.specs.HalfSpins.{total_half_spins, required_half_spins}
use Rattle.play_state.specs.Play.{flag_at, flags_bad, hitresults_of}
use Rattle.records.specs.Objects.{repeats, ticks, bonus}
use Rattle.records.specs.Records.{header_of, break_of, circle_of, nested_of, slider_of, spinner_of, play_of, object_of}
use Rattle.map_file.specs.File.{counts_of, with_record, file_from, file_of}
use Rattle.map_file.specs.Order.{body_of, record_of}
use Rattle.ruleset.specs.Drain.{breaks_length, drain_at, breaks_of, breaks_from}
use Rattle.ruleset.specs.Stars.{ratio_of, stars_of, multiplier_at}
use Rattle.simulator.specs.Attributes.{bonus_ratio_of, legacy_attributes_of, difficulty_attributes_of, score_attributes_of, score_attributes_at}
use Rattle.simulator.specs.Hits.{half_spins, hits_of}
use Rattle.simulator.specs.Nested.{spinner_score_of, counted, counted_all, nested_score_of}
use Rattle.simulator.specs.Walk.{walk, after}
use Rattle.miss_calc.specs.Multiplier.{times_if, score_multiplier_of}
use Rattle.miss_calc.specs.ScoreBased.{combo_portion_of, score_at_combo_of, combo_product_of, combo_per_object_of, broken_miss_count_of, maximum_miss_count_of, miss_count_of, score_based_of}
use Rattle.miss_calc.specs.Threshold.{threshold_of, capped_of}
use Rattle.estimates.specs.Accuracy.{abs_of, quotient_of, weighted, heaviest, with_slider_acc, without_slider_acc, accuracy_of}
use Rattle.estimates.specs.ComboBased.{broken_of, classic_of, lazer_of, combo_based_of}
use Rattle.estimates.specs.Effective.{score_based_for, held_of, effective_of, estimates_of}
use Rattle.play_score.specs.PlayRules.{mods_bad, hits_exceed, exceeds, play_score, given_score}
use Rattle.scoring.specs.Scores.{play_scores}
use Rattle.text.specs.Numbers.{decimal_up_to, decimal_of, value_from, hex_of, float_text}
use Rattle.text.specs.Space.{put_at, behind}
use Rattle.lines.specs.Lines.{number_field, float_field, score_based_field, map_line, play_line, refused_line}
use Rattle.listing.specs.Listing.{play_lines, file_text, input_text}

-- settings 5
header : List ℕ
header = 0x4d ∷ 0x48 ∷ 0 ∷ 0 ∷ 0xa0 ∷ 0x40 ∷ 0 ∷ 0 ∷ 0xa0 ∷ 0x40 ∷ 0 ∷ 0 ∷ 0xa0 ∷ 0x40 ∷ []

-- a circle at 0
circle : List ℕ
circle = 0x43 ∷ 0x49 ∷ 0 ∷ 0 ∷ 0 ∷ 0 ∷ 0 ∷ 0 ∷ 0 ∷ 0 ∷ []

-- a slider at 5,000: tick, repeat, tick, tail
slider : List ℕ
slider = 0x53 ∷ 0x4c ∷ 0 ∷ 0 ∷ 0 ∷ 0 ∷ 0 ∷ 0x88 ∷ 0xb3 ∷ 0x40 ∷ 0x04 ∷ 0 ∷ 0 ∷ 0x01 ∷ 0 ∷ 0x02 ∷ []

-- a circle at 10,000
last : List ℕ
last = 0x43 ∷ 0x49 ∷ 0 ∷ 0 ∷ 0 ∷ 0 ∷ 0 ∷ 0x88 ∷ 0xc3 ∷ 0x40 ∷ []

-- a play: passed 3, combo 7, n300 3, origin 0, score 1250, flags 0, rate 1
play : List ℕ
play = 0x50 ∷ 0x4c ∷ 0x03 ∷ 0 ∷ 0x07 ∷ 0 ∷ 0 ∷ 0 ∷ 0x03 ∷ 0 ∷ 0 ∷ 0 ∷ 0 ∷ 0 ∷ 0 ∷ 0 ∷ 0 ∷ 0 ∷ 0 ∷ 0 ∷ 0 ∷ 0 ∷ 0 ∷ 0 ∷ 0 ∷ 0 ∷ 0 ∷ 0 ∷ 0 ∷ 0x01 ∷ 0xe2 ∷ 0x04 ∷ 0 ∷ 0 ∷ 0 ∷ 0 ∷ 0 ∷ 0 ∷ 0 ∷ 0 ∷ 0 ∷ 0 ∷ 0xf0 ∷ 0x3f ∷ []

file : List ℕ
file = header ++ circle ++ slider ++ last ++ play

lists : input_text file
    ≡ ascii "map 3 2 1010 240 0000000000000000 0 7 4042555555555555\nplay 0 3ff0000000000000 0000000000000000 0000000000000000 0000000000000000\n"
unfolding file header circle slider last play parts_of max_of min_of clamp_of round_ties_even_i32 word_at bytes_of root_digits isqrt rooted root_of power_of ◌>>=◌ ◌>>◌ refuse◌when◌ half_spin_points legacy_of standardised_of total_half_spins required_half_spins flag_at flags_bad hitresults_of repeats ticks bonus header_of break_of circle_of nested_of slider_of spinner_of play_of object_of counts_of with_record file_from file_of body_of record_of breaks_length drain_at breaks_of breaks_from ratio_of stars_of multiplier_at bonus_ratio_of legacy_attributes_of difficulty_attributes_of score_attributes_of score_attributes_at half_spins hits_of spinner_score_of counted counted_all nested_score_of walk after times_if score_multiplier_of combo_portion_of score_at_combo_of combo_product_of combo_per_object_of broken_miss_count_of maximum_miss_count_of miss_count_of score_based_of threshold_of capped_of abs_of quotient_of weighted heaviest with_slider_acc without_slider_acc accuracy_of broken_of classic_of lazer_of combo_based_of score_based_for held_of effective_of estimates_of mods_bad hits_exceed exceeds play_score given_score play_scores decimal_up_to decimal_of value_from hex_of float_text put_at behind number_field float_field score_based_field map_line play_line refused_line play_lines file_text input_text add sub mul div neg lt le eq is_nan of_int of_bits to_bits to_unsigned round
lists = refl
