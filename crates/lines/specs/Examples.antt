-- The lines that document 01 shows, each computed, and a refusal.
use Rattle.rules.specs.Refusals.{refusal_at, PLAY_FIELD}
use Rattle.std.specs.Prelude.{◌≡◌, refl, Some, None}
use Rattle.std.specs.Float.{binary64, nan}
use Rattle.std.specs.Float.Ieee.{of_bits, of_int, round, to_bits, is_nan}
use Rattle.numbers.specs.Floats.{whole}
use Rattle.simulator.specs.declared.attributes.ScoreAttributes.{ScoreAttributes}
use Rattle.text.specs.Ascii.{ascii}
use Rattle.text.specs.Numbers.{decimal_up_to, decimal_of, hex_of, float_text}
use Rattle.lines.specs.Lines.{number_field, float_field, score_based_field, map_line, play_line, refused_line}

shown : ScoreAttributes
shown = record {
  object_count = 3;
  multiplier = 2;
  standardised_bonus_score = record { 0 = 0 };
  legacy = record {
    accuracy_score = 1010;
    combo_score = 240;
    bonus_score_ratio = whole 0;
    bonus_score = record { 0 = 0 };
    max_combo = 7;
  };
  difficulty = record {
    max_combo = 7;
    n_circles = 2;
    n_sliders = 1;
    n_spinners = 0;
    n_repeats = 1;
    n_ticks = 2;
    nested_score_per_object = of_bits binary64 0x4042_5555_5555_5555;
    legacy_score_base_multiplier = whole 2;
    maximum_legacy_combo_score = whole 240;
  };
}

map_line_lem : map_line shown ≡ ascii "map 3 2 1010 240 0000000000000000 0 7 4042555555555555\n"
unfolding shown map_line number_field float_field decimal_of decimal_up_to float_text hex_of is_nan of_bits of_int round to_bits
map_line_lem = refl

play_line_lem : play_line 0 (record { accuracy = whole 1; combo_based = whole 0; score_based = Some (whole 0); effective = whole 0 })
    ≡ ascii "play 0 3ff0000000000000 0000000000000000 0000000000000000 0000000000000000\n"
unfolding play_line number_field float_field score_based_field decimal_of decimal_up_to float_text hex_of is_nan of_int round to_bits
play_line_lem = refl

-- no score-based estimate, and a NaN
absent : play_line 12 (record { accuracy = whole 1; combo_based = whole 0; score_based = None; effective = nan })
    ≡ ascii "play 12 3ff0000000000000 0000000000000000 - nan\n"
unfolding play_line number_field float_field score_based_field decimal_of decimal_up_to float_text hex_of is_nan of_int round to_bits
absent = refl

refused_line_lem : refused_line (refusal_at PLAY_FIELD 44) ≡ ascii "refused 8 at 44\n"
unfolding refused_line number_field decimal_of decimal_up_to
refused_line_lem = refl
