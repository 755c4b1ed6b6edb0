-- Document 01: the score attributes of a map's first p objects, and "a second struct carries the derived f64 attributes between simulator and
-- estimates".
use Rattle.std.specs.Prelude.{ℕ, eqb, take, ℤ, Float}
use Rattle.numbers.specs.Floats.{whole, ◌⊘◌}
use Rattle.rules.specs.Refusals.{pick}
use Rattle.map_file.specs.File.{Map}
use Rattle.records.specs.declared.beatmap.Settings.{Settings}
use Rattle.ruleset.specs.Stars.{multiplier_of, multiplier_at}
use Rattle.simulator.specs.Walk.{State, fresh, after}
use Rattle.simulator.specs.Combo.{largest_gain_of}
use Rattle.simulator.specs.View.{times}
use Rattle.simulator.specs.Nested.{no_object, counted_all, nested_score_of}
use Rattle.simulator.specs.declared.legacy_score.NestedScorePerObject.{NestedScorePerObject}
use Rattle.simulator.specs.declared.legacy_score_simulator.LegacyScoreAttributes.{LegacyScoreAttributes}
use Rattle.simulator.specs.declared.attributes.OsuDifficultyAttributes.{OsuDifficultyAttributes}
use Rattle.simulator.specs.declared.attributes.ScoreAttributes.{ScoreAttributes}
use Rattle.simulator.specs.declared.attributes.PassedValues.{PassedValues}

-- "The ratio is standardised / legacy, or 0 if legacy is 0"
unfoldable pub bonus_ratio_of : State → Float
bonus_ratio_of st =
    pick (eqb st.legacy_bonus_score.0 0) (whole 0) (whole st.standardised_bonus_score.0 ⊘ whole st.legacy_bonus_score.0)

unfoldable pub legacy_attributes_of : State → LegacyScoreAttributes
legacy_attributes_of st = record {
  accuracy_score = st.accuracy_score;
  combo_score = st.combo_score;
  bonus_score_ratio = bonus_ratio_of st;
  bonus_score = st.legacy_bonus_score;
  max_combo = st.combo;
}

-- "base multiplier and maximum combo score are the simulator's"
unfoldable pub difficulty_attributes_of : State → NestedScorePerObject → ℕ → OsuDifficultyAttributes
difficulty_attributes_of st c m = record {
  max_combo = st.combo;
  n_circles = c.n_circles;
  n_sliders = c.n_sliders;
  n_spinners = c.n_spinners;
  n_repeats = c.n_repeats;
  n_ticks = c.amount_of_small_ticks;
  nested_score_per_object = nested_score_of c;
  legacy_score_base_multiplier = whole m;
  maximum_legacy_combo_score = whole st.combo_score;
}

-- all of them, of n objects with the multiplier m
unfoldable pub score_attributes_of : State → NestedScorePerObject → ℕ → ScoreAttributes
score_attributes_of st c m = record {
  object_count = c.object_count;
  multiplier = m;
  standardised_bonus_score = st.standardised_bonus_score;
  legacy = legacy_attributes_of st;
  difficulty = difficulty_attributes_of st c m;
}

-- with the multiplier of settings, of the objects that are counted and of a drain
abbrev pub score_attributes_with : Settings → ℤ → State → NestedScorePerObject → ScoreAttributes
score_attributes_with s drain st c = let m = multiplier_of s c.object_count drain in score_attributes_of (times m st) c m

-- "Attributes are those of the passed objects"
unfoldable pub score_attributes_at : Map → ℕ → ScoreAttributes
score_attributes_at m p =
    score_attributes_of (after (multiplier_at m p) fresh (take p m.objects)) (counted_all no_object (take p m.objects)) (multiplier_at m p)

-- document 02, §5: "the most combo that one passed object adds", beside the attributes
abbrev pub passed_values_at : Map → ℕ → PassedValues
passed_values_at m p = record { attributes = score_attributes_at m p; largest_gain = largest_gain_of (take p m.objects) }
