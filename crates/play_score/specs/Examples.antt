-- Document 01, "What a caller gets" and "A play exceeds its map if ..", computed: 8 and 9 of a play at the edge of each rule, and which of two faults
-- is told.
use Rattle.std.specs.Prelude.{ℕ, ◌≡◌, refl, List, [], ◌∷◌, map, Option, Some, None}
use Rattle.std.specs.Float.{binary64}
use Rattle.std.specs.Float.Ieee.{of_bits, lt, le, eq}
use Rattle.rules.specs.Refusals.{Checked, refused, good, number_of, ◌>>=◌, ◌>>◌, refuse◌when◌}
use Rattle.play_state.specs.Play.{flags_bad}
use Rattle.play_state.specs.declared.OsuHitResults.{OsuHitResults}
use Rattle.play_state.specs.declared.OsuScoreOrigin.{OsuScoreOrigin}
use Rattle.play_state.specs.declared.OsuScoreOrigin.TheVariants.{Stable, WithSliderAcc, WithoutSliderAcc}
use Rattle.play_state.specs.declared.Play.{Play}
use Rattle.simulator.specs.declared.attributes.ScoreAttributes.{ScoreAttributes}
use Rattle.play_score.specs.PlayRules.{mods_bad, hits_exceed, exceeds, play_score, given_score}
use Rattle.play_score.specs.declared.PlayScore.{PlayScore}

-- four passed objects and their max combo: 2 circles, 2 sliders, which have 1 repeat and 3 ticks. The scores are in no rule
abbrev passed : ℕ → ScoreAttributes
passed combo = record {
  object_count = 4;
  multiplier = 0;
  standardised_bonus_score = record { 0 = 0 };
  legacy = record { accuracy_score = 0; combo_score = 0; bonus_score_ratio = of_bits binary64 0; bonus_score = record { 0 = 0 }; max_combo = combo };
  difficulty = record {
    max_combo = combo;
    n_circles = 2;
    n_sliders = 2;
    n_spinners = 0;
    n_repeats = 1;
    n_ticks = 3;
    nested_score_per_object = of_bits binary64 0;
    legacy_score_base_multiplier = of_bits binary64 0;
    maximum_legacy_combo_score = of_bits binary64 0;
  };
}

-- n300, n100, n50 and misses
abbrev judged : ℕ → ℕ → ℕ → ℕ → OsuHitResults
judged a b c d = record { n300 = a; n100 = b; n50 = c; misses = d; large_tick_hits = 0; small_tick_hits = 0; slider_end_hits = 0 }

-- four 300s, with large tick, small tick and slider end hits
abbrev hit : ℕ → ℕ → ℕ → OsuHitResults
hit large small ends = record { n300 = 4; n100 = 0; n50 = 0; misses = 0; large_tick_hits = large; small_tick_hits = small; slider_end_hits = ends }

-- flags, the bits of the clock rate, max combo, ..
abbrev modded : ℕ → ℕ → ℕ → OsuHitResults → OsuScoreOrigin → Option ℕ → Play
modded flags rate combo hits origin score = record {
  passed_objects = 4;
  max_combo = combo;
  hitresults = hits;
  origin = origin;
  legacy_total_score = score;
  mods = record { flags = flags; clock_rate = of_bits binary64 rate };
}

abbrev one : ℕ
one = 0x3ff0_0000_0000_0000

-- with no flag, at rate 1
abbrev play : ℕ → OsuHitResults → OsuScoreOrigin → Option ℕ → Play
play = modded 0 one

-- the number of a play, and 0 for one that has a score
abbrev number : Checked PlayScore → ℕ
number (refused n) = number_of n
number (good s) = 0

abbrev Row : Type 0
Row = Play × ScoreAttributes × ℕ

plays : List Row
plays =
    -- "A play exceeds its map if its four judgements sum to more than the passed objects": 4, and 5 by each of them
    (play 10 (judged 1 1 1 1) Stable None, passed 10, 0)
    ∷ (play 10 (judged 2 1 1 1) Stable None, passed 10, 9)
    ∷ (play 10 (judged 1 2 1 1) Stable None, passed 10, 9)
    ∷ (play 10 (judged 1 1 2 1) Stable None, passed 10, 9)
    ∷ (play 10 (judged 1 1 1 2) Stable None, passed 10, 9)
    -- ", its max combo is above theirs", also with no judgement
    ∷ (play 11 (judged 1 1 1 1) Stable None, passed 10, 9)
    ∷ (play 10 (judged 0 0 0 0) Stable None, passed 10, 0)
    ∷ (play 11 (judged 0 0 0 0) Stable None, passed 10, 9)
    -- ", or, for origin 1 only, slider end hits exceed sliders": 2 of 2, and 3
    ∷ (play 10 (hit 0 0 2) WithSliderAcc None, passed 10, 0)
    ∷ (play 10 (hit 0 0 3) WithSliderAcc None, passed 10, 9)
    -- "or large tick hits exceed ticks plus repeats": 4 of 3 + 1, and 5
    ∷ (play 10 (hit 4 0 0) WithSliderAcc None, passed 10, 0)
    ∷ (play 10 (hit 5 0 0) WithSliderAcc None, passed 10, 9)
    -- small tick hits, and hits of the other origins, are in no rule
    ∷ (play 10 (hit 4 9 2) WithSliderAcc None, passed 10, 0)
    ∷ (play 10 (hit 5 9 3) Stable None, passed 10, 0)
    ∷ (play 10 (hit 5 9 3) WithoutSliderAcc None, passed 10, 0)
    -- document 02, §3: no combo of the passed objects is refused, with an estimate due by each judgement and origin or without one
    ∷ (play 1 (judged 1 0 0 0) Stable (Some 0), passed 46341, 0)
    ∷ (play 1 (judged 1 0 0 0) Stable (Some 0), passed 46342, 0)
    ∷ (play 1 (judged 0 1 0 0) Stable (Some 0), passed 46342, 0)
    ∷ (play 1 (judged 0 0 1 0) Stable (Some 0), passed 46342, 0)
    ∷ (play 0 (judged 0 0 0 1) Stable (Some 0), passed 46342, 0)
    ∷ (play 1 (judged 1 0 0 0) WithoutSliderAcc (Some 0), passed 46342, 0)
    ∷ (play 1 (judged 1 0 0 0) WithSliderAcc (Some 0), passed 46342, 0)
    ∷ (play 1 (judged 1 0 0 0) Stable None, passed 46342, 0)
    ∷ (play 8200192 (judged 4 0 0 0) Stable (Some 0), passed 8200192, 0)
    -- .. but 9 is as it was: five judgements, and a combo above that of the objects
    ∷ (play 1 (judged 5 0 0 0) Stable (Some 0), passed 46342, 9)
    ∷ (play 46343 (judged 1 0 0 0) Stable (Some 0), passed 46342, 9)
    ∷ (play 8200193 (judged 4 0 0 0) Stable (Some 0), passed 8200192, 9)
    ∷ []

play_numbers : map (λ (r : Row). number (play_score r.0 r.1)) plays ≡ map (λ (r : Row). r.2) plays
unfolding plays play_score exceeds hits_exceed ◌>>=◌ ◌>>◌ refuse◌when◌
play_numbers = refl

-- a play that is given beside the file: "fixed fields in layout order (4 or 8 ..) ..; a play then 9 .."
givens : List Row
givens =
    (modded 511 0x4059_0000_0000_0000 10 (judged 1 1 1 1) Stable None, passed 10, 0)
    ∷ (play 11 (judged 1 1 1 1) Stable None, passed 10, 9)
    ∷ (play 1 (judged 1 0 0 0) Stable (Some 0), passed 46342, 0)
    -- 8 alone: by a flag, and by the rates 0, the next double above 100 and a NaN
    ∷ (modded 512 one 10 (judged 1 1 1 1) Stable None, passed 10, 8)
    ∷ (modded 0 0 10 (judged 1 1 1 1) Stable None, passed 10, 8)
    ∷ (modded 0 0x4059_0000_0000_0001 10 (judged 1 1 1 1) Stable None, passed 10, 8)
    ∷ (modded 0 0x7ff8_0000_0000_0000 10 (judged 1 1 1 1) Stable None, passed 10, 8)
    -- 8 before 9, and where neither the judgements nor the combo exceed the map
    ∷ (modded 512 one 11 (judged 1 1 1 1) Stable None, passed 10, 8)
    ∷ (modded 0 0 11 (judged 1 1 1 1) Stable None, passed 10, 8)
    ∷ (modded 512 one 1 (judged 1 0 0 0) Stable (Some 0), passed 46342, 8)
    ∷ (modded 0 0 1 (judged 1 0 0 0) Stable (Some 0), passed 46342, 8)
    ∷ []

given_numbers : map (λ (r : Row). number (given_score r.0 r.1)) givens ≡ map (λ (r : Row). r.2) givens
unfolding givens given_score mods_bad flags_bad play_score exceeds hits_exceed ◌>>=◌ ◌>>◌ refuse◌when◌ of_bits lt le eq
given_numbers = refl
