-- The slider breaks of some plays, worked out by a second program in doubles; 14 at its edges, and which of two faults is told.
use Rattle.rules.specs.Refusals.{good, refused, refusal_at, number_of, PLAY_EXCEEDS, FACTOR}
use Rattle.std.specs.Prelude.{ℕ, true, false, ◌≡◌, refl, List, [], ◌∷◌, map, None}
use Rattle.std.specs.Float.{binary64}
use Rattle.std.specs.Float.Ieee.{of_bits, to_bits, of_int, round, add, sub, mul, div, neg, sum, lt, le, eq, is_nan}
use Rattle.numbers.specs.MinMax.{min_of, clamp_of}
use Rattle.exponential.specs.Exp.{series_of, squared, exp_of}
use Rattle.play_state.specs.declared.OsuScoreOrigin.{OsuScoreOrigin}
use Rattle.play_state.specs.declared.OsuScoreOrigin.TheVariants.{Stable, WithSliderAcc, WithoutSliderAcc}
use Rattle.play_state.specs.declared.Play.{Play}
use Rattle.play_score.specs.declared.PlayScore.{PlayScore}
use Rattle.slider_breaks.specs.Difficulty.{reverse_lerp_of, smoothstep_of, logistic_of}
use Rattle.slider_breaks.specs.SliderBreaks.{adjusted_of, slider_breaks_of, estimated_breaks}
use Rattle.slider_breaks.specs.Given.{is_factor, factors_bad, with_breaks}
use Rattle.slider_breaks.specs.declared.calculator.SliderFactors.{SliderFactors}

-- of a play its origin, 100s and combo, of the passed objects the max combo, and the bits of the effective count and of a factor
record Row : Type 0 where
  origin : OsuScoreOrigin
  n100 : ℕ
  combo : ℕ
  of : ℕ
  effective : ℕ
  factor : ℕ

abbrev play_in : Row → Play
play_in r = record {
  passed_objects = 0;
  max_combo = r.combo;
  hitresults = record { n300 = 0; n100 = r.n100; n50 = 0; misses = 0; large_tick_hits = 0; small_tick_hits = 0; slider_end_hits = 0 };
  origin = r.origin;
  legacy_total_score = None;
  mods = record { flags = 0; clock_rate = of_bits binary64 0 };
}

-- with the factor for aim and 1 for speed
abbrev aim_bits : Row → ℕ
aim_bits r = to_bits binary64 (estimated_breaks (play_in r) r.of (of_bits binary64 r.effective) (record { aim = of_bits binary64 r.factor; speed = of_bits binary64 0x3ff0_0000_0000_0000 })).aim

-- the whole formula; within the smoothstep; more than the 100s; no combo, all combo; effective counts of 1 and just below 2; the least factor, 0 and
-- -0.0; what gives 0 whatever the factor: no effective miss, origin 1, no 100; and passed objects without combo, which no accepted map has
rows : List Row
rows =
    record { origin = Stable; n100 = 10; combo = 100; of = 200; effective = 0x400c_0000_0000_0000; factor = 0x3ff8_0000_0000_0000 }
    ∷ record { origin = WithoutSliderAcc; n100 = 7; combo = 50; of = 333; effective = 0x3ffc_0000_0000_0000; factor = 0x3fd3_3333_3333_3333 }
    ∷ record { origin = Stable; n100 = 2; combo = 180; of = 200; effective = 0x4010_0000_0000_0000; factor = 0x4024_0000_0000_0000 }
    ∷ record { origin = Stable; n100 = 1; combo = 0; of = 8200192; effective = 0x40c0_0000_0000_0000; factor = 0x4024_0000_0000_0000 }
    ∷ record { origin = Stable; n100 = 8192; combo = 8200192; of = 8200192; effective = 0x40c0_0000_0000_0000; factor = 0x4024_0000_0000_0000 }
    ∷ record { origin = Stable; n100 = 3; combo = 5; of = 9; effective = 0x3ff0_0000_0000_0000; factor = 0x4000_0000_0000_0000 }
    ∷ record { origin = Stable; n100 = 3; combo = 5; of = 9; effective = 0x3fff_ffff_ffff_ffff; factor = 0x4000_0000_0000_0000 }
    ∷ record { origin = Stable; n100 = 3; combo = 5; of = 9; effective = 0x4000_0000_0000_0000; factor = 0x0000_0000_0000_0001 }
    ∷ record { origin = Stable; n100 = 3; combo = 5; of = 9; effective = 0x4000_0000_0000_0000; factor = 0x0000_0000_0000_0000 }
    ∷ record { origin = Stable; n100 = 3; combo = 5; of = 9; effective = 0x4000_0000_0000_0000; factor = 0x8000_0000_0000_0000 }
    ∷ record { origin = Stable; n100 = 3; combo = 5; of = 9; effective = 0x0000_0000_0000_0000; factor = 0x8000_0000_0000_0000 }
    ∷ record { origin = WithSliderAcc; n100 = 3; combo = 5; of = 9; effective = 0x4000_0000_0000_0000; factor = 0x8000_0000_0000_0000 }
    ∷ record { origin = Stable; n100 = 0; combo = 5; of = 9; effective = 0x4000_0000_0000_0000; factor = 0x8000_0000_0000_0000 }
    ∷ record { origin = Stable; n100 = 3; combo = 0; of = 0; effective = 0x4000_0000_0000_0000; factor = 0x3ff0_0000_0000_0000 }
    ∷ record { origin = Stable; n100 = 34; combo = 292; of = 777; effective = 0x3ff4_f5c2_8f5c_28f6; factor = 0x4002_28f5_c28f_5c29 }
    ∷ record { origin = Stable; n100 = 16; combo = 162; of = 500; effective = 0x3ff9_c28f_5c28_f5c3; factor = 0x3fc3_3333_3333_3333 }
    ∷ record { origin = Stable; n100 = 3; combo = 5; of = 9; effective = 0x3fe0_0000_0000_0000; factor = 0x3ff0_0000_0000_0000 }
    ∷ []

worked_out : map aim_bits rows
    ≡ (0x4004_73f7_8bb3_ad74 ∷ 0x3fdc_3cb6_229d_a42c ∷ 0x3f8f_81df_32b2_5bfc ∷ 0x3fdf_ffa5_6fd4_2876 ∷ 0x3f6c_cf40_2cde_4b1e ∷ 0x0000_0000_0000_0000
    ∷ 0x3fdb_2059_9e66_5d81 ∷ 0x0000_0000_0000_0002 ∷ 0x0000_0000_0000_0000 ∷ 0x8000_0000_0000_0000 ∷ 0x0000_0000_0000_0000 ∷ 0x0000_0000_0000_0000
    ∷ 0x0000_0000_0000_0000 ∷ 0x7ff8_0000_0000_0000 ∷ 0x3fe3_f075_788c_5411 ∷ 0x3fc4_b08f_df0b_cb6f ∷ 0x0000_0000_0000_0000
    ∷ [])
unfolding rows estimated_breaks slider_breaks_of adjusted_of reverse_lerp_of smoothstep_of logistic_of exp_of series_of squared min_of clamp_of of_int of_bits to_bits round add sub mul div neg sum lt le eq is_nan
worked_out = refl

-- the two factors each make their own estimate, and where there is none both are +0.0
both_bits : ℕ → ℕ × ℕ
both_bits effective =
    let b = estimated_breaks (play_in (record { origin = Stable; n100 = 10; combo = 100; of = 200; effective = 0; factor = 0 })) 200 (of_bits binary64 effective) (record { aim = of_bits binary64 0x3ff0_0000_0000_0000; speed = of_bits binary64 0x3ff8_0000_0000_0000 }) in
    (to_bits binary64 b.aim, to_bits binary64 b.speed)

each_its_own : map both_bits (0x400c_0000_0000_0000 ∷ 0 ∷ [])
    ≡ ((0x4002_2e31_5fbc_2866, 0x4004_73f7_8bb3_ad74) ∷ (0, 0) ∷ [])
unfolding both_bits estimated_breaks slider_breaks_of adjusted_of reverse_lerp_of smoothstep_of logistic_of exp_of series_of squared min_of clamp_of of_int of_bits to_bits round add sub mul div neg sum lt le eq is_nan
each_its_own = refl

-- the curves between other ends: a quarter of the way from 1 to 5, and +0.0 before the start
between_other_ends : map (λ (x : ℕ). to_bits binary64 (reverse_lerp_of (of_bits binary64 x) (of_bits binary64 0x3ff0_0000_0000_0000) (of_bits binary64 0x4014_0000_0000_0000)))
    (0x4000_0000_0000_0000 ∷ 0x0000_0000_0000_0000 ∷ []) ≡ (0x3fd0_0000_0000_0000 ∷ 0x0000_0000_0000_0000 ∷ [])
unfolding reverse_lerp_of clamp_of of_bits to_bits of_int round add sub div neg sum lt le eq is_nan
between_other_ends = refl

-- ---- 14
-- 0, -0.0, the least above 0, 10; just above 10, the least below 0, not a number, both infinities
factors_at_the_edges : map (λ (n : ℕ). is_factor (of_bits binary64 n))
    (0x0000_0000_0000_0000 ∷ 0x8000_0000_0000_0000 ∷ 0x0000_0000_0000_0001 ∷ 0x4024_0000_0000_0000
    ∷ 0x4024_0000_0000_0001 ∷ 0x8000_0000_0000_0001 ∷ 0x7ff8_0000_0000_0000 ∷ 0x7ff0_0000_0000_0000 ∷ 0xfff0_0000_0000_0000 ∷ [])
    ≡ (true ∷ true ∷ true ∷ true ∷ false ∷ false ∷ false ∷ false ∷ false ∷ [])
unfolding is_factor of_int of_bits lt le eq
factors_at_the_edges = refl

abbrev both : ℕ → ℕ → SliderFactors
both aim speed = record { aim = of_bits binary64 aim; speed = of_bits binary64 speed }

-- either of the two
one_is_wrong : map factors_bad (both 0 0 ∷ both 0x4024_0000_0000_0001 0 ∷ both 0 0x4024_0000_0000_0001 ∷ []) ≡ (false ∷ true ∷ true ∷ [])
unfolding factors_bad is_factor of_int of_bits lt le eq
one_is_wrong = refl

-- a refusal of the call without factors comes first, with its offset
refused_first : (p : Play) → (with_breaks p (both 0x4024_0000_0000_0001 0) (refused (refusal_at PLAY_EXCEEDS 32)) ≡ refused (refusal_at PLAY_EXCEEDS 32)) × (number_of PLAY_EXCEEDS ≡ 9)
refused_first p = (refl, refl)

-- 14 has offset 0, and takes the place of the values
fourteen : (p : Play) (s : PlayScore) → (with_breaks p (both 0 0x4024_0000_0000_0001) (good s) ≡ refused (refusal_at FACTOR 0)) × (number_of FACTOR ≡ 14)
unfolding factors_bad is_factor of_int of_bits lt le eq
fourteen p s = (refl, refl)
