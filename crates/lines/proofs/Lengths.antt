-- The most bytes that a line takes: its words, 20 digits for each number and 16 for each float, and the spaces between them. Assumes nothing.
use Rattle.std.specs.Prelude.{Option, Some, None}
use Prim.Native.Nat.{ℕ, ◌^◌, ◌≤◌, ◌<◌}
use native.Mathlib.Omega.{arith}
use lib.Ieee.{Float}
use lib.ListN.{length, length-append}
use Rattle.text.proofs.Numbers.{length_below, length_decimal, length_float}
use Rattle.simulator.specs.declared.attributes.ScoreAttributes.{ScoreAttributes}
use Rattle.estimates.specs.declared.calculator.Estimates.{Estimates}
use Rattle.rules.specs.Refusals.{number_of}
use Rattle.rules.specs.declared.refusal.Refusal.{Refusal}
use Rattle.rules.specs.declared.refusal.Rule.{Rule}
use Rattle.lines.specs.Lines.{number_field, float_field, score_based_field, map_line, play_line, refused_line}

length-number_field : (n : ℕ) → n < 2 ^ 64 → length (number_field n) ≤ 21
unfolding number_field
length-number_field n h = simp length-append (omega (arith, length_decimal n h))

length-float_field : (x : Float) → length (float_field x) ≤ 17
unfolding float_field
length-float_field x = simp length-append (omega (arith, length_float x))

length-score_based_field : (m : Option Float) → length (score_based_field m) ≤ 17
unfolding score_based_field float_field
length-score_based_field None = omega arith
length-score_based_field (Some x) = length-float_field x

-- the numbers of a map's line fit 64 bits
pub record Words (a : ScoreAttributes) : Type 0 where
  pub count : a.object_count < 2 ^ 64
  pub multiplier : a.multiplier < 2 ^ 64
  pub accuracy : a.legacy.accuracy_score < 2 ^ 64
  pub combo_points_fit : a.legacy.combo_score < 2 ^ 64
  pub bonus : a.legacy.bonus_score.0 < 2 ^ 64
  pub max_combo_fits : a.legacy.max_combo < 2 ^ 64

pub length-map_line : (a : ScoreAttributes) → Words a → length (map_line a) ≤ 164
unfolding map_line
length-map_line a w =
    simp length-append
    (omega (
      arith,
      length-number_field a.object_count w.count,
      length-number_field a.multiplier w.multiplier,
      length-number_field a.legacy.accuracy_score w.accuracy,
      length-number_field a.legacy.combo_score w.combo_points_fit,
      length-float_field a.legacy.bonus_score_ratio,
      length-number_field a.legacy.bonus_score.0 w.bonus,
      length-number_field a.legacy.max_combo w.max_combo_fits,
      length-float_field a.difficulty.nested_score_per_object,
    ))

pub length-play_line : (index : ℕ) (e : Estimates) → index < 2 ^ 64 → length (play_line index e) ≤ 94
unfolding play_line
length-play_line index e h =
    simp length-append
    (omega (
      arith,
      length-number_field index h,
      length-float_field e.accuracy,
      length-float_field e.combo_based,
      length-score_based_field e.score_based,
      length-float_field e.effective,
    ))

-- a rule's number has at most two digits
number_below : (r : Rule) → number_of r < 10 ^ 2
number_below r = grind arith

pub length-refused_line : (r : Refusal) → r.offset < 2 ^ 64 → length (refused_line r) ≤ 35
unfolding refused_line number_field
length-refused_line r h =
    simp length-append (omega (arith, length_below 1 (number_of r.rule) (number_below r.rule), length_decimal r.offset h))
