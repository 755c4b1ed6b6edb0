-- The effective miss count lies from the misses to the judgements: it is held from below by a max, then from above by a min.
use Rattle.std.specs.Prelude.{Option, Some, None}
use mathlib.Core.Path.{◌≡◌}
use mathlib.Core.Bool.{true}
use Prim.Native.Nat.{◌≤◌}
use native.Mathlib.Omega.{arith}
use lib.Ieee.{Float, le}
use Rattle.numbers.specs.Floats.{whole}
use Rattle.numbers.proofs.Order.{max_above, min_below, min_above, whole-number, whole_le}
use Rattle.play_state.specs.declared.OsuHitResults.{OsuHitResults}
use Rattle.miss_calc.specs.Counts.{total_hits}
use Rattle.estimates.specs.Effective.{held_of, effective_of}

pub record FromMissesToJudgements (x : Float) (h : OsuHitResults) : Type 0 where
  pub above : le (whole h.misses) x ≡ true
  pub below : le x (whole (total_hits h)) ≡ true

held_range : (x : Float) (h : OsuHitResults) → total_hits h ≤ 262140 → FromMissesToJudgements (held_of x h) h
unfolding held_of
held_range x h k =
    let total = whole-number (total_hits h) (omega (arith, k)) in
    let missed = whole-number h.misses (omega (arith, k)) in
    let order = whole_le h.misses (total_hits h) (omega arith) in
    record {
      above = min_above _ _ _ (max_above x (whole h.misses) missed) order;
      below = min_below _ _ total;
    }

pub effective_range : (combo : Float) (score : Option Float) (h : OsuHitResults) → total_hits h ≤ 262140 → FromMissesToJudgements (effective_of combo score h) h
unfolding effective_of
effective_range combo None h k = held_range combo h k
effective_range combo (Some x) h k = held_range x h k
