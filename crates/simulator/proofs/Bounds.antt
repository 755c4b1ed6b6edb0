-- A step keeps the bounds of the running state and of the counts. Assumes nothing.
use mathlib.Core.Path.{sym, subst}
use Prim.Native.Nat.{ℕ, ◌+◌, ◌-◌, ◌*◌, ◌^◌, ◌≤◌, ◌<◌}
use native.Mathlib.Nat.{lt_of_le_of_lt, mul-le-mul}
use lib.Dec.{lit<}
use native.Mathlib.Omega.{arith}
use Rattle.rules.specs.Limits.{max_objects, max_nested, max_combos_before}
use Rattle.records.specs.Objects.{Kind, circle, slider, spinner, kind_view}
use Rattle.simulator.specs.Hits.{hits_of}
use Rattle.simulator.specs.Walk.{State, fresh, walk}
use Rattle.simulator.specs.Nested.{no_object, counted}
use Rattle.simulator.specs.Limits.{Within, Counted, nested_count}
use Rattle.simulator.specs.declared.legacy_score.NestedScorePerObject.{NestedScorePerObject}
use Rattle.simulator.proofs.Objects.{walk-circle, walk-slider, walk-spinner}
use Rattle.simulator.proofs.Bonus.{legacy_most, standardised_most, nested_legacy}

pub fresh-within : Within 0 fresh
fresh-within = record { combo = omega arith; accuracy = omega arith; points = omega arith; legacy = omega arith; standardised = omega arith }

pub within_more : (n k : ℕ) (st : State) → n ≤ k → Within n st → Within k st
within_more n k st h w = record {
  combo = let e = w.combo in omega arith;
  accuracy = let e = w.accuracy in omega arith;
  points = let e = w.points in omega arith;
  legacy = let e = w.legacy in omega arith;
  standardised = let e = w.standardised in omega arith;
}

pub step_within : (n : ℕ) (st : State) (k : Kind) → n ≤ (max_objects - 1) → nested_count (kind_view k) ≤ max_nested → Within n st → Within (n + 1) (walk 1 st (hits_of k))
step_within n st circle h g w = subst (λ (x : State). Within (n + 1) x) (sym (walk-circle 1 st)) record {
  combo = let e = w.combo in omega arith;
  accuracy = let e = w.accuracy in omega arith;
  points = let e = w.points in let f = w.combo in omega arith;
  legacy = let e = w.legacy in omega arith;
  standardised = let e = w.standardised in omega arith;
}
step_within n st (slider is) h g w = subst (λ (x : State). Within (n + 1) x) (sym (walk-slider 1 st is)) record {
  combo = let e = w.combo in omega arith;
  accuracy = let e = w.accuracy in omega arith;
  points = let e = w.points in let f = w.combo in omega arith;
  legacy = let e = w.legacy in omega arith;
  standardised = let e = w.standardised in omega arith;
}
step_within n st (spinner d) h g w = subst (λ (x : State). Within (n + 1) x) (sym (walk-spinner 1 st d)) record {
  combo = let e = w.combo in omega arith;
  accuracy = let e = w.accuracy in omega arith;
  points = let e = w.points in let f = w.combo in omega arith;
  legacy = let e = w.legacy in omega (arith, legacy_most d);
  standardised = let e = w.standardised in omega (arith, standardised_most d);
}

pub none-counted : Counted 0 no_object
none-counted = record {
  objects = omega arith;
  circles = omega arith;
  sliders = omega arith;
  spinners = omega arith;
  repeats = omega arith;
  ticks = omega arith;
  spun = omega arith;
}

pub counted_more : (n k : ℕ) (c : NestedScorePerObject) → n ≤ k → Counted n c → Counted k c
counted_more n k c h w = record {
  objects = let e = w.objects in omega arith;
  circles = let e = w.circles in omega arith;
  sliders = let e = w.sliders in omega arith;
  spinners = let e = w.spinners in omega arith;
  repeats = let e = w.repeats in omega arith;
  ticks = let e = w.ticks in omega arith;
  spun = let e = w.spun in omega arith;
}

pub step_counted : (n : ℕ) (c : NestedScorePerObject) (k : Kind) → nested_count (kind_view k) ≤ max_nested → Counted n c → Counted (n + 1) (counted c k)
unfolding counted
step_counted n c circle g w = record {
  objects = let e = w.objects in omega arith;
  circles = let e = w.circles in omega arith;
  sliders = let e = w.sliders in omega arith;
  spinners = let e = w.spinners in omega arith;
  repeats = let e = w.repeats in omega arith;
  ticks = let e = w.ticks in omega arith;
  spun = let e = w.spun in omega arith;
}
step_counted n c (slider is) g w = record {
  objects = let e = w.objects in omega arith;
  circles = let e = w.circles in omega arith;
  sliders = let e = w.sliders in omega arith;
  spinners = let e = w.spinners in omega arith;
  repeats = let e = w.repeats in omega arith;
  ticks = let e = w.ticks in omega arith;
  spun = let e = w.spun in omega arith;
}
step_counted n c (spinner d) g w = record {
  objects = let e = w.objects in omega arith;
  circles = let e = w.circles in omega arith;
  sliders = let e = w.sliders in omega arith;
  spinners = let e = w.spinners in omega arith;
  repeats = let e = w.repeats in omega arith;
  ticks = let e = w.ticks in omega arith;
  spun = let e = w.spun in omega (arith, nested_legacy d, legacy_most d);
}

-- the combo points at a multiplier up to 7 fit a word
pub product_fits : (p m : ℕ) → p ≤ 12 * (max_combos_before + 1) → m ≤ 7 → p * m < 2 ^ 64
product_fits p m h k = lt_of_le_of_lt (mul-le-mul h k) (lit< tt)
