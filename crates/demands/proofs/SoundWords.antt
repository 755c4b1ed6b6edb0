-- No objects have words that a read refuses: each slider gains at least 2 combo, and only a leading circle or spinner has none before its 300.
use Prim.Native.Nat.{ℕ, suc, ◌+◌, ◌*◌, ◌≤◌}
use mathlib.Core.Path.{◌≡◌, sym, ◌∙◌}
use mathlib.Core.Bool.{false}
use mathlib.Core.List.{List, [], ◌∷◌}
use native.Mathlib.Omega.{arith}
use borrow.Author.Tests.{le-ltb}
use lib.ListN.{length}
use Rattle.records.specs.Objects.{Object, Kind, circle, slider, spinner}
use Rattle.simulator.specs.Combo.{gain, gain_before, combos_before_of, no_slider, first_no_slider_of}
use Rattle.entries.specs.Entry.{is_slider, total, entry_of}
use Rattle.entries.specs.Scores.{unsound}
use Rattle.entries.proofs.Sound.{by_before}

slider-gain : (k : Kind) → 2 * is_slider k ≤ gain k
slider-gain circle = omega arith
slider-gain (slider is) = omega arith
slider-gain (spinner d) = omega arith

sliders_gain : (os : List Object) → 2 * total is_slider os ≤ total gain os
unfolding total
sliders_gain [] = omega arith
sliders_gain (o ∷ os) =
    let first = slider-gain o.kind in
    let rest = sliders_gain os in
    omega (arith, first, rest)

-- with combo to start from, each object has some before its 300
before_later : (c : ℕ) (os : List Object) → 1 ≤ c → length os ≤ combos_before_of c os
before_later c [] h = omega arith
before_later c (o ∷ os) h =
    let rest = before_later (c + gain o.kind) os (omega (arith, h)) in
    omega (arith, h, rest)

-- the first object counts by f or, a slider, by its own gain
before_all : (os : List Object) → length os ≤ combos_before_of 0 os + first_no_slider_of os
before_all [] = omega arith
before_all (o ∷ os) = first o.kind
  where
    first : (k : Kind) → suc (length os) ≤ 0 + gain_before k + combos_before_of (0 + gain k) os + no_slider k
    first circle = let rest = before_later (0 + gain circle) os (omega arith) in omega (arith, rest)
    first (slider is) = let rest = before_later (0 + gain (slider is)) os (omega arith) in omega (arith, rest)
    first (spinner d) = let rest = before_later (0 + gain (spinner d)) os (omega arith) in omega (arith, rest)

pub sound_words : (os : List Object) → unsound (entry_of os) ≡ false
unfolding entry_of
sound_words os = sym (by_before (entry_of os) (sliders_gain os)) ∙ le-ltb _ _ (before_all os)
