-- A map has as many passed objects as the smaller of passed and count: the attributes depend on no more.
use mathlib.Core.Path.{◌≡◌, refl, sym, ap, ◌∙◌}
use mathlib.Core.Bool.{Bool, true, false}
use mathlib.Core.List.{List, [], ◌∷◌}
use Prim.Native.Nat.{ℕ, ◌-◌, min}
use native.Mathlib.Omega.{arith}
use borrow.Author.Tests.{ltb-true, ltb-false}
use lib.Dec.{ltb}
use lib.ListN.{length, take}
use lib.Seq.{take_all}
use Rattle.records.specs.Objects.{Object}
use Rattle.map_file.specs.File.{Map}
use Rattle.records.specs.declared.beatmap.BreakPeriod.{BreakPeriod}
use Rattle.ruleset.specs.Drain.{start_of, drain_at, drain_of, breaks_length}
use Rattle.ruleset.specs.Stars.{multiplier_at}
use Rattle.simulator.specs.Attributes.{score_attributes_at}

take-passed : (p : ℕ) (os : List Object) → take p os ≡ take (min p (length os)) os
take-passed p os = go (ltb (length os) p) refl
  where
    go : (b : Bool) → ltb (length os) p ≡ b → take p os ≡ take (min p (length os)) os
    go true e =
        let h = ltb-true (length os) p e in
        let least : min p (length os) ≡ length os = omega (arith, h) in
        take_all p os (omega (arith, h)) ∙ sym (take_all (length os) os (omega arith)) ∙ ap (λ (n : ℕ). take n os) (sym least)
    go false e =
        let h = ltb-false (length os) p e in
        let least : min p (length os) ≡ p = omega (arith, h) in
        ap (λ (n : ℕ). take n os) (sym least)

drain_passed : (bs : List BreakPeriod) (os : List Object) (p q : ℕ) → min p (length os) ≡ min q (length os) → drain_at bs os p ≡ drain_at bs os q
unfolding drain_at
drain_passed bs [] p q e = refl
drain_passed bs (o ∷ os) p q e =
    ap (λ (n : ℕ). drain_of o.start (start_of (o ∷ os) (n - 1)) (breaks_length (start_of (o ∷ os) (n - 1)) bs)) e

pub attributes_passed : (m : Map) (p q : ℕ) → min p (length m.objects) ≡ min q (length m.objects) → score_attributes_at m p ≡ score_attributes_at m q
unfolding score_attributes_at multiplier_at
attributes_passed m p q e =
    let os = m.objects in
    let taken : take p os ≡ take q os = take-passed p os ∙ ap (λ (n : ℕ). take n os) e ∙ sym (take-passed q os) in
    simp (taken, drain_passed m.breaks os p q e)
