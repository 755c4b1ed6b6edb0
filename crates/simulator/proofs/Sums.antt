-- Sums over the objects of a map: the max combo, and the nested score against the legacy bonus. Assumes nothing.
use mathlib.Core.Path.{◌≡◌, refl, sym, ap, ◌∙◌}
use Prim.Native.Nat.{ℕ, ◌+◌, ◌≤◌}
use native.Mathlib.Omega.{arith}
use mathlib.Core.List.{List, [], ◌∷◌}
use lib.ListN.{length}
use Rattle.records.specs.Objects.{Item, tick, repeat, Object, Kind, circle, slider, spinner, repeats, ticks, kind_bonus, bonus}
use Rattle.simulator.specs.Hits.{hits_of}
use Rattle.simulator.specs.Walk.{State, walk, after}
use Rattle.simulator.specs.Combo.{gain}
use Rattle.simulator.specs.Nested.{counted, counted_all}
use Rattle.simulator.specs.declared.legacy_score.NestedScorePerObject.{NestedScorePerObject}
use Rattle.simulator.proofs.Objects.{walk-circle, walk-slider, walk-spinner}
use Rattle.simulator.proofs.Bonus.{nested_legacy}

pub items_count : (is : List Item) → repeats is + ticks is ≡ length is
unfolding repeats ticks
items_count [] = refl
items_count (tick ∷ is) = let e = items_count is in omega (arith, e)
items_count (repeat ∷ is) = let e = items_count is in omega (arith, e)

pub walk-gain : (m : ℕ) (st : State) (k : Kind) → (walk m st (hits_of k)).combo ≡ st.combo + gain k
walk-gain m st circle = ap (λ (x : State). x.combo) (walk-circle m st)
walk-gain m st (slider is) = ap (λ (x : State). x.combo) (walk-slider m st is) ∙ (let e = items_count is in omega (arith, e))
walk-gain m st (spinner d) = ap (λ (x : State). x.combo) (walk-spinner m st d)

-- "max combo is circles plus spinners plus, for each slider, one and its nested count": the nested counts are the repeats, the ticks and a tail
-- for each slider
abbrev pub combo_of : NestedScorePerObject → ℕ
combo_of c = c.n_circles + c.n_spinners + (c.n_sliders + (c.n_repeats + c.amount_of_small_ticks + c.n_sliders))

counted-gain : (c : NestedScorePerObject) (k : Kind) → combo_of (counted c k) ≡ combo_of c + gain k
unfolding counted
counted-gain c circle = omega arith
counted-gain c (slider is) = let e = items_count is in omega (arith, e)
counted-gain c (spinner d) = omega arith

pub max_combo_fits : (m : ℕ) (st : State) (c : NestedScorePerObject) (os : List Object) → st.combo ≡ combo_of c → (after m st os).combo ≡ combo_of (counted_all c os)
unfolding after counted_all
max_combo_fits m st c [] e = e
max_combo_fits m st c (o ∷ os) e =
    max_combo_fits m (walk m st (hits_of o.kind)) (counted c o.kind) os
    (walk-gain m st o.kind ∙ ap (λ (n : ℕ). n + gain o.kind) e ∙ sym (counted-gain c o.kind))

-- the legacy bonus of a walk is the objects' own, and no less than their nested score
walk-bonus : (m : ℕ) (st : State) (k : Kind) → (walk m st (hits_of k)).legacy_bonus_score.0 ≡ st.legacy_bonus_score.0 + kind_bonus k
walk-bonus m st circle = ap (λ (x : State). x.legacy_bonus_score.0) (walk-circle m st) ∙ omega arith
walk-bonus m st (slider is) = ap (λ (x : State). x.legacy_bonus_score.0) (walk-slider m st is) ∙ omega arith
walk-bonus m st (spinner d) = ap (λ (x : State). x.legacy_bonus_score.0) (walk-spinner m st d)

pub legacy_bonus : (m : ℕ) (st : State) (os : List Object) → (after m st os).legacy_bonus_score.0 ≡ st.legacy_bonus_score.0 + bonus os
unfolding after bonus
legacy_bonus m st [] = omega arith
legacy_bonus m st (o ∷ os) =
    let e = legacy_bonus m (walk m st (hits_of o.kind)) os in
    let f = walk-bonus m st o.kind in
    omega (arith, e, f)

counted_nested : (c : NestedScorePerObject) (k : Kind) → (counted c k).spinner_score ≤ c.spinner_score + kind_bonus k
unfolding counted
counted_nested c circle = omega arith
counted_nested c (slider is) = omega arith
counted_nested c (spinner d) = omega (arith, nested_legacy d)

pub nested_most : (c : NestedScorePerObject) (os : List Object) → (counted_all c os).spinner_score ≤ c.spinner_score + bonus os
unfolding counted_all bonus
nested_most c [] = omega arith
nested_most c (o ∷ os) =
    let e = nested_most (counted c o.kind) os in
    let f = counted_nested c o.kind in
    omega (arith, e, f)
