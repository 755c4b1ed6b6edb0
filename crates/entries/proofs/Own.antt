-- One step of the simulator, from no object on, gives the words of the object's own entry.
use Prim.Native.Nat.{◌+◌, ◌*◌}
use mathlib.Core.Path.{◌≡◌, refl, ap₂, ◌∙◌}
use native.Mathlib.Omega.{arith}
use Rattle.records.specs.declared.hit_object.HitObjectKind.{HitObjectKind}
use Rattle.records.specs.declared.hit_object.HitObjectKind.TheVariants as kind
use Rattle.simulator.specs.Hits.{hits_of}
use Rattle.simulator.specs.Walk.{State, walk, fresh}
use Rattle.simulator.specs.Nested.{counted, no_object}
use Rattle.simulator.specs.View.{items_of, kind_of}
use Rattle.simulator.specs.declared.legacy_score.NestedScorePerObject.{NestedScorePerObject}
use Rattle.simulator.proofs.Objects.{walk-circle, walk-slider, walk-spinner, repeats_kept, ticks_kept}
use Rattle.simulator.proofs.States.{state_same, nested_same}
use Rattle.entries.specs.Entry.{entry_with, own_entry}
use Rattle.entries.specs.declared.entry.Entry.{Entry}

-- the combo of a slider stands before its 300
abbrev pub own_with : HitObjectKind → State → NestedScorePerObject → Entry
own_with kind.Circle st c = entry_with st c 0 1
own_with (kind.Slider s) st c = entry_with st c st.combo 0
own_with (kind.Spinner s) st c = entry_with st c 0 1

pub own_step : (k : HitObjectKind) → own_with k (walk 1 fresh (hits_of (kind_of k))) (counted no_object (kind_of k)) ≡ own_entry k
unfolding counted
own_step kind.Circle = ap₂ (own_with kind.Circle) (walk-circle 1 fresh ∙ state_same refl refl refl refl refl) refl
own_step (kind.Slider s) =
    let r = repeats_kept s in
    let t = ticks_kept s in
    ap₂ (own_with (kind.Slider s))
    (walk-slider 1 fresh (items_of s) ∙ state_same {c' = s.repeats + s.ticks + 2} {a' = (s.repeats + 2) * 30 + s.ticks * 10 + 300} (omega (arith, r, t)) (omega (arith, r, t)) refl refl refl)
    (nested_same {d5 = s.repeats} {d6 = s.ticks} refl refl refl refl (omega (arith, r)) (omega (arith, t)) refl)
own_step (kind.Spinner s) = ap₂ (own_with (kind.Spinner s)) (walk-spinner 1 fresh s.duration ∙ state_same refl refl refl (omega arith) (omega arith)) (nested_same refl refl refl refl refl refl (omega arith))
