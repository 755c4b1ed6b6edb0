-- The bridge from the words to ScoreV1: the state and the counts that the words of a run say are those of the walk over its objects. Assumes nothing.
use Prim.Native.Nat.{ℕ, ◌+◌}
use mathlib.Core.Path.{◌≡◌, refl, ap, ◌∙◌}
use mathlib.Core.List.{List, [], ◌∷◌}
use native.Mathlib.Omega.{arith}
use lib.ListN.{length}
use Rattle.records.specs.Objects.{Object, Kind, circle, slider, spinner}
use Rattle.simulator.specs.Hits.{hits_of}
use Rattle.simulator.specs.Walk.{State, fresh, walk, after}
use Rattle.simulator.specs.Combo.{gain}
use Rattle.simulator.specs.Nested.{no_object, counted, counted_all}
use Rattle.simulator.specs.declared.legacy_score.NestedScorePerObject.{NestedScorePerObject}
use Rattle.simulator.proofs.States.{nested_same, state_same}
use Rattle.simulator.proofs.Objects.{walk-circle, walk-slider, walk-spinner}
use Rattle.simulator.proofs.Points.{points_of_sums}
use Rattle.simulator.proofs.Sums.{walk-gain, legacy_bonus}
use Rattle.entries.specs.Entry.{accuracy_gain, standardised_gain, is_circle, is_slider, is_spinner, repeats_in, ticks_in, spinner_score_in, total, entry_of}
use Rattle.entries.specs.Scores.{state_in, counts_in}
use Rattle.entries.proofs.Accepted.{bonus-total}

-- ---- a sum that each object adds to
-- of the running state
after-total : (read : State → ℕ) (v : Kind → ℕ) → ((st : State) (k : Kind) → read (walk 1 st (hits_of k)) ≡ read st + v k) → (st : State) (os : List Object)
    → read (after 1 st os) ≡ read st + total v os
unfolding after total
after-total read v h st [] = omega arith
after-total read v h st (o ∷ os) =
    let e = after-total read v h (walk 1 st (hits_of o.kind)) os in
    let f = h st o.kind in
    omega (arith, e, f)

-- of the counts
counted-total : (read : NestedScorePerObject → ℕ) (v : Kind → ℕ) → ((c : NestedScorePerObject) (k : Kind) → read (counted c k) ≡ read c + v k)
    → (c : NestedScorePerObject) (os : List Object) → read (counted_all c os) ≡ read c + total v os
unfolding counted_all total
counted-total read v h c [] = omega arith
counted-total read v h c (o ∷ os) =
    let e = counted-total read v h (counted c o.kind) os in
    let f = h c o.kind in
    omega (arith, e, f)

-- ---- what one object adds
walk_accuracy : (st : State) (k : Kind) → (walk 1 st (hits_of k)).accuracy_score ≡ st.accuracy_score + accuracy_gain k
walk_accuracy st circle = ap (λ (x : State). x.accuracy_score) (walk-circle 1 st)
walk_accuracy st (slider is) = ap (λ (x : State). x.accuracy_score) (walk-slider 1 st is) ∙ omega arith
walk_accuracy st (spinner d) = ap (λ (x : State). x.accuracy_score) (walk-spinner 1 st d)

walk_standardised : (st : State) (k : Kind) → (walk 1 st (hits_of k)).standardised_bonus_score.0 ≡ st.standardised_bonus_score.0 + standardised_gain k
walk_standardised st circle = ap (λ (x : State). x.standardised_bonus_score.0) (walk-circle 1 st) ∙ omega arith
walk_standardised st (slider is) = ap (λ (x : State). x.standardised_bonus_score.0) (walk-slider 1 st is) ∙ omega arith
walk_standardised st (spinner d) = ap (λ (x : State). x.standardised_bonus_score.0) (walk-spinner 1 st d)

-- every object counts once
total-one : (os : List Object) → total (λ _. 1) os ≡ length os
unfolding total
total-one [] = refl
total-one (o ∷ os) = let e = total-one os in omega (arith, e)

count_one : (c : NestedScorePerObject) (k : Kind) → (counted c k).object_count ≡ c.object_count + 1
unfolding counted
count_one c circle = refl
count_one c (slider is) = refl
count_one c (spinner d) = refl

count_circle : (c : NestedScorePerObject) (k : Kind) → (counted c k).n_circles ≡ c.n_circles + is_circle k
unfolding counted
count_circle c circle = refl
count_circle c (slider is) = omega arith
count_circle c (spinner d) = omega arith

count_slider : (c : NestedScorePerObject) (k : Kind) → (counted c k).n_sliders ≡ c.n_sliders + is_slider k
unfolding counted
count_slider c circle = omega arith
count_slider c (slider is) = refl
count_slider c (spinner d) = omega arith

count_spinner : (c : NestedScorePerObject) (k : Kind) → (counted c k).n_spinners ≡ c.n_spinners + is_spinner k
unfolding counted
count_spinner c circle = omega arith
count_spinner c (slider is) = omega arith
count_spinner c (spinner d) = refl

count_repeats : (c : NestedScorePerObject) (k : Kind) → (counted c k).n_repeats ≡ c.n_repeats + repeats_in k
unfolding counted
count_repeats c circle = omega arith
count_repeats c (slider is) = refl
count_repeats c (spinner d) = omega arith

count_ticks : (c : NestedScorePerObject) (k : Kind) → (counted c k).amount_of_small_ticks ≡ c.amount_of_small_ticks + ticks_in k
unfolding counted
count_ticks c circle = omega arith
count_ticks c (slider is) = refl
count_ticks c (spinner d) = omega arith

count_spun : (c : NestedScorePerObject) (k : Kind) → (counted c k).spinner_score ≡ c.spinner_score + spinner_score_in k
unfolding counted
count_spun c circle = omega arith
count_spun c (slider is) = omega arith
count_spun c (spinner d) = refl

-- ---- the bridge
pub state_is : (os : List Object) → state_in (entry_of os) ≡ after 1 fresh os
unfolding entry_of
state_is os =
    let k = after-total (λ st. st.combo) gain (walk-gain 1) fresh os in
    let a = after-total (λ st. st.accuracy_score) accuracy_gain walk_accuracy fresh os in
    let p = points_of_sums 1 os in
    let l = legacy_bonus 1 fresh os in
    let b = bonus-total os in
    let s = after-total (λ st. st.standardised_bonus_score.0) standardised_gain walk_standardised fresh os in
    state_same (omega (arith, k)) (omega (arith, a)) (omega (arith, p)) (omega (arith, l, b)) (omega (arith, s))

pub counts_are : (os : List Object) → counts_in (entry_of os) ≡ counted_all no_object os
unfolding entry_of
counts_are os =
    let n = counted-total (λ c. c.object_count) (λ _. 1) count_one no_object os in
    let m = total-one os in
    let a = counted-total (λ c. c.n_circles) is_circle count_circle no_object os in
    let b = counted-total (λ c. c.n_sliders) is_slider count_slider no_object os in
    let d = counted-total (λ c. c.n_spinners) is_spinner count_spinner no_object os in
    let e = counted-total (λ c. c.n_repeats) repeats_in count_repeats no_object os in
    let f = counted-total (λ c. c.amount_of_small_ticks) ticks_in count_ticks no_object os in
    let g = counted-total (λ c. c.spinner_score) spinner_score_in count_spun no_object os in
    nested_same (omega (arith, n, m)) (omega (arith, a)) (omega (arith, b)) (omega (arith, d)) (omega (arith, e)) (omega (arith, f)) (omega (arith, g))
