-- The combo points of a map from three sums over its objects: s, the combo before each object's 300; f, 1 if the first object is a circle or
-- spinner; q, their count. Only a leading circle or spinner has combo 0 before its 300, where max(combo - 1, 0) is one above combo - 1.
-- Assumes nothing.
use mathlib.Core.Path.{◌≡◌, refl, ap, ◌∙◌}
use Prim.Native.Nat.{ℕ, suc, ◌+◌, ◌-◌, ◌*◌, ◌≤◌}
use native.Mathlib.Omega.{arith}
use mathlib.Core.List.{List, [], ◌∷◌}
use lib.ListN.{length}
use Rattle.records.specs.Objects.{Object, Kind, circle, slider, spinner}
use Rattle.simulator.specs.Hits.{hits_of}
use Rattle.simulator.specs.Walk.{State, fresh, walk, after}
use Rattle.simulator.proofs.Objects.{walk-circle, walk-slider, walk-spinner}
use Rattle.simulator.specs.Combo.{gain, gain_before, combos_before_of, no_slider, first_no_slider_of}
use Rattle.simulator.proofs.Sums.{items_count, walk-gain}

-- the factors of 12 × multiplier, one for each object
abbrev factors : ℕ → List Object → ℕ
factors c [] = 0
factors c (o ∷ os) = c + gain_before o.kind - 1 + factors (c + gain o.kind) os

walk_points : (m : ℕ) (st : State) (k : Kind) → (walk m st (hits_of k)).combo_score ≡ st.combo_score + 12 * (st.combo + gain_before k - 1) * m
walk_points m st circle = ap (λ (x : State). x.combo_score) (walk-circle m st) ∙ ap (λ (n : ℕ). st.combo_score + 12 * (n - 1) * m) (omega arith)
walk_points m st (slider is) =
    ap (λ (x : State). x.combo_score) (walk-slider m st is)
    ∙ ap (λ (n : ℕ). st.combo_score + 12 * (n - 1) * m) (let e = items_count is in omega (arith, e))
walk_points m st (spinner d) = ap (λ (x : State). x.combo_score) (walk-spinner m st d) ∙ ap (λ (n : ℕ). st.combo_score + 12 * (n - 1) * m) (omega arith)

after_points : (m : ℕ) (st : State) (os : List Object) → (after m st os).combo_score ≡ st.combo_score + 12 * factors st.combo os * m
unfolding after
after_points m st [] = omega arith
after_points m st (o ∷ os) =
    let next = walk m st (hits_of o.kind) in
    after_points m next os
    ∙ ap (λ (c : ℕ). next.combo_score + 12 * factors c os * m) (walk-gain m st o.kind)
    ∙ ap (λ (p : ℕ). p + 12 * factors (st.combo + gain o.kind) os * m) (walk_points m st o.kind)
    ∙ join st.combo_score (st.combo + gain_before o.kind - 1) (factors (st.combo + gain o.kind) os)
  where
    join : (p a b : ℕ) → p + 12 * a * m + 12 * b * m ≡ p + 12 * (a + b) * m
    join p a b = omega arith

gain_pos : (k : Kind) → 1 ≤ gain k
gain_pos circle = omega arith
gain_pos (slider is) = omega arith
gain_pos (spinner d) = omega arith

factors_later : (c : ℕ) (os : List Object) → 1 ≤ c → factors c os + length os ≡ combos_before_of c os
factors_later c [] h = refl
factors_later c (o ∷ os) h =
    let e = factors_later (c + gain o.kind) os (omega (arith, h)) in
    step (gain_before o.kind) (factors (c + gain o.kind) os) (combos_before_of (c + gain o.kind) os) e
  where
    step : (a x y : ℕ) → x + length os ≡ y → c + a - 1 + x + suc (length os) ≡ c + a + y
    step a x y e = omega (arith, e, h)

factors_all : (os : List Object) → factors 0 os + length os ≡ combos_before_of 0 os + first_no_slider_of os
factors_all [] = refl
factors_all (o ∷ os) = step o.kind (factors_later (0 + gain o.kind) os (let g = gain_pos o.kind in omega (arith, g)))
  where
    step : (k : Kind) → factors (0 + gain k) os + length os ≡ combos_before_of (0 + gain k) os
        → 0 + gain_before k - 1 + factors (0 + gain k) os + suc (length os) ≡ 0 + gain_before k + combos_before_of (0 + gain k) os + no_slider k
    step circle e = omega (arith, e)
    step (slider is) e = omega (arith, e)
    step (spinner d) e = omega (arith, e)

-- combo points = 12 × (s + f - q) × multiplier
pub points_of_sums : (m : ℕ) (os : List Object) → (after m fresh os).combo_score ≡ 12 * (combos_before_of 0 os + first_no_slider_of os - length os) * m
points_of_sums m os =
    let e = factors_all os in
    let d : factors 0 os ≡ combos_before_of 0 os + first_no_slider_of os - length os = omega (arith, e) in
    after_points m fresh os ∙ (omega arith) ∙ ap (λ (n : ℕ). 12 * n * m) d
