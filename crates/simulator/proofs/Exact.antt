-- The Rust's float sums and products of whole numbers are the exact ones: "These products are exact; no cast saturates". Assumes nothing.
use mathlib.Core.Path.{◌≡◌, refl, ap, ◌∙◌}
use Prim.Native.Nat.{ℕ, ◌-◌, ◌*◌, ◌/◌, ◌^◌, ◌≤◌}
use native.Mathlib.Nat.{le_trans, lt_of_le_of_lt, mul-le-mul, mul_comm}
use native.Mathlib.Omega.{arith}
use mathlib.Core.List.{List, [], ◌∷◌}
use lib.Dec.{lit≤, lit<}
use lib.Ieee.{Float, to_unsigned}
use Rattle.rules.specs.Limits.{combo_limit}
use Rattle.numbers.specs.Floats.{whole, ◌⊕◌, ◌⊗◌}
use Rattle.numbers.proofs.Wholes.{whole_add, whole_mul, whole-cut}
use Rattle.records.specs.Objects.{Object, Kind, circle, slider, spinner}
use Rattle.simulator.specs.Walk.{combo_points}
use Rattle.simulator.specs.Nested.{spinner_score_of, counted, counted_all}
use Rattle.simulator.specs.declared.legacy_score.NestedScorePerObject.{NestedScorePerObject}

factor_most : (c : ℕ) → c ≤ combo_limit → (c - 1) * 12 ≤ 98402304
factor_most c h = omega arith

product_most : (q m : ℕ) → q ≤ 98402304 → m ≤ 7 → q * m ≤ 688816128
product_most q m h k = le_trans (mul-le-mul h k) (lit≤ tt)

-- `factor = combo.saturating_sub(1) as f64 * (300 / 25) as f64`, then `(factor * multiplier) as i32`
pub combo_exact : (m c : ℕ) → c ≤ combo_limit → m ≤ 7 → to_unsigned 31 (whole (c - 1) ⊗ whole (300 / 25) ⊗ whole m) ≡ combo_points m c 300
combo_exact m c h k =
    let q = (c - 1) * 12 in
    let q-most = factor_most c h in
    let p-most = product_most q m q-most k in
    ap (λ (x : Float). to_unsigned 31 (x ⊗ whole m)) (whole_mul (c - 1) 12 (omega arith) (lit≤ tt))
    ∙ ap (to_unsigned 31) (whole_mul q m (le_trans q-most (lit≤ tt)) (le_trans k (lit≤ tt)))
    ∙ whole-cut 31 (q * m) (le_trans p-most (lit≤ tt)) (lt_of_le_of_lt p-most (lit< tt))
    ∙ ap (λ (x : ℕ). x * m) (mul_comm (c - 1) 12)

-- `spinner_score += calculate_spinner_score(spinner)`, as f64, object by object
abbrev pub rust_added : Float → Kind → Float
rust_added x circle = x
rust_added x (slider is) = x
rust_added x (spinner d) = x ⊕ whole (spinner_score_of d)

abbrev pub rust_spinner_score : Float → List Object → Float
rust_spinner_score x [] = x
rust_spinner_score x (o ∷ os) = rust_spinner_score (rust_added x o.kind) os

grows : (c : NestedScorePerObject) (k : Kind) → c.spinner_score ≤ (counted c k).spinner_score
unfolding counted
grows c circle = omega arith
grows c (slider is) = omega arith
grows c (spinner d) = omega arith

all_grows : (c : NestedScorePerObject) (os : List Object) → c.spinner_score ≤ (counted_all c os).spinner_score
unfolding counted_all
all_grows c [] = omega arith
all_grows c (o ∷ os) = le_trans (grows c o.kind) (all_grows (counted c o.kind) os)

added_exact : (c : NestedScorePerObject) (k : Kind) → (counted c k).spinner_score ≤ 2 ^ 53 → rust_added (whole c.spinner_score) k ≡ whole (counted c k).spinner_score
unfolding counted
added_exact c circle h = refl
added_exact c (slider is) h = refl
added_exact c (spinner d) h = whole_add c.spinner_score (spinner_score_of d) (omega (arith, h)) (omega (arith, h))

pub spinner_exact : (c : NestedScorePerObject) (os : List Object) → (counted_all c os).spinner_score ≤ 2 ^ 53
    → rust_spinner_score (whole c.spinner_score) os ≡ whole (counted_all c os).spinner_score
unfolding counted_all
spinner_exact c [] h = refl
spinner_exact c (o ∷ os) h =
    let next = counted c o.kind in
    ap (λ (x : Float). rust_spinner_score x os) (added_exact c o.kind (le_trans (all_grows next os) h)) ∙ spinner_exact next os h
