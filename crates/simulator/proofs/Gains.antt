-- The largest combo gain of one object: of two runs it is the larger one's, and the combo that a step adds is what it takes. Assumes nothing.
use Prim.Native.Nat.{ℕ, ◌-◌, ◌≤◌, max}
use mathlib.Core.Path.{◌≡◌}
use mathlib.Core.List.{List, [], ◌∷◌, ◌++◌}
use native.Mathlib.Omega.{arith}
use Rattle.records.specs.Objects.{Object, Kind}
use Rattle.simulator.specs.Hits.{hits_of}
use Rattle.simulator.specs.Walk.{State, walk}
use Rattle.simulator.specs.Combo.{gain, largest_gain_of}
use Rattle.simulator.proofs.Sums.{walk-gain}

-- joining takes the larger
pub largest_append : (xs ys : List Object) → largest_gain_of (xs ++ ys) ≡ max (largest_gain_of xs) (largest_gain_of ys)
unfolding largest_gain_of
largest_append [] ys = omega arith
largest_append (o ∷ xs) ys = let e = largest_append xs ys in omega (arith, e)

-- one object more
pub largest_next : (xs : List Object) (o : Object) → largest_gain_of (xs ++ (o ∷ [])) ≡ max (largest_gain_of xs) (gain o.kind)
unfolding largest_gain_of
largest_next xs o = let e = largest_append xs (o ∷ []) in omega (arith, e)

-- of one object
pub largest_one : (o : Object) → largest_gain_of (o ∷ []) ≡ gain o.kind
unfolding largest_gain_of
largest_one o = omega arith

-- the combo never falls, and what a step adds to it is the object's gain
pub combo_before : (m : ℕ) (st : State) (k : Kind) → st.combo ≤ (walk m st (hits_of k)).combo
combo_before m st k = let e = walk-gain m st k in omega (arith, e)

pub combo_added : (m : ℕ) (st : State) (k : Kind) → (walk m st (hits_of k)).combo - st.combo ≡ gain k
combo_added m st k = let e = walk-gain m st k in omega (arith, e)
