-- Walks part by part: over lists that follow each other, over a slider's items, over half spins; and the multiplier as a factor. Assumes nothing.
use mathlib.Core.Path.{◌≡◌, refl, ap, ◌∙◌}
use Prim.Native.Nat.{ℕ, zero, suc, ◌+◌, ◌-◌, ◌*◌, ◌/◌}
use native.Mathlib.Omega.{arith}
use mathlib.Core.Bool.{Bool, true, false, cond}
use mathlib.Core.List.{List, [], ◌∷◌, ◌++◌, map}
use Rattle.spinner.specs.Bonus.{is_large, is_small, half_spin_points}
use Rattle.records.specs.Objects.{Item, tick, repeat, Object, repeats, ticks}
use Rattle.simulator.specs.Hits.{Hit, item_hit, half_spin, half_spins, hits_of, small_bonus, large_bonus}
use Rattle.simulator.specs.Walk.{State, fresh, hit, walk, after}
use Rattle.simulator.specs.View.{times}
use Rattle.simulator.proofs.States.{state, state_same}

pub walk-append : (m : ℕ) (st : State) (xs ys : List Hit) → walk m st (xs ++ ys) ≡ walk m (walk m st xs) ys
unfolding walk
walk-append m st [] ys = refl
walk-append m st (x ∷ xs) ys = walk-append m (hit m st x) xs ys

pub after-append : (m : ℕ) (st : State) (xs ys : List Object) → after m st (xs ++ ys) ≡ after m (after m st xs) ys
unfolding after
after-append m st [] ys = refl
after-append m st (x ∷ xs) ys = after-append m (walk m st (hits_of x.kind)) xs ys

-- a slider's items: repeats and ticks only count
pub walk_items : (m : ℕ) (is : List Item) (c a p l s : ℕ)
    → walk m (state c a p l s) (map item_hit is) ≡ state (c + repeats is + ticks is) (a + 30 * repeats is + 10 * ticks is) p l s
unfolding walk repeats ticks
walk_items m [] c a p l s = state_same (omega arith) (omega arith) refl refl refl
walk_items m (tick ∷ is) c a p l s =
    walk_items m is (c + 1) (a + 10) (p + 0) (l + 0) (s + 0) ∙ state_same (omega arith) (omega arith) (omega arith) (omega arith) (omega arith)
walk_items m (repeat ∷ is) c a p l s =
    walk_items m is (c + 1) (a + 30) (p + 0) (l + 0) (s + 0) ∙ state_same (omega arith) (omega arith) (omega arith) (omega arith) (omega arith)

-- the half spins: both bonus sums are those of the walk over the points
pub walk-spins : (m b n c a p l s : ℕ) → walk m (state c a p l s) (half_spins b n) ≡ state c a p (l + half_spin_points 1100 100 b n) (s + half_spin_points 50 10 b n)
unfolding walk half_spins half_spin_points
walk-spins m b zero c a p l s = state_same refl refl refl (omega arith) (omega arith)
walk-spins m b (suc i) c a p l s =
    walk-append m (state c a p l s) (half_spins b i) (half_spin b i)
    ∙ ap (λ (st : State). walk m st (half_spin b i)) (walk-spins m b i c a p l s)
    ∙ one (is_large b i) (is_small i) (half_spin_points 1100 100 b i) (half_spin_points 50 10 b i)
  where
    one : (x y : Bool) (u v : ℕ)
        → walk m (state c a p (l + u) (s + v)) (cond x (large_bonus ∷ []) (cond y (small_bonus ∷ []) []))
        ≡ state c a p (l + (u + cond x 1100 (cond y 100 0))) (s + (v + cond x 50 (cond y 10 0)))
    one true y u v = state_same (omega arith) (omega arith) (omega arith) (omega arith) (omega arith)
    one false true u v = state_same (omega arith) (omega arith) (omega arith) (omega arith) (omega arith)
    one false false u v = state_same refl refl refl (omega arith) (omega arith)

-- ---- the combo points of multiplier m are m times those of multiplier 1
points_times : (m c v p : ℕ) (e : Bool) → p * m + cond e (v / 25 * (c - 1) * m) 0 ≡ (p + cond e (v / 25 * (c - 1) * 1) 0) * m
points_times m c v p true = factor (v / 25 * (c - 1))
  where
    factor : (q : ℕ) → p * m + q * m ≡ (p + q * 1) * m
    factor q = omega arith
points_times m c v p false = omega arith

hit-times : (m : ℕ) (st : State) (h : Hit) → hit m (times m st) h ≡ times m (hit 1 st h)
hit-times m st h = state_same refl refl (points_times m st.combo h.value st.combo_score h.earns) refl refl

pub walk-times : (m : ℕ) (st : State) (hs : List Hit) → walk m (times m st) hs ≡ times m (walk 1 st hs)
unfolding walk
walk-times m st [] = refl
walk-times m st (h ∷ hs) = ap (λ (x : State). walk m x hs) (hit-times m st h) ∙ walk-times m (hit 1 st h) hs

pub after-times : (m : ℕ) (st : State) (os : List Object) → after m (times m st) os ≡ times m (after 1 st os)
unfolding after
after-times m st [] = refl
after-times m st (o ∷ os) =
    ap (λ (x : State). after m x os) (walk-times m st (hits_of o.kind)) ∙ after-times m (walk 1 st (hits_of o.kind)) os

pub fresh-times : (m : ℕ) → fresh ≡ times m fresh
fresh-times m = state_same refl refl (omega arith) refl refl
