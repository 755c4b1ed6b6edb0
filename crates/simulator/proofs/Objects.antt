-- The walk over one object's hits in closed form. Assumes nothing.
use mathlib.Core.Path.{◌≡◌, refl, sym, ap, ◌∙◌}
use Prim.Native.Nat.{ℕ, zero, suc, ◌+◌, ◌-◌, ◌*◌}
use native.Mathlib.Omega.{arith}
use mathlib.Core.List.{List, [], ◌∷◌, ◌++◌, map}
use lib.ListN.{replicate}
use lib.Ieee.{Float}
use Rattle.spinner.specs.HalfSpins.{total_half_spins, required_half_spins}
use Rattle.spinner.specs.Bonus.{legacy_of, standardised_of}
use Rattle.records.specs.Objects.{Item, tick, repeat, Kind, circle, slider, spinner, repeats, ticks, kind_view}
use Rattle.records.specs.declared.hit_object.Slider.{Slider}
use Rattle.simulator.specs.Hits.{item_hit, great, big_tick, slider_end, spins, hits_of}
use Rattle.simulator.specs.Walk.{State, walk}
use Rattle.simulator.specs.Nested.{counted}
use Rattle.simulator.specs.View.{items_of, kind_of}
use Rattle.simulator.specs.declared.legacy_score.NestedScorePerObject.{NestedScorePerObject}
use Rattle.simulator.proofs.States.{state, state_same}
use Rattle.simulator.proofs.Walks.{walk-append, walk_items, walk-spins}

module _ (m : ℕ) (st : State) where
  abbrev c : ℕ
  c = st.combo

  abbrev a : ℕ
  a = st.accuracy_score

  abbrev p : ℕ
  p = st.combo_score

  abbrev l : ℕ
  l = st.legacy_bonus_score.0

  abbrev s : ℕ
  s = st.standardised_bonus_score.0

  pub walk-circle : walk m st (hits_of circle) ≡ state (st.combo + 1) (st.accuracy_score + 300) (st.combo_score + 12 * (st.combo - 1) * m) st.legacy_bonus_score.0 st.standardised_bonus_score.0
  unfolding walk hits_of
  walk-circle = state_same refl refl refl (omega arith) (omega arith)

  -- the head, the repeats, the ticks and the tail, then the end
  pub walk-slider : (is : List Item)
      → walk m st (hits_of (slider is))
      ≡ state (st.combo + (repeats is + 2) + ticks is) (st.accuracy_score + (repeats is + 2) * 30 + ticks is * 10 + 300) (st.combo_score + 12 * (st.combo + (repeats is + 2) + ticks is - 1) * m) st.legacy_bonus_score.0 st.standardised_bonus_score.0
  unfolding walk hits_of
  walk-slider is =
      walk-append m (state (c + 1) (a + 30) (p + 0) (l + 0) (s + 0)) (map item_hit is) (big_tick ∷ slider_end ∷ [])
      ∙ ap (λ (x : State). walk m x (big_tick ∷ slider_end ∷ [])) (walk_items m is (c + 1) (a + 30) (p + 0) (l + 0) (s + 0))
      ∙ end (repeats is) (ticks is)
    where
      end : (r t : ℕ)
          → walk m (state (c + 1 + r + t) (a + 30 + 30 * r + 10 * t) (p + 0) (l + 0) (s + 0)) (big_tick ∷ slider_end ∷ [])
          ≡ state (c + (r + 2) + t) (a + (r + 2) * 30 + t * 10 + 300) (p + 12 * (c + (r + 2) + t - 1) * m) l s
      end r t =
          let k : c + 1 + r + t + 1 ≡ c + (r + 2) + t = omega arith in
          state_same (omega arith) (omega arith) (ap (λ (x : ℕ). p + 0 + 0 + 12 * (x - 1) * m) k ∙ omega arith) (omega arith) (omega arith)

  pub walk-spinner : (d : Float)
      → walk m st (hits_of (spinner d))
      ≡ state (st.combo + 1) (st.accuracy_score + 300) (st.combo_score + 12 * (st.combo - 1) * m) (st.legacy_bonus_score.0 + legacy_of d) (st.standardised_bonus_score.0 + standardised_of d)
  unfolding walk hits_of legacy_of standardised_of
  walk-spinner d =
      walk-append m st (spins d) (great ∷ [])
      ∙ ap (λ (x : State). walk m x (great ∷ [])) (walk-spins m (required_half_spins d + 3) (suc (total_half_spins d)) c a p l s)
      ∙ state_same refl refl refl (omega arith) (omega arith)

-- ---- what the code keeps of an object gives the same walk and the same counts
repeats_of : (n k : ℕ) → repeats (replicate n repeat ++ replicate k tick) ≡ n
unfolding repeats
repeats_of zero zero = refl
repeats_of zero (suc k) = repeats_of zero k
repeats_of (suc n) k = ap suc (repeats_of n k)

ticks_of : (n k : ℕ) → ticks (replicate n repeat ++ replicate k tick) ≡ k
unfolding ticks
ticks_of zero zero = refl
ticks_of zero (suc k) = ap suc (ticks_of zero k)
ticks_of (suc n) k = ticks_of n k

pub walk_kept : (m : ℕ) (st : State) (k : Kind) → walk m st (hits_of (kind_of (kind_view k))) ≡ walk m st (hits_of k)
walk_kept m st circle = refl
walk_kept m st (slider is) =
    walk-slider m st (items_of (record { repeats = repeats is; ticks = ticks is }))
    ∙ simp (repeats_of (repeats is) (ticks is), ticks_of (repeats is) (ticks is)) (sym (walk-slider m st is))
walk_kept m st (spinner d) = refl

pub counted_kept : (c : NestedScorePerObject) (k : Kind) → counted c (kind_of (kind_view k)) ≡ counted c k
unfolding counted
counted_kept c circle = refl
counted_kept c (slider is) = simp (repeats_of (repeats is) (ticks is), ticks_of (repeats is) (ticks is))
counted_kept c (spinner d) = refl

pub repeats_kept : (s : Slider) → repeats (items_of s) ≡ s.repeats
repeats_kept s = repeats_of s.repeats s.ticks

pub ticks_kept : (s : Slider) → ticks (items_of s) ≡ s.ticks
ticks_kept s = ticks_of s.repeats s.ticks

-- an object's walk, with the counts of a slider
pub ruleset walks = (walk-circle, walk-slider, walk-spinner, repeats_kept, ticks_kept)
