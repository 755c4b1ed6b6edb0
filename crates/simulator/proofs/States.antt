-- A running state by its five numbers, and the counts of objects by their seven. Assumes nothing.
use mathlib.Core.Path.{◌≡◌, refl}
use Prim.Native.Nat.{ℕ}
use Rattle.simulator.specs.Walk.{State}
use Rattle.simulator.specs.declared.legacy_score.NestedScorePerObject.{NestedScorePerObject}

abbrev pub state : ℕ → ℕ → ℕ → ℕ → ℕ → State
state c a p l s = record {
  combo = c;
  accuracy_score = a;
  combo_score = p;
  legacy_bonus_score = record { 0 = l };
  standardised_bonus_score = record { 0 = s };
}

pub state_same : {c c' a a' p p' l l' s s' : ℕ} → c ≡ c' → a ≡ a' → p ≡ p' → l ≡ l' → s ≡ s' → state c a p l s ≡ state c' a' p' l' s'
state_same h1 h2 h3 h4 h5 = cc

pub state_is : (st : State) → st ≡ state st.combo st.accuracy_score st.combo_score st.legacy_bonus_score.0 st.standardised_bonus_score.0
state_is st = refl

pub nested_same : {c1 c2 c3 c4 c5 c6 c7 d1 d2 d3 d4 d5 d6 d7 : ℕ} → c1 ≡ d1 → c2 ≡ d2 → c3 ≡ d3 → c4 ≡ d4 → c5 ≡ d5 → c6 ≡ d6 → c7 ≡ d7
    → ◌≡◌ {A = NestedScorePerObject}
    (record { object_count = c1; n_circles = c2; n_sliders = c3; n_spinners = c4; n_repeats = c5; amount_of_small_ticks = c6; spinner_score = c7 })
    (record { object_count = d1; n_circles = d2; n_sliders = d3; n_spinners = d4; n_repeats = d5; amount_of_small_ticks = d6; spinner_score = d7 })
nested_same e1 e2 e3 e4 e5 e6 e7 = cc
