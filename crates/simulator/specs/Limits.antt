-- The most that n objects add up to: a bound for every sum of the running state and of the counts.
use Rattle.std.specs.Prelude.{ℕ, ◌+◌, ◌*◌, ◌≤◌, ◌^◌}
use Rattle.rules.specs.Limits.{max_gain, combo_limit, max_combos_before}
use Rattle.simulator.specs.Walk.{State}
use Rattle.simulator.specs.declared.legacy_score.NestedScorePerObject.{NestedScorePerObject}
use Rattle.records.specs.declared.hit_object.HitObjectKind.{HitObjectKind}
use Rattle.records.specs.declared.hit_object.HitObjectKind.TheVariants as kind

-- an object raises the combo by at most 1,001, a slider's head, 999 items and tail, and gives at most 30 for each of these and 300. The combo
-- of 8,192 objects is at most 8,200,192. Of a spinner's at most 2 ^ 31 half spins each gives at most 1,100 and 50.
pub record Within (n : ℕ) (st : State) : Type 0 where
  pub combo : st.combo ≤ max_gain * n
  pub accuracy : st.accuracy_score ≤ 30330 * n
  pub points : st.combo_score ≤ 12 * combo_limit * n
  pub legacy : st.legacy_bonus_score.0 ≤ 1100 * 2 ^ 31 * n
  pub standardised : st.standardised_bonus_score.0 ≤ 50 * 2 ^ 31 * n

-- what the attributes ask of a state, so that its combo has 32 bits and its combo points times a multiplier 64: the most that document 01's limits
-- admit in an entry of the board (k, and 12 × (s + f))
pub record Bounded (st : State) : Type 0 where
  pub combo : st.combo ≤ combo_limit
  pub points : st.combo_score ≤ 12 * (max_combos_before + 1)

pub record Counted (n : ℕ) (c : NestedScorePerObject) : Type 0 where
  pub objects : c.object_count ≤ n
  pub circles : c.n_circles ≤ n
  pub sliders : c.n_sliders ≤ n
  pub spinners : c.n_spinners ≤ n
  pub repeats : c.n_repeats ≤ max_gain * n
  pub ticks : c.amount_of_small_ticks ≤ max_gain * n
  pub spun : c.spinner_score ≤ 1100 * 2 ^ 31 * n

-- the nested items of an object, its tail included
abbrev pub nested_count : HitObjectKind → ℕ
nested_count kind.Circle = 0
nested_count (kind.Slider s) = s.repeats + s.ticks + 1
nested_count (kind.Spinner s) = 0
