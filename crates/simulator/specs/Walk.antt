-- Document 01, "Simulation": "Each object steps the running state". A walk takes the state that it starts from and the multiplier.
use Rattle.std.specs.Prelude.{ℕ, ◌+◌, ◌-◌, ◌*◌, ◌/◌, cond, List, [], ◌∷◌}
use Rattle.records.specs.Objects.{Object}
use Rattle.ruleset.specs.BaseScore.{base_score}
use Rattle.simulator.specs.Hits.{Account, accuracy, bonus, Hit, hits_of}
use Rattle.simulator.specs.declared.legacy_score_simulator.OsuLegacyScoreSimulator.{OsuLegacyScoreSimulator}

abbrev pub State : Type 0
State = OsuLegacyScoreSimulator

-- "the running state starts with combo 0 and both bonus sums 0"
abbrev pub fresh : State
fresh = record {
  combo = 0;
  accuracy_score = 0;
  combo_score = 0;
  legacy_bonus_score = record { 0 = 0 };
  standardised_bonus_score = record { 0 = 0 };
}

-- what a hit adds to the accuracy score, and to the two bonus sums
abbrev pub accuracy_points : Account → ℕ → ℕ
accuracy_points accuracy v = v
accuracy_points (bonus r) v = 0

abbrev pub legacy_points : Account → ℕ → ℕ
legacy_points accuracy v = 0
legacy_points (bonus r) v = v

abbrev pub standardised_points : Account → ℕ
standardised_points accuracy = 0
standardised_points (bonus r) = base_score r

-- a hit of value v at combo c earns v / 25 × max(c - 1, 0) × multiplier: a difference of numbers is 0 where it would be below
abbrev pub combo_points : ℕ → ℕ → ℕ → ℕ
combo_points m c v = v / 25 * (c - 1) * m

-- one hit: its points at the combo before it, which it may then raise
abbrev pub hit : ℕ → State → Hit → State
hit m st h = record {
  combo = st.combo + cond h.raises 1 0;
  accuracy_score = st.accuracy_score + accuracy_points h.account h.value;
  combo_score = st.combo_score + cond h.earns (combo_points m st.combo h.value) 0;
  legacy_bonus_score = record { 0 = st.legacy_bonus_score.0 + legacy_points h.account h.value };
  standardised_bonus_score = record { 0 = st.standardised_bonus_score.0 + standardised_points h.account };
}

unfoldable pub walk : ℕ → State → List Hit → State
walk m st [] = st
walk m st (h ∷ hs) = walk m (hit m st h) hs

-- the state after each object in turn
unfoldable pub after : ℕ → State → List Object → State
after m st [] = st
after m st (o ∷ os) = after m (walk m st (hits_of o.kind)) os
