-- What the words of an entry say of its objects' score: the running state behind them, at multiplier 1, and their counts.
use Rattle.std.specs.Prelude.{◌+◌, ◌-◌, ◌*◌, Bool, ◌||◌, ltb}
use Rattle.simulator.specs.Walk.{State}
use Rattle.simulator.specs.declared.legacy_score.NestedScorePerObject.{NestedScorePerObject}
use Rattle.entries.specs.declared.entry.Entry.{Entry}

-- combo points are 12 × (s + f - q): an object's 300 earns 12 for each combo before it but the first
abbrev pub state_in : Entry → State
state_in e = record {
  combo = e.combo;
  accuracy_score = e.accuracy_score;
  combo_score = 12 * (e.combos_before + e.first_no_slider - e.object_count);
  legacy_bonus_score = record { 0 = e.legacy_bonus_score };
  standardised_bonus_score = record { 0 = e.standardised_bonus_score };
}

abbrev pub counts_in : Entry → NestedScorePerObject
counts_in e = record {
  object_count = e.object_count;
  n_circles = e.n_circles;
  n_sliders = e.n_sliders;
  n_spinners = e.n_spinners;
  n_repeats = e.n_repeats;
  amount_of_small_ticks = e.n_ticks;
  spinner_score = e.spinner_score;
}

-- "13: .. a read's combined k is below 2 × sliders or its s + f below q": no objects have such words
unfoldable pub unsound : Entry → Bool
unsound e = ltb e.combo (2 * e.n_sliders) || ltb (e.combos_before + e.first_no_slider) e.object_count
