-- What the code keeps: a slider's counts in place of its items, and combo points at multiplier 1.
use Rattle.std.specs.Prelude.{ℕ, ◌*◌, List, ◌++◌, replicate}
use Rattle.records.specs.Objects.{Item, tick, repeat, Kind, circle, slider, spinner}
use Rattle.records.specs.declared.hit_object.Slider.{Slider}
use Rattle.records.specs.declared.hit_object.HitObjectKind.{HitObjectKind}
use Rattle.records.specs.declared.hit_object.HitObjectKind.TheVariants as kind
use Rattle.simulator.specs.Walk.{State}

-- an object with the counts that the code keeps: the repeats, then the ticks. Their order changes no sum.
abbrev pub items_of : Slider → List Item
items_of s = replicate s.repeats repeat ++ replicate s.ticks tick

abbrev pub kind_of : HitObjectKind → Kind
kind_of kind.Circle = circle
kind_of (kind.Slider s) = slider (items_of s)
kind_of (kind.Spinner s) = spinner s.duration

-- a state of multiplier 1 at multiplier m
abbrev pub times : ℕ → State → State
times m st = record {
  combo = st.combo;
  accuracy_score = st.accuracy_score;
  combo_score = st.combo_score * m;
  legacy_bonus_score = st.legacy_bonus_score;
  standardised_bonus_score = st.standardised_bonus_score;
}
