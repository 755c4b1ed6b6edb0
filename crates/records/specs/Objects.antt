-- The objects of a map as data, and the counts that the code keeps of them.
use Rattle.std.specs.Prelude.{ℕ, suc, ◌+◌, List, [], ◌∷◌, Float}
use Rattle.spinner.specs.Bonus.{legacy_of}
use Rattle.records.specs.declared.hit_object.Slider.{Slider}
use Rattle.records.specs.declared.hit_object.HitObject.{HitObject}
use Rattle.records.specs.declared.hit_object.HitObjectKind.{HitObjectKind}
use Rattle.records.specs.declared.hit_object.HitObjectKind.TheVariants as kind

-- a nested item of a slider before its tail
pub data Item : Type 0 where
  tick : Item
  repeat : Item

-- a slider has the nested items before its tail, in order; a spinner its duration
pub data Kind : Type 0 where
  circle : Kind
  slider : List Item → Kind
  spinner : Float → Kind

pub record Object : Type 0 where
  pub start : Float
  pub kind : Kind

unfoldable pub repeats : List Item → ℕ
repeats [] = 0
repeats (tick ∷ is) = repeats is
repeats (repeat ∷ is) = suc (repeats is)

unfoldable pub ticks : List Item → ℕ
ticks [] = 0
ticks (tick ∷ is) = suc (ticks is)
ticks (repeat ∷ is) = ticks is

-- what the code keeps of a slider
abbrev pub slider_view : List Item → Slider
slider_view is = record { repeats = repeats is; ticks = ticks is }

abbrev pub kind_view : Kind → HitObjectKind
kind_view circle = kind.Circle
kind_view (slider is) = kind.Slider (slider_view is)
kind_view (spinner d) = kind.Spinner (record { duration = d })

abbrev pub object_view : Object → HitObject
object_view o = record { start_time = o.start; kind = kind_view o.kind }

-- the legacy bonus of an object: a spinner's
abbrev pub kind_bonus : Kind → ℕ
kind_bonus circle = 0
kind_bonus (slider is) = 0
kind_bonus (spinner d) = legacy_of d

unfoldable pub bonus : List Object → ℕ
bonus [] = 0
bonus (o ∷ os) = kind_bonus o.kind + bonus os
