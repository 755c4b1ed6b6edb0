-- Document 01, "Simulation" and "The board": the combo that the objects of a map gain.
use Rattle.std.specs.Prelude.{ℕ, ◌+◌, max, List, [], ◌∷◌, length}
use Rattle.records.specs.Objects.{Object, Kind, circle, slider, spinner}

-- the combo that an object adds: a slider's head and its nested count, which takes in its tail
abbrev pub gain : Kind → ℕ
gain circle = 1
gain (slider is) = 1 + (length is + 1)
gain (spinner d) = 1

-- document 02, §5: "the largest combo gain of one object .., 0 for none"
unfoldable pub largest_gain_of : List Object → ℕ
largest_gain_of [] = 0
largest_gain_of (o ∷ os) = max (gain o.kind) (largest_gain_of os)

-- the combo that it gains before its 300
abbrev pub gain_before : Kind → ℕ
gain_before circle = 0
gain_before (slider is) = gain (slider is)
gain_before (spinner d) = 0

-- "s sums, over the objects, the combo gained .. before the object's 300", from combo c on
abbrev pub combos_before_of : ℕ → List Object → ℕ
combos_before_of c [] = 0
combos_before_of c (o ∷ os) = c + gain_before o.kind + combos_before_of (c + gain o.kind) os

-- "f is 1 if the first object is a circle or spinner"
abbrev pub no_slider : Kind → ℕ
no_slider circle = 1
no_slider (slider is) = 0
no_slider (spinner d) = 1

abbrev pub first_no_slider_of : List Object → ℕ
first_no_slider_of [] = 0
first_no_slider_of (o ∷ os) = no_slider o.kind
