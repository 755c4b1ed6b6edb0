-- `reverse_lerp`, `smoothstep` and `logistic` of the Rust's `util/difficulty`, each operation rounded once, in its order.
use Rattle.std.specs.Prelude.{Float}
use Rattle.numbers.specs.Floats.{whole, ◌⊕◌, ◌⊖◌, ◌⊗◌, ◌⊘◌}
use Rattle.numbers.specs.MinMax.{clamp_of}
use Rattle.exponential.specs.Exp.{exp_of}

unfoldable pub reverse_lerp_of : Float → Float → Float → Float
reverse_lerp_of x start end = clamp_of ((x ⊖ start) ⊘ (end ⊖ start)) (whole 0) (whole 1)

unfoldable pub smoothstep_of : Float → Float → Float → Float
smoothstep_of x start end = let t = reverse_lerp_of x start end in t ⊗ t ⊗ (whole 3 ⊖ whole 2 ⊗ t)

-- with the largest value 1, which the Rust takes where none is given
unfoldable pub logistic_of : Float → Float → Float → Float
logistic_of x midpoint multiplier = whole 1 ⊘ (whole 1 ⊕ exp_of (multiplier ⊗ (midpoint ⊖ x)))
