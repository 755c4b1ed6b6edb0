-- Rust's `x.round_ties_even() as i32`, by whole-number arithmetic on the value. Definitions only.
use Rattle.std.specs.Prelude.{ℕ, ◌-◌, ◌*◌, ◌^◌, min, Bool, cond, ℤ, pos, neg_ℤ, Float}
use Rattle.std.specs.Float.{nan, inf, fin}
use Rattle.std.specs.Float.Ieee.{up, down}
use Rattle.std.specs.Float.Ieee.Nearest.{closest}

-- Rust's `as i32` of a whole number n with a sign: the nearest end of the range where it is out of it
abbrev pub saturated : Bool → ℕ → ℤ
saturated s n = cond s (neg_ℤ (pos (min n (2 ^ 31)))) (pos (min n (2 ^ 31 - 1)))

-- `closest a b` is the whole number nearest to a / b, and the even one of two that are as near. A NaN gives 0.
unfoldable pub round_ties_even_i32 : Float → ℤ
round_ties_even_i32 nan = pos 0
round_ties_even_i32 (inf s) = saturated s (2 ^ 31)
round_ties_even_i32 (fin s m e) = saturated s (closest (m * up e) (down e))
