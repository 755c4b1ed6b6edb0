-- Document 01: "root is the double nearest the exact square root, defined by squares of whole numbers". Definitions only.
use Rattle.std.specs.Prelude.{ℕ, zero, suc, ◌+◌, ◌*◌, ◌/◌, ◌^◌, true, false, cond, ◌==◌, nat_le, Float}
use Rattle.std.specs.Float.{nan, inf, fin, binary64}
use Rattle.std.specs.Float.Ieee.{up, down, size, round}
use Rattle.numbers.specs.Floats.{◌⊗◌}

-- the root of n digit by digit, for an n below 4 ^ k
unfoldable pub root_digits : ℕ → ℕ → ℕ
root_digits zero n = 0
root_digits (suc k) n = let r = root_digits k (n / 4) in cond (nat_le ((r * 2 + 1) * (r * 2 + 1)) n) (r * 2 + 1) (r * 2)

-- the largest whole number whose square is at most n
unfoldable pub isqrt : ℕ → ℕ
isqrt n = root_digits (size n) n

-- √(n / 2 ^ 1200), rounded once: 2 ^ 600 times it, cut to a whole number q, and after q one more binary digit, which is 0 only where nothing was cut
unfoldable pub rooted : ℕ → Float
rooted n = let q = isqrt n in round binary64 false (q * 2 + cond (q * q == n) 0 1) (2 ^ 601)

-- The f64 nearest to the exact square root of an f64, which is a / 2 ^ k for a k of at most 1074, so that 2 ^ 1200 times it is a whole number.
-- A zero keeps its sign, and a number below zero has no root.
unfoldable pub root_of : Float → Float
root_of nan = nan
root_of (inf s) = cond s nan (inf false)
root_of (fin s zero e) = fin s zero e
root_of (fin true (suc m) e) = nan
root_of (fin false (suc m) e) = rooted (suc m * up e * 2 ^ 1200 / down e)

-- Document 01: "`powf(v, 2.5)` is (v × v) × root(v)"
unfoldable pub power_of : Float → Float
power_of v = (v ⊗ v) ⊗ root_of v
