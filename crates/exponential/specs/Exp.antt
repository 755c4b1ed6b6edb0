-- Document 02, §1: "`exp(v)` has these steps, also in the oracle: 0 if v is below -700; else y = v / 1024, h = 1, then for j from 8 down to 1
-- h = 1 + (y / j) × h, then ten squarings." Each operation is rounded once. Definitions only.
use Rattle.std.specs.Prelude.{ℕ, zero, suc, cond, Float}
use Rattle.std.specs.Float.Ieee.{neg, lt}
use Rattle.numbers.specs.Floats.{whole, ◌⊕◌, ◌⊗◌, ◌⊘◌}

-- "for j from .. down to 1 h = 1 + (y / j) × h", from the h so far
unfoldable pub series_of : Float → ℕ → Float → Float
series_of y zero h = h
series_of y (suc j) h = series_of y j (whole 1 ⊕ y ⊘ whole (suc j) ⊗ h)

unfoldable pub squared : ℕ → Float → Float
squared zero x = x
squared (suc n) x = squared n (x ⊗ x)

unfoldable pub exp_of : Float → Float
exp_of v = cond (lt v (neg (whole 700))) (whole 0) (squared 10 (series_of (v ⊘ whole 1024) 8 (whole 1)))
