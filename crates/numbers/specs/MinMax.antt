-- Rust's `f64::max`, `f64::min` and `f64::clamp`. Definitions only.
-- Document 01: "`max` and `min` return the other operand if one is not a number".
use Rattle.std.specs.Prelude.{cond, is_nan, Float}
use Rattle.std.specs.Float.Ieee.{lt}

-- Of two equal operands, as -0 and +0, the first: Rust leaves that open. Where y alone is a NaN, `lt x y` is false, so the result is x.
unfoldable pub max_of : Float → Float → Float
max_of x y = cond (is_nan x) y (cond (lt x y) y x)

unfoldable pub min_of : Float → Float → Float
min_of x y = cond (is_nan x) y (cond (lt y x) y x)

-- `x.clamp(lo, hi)` for lo not above hi: a NaN stays
unfoldable pub clamp_of : Float → Float → Float → Float
clamp_of x lo hi = cond (lt x lo) lo (cond (lt hi x) hi x)
