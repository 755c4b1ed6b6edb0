-- The rest of the series from the h so far is the whole series from 1, in each turn.
use mathlib.Core.Path.{◌≡◌}
use Rattle.numbers.specs.Floats.{whole}
use Rattle.exponential.specs.Exp.{series_of}
use Rattle.exponential.proofs.series.Given as goal

abbrev pub invariant-loop-j : goal.invariant-loop-j
invariant-loop-j l = series_of l.y l.j l.h ≡ series_of l.y 8 (whole 1)
