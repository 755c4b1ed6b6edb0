-- Before each turn the sums are those of the half spins so far.
use mathlib.Core.Path.{◌≡◌}
use Rattle.spinner.specs.Bonus.{sums_before}
use Rattle.spinner.proofs.walk_half_spins.Given as goal

abbrev pub invariant-loop-i : goal.invariant-loop-i
invariant-loop-i l = l.sums ≡ sums_before l.before l.i
