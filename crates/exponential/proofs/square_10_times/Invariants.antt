-- The squarings that are left, of the power so far, are all of x.
use mathlib.Core.Path.{◌≡◌}
use Prim.Native.Nat.{◌-◌}
use Rattle.exponential.specs.Exp.{squared}
use Rattle.exponential.proofs.square_10_times.Given as goal

abbrev pub invariant-loop : goal.invariant-loop
invariant-loop l = squared (10 - l.counter) l.power ≡ squared 10 l.x
