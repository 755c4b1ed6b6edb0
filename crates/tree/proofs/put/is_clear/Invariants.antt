-- The sum at each level is that of the way so far, so that the last one is the top's.
use Prim.Native.Nat.{◌-◌}
use Rattle.tree.proofs.Rises.{Climbing}
use Rattle.tree.proofs.put.is_clear.Given as goal

abbrev pub invariant-loop : goal.invariant-loop
invariant-loop l = Climbing l.b l.levels l.e l.initial.sum (l.levels - l.counter) l.at l.sum
