-- Writing what is left of the way, from the words as they stand, gives what writing all of it at first did.
use Prim.Native.Nat.{◌-◌}
use Rattle.tree.proofs.Rises.{Writing}
use Rattle.tree.proofs.put.write_up.Given as goal

abbrev pub invariant-loop : goal.invariant-loop
invariant-loop l = Writing l.initial.b l.levels l.e l.initial.sum l.b (l.levels - l.counter) l.at l.sum
