-- The loop keeps the definition: what is left to combine, from where it stands, gives the whole.
use Prim.Native.Nat.{◌-◌}
use Rattle.tree.proofs.Firsts.{Walking}
use Rattle.tree.proofs.first.sum_of_first.Given as goal

abbrev pub invariant-loop : goal.invariant-loop
invariant-loop l = Walking l.b l.end l.initial.t (l.end - l.counter) l.t
