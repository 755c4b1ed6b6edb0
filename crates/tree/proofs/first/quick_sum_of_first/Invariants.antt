-- The sum is that of the walk's steps, and one within its limits was within them at each step.
use Rattle.tree.proofs.Jumps.{Summing}
use Rattle.tree.proofs.first.quick_sum_of_first.Given as goal

abbrev pub invariant-loop-rest : goal.invariant-loop-rest
invariant-loop-rest l = Summing l.b l.size l.p l.done l.rest l.sum

abbrev pub decreases-loop-rest : goal.decreases-loop-rest
decreases-loop-rest l = l.rest
