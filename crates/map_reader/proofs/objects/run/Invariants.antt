-- Each turn is one step of the definition.
use Prim.Native.Nat.{◌-◌}
use Rattle.map_reader.proofs.Running.{Running}
use Rattle.map_reader.proofs.objects.run.Given as goal

abbrev pub invariant-loop-state : goal.invariant-loop-state
invariant-loop-state g l = Running g.S.SpinnerStep.walks l.s l.limit l.initial.state l.state

abbrev pub decreases-loop-state : goal.decreases-loop-state
decreases-loop-state g l = l.limit - l.state.nested.object_count
