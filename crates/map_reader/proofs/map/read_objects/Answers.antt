-- The second run starts where the first ended, within the bounds of its objects.
use mathlib.Core.Path.{sym, ◌∙◌, subst}
use mathlib.Core.Bool.{true}
use native.Mathlib.Omega.{arith}
use Rattle.map_reader.specs.Objects.{Small}
use Rattle.map_reader.proofs.Running.{small_start, small_ran}
use Rattle.map_reader.proofs.map.read_objects.Goals as goal

pub run-requires-2 : goal.run-requires-2
run-requires-2 c =
    let s = c.args.s.now in
    let start = subst (Small s) (sym c.new.ensures) (small_start s _ (omega arith)) in
    (small_ran true _ s _ _ start (omega arith) (sym c.in_ok-state.was ∙ c.run.ensures), omega arith)
