use mathlib.Core.Path.{sym, ◌∙◌}
use Rattle.map_reader.proofs.Running.{running_next}
use Rattle.map_reader.proofs.objects.run.Goals as goal

pub loop-state-preserved : goal.loop-state-preserved
loop-state-preserved g c = running_next c.loop-state.invariant c.requires.1 c.loop-state-test.true _ (sym c.in-Next.is ∙ c.with_next.ensures)
