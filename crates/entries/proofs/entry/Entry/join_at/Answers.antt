-- The factors are chosen, and the sums are the same in either order.
use mathlib.Core.Path.{◌∙◌}
use Rattle.entries.proofs.Runs.{joined_at}
use Rattle.entries.proofs.entry.Entry.join_at.Goals as goal

pub returns : goal.returns
returns c =
    c.sum.ensures
    ∙ rw (← c.b.view_is) (joined_at _ _ _ _ _ _ _ _ _ c.choose-combo.ensures c.choose-count.ensures c.choose-first_count.ensures c.choose-first_there.ensures c.choose-first_behind.ensures c.choose.ensures)
