-- The words before place i stand.
use mathlib.Core.Path.{◌≡◌}
use lib.Seq.{paste}
use Rattle.entries.proofs.words.store.Given as goal

abbrev pub invariant-loop-i : goal.invariant-loop-i
invariant-loop-i l = l.b ≡ paste l.initial.b l.at l.words l.i
