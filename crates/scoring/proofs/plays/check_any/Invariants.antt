-- Each play is the definition's next, and from its mark it is checked on its own passed objects: 9 takes no bonus.
use Prim.Native.Nat.{ℕ, ◌-◌}
use lib.ListN.{length}
use Rattle.scoring.specs.View.{Playing}
use Rattle.scoring.proofs.plays.check_any.Given as goal

abbrev pub invariant-loop-at : goal.invariant-loop-at
invariant-loop-at l = (i : ℕ) → Playing l.file.bytes.now l.file.map l.fn.from l.fn.former i → Playing l.file.bytes.now l.file.map l.at-counter l.wanted i

abbrev pub decreases-loop-at : goal.decreases-loop-at
decreases-loop-at l = length l.s - l.at-counter
