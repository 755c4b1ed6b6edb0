-- Each turn sets the next mark, from the one before it.
use Rattle.marks.proofs.Marked.{Marking}
use Rattle.marks.proofs.MapFile.marks.Given as goal

abbrev pub invariant-loop-i : goal.invariant-loop-i
invariant-loop-i l = Marking l.self.bytes.now l.self.map l.stride l.state l.states l.i
