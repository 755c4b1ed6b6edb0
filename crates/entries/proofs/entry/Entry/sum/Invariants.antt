-- The words before place i are sums, the others those of self.
use Rattle.entries.specs.Entry.{words_of}
use Rattle.entries.proofs.ByWord.{Summing}
use Rattle.entries.proofs.entry.Entry.sum.Given as goal

abbrev pub invariant-loop-i : goal.invariant-loop-i
invariant-loop-i l = Summing (words_of l.fn.self) l.more l.words l.i
