-- The words that are left to test, from the outcome so far, give the whole test.
use mathlib.Core.Path.{◌≡◌}
use lib.ListN.{length}
use Rattle.std.specs.Slice.Iter.{iter_rest}
use Rattle.entries.specs.Entry.{in_limits, all_le}
use Rattle.entries.proofs.entry.Entry.within.Given as goal

abbrev pub invariant-loop-word : goal.invariant-loop-word
invariant-loop-word l =
    (all_le l.within (iter_rest l.word-iterator.a) (iter_rest l.word-iterator.b) ≡ in_limits l.fn.self)
    × (length (iter_rest l.word-iterator.a) ≡ length (iter_rest l.word-iterator.b))
