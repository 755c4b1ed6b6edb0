-- The words before place i are those of the entry.
use Prim.Native.Nat.{ℕ, ◌+◌, ◌<◌}
use mathlib.Core.Path.{◌≡◌}
use lib.ListN.{length, get_or}
use Rattle.entries.specs.Entry.{entry_words}
use Rattle.entries.proofs.words.load.Given as goal

abbrev pub invariant-loop-i : goal.invariant-loop-i
invariant-loop-i l = record {
  size : length l.words ≡ entry_words;
  read : (k : ℕ) → k < l.i → get_or l.words k 0 ≡ get_or l.b (l.at + k) 0;
}
