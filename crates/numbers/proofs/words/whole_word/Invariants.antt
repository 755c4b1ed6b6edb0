-- `numbers::words::whole_word` is right since before each turn the word is the number of the bytes behind those that are left. Assumes nothing.
use Rattle.std.proofs.Common.{◌≡◌, ℕ, List, ◌++◌, length}
use Rattle.std.specs.Iterator.Adapters.{rev_source}
use Rattle.std.specs.Slice.Iter.{iter_rest}
use Rattle.numbers.specs.Words.{word_at}
use Rattle.numbers.proofs.words.whole_word.Given as goal

abbrev pub invariant-loop-byte : goal.invariant-loop-byte
invariant-loop-byte l =
    (read : List ℕ) × (l.s ≡ iter_rest (rev_source l.byte-iterator) ++ read) × (l.word ≡ word_at read 0 (length read))
