-- Document 01, "The board": "entries of 13 u64 words".
use Rattle.std.specs.Prelude.{ℕ, zero, suc, ◌*◌, List, [], ◌++◌, take, drop}
use Rattle.std.proofs.Math.Seq.{sets}
use Rattle.entries.specs.Entry.{words_of, of_words, entry_words}
use Rattle.entries.specs.declared.entry.Entry.{Entry}

unfoldable pub entry_at : List ℕ → ℕ → Entry
entry_at b e = of_words (take entry_words (drop (e * entry_words) b))

unfoldable pub put_entry : List ℕ → ℕ → Entry → List ℕ
put_entry b e v = sets b (e * entry_words) (words_of v)

-- the words of n entries from x on
unfoldable pub words_from : (ℕ → Entry) → ℕ → ℕ → List ℕ
words_from f x zero = []
words_from f x (suc n) = words_of (f x) ++ words_from f (suc x) n
