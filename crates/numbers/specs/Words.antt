-- Document 01, "Numbers are little-endian": a number in a list of bytes, and a number as bytes. Definitions only.
use Rattle.std.specs.Prelude.{ℕ, zero, suc, ◌+◌, ◌*◌, ◌/◌, ◌%◌, List, [], ◌∷◌, slice_index}

-- the number of the n bytes from place `at` on, the lowest first; a byte past the end counts as 0
unfoldable pub word_at : List ℕ → ℕ → ℕ → ℕ
word_at s at zero = 0
word_at s at (suc n) = slice_index s at + 256 * word_at s (at + 1) n

-- the n lowest bytes of v, the lowest first: how a number of n bytes is written
unfoldable pub bytes_of : ℕ → ℕ → List ℕ
bytes_of zero v = []
bytes_of (suc n) v = v % 256 ∷ bytes_of n (v / 256)
