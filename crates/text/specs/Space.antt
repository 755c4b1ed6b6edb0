-- A text in a space of bytes. Definitions only.
use Rattle.std.specs.Prelude.{ℕ, ◌+◌, ◌-◌, min, List, ◌++◌, length, take, drop}

-- the space l with the text t from place `at` on: what stands before and behind it stays, and what does not fit is left out
unfoldable pub put_at : List ℕ → ℕ → List ℕ → List ℕ
put_at l at t = take at l ++ take (length l - at) t ++ drop (at + length t) l

-- the place behind the text, at most the end of the space
unfoldable pub behind : List ℕ → ℕ → List ℕ → ℕ
behind l at t = min (length l) (at + length t)
