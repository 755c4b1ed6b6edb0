-- How far a read is in a space of n bytes, and what it moved there. Definitions only.
use Rattle.std.specs.Prelude.{ℕ, ◌-◌, ◌<◌, ◌≤◌, List, length, take, drop, Option, Some, None}
use Rattle.std.specs.Io.KnownBytes.{Consumes, IsAtEnd, Keeps}

-- a place behind moved bytes lies in the space
abbrev pub MovedWithin : ℕ → Option ℕ → Type 0
MovedWithin n (Some place) = place ≤ n
MovedWithin n None = Unit

-- the bytes from one place to the next come from the reader's; at the end none came, and none are left if the space has room
abbrev pub MovesBytes : ℕ → List ℕ → Option (List ℕ) → Option (List ℕ) → Option ℕ → Type 0
MovesBytes at space old new (Some place) = (at ≤ place) × Consumes old new (take (place - at) (drop at space))
MovesBytes at space old new None = Keeps old new × (at < length space → IsAtEnd new)
