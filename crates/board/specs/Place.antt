-- Document 01, "What a caller gets" and "The board": room for a map's board and start table, and an entry and a start put at a place of them.
use Rattle.std.specs.Prelude.{ℕ, ◌+◌, ◌*◌, ◌^◌, ◌≤◌, ◌≡◌, List, ltb, Float, length, set, Result}
use Rattle.rules.specs.Limits.{max_objects}
use Rattle.entries.specs.Entry.{place_words}
use Rattle.rules.specs.Refusals.{Checked, good, refused, ◌>>=◌, ◌>>◌, refuse◌when◌, COUNT, ROOM, OrRefusal, at_0}
use Rattle.entries.specs.declared.entry.Entry.{Entry}
use Rattle.tree.specs.Size.{levels_of, cap_of}
use Rattle.tree.specs.Put.{climbed}

-- "6: .. an 8,193rd object"; "11: the board has fewer than 26 × C words, or the start table fewer numbers than objects"
unfoldable pub room_for : List ℕ → List Float → ℕ → Checked (Unit {0})
room_for b ts n = do
  refuse COUNT when ltb max_objects n
  refuse ROOM when ltb (length b) (place_words * cap_of n)
  refuse ROOM when ltb (length ts) n

-- the levels for n objects, where there is room
abbrev pub room_of : ℕ → Checked (Unit {0}) → Checked ℕ
room_of n x = x >> good (levels_of n)

-- the levels for n objects, with room for them in both slices
pub record Holds (size n : ℕ) (b : List ℕ) (ts : List Float) : Type 0 where
  pub levels : size ≡ levels_of n
  pub few : n ≤ max_objects
  pub words : place_words * cap_of n ≤ length b
  pub numbers : n ≤ length ts

-- both slices with an entry at e and what follows from it on so many levels above, and a start at a place
unfoldable pub put_above : ℕ → ℕ → Entry → ℕ → Float → List ℕ → List Float → Checked (List ℕ × List Float)
put_above levels e v place start b ts = do
  written ← climbed levels b e v
  good (written, set ts place start)

-- both slices of a board of so many levels, with an entry and what follows from it above, and a start
unfoldable pub put_place : ℕ → ℕ → Entry → Float → List ℕ → List Float → Checked (List ℕ × List Float)
put_place levels place v start b ts = do
  written ← climbed levels b (2 ^ levels + place) v
  good (written, set ts place start)

-- ---- the answers and what both slices hold at last: "a refused call .. leaves all lent memory untouched"
abbrev pub put_left : {E : Type 0} → Result (List ℕ × List Float) E → List ℕ → List Float → Result (Unit {0}) E × List ℕ × List Float
put_left (refused n) b ts = (refused n, b, ts)
put_left (good w) b ts = (good tt, w.0, w.1)

-- the offset "is 0 .. for all refusals of calls that take no file; in an edit the lent object record starts at 0"
abbrev pub written_left : Checked (List ℕ × List Float) → List ℕ → List Float → OrRefusal (Unit {0}) × List ℕ × List Float
written_left x b ts = put_left (at_0 x) b ts
