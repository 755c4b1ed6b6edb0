-- Document 01, "The board": the board of a map, each entry from the objects that it covers, and its start table.
use Rattle.std.specs.Prelude.{ℕ, zero, suc, ◌+◌, ◌-◌, ◌*◌, ◌^◌, ◌≤◌, ◌<◌, ◌≡◌, cond, List, [], ◌++◌, map, leb, Float, length, take, drop}
use Rattle.records.specs.Objects.{Object}
use Rattle.entries.specs.Entry.{none, entry_of}
use Rattle.entries.specs.Words.{words_from}
use Rattle.entries.specs.declared.entry.Entry.{Entry}
use Rattle.tree.specs.Size.{levels_of, cap_of}

-- "Entry C + i covers place i; entry e from 1 to C - 1 covers what 2e and 2e + 1 cover": the objects that entry x covers, with c places. The first
-- number bounds the levels below x.
unfoldable pub covered : ℕ → ℕ → List Object → ℕ → List Object
covered zero c os x = []
covered (suc n) c os x = cond (leb c x) (take 1 (drop (x - c) os)) (covered n c os (2 * x) ++ covered n c os (2 * x + 1))

-- the same of places: entry e covers place p
pub data Covers (c : ℕ) : ℕ → ℕ → Type 0 where
  own : {e p : ℕ} → e ≡ c + p → Covers c e p
  left : {e p : ℕ} → 1 ≤ e → e < c → Covers c (2 * e) p → Covers c e p
  right : {e p : ℕ} → 1 ≤ e → e < c → Covers c (2 * e + 1) p → Covers c e p

-- an entry of a tree of l levels
unfoldable pub entry_in : ℕ → List Object → ℕ → Entry
entry_in l os x = entry_of (covered (suc l) (2 ^ l) os x)

-- "entry 0 is zero"
unfoldable pub board_entry : List Object → ℕ → Entry
board_entry os zero = none
board_entry os (suc x) = entry_in (levels_of (length os)) os (suc x)

-- "The board has 2C entries of 13 u64 words"
unfoldable pub board_of : List Object → List ℕ
board_of os = words_from (board_entry os) 0 (2 * cap_of (length os))

-- "A start table holds the f64 starts"
abbrev pub starts_of : List Object → List Float
starts_of os = map (λ (o : Object). o.start) os
