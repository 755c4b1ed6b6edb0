-- Document 01, "The board": "An edit reads the other half of each covering entry, from the bottom up".
use Rattle.std.specs.Prelude.{ℕ, zero, suc, ◌+◌, ◌-◌, ◌/◌, ◌%◌, ◌^◌, ◌≤◌, ◌≡◌, true, cond, List, eqb}
use Rattle.rules.specs.Limits.{max_levels}
use Rattle.rules.specs.Refusals.{Checked, good, ◌>>=◌}
use Rattle.entries.specs.Entry.{joined, in_limits, checked}
use Rattle.entries.specs.Words.{entry_at, put_entry}
use Rattle.entries.specs.declared.entry.Entry.{Entry}
use Rattle.tree.specs.Limited.{limited}

-- the other half of the entry above e
abbrev pub beside_of : ℕ → ℕ
beside_of e = cond (eqb (e % 2) 0) (e + 1) (e - 1)

-- the entry above e, from v at e and what was read beside it, unchecked
abbrev pub joined_at : ℕ → Entry → Entry → Entry
joined_at e v read = cond (eqb (e % 2) 0) (joined v read) (joined read v)

-- the same, checked
unfoldable pub above_of : ℕ → Entry → Entry → Checked Entry
above_of e v read = do
  u ← checked read
  limited (joined_at e v u)

-- v at entry e and what follows from it at the n entries above
unfoldable pub climbed : ℕ → List ℕ → ℕ → Entry → Checked (List ℕ)
climbed zero b e v = good (put_entry b e v)
climbed (suc n) b e v = do
  u ← above_of e v (entry_at b (beside_of e))
  written ← climbed n b (e / 2) u
  good (put_entry written e v)

-- ---- the same in two passes, where nothing is refused: what the quick climb does
-- the entry n levels above e
unfoldable pub top_of : ℕ → List ℕ → ℕ → Entry → Entry
top_of zero b e v = v
top_of (suc n) b e v = top_of n b (e / 2) (joined_at e v (entry_at b (beside_of e)))

-- what is read is within its limits
unfoldable pub ReadsIn : ℕ → List ℕ → ℕ → Type 0
ReadsIn zero b e = Unit {0}
ReadsIn (suc n) b e = (in_limits (entry_at b (beside_of e)) ≡ true) × ReadsIn n b (e / 2)

-- and so is the last sum, on a way that stays above entry 0
pub record Clear (n : ℕ) (b : List ℕ) (e : ℕ) (v : Entry) : Type 0 where
  pub few : n ≤ max_levels
  pub path : 2 ^ n ≤ e
  pub reads : ReadsIn n b e
  pub top : in_limits (top_of n b e v) ≡ true

-- v at entry e and what follows from it at the n entries above, from the bottom up
unfoldable pub written_up : ℕ → List ℕ → ℕ → Entry → List ℕ
written_up zero b e v = put_entry b e v
written_up (suc n) b e v = written_up n (put_entry b e v) (e / 2) (joined_at e v (entry_at b (beside_of e)))
