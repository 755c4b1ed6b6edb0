-- Document 01, "The board": a build, on the words of any lent slice: the objects' own entries, zero where no object is, then what lies above.
use Rattle.std.specs.Prelude.{ℕ, zero, suc, ◌+◌, ◌-◌, ◌*◌, ◌≡◌, true, List, [], ◌∷◌}
use Rattle.records.specs.Objects.{Object}
use Rattle.entries.specs.Entry.{none, joined, entry_of, in_limits}
use Rattle.entries.specs.Words.{entry_at, put_entry}
use Rattle.entries.specs.declared.entry.Entry.{Entry}

-- "Entry C + i covers place i": the own entries of objects, from entry e on
unfoldable pub laid : ℕ → List Object → List ℕ → List ℕ
laid e [] b = b
laid e (o ∷ os) b = laid (suc e) os (put_entry b e (entry_of (o ∷ [])))

-- n zero entries from e on
unfoldable pub cleared : ℕ → ℕ → List ℕ → List ℕ
cleared e zero b = b
cleared e (suc n) b = put_entry (cleared e n b) (e + n) none

-- "entry 0 is zero", and "Beyond the objects entries are zero", with c places
abbrev pub emptied : ℕ → ℕ → List ℕ → List ℕ
emptied c count b = cleared (c + count) (c - count) (put_entry b 0 none)

-- "entry e from 1 to C - 1 covers what 2e and 2e + 1 cover"
abbrev pub halves_of : List ℕ → ℕ → Entry
halves_of b e = joined (entry_at b (e * 2)) (entry_at b (e * 2 + 1))

-- the entries n, n - 1, .., 1, each from its two halves
unfoldable pub raised : ℕ → List ℕ → List ℕ
raised zero b = b
raised (suc n) b = raised n (put_entry b (suc n) (halves_of b (suc n)))

-- what is read for them is within its limits
unfoldable pub Raises : ℕ → List ℕ → Type 0
Raises zero b = Unit {0}
Raises (suc n) b =
    (in_limits (entry_at b (suc n * 2)) ≡ true) × (in_limits (entry_at b (suc n * 2 + 1)) ≡ true) × Raises n (put_entry b (suc n) (halves_of b (suc n)))

-- all but the objects' own entries, with c places
unfoldable pub filled : ℕ → ℕ → List ℕ → List ℕ
filled c count b = raised (c - 1) (emptied c count b)
