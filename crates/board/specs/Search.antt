-- Document 01, "The board": "A read of p passed objects reads the largest entries that together cover just the first p places, from the left, then
-- the starts of the first and last object".
use Rattle.std.specs.Prelude.{ℕ, ◌+◌, ◌-◌, Bool, not, List, eqb, Float, get_or}
use Rattle.std.specs.Float.{nan}
use Rattle.numbers.specs.Floats.{whole}
use Rattle.rules.specs.Refusals.{Checked, good, ◌>>=◌, ◌>>◌, refuse◌when◌, pick, BOARD}
use Rattle.records.specs.Fields.{is_time}
use Rattle.entries.specs.Entry.{none}
use Rattle.entries.specs.Scores.{unsound}
use Rattle.tree.specs.Size.{levels_of}
use Rattle.tree.specs.First.{walked}
use Rattle.board.specs.declared.search.Starts.{Starts}
use Rattle.board.specs.declared.search.Found.{Found}

-- "Times are milliseconds from -8,000,000 to 8,000,000"
abbrev pub time_bad : Float → Bool
time_bad x = not (is_time x)

-- the starts of the first of n places and of the last of p: "Passed 0 takes the first object as last". 13 if one is outside its limits. With no
-- object none is read
unfoldable pub starts_in : List Float → ℕ → ℕ → Checked Starts
starts_in ts n p = pick (eqb n 0) (good (record { first = whole 0; last = whole 0 })) do
  refuse BOARD when time_bad (get_or ts 0 nan)
  refuse BOARD when time_bad (get_or ts (p - 1) nan)
  good (record { first = get_or ts 0 nan; last = get_or ts (p - 1) nan })

-- what a read of the first p of n places finds: 13 and 7 entry by entry, then the starts, then k and s of all of them
unfoldable pub found_of : List ℕ → List Float → ℕ → ℕ → Checked Found
found_of b ts n p = do
  sum ← walked (levels_of n + 1) b 1 p none
  ends ← starts_in ts n p
  refuse BOARD when unsound sum
  good (record { sum = sum; starts = ends })
