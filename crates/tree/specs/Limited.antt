-- Document 01, "What a caller gets": "then 13 and 7 entry by entry as read": an entry's own words, then the combined words but the legacy bonus
-- (13), then the combined legacy bonus ("a legacy sum above it is 7").
use Rattle.std.specs.Prelude.{not, ltb}
use Rattle.rules.specs.Limits.{max_bonus}
use Rattle.rules.specs.Refusals.{Checked, good, ◌>>=◌, ◌>>◌, refuse◌when◌, BONUS, BOARD}
use Rattle.entries.specs.Entry.{joined, in_limits, checked}
use Rattle.entries.specs.declared.entry.Entry.{Entry}

abbrev pub without_legacy : Entry → Entry
without_legacy e = record {
  object_count = e.object_count;
  combo = e.combo;
  combos_before = e.combos_before;
  first_no_slider = e.first_no_slider;
  accuracy_score = e.accuracy_score;
  legacy_bonus_score = 0;
  standardised_bonus_score = e.standardised_bonus_score;
  n_circles = e.n_circles;
  n_sliders = e.n_sliders;
  n_spinners = e.n_spinners;
  n_repeats = e.n_repeats;
  n_ticks = e.n_ticks;
  spinner_score = e.spinner_score;
}

unfoldable pub limited : Entry → Checked Entry
limited e = do
  refuse BOARD when not (in_limits (without_legacy e))
  refuse BONUS when ltb max_bonus e.legacy_bonus_score
  good e

-- the objects of a, then those of an entry as read
unfoldable pub after_of : Entry → Entry → Checked Entry
after_of a read = do
  u ← checked read
  limited (joined a u)

-- the same with the combination unchecked
unfoldable pub sum_of : Entry → Entry → Checked Entry
sum_of a read = do
  u ← checked read
  good (joined a u)
