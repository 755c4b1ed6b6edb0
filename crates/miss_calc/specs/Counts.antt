-- Counts of a play: `OsuHitResults::total_hits` and `total_imperfect_hits`.
use Rattle.std.specs.Prelude.{ℕ, ◌+◌}
use Rattle.play_state.specs.declared.OsuHitResults.{OsuHitResults}

-- the judgements
abbrev pub total_hits : OsuHitResults → ℕ
total_hits h = h.n300 + h.n100 + h.n50 + h.misses

-- those that are no 300
abbrev pub imperfect_hits : OsuHitResults → ℕ
imperfect_hits h = h.n100 + h.n50 + h.misses
