-- What is counted is the length of the breaks so far, whatever follows them.
use Rattle.std.proofs.Common.{◌≡◌, ◌+◌, ◌*◌, ◌^◌, ◌≤◌, List, ◌++◌, length, ◌+ℤ◌}
use Rattle.std.specs.Int.Signed.{mag}
use Rattle.rules.specs.Limits.{max_breaks}
use Rattle.records.specs.declared.beatmap.BreakPeriod.{BreakPeriod}
use Rattle.ruleset.specs.Drain.{breaks_length}
use Rattle.ruleset.proofs.score_multiplier.len_before.Given as goal

abbrev pub invariant-loop-period : goal.invariant-loop-period
invariant-loop-period g l =
    (goal.iterator-loop-period g).can_next l.period-iterator
    × (goal.iterator-loop-period g).is_finite l.period-iterator
    × (length l.yielded + (goal.iterator-loop-period g).remaining l.period-iterator ≤ max_breaks)
    × ((more : List BreakPeriod) → l.milliseconds +ℤ breaks_length l.last_start more ≡ breaks_length l.last_start (l.yielded ++ more))
    × (mag l.milliseconds ≤ length l.yielded * 2 ^ 34)
