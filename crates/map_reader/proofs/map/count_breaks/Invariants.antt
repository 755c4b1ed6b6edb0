-- What the definition counts from here on stays the same: each turn is one of its steps.
use mathlib.Core.Path.{◌≡◌}
use Prim.Native.Nat.{◌-◌}
use Rattle.rules.specs.Limits.{max_breaks}
use Rattle.map_reader.specs.Map.{breaks_after, breaks_count}
use Rattle.map_reader.proofs.map.count_breaks.Given as goal

abbrev pub invariant-loop-count : goal.invariant-loop-count
invariant-loop-count l = breaks_after (max_breaks - l.count) l.s l.count ≡ breaks_count l.s
