-- The counters are what the items passed make of them.
use Rattle.std.proofs.Common.{◌≡◌, ◌≤◌, take}
use Rattle.records.proofs.Nested.{ones, high}
use Rattle.records.proofs.object_record.count_nested.Given as goal

abbrev pub invariant-loop-item : goal.invariant-loop-item
invariant-loop-item l =
    record { ones_are : l.ones ≡ ones (take l.item-index l.inside); high_is : l.high ≡ high 0 (take l.item-index l.inside); few : l.ones ≤ l.item-index }
