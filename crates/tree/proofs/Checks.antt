-- A checked entry counts as one, so that a join on either side has room.
use Prim.Native.Nat.{◌+◌, ◌*◌, ◌≤◌}
use mathlib.Core.Path.{◌≡◌}
use mathlib.Core.Bool.{true}
use native.Mathlib.Omega.{arith}
use lib.Dec.{lit<}
use Rattle.rules.specs.Limits.{max_levels, max_objects}
use Rattle.entries.specs.Entry.{in_limits}
use Rattle.entries.specs.declared.entry.Entry.{Entry}
use Rattle.entries.proofs.Limits.{word_le}

pub counts_one : (v : Entry) → in_limits v ≡ true → v.object_count ≤ (max_levels + 1) * max_objects
counts_one v h = let c : v.object_count ≤ max_objects = word_le v h 0 (lit< tt) in omega (arith, c)
