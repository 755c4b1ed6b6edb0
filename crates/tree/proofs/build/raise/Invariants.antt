-- `raise` is right since raising what is left of the entries, from the words as they stand, gives what raising all of them at first did.
use Prim.Native.Nat.{◌-◌, ◌≤◌}
use mathlib.Core.Path.{◌≡◌}
use lib.ListN.{length}
use Rattle.tree.specs.Build.{raised, Raises}
use Rattle.tree.proofs.build.raise.Given as goal

-- `e` is one above the entry that comes next
abbrev pub invariant-loop-e : goal.invariant-loop-e
invariant-loop-e l = (1 ≤ l.e) × (raised (l.e - 1) l.b ≡ raised l.n l.initial.b) × Raises (l.e - 1) l.b × (length l.b ≡ length l.initial.b)
