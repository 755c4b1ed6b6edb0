-- `square_root::quarter_root` is right since before each turn the root is that of the digits of m that were taken. Assumes nothing.
use Rattle.std.proofs.Common.{◌≡◌, ◌*◌, ◌/◌, ◌^◌}
use Rattle.square_root.proofs.quarter_root.Given as goal

abbrev pub invariant-loop-i : goal.invariant-loop-i
invariant-loop-i l = l.root ≡ l.m / 2 ^ (2 * l.i)
