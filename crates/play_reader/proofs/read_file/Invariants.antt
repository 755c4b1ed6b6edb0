-- The map, then one record of a play after another, each of which the definition finds there.
use Prim.Native.Nat.{◌-◌}
use lib.ListN.{length}
use Rattle.play_reader.proofs.Playing.{ReadTo}
use Rattle.play_reader.proofs.read_file.Given as goal

abbrev pub invariant-loop-at : goal.invariant-loop-at
invariant-loop-at l = ReadTo l.s l.passed l.map l.at-counter

abbrev pub decreases-loop-at : goal.decreases-loop-at
decreases-loop-at l = length l.s - l.at-counter
