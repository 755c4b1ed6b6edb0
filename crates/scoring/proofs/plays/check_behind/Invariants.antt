-- Each play is the definition's next, scored on the objects that it passed; where marks pay, it and all behind it are scored from them.
use Prim.Native.Nat.{◌-◌}
use lib.ListN.{length}
use Rattle.scoring.specs.View.{Attributed}
use Rattle.scoring.proofs.Playing.{PlayingOn}
use Rattle.scoring.proofs.plays.check_behind.Given as goal

abbrev pub invariant-loop-at : goal.invariant-loop-at
invariant-loop-at l = (k : Attributed l.file.bytes.now l.passed l.file.map l.a) → PlayingOn l.file.bytes.now l.file.map l.at-counter l.wanted l.index k.map.file.map

abbrev pub decreases-loop-at : goal.decreases-loop-at
decreases-loop-at l = length l.s - l.at-counter
