-- `lay` is right since the objects of the map stand one after the other, and each is laid where the definition lays it.
use Rattle.board_build.proofs.LayingRight.{SoFar}
use Rattle.board_build.proofs.lay.Given as goal

abbrev pub invariant-loop-place : goal.invariant-loop-place
invariant-loop-place l = SoFar l.file l.fn.map l.cap l.initial.board l.initial.starts l.at l.place l.board l.starts
