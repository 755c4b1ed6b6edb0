-- Each play is the definition's next and is not refused, since the file is good; the loop keeps the lines of the plays read so far.
use Prim.Native.Nat.{◌+◌, ◌*◌}
use Rattle.listing.proofs.Writing.{Writing}
use Rattle.listing.proofs.put_plays.Given as goal

abbrev pub invariant-loop-index : goal.invariant-loop-index
invariant-loop-index l = Writing l.file.bytes.now l.file.map l.initial.page (l.file.map.end + l.index * 44) l.index l.page
