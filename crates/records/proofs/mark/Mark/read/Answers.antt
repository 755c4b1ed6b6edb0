-- The mark that the first two bytes are, where they stand.
use Rattle.std.proofs.Common.{rules}
use Rattle.rules.specs.Refusals.{◌>>◌, refuse◌when◌}
use Rattle.records.specs.Marks.{mark_in}
use Rattle.records.proofs.mark.Mark.read.Goals as goal

pub returns : goal.returns
unfolding mark_in ◌>>◌ refuse◌when◌
returns c = search rules
