-- A mark or a record that is refused refuses the object.
use Rattle.std.proofs.Common.{rules}
use Rattle.rules.specs.Refusals.{◌>>=◌, ◌>>◌, refuse◌when◌}
use Rattle.board.specs.Edit.{object_in}
use Rattle.board.proofs.Alones.{by_mark}
use Rattle.board.proofs.edit.read_alone.Goals as goal

pub returns-in_err-read : goal.returns-in_err-read
unfolding ◌>>=◌ ◌>>◌ refuse◌when◌
returns-in_err-read c = search (rules, by_mark)

pub returns-in_err-object : goal.returns-in_err-object
unfolding object_in ◌>>=◌ ◌>>◌ refuse◌when◌
returns-in_err-object c = search (rules, by_mark)
