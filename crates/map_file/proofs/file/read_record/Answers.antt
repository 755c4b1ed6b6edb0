-- A body that is refused refuses the record.
use Rattle.std.proofs.Common.{rules}
use Rattle.rules.specs.Refusals.{◌>>=◌, ◌>>◌, refuse◌when◌}
use Rattle.map_file.specs.Order.{record_of}
use Rattle.map_file.proofs.Marked.{record_by_mark}
use Rattle.map_file.proofs.file.read_record.Goals as goal

pub returns-in_err-item : goal.returns-in_err-item
unfolding record_of ◌>>=◌ ◌>>◌ refuse◌when◌
returns-in_err-item c = search (rules, record_by_mark)
