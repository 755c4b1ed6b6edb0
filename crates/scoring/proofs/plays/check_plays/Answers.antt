-- The map, its attributes, then the plays behind it.
use Rattle.scoring.proofs.Answers.{read_attributed}
use Rattle.scoring.proofs.plays.check_plays.Goals as goal

pub check_behind-requires : goal.check_behind-requires
check_behind-requires c = read_attributed c.in_ok-map.ensures c.attributes_of-a.ensures
