-- The search is of the smaller of passed and count; then the play as the scoring call gives it.
use mathlib.Core.Path.{sym}
use Rattle.rules.proofs.Laws.{so}
use Rattle.board.proofs.Searches.{found_in}
use Rattle.board.proofs.read.read_in.Goals as goal

pub attributes_from-requires : goal.attributes_from-requires
attributes_from-requires c =
    found_in c.args.board.now.words.now c.args.board.now.starts.now c.args.board.now.count _ _ (sym (so c.in_ok-found.was c.find.ensures))
