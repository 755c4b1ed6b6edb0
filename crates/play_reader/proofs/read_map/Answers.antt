-- The map and the end of its plays are the view of the file.
use mathlib.Core.Path.{ap, ◌∙◌, subst}
use Rattle.rules.specs.Refusals.{good}
use Rattle.play_reader.specs.Plays.{MapFileOf}
use Rattle.play_reader.proofs.Answers.{answers}
use Rattle.play_reader.proofs.read_map.Goals as goal

pub returns : goal.returns
returns c = ap good c.reader_in.ensures ∙ answers c.args.s.now _ (subst (MapFileOf c.args.s.now 18446744073709551615) c.in_ok-map.was c.read_file.ensures)
