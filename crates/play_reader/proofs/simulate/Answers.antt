-- The attributes are those of the file's map.
use mathlib.Core.Path.{subst}
use Rattle.map_reader.proofs.Attributed.{complete}
use Rattle.play_reader.specs.Plays.{MapFileOf}
use Rattle.play_reader.proofs.Answers.{simulates, file-map}
use Rattle.play_reader.proofs.simulate.Goals as goal

pub attributes_of-requires : goal.attributes_of-requires
attributes_of-requires c = complete (file-map (subst (MapFileOf c.args.s.now c.args.passed) c.in_ok-map.was c.read_file.ensures))

pub returns : goal.returns
returns c = simulates c.args.s.now c.args.passed _ _ (subst (MapFileOf c.args.s.now c.args.passed) c.in_ok-map.was c.read_file.ensures) c.attributes_of.ensures
