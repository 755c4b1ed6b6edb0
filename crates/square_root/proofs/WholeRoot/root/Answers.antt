-- `square_root::WholeRoot::root` is right since a number has one whole root. Assumes nothing.
use Rattle.square_root.proofs.Isqrt.{root_is}
use Rattle.square_root.proofs.WholeRoot.root.Goals as goal

pub returns : goal.returns
returns c = root_is c.self.inside.root c.self.inside.remainder c.args.self c.self.view_is c.self.invariant
