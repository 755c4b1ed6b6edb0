-- The places are kept beside the levels, and 2 ^ 13 is the most.
use lib.Pow.{pow_mono}
use Rattle.rules.specs.Limits.{max_levels}
use Rattle.tree.proofs.size.Size.cap.Goals as goal

pub returns : goal.returns
returns c =
    let i = c.self.invariant in
    (rw (i.1, c.self.view_is), rw (← c.self.view_is) i.0, rw i.1 (pow_mono {j = max_levels} i.0))
