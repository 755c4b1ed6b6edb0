-- `square_root::Radicand::whole_root` is right since a number of 53 digits or more has a root of 27, which is what `more_digits` goes on from. Assumes nothing.
use Rattle.std.proofs.Common.{◌^◌, arith}
use Rattle.square_root.proofs.Isqrt.{root_least}
use Rattle.square_root.proofs.Radicand.whole_root.Goals as goal

pub more_digits-requires : goal.more_digits-requires
more_digits-requires c =
    let least = root_least (2 ^ 26) c.half_root.result (omega arith) in
    (omega arith, omega arith, omega arith, omega arith, omega arith)
