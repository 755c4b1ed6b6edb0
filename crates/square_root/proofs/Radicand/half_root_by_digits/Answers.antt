-- `square_root::Radicand::half_root_by_digits` is right since the upper 28 digits of a number of 53 or 54 have a root of 14, which is what `more_digits` goes on
-- from. Assumes nothing.
use Rattle.std.proofs.Common.{◌^◌, arith}
use Rattle.square_root.proofs.Isqrt.{root_least}
use Rattle.square_root.proofs.Radicand.half_root_by_digits.Goals as goal

pub more_digits-requires : goal.more_digits-requires
more_digits-requires c =
    let least = root_least (2 ^ 13) c.quarter_root.result (omega arith) in
    (omega arith, omega arith, omega arith, omega arith, omega arith)
