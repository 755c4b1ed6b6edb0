-- `numbers::rounding::magnitude` is right since 2 ^ exponent cancels against 2 ^ 1074, and from an exponent of 1074 on the value is at least the significand, which
-- has 53 digits. Assumes nothing.
use Rattle.std.proofs.Common.{◌^◌, ◌≤◌, arith}
use Rattle.numbers.proofs.rounding.Closest.{closest_shift, closest_large}
use Rattle.numbers.proofs.rounding.magnitude.Goals as goal

pub returns-then-exponent-ge1074 : goal.returns-then-exponent-ge1074
returns-then-exponent-ge1074 c =
    let g : 2 ^ 52 ≤ c.args.significand.digits = c.requires (omega arith) in
    omega (arith, closest_large c.args.significand.digits c.args.exponent 1074 (2 ^ 31) c.if-exponent-ge1074.true (omega arith))

pub returns : goal.returns
returns c = omega (arith, closest_shift c.args.significand.digits c.args.exponent 1074 (omega arith))
