-- `numbers::rounding::cut` is right since between its ends the sum is x rounded, which is x without its fraction, or one more. Assumes nothing.
use Rattle.std.proofs.Common.{Bool, not, T, sym, subst, arith}
use lib.Ieee.{of_bits}
use lib.Ieee.Casts.{to_unsigned-lt}
use Rattle.numbers.proofs.rounding.Cutting.{CutBySum, cut_low, cut_high, cut_by_sum}
use Rattle.numbers.proofs.rounding.cut.Goals as goal
use Rattle.numbers.proofs.rounding.cut.Goals.{Then-x-2}

by_sum : (c : Then-x-2) → CutBySum c.args.x
unfolding of_bits
by_sum c = cut_by_sum c.args.x c.if-x.true c.if-x-2.true

pub float_to_bits-n : goal.float_to_bits-n
float_to_bits-n c = subst (λ (b : Bool). T (not b)) (sym (by_sum (goal.at.float_to_bits-n c).Then-x-2).number) tt

pub overflow_sub-n : goal.overflow_sub-n
overflow_sub-n c = (by_sum (goal.at.overflow_sub-n c).Then-x-2).least

pub overflow_sub-result : goal.overflow_sub-result
overflow_sub-result c = omega (arith, (by_sum (goal.at.overflow_sub-result c).Then-x-2).above c.if-x-sum.true)

pub returns-then-x-sum : goal.returns-then-x-sum
returns-then-x-sum c =
    let x = c.args.x in
    let e = (by_sum (goal.at.returns-then-x-sum c).Then-x-2).above c.if-x-sum.true in
    (omega (arith, e), omega (arith, e, to_unsigned-lt 31 x))

pub returns-else-x-sum : goal.returns-else-x-sum
returns-else-x-sum c =
    let x = c.args.x in
    let e = (by_sum (goal.at.returns-else-x-sum c).Then-x-2).is c.if-x-sum.false in
    (e, omega (arith, e, to_unsigned-lt 31 x))

pub returns-else-x-2 : goal.returns-else-x-2
unfolding of_bits
returns-else-x-2 c = (sym (cut_high 31 c.args.x c.if-x.true c.if-x-2.false), omega arith)

pub returns-else-x : goal.returns-else-x
unfolding of_bits
returns-else-x c = (sym (cut_low 31 c.args.x c.if-x.false), omega arith)
