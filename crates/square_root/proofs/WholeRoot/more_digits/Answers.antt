-- `square_root::WholeRoot::more_digits` is right since the square of the longer root and what the division left make the number and the square of the
-- quotient: where that square is above what was left, the root is one less, and no less, as the quotient is at most p. Assumes nothing.
use Rattle.std.proofs.Common.{arith}
use Rattle.square_root.proofs.DivisionStep.{Divided, division}
use Rattle.square_root.proofs.WholeRoot.more_digits.Goals as goal
use Rattle.square_root.proofs.WholeRoot.more_digits.Goals.{After-self}

facts : (c : After-self) → Divided c.args.self c.self.inside.root c.self.inside.remainder c.args.p c.args.upper c.args.lower
facts c = division c.args.self c.self.inside.root c.self.inside.remainder c.args.p c.args.upper c.args.lower c.self.view_is c.self.invariant c.requires

pub nonzero_div-digits : goal.nonzero_div-digits
nonzero_div-digits c = (facts (goal.at.nonzero_div-digits c).After-self).divisor

pub nonzero_rem-left : goal.nonzero_rem-left
nonzero_rem-left c = (facts (goal.at.nonzero_rem-left c).After-self).divisor

pub overflow_mul-square : goal.overflow_mul-square
overflow_mul-square c = let f = facts (goal.at.overflow_mul-square c).After-self in omega (arith, f.square)

pub invariant_of-result : goal.invariant_of-result
invariant_of-result c = ((facts (goal.at.invariant_of-result c).After-self).kept c.if-square-left.true).1

pub overflow_sub-result-4 : goal.overflow_sub-result-4
overflow_sub-result-4 c =
    let f = facts (goal.at.overflow_sub-result-4 c).After-self in
    omega (arith, f.room c.if-square-left.false)

pub returns-then-square-left : goal.returns-then-square-left
returns-then-square-left c = ((facts (goal.at.returns-then-square-left c).After-self).kept c.if-square-left.true).0

pub returns : goal.returns
returns c = ((facts (goal.at.returns c).After-self).lowered c.if-square-left.false).0
