-- `square_root::root` is right since its arms are the cases of the definition: a NaN, the infinities, the zeros, the numbers below zero, and the others, whose root
-- does not change when the significand is brought to 53 digits. Assumes nothing.
use Rattle.std.proofs.Common.{◌*◌, ◌^◌, ◌<◌, Bool, T, sym, ap, ◌∙◌, subst, mul-pos, arith, pow_pos}
use lib.Ieee.{of_bits, div}
use lib.Ieee.Exact.{HasValue}
use Rattle.numbers.proofs.bits.Fields.{IsFinite, parts_value}
use Rattle.square_root.specs.Roots.{rooted}
use Rattle.square_root.proofs.Cases.{of_nan, of_infinity, of_minus_infinity, of_zero, of_negative, of_positive, same_number}
use Rattle.square_root.proofs.root.Goals as goal
use Rattle.square_root.proofs.root.Goals.{Else-significand-eq0, In-Finite}

-- what the finite arm knows of v
finite_arm : (c : In-Finite) →
    (IsFinite c.args.v c.in-Finite.negative c.in-Finite.significand c.in-Finite.exponent)
finite_arm c =
    parts_value c.args.v (subst T (sym c.well_formed.0.1) tt) c.in-Finite.negative c.in-Finite.significand c.in-Finite.exponent
    (sym c.split.ensures ∙ c.in-Finite.is)

-- past the test for a zero the value has a size
sized : (c : Else-significand-eq0) → (0 < c.in-Finite.significand * 2 ^ c.in-Finite.exponent)
sized c = mul-pos (omega (arith, c.if-significand-eq0.false)) (pow_pos c.in-Finite.exponent)

pub returns-then-significand-eq0 : goal.returns-then-significand-eq0
returns-then-significand-eq0 c =
    of_zero c.args.v c.in-Finite.negative c.in-Finite.significand c.in-Finite.exponent (finite_arm (goal.at.returns-then-significand-eq0 c).In-Finite).value c.if-significand-eq0.true

pub returns-then-negative-2 : goal.returns-then-negative-2
unfolding of_bits div
returns-then-negative-2 c =
    let v = c.args.v in
    let a = c.in-Finite.significand * 2 ^ c.in-Finite.exponent in
    of_negative v a (subst (λ (s : Bool). HasValue v s a (2 ^ 1074)) c.if-negative-2.true (finite_arm (goal.at.returns-then-negative-2 c).In-Finite).value) (sized (goal.at.returns-then-negative-2 c).Else-significand-eq0)

pub new-requires : goal.new-requires
new-requires c =
    let f = finite_arm (goal.at.new-requires c).In-Finite in
    (omega (arith, c.if-significand-eq0.false), f.range)

pub invariant_of-significand : goal.invariant_of-significand
invariant_of-significand c = record { short = (finite_arm (goal.at.invariant_of-significand c).In-Finite).small }

pub returns-in-NotANumber : goal.returns-in-NotANumber
returns-in-NotANumber c = of_nan c.args.v (sym c.split.ensures ∙ c.in-NotANumber.is)

pub returns-then-negative : goal.returns-then-negative
unfolding of_bits div
returns-then-negative c =
    of_minus_infinity c.args.v c.in-Infinite.negative
    (sym c.split.ensures ∙ c.in-Infinite.is) c.if-negative.true

pub returns-else-negative : goal.returns-else-negative
returns-else-negative c =
    of_infinity c.args.v c.in-Infinite.negative
    (sym c.split.ensures ∙ c.in-Infinite.is) c.if-negative.false

pub returns-else-negative-2 : goal.returns-else-negative-2
returns-else-negative-2 c =
    let v = c.args.v in
    let a = c.in-Finite.significand * 2 ^ c.in-Finite.exponent in
    c.root.ensures
    ∙ ap rooted (same_number c.in-Finite.significand c.in-Finite.exponent c.new.result.significand.digits c.new.result.exponent c.new.ensures)
    ∙ of_positive v a (subst (λ (s : Bool). HasValue v s a (2 ^ 1074)) c.if-negative-2.false (finite_arm (goal.at.returns-else-negative-2 c).In-Finite).value) (sized (goal.at.returns-else-negative-2 c).Else-significand-eq0)
