-- `numbers::rounding::shift_ties_even` is right since the mask leaves the remainder by 2 ^ shift: twice the remainder against 2 ^ shift says which of two
-- neighbours is nearer, and at a tie q + q % 2 is the even one. From a shift of 54 on the fraction is below a half. Assumes nothing.
use Rattle.std.proofs.Common.{◌≡◌, ℕ, ◌*◌, ◌/◌, ◌^◌, ◌<◌, sym, ◌∙◌, lt_of_lt_of_le, le_antisymm, add-one, arith, pow_mono}
use Rattle.numbers.proofs.rounding.Closest.{closest_lt, closest_gt, closest_eq, closest_zero, unmasked}
use Rattle.numbers.proofs.rounding.shift_ties_even.Goals as goal
use Rattle.numbers.proofs.rounding.shift_ties_even.Goals.{Else-shift-ge54}

pub returns-then-shift-ge54 : goal.returns-then-shift-ge54
returns-then-shift-ge54 c =
    sym (closest_zero c.args.significand.digits (2 ^ c.args.shift) (lt_of_lt_of_le (omega arith) (pow_mono {i = 54} c.if-shift-ge54.true)))

pub returns-then-rest-unit : goal.returns-then-rest-unit
returns-then-rest-unit c =
    sym (closest_lt c.args.significand.digits (2 ^ c.args.shift)
    (unmasked (λ (r u : ℕ). r * 2 < u) c.args.significand.digits c.args.shift (omega arith) c.if-rest-unit.true))

pub returns-then-unit-rest : goal.returns-then-unit-rest
returns-then-unit-rest c =
    add-one (c.args.significand.digits / 2 ^ c.args.shift)
    ∙ sym (closest_gt c.args.significand.digits (2 ^ c.args.shift) (unmasked (λ (r u : ℕ). u < r * 2) c.args.significand.digits c.args.shift (omega arith) c.if-unit-rest.true))

pub returns : goal.returns
returns c =
    sym
    (closest_eq c.args.significand.digits (2 ^ c.args.shift)
    (unmasked (λ (r u : ℕ). r * 2 ≡ u) c.args.significand.digits c.args.shift (omega arith) (le_antisymm c.if-unit-rest.false c.if-rest-unit.false)))
