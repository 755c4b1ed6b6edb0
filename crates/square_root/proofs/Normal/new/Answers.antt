-- `square_root::Normal::new` is right since the shift brings the leading digit to the place of 2 ^ 52, and the exponent goes down by as much. Assumes nothing.
use Rattle.std.proofs.Common.{◌≡◌, ℕ, ◌-◌, ◌*◌, ◌%◌, ◌^◌, ◌<◌, ◌≤◌, mod-eq_of_lt, lt_of_lt_of_le, lit≤, arith}
use Rattle.square_root.proofs.Grid.{Leading, leading, raised_ge, raised_lt, raised_same}
use Rattle.square_root.proofs.Normal.new.Goals as goal

-- the place of the leading digit, in its wider type
widened : (g l k : ℕ) → k ≡ l → 2 ^ l ≤ g → g < 2 * 2 ^ l → g < 2 ^ 53 → Leading g k
widened g l k e low high h = rw e (leading g l low high h)

pub overflow_sub-shift : goal.overflow_sub-shift
overflow_sub-shift c =
    (widened c.args.significand.digits _ c.from-shift.result c.from-shift.ensures c.ilog2.ensures.power_le c.ilog2.ensures.next_power_gt (omega arith)).few

-- the shift loses no digit
kept : (g k : ℕ) → g * 2 ^ k < 2 ^ 53 → g * 2 ^ k % 2 ^ 64 ≡ g * 2 ^ k
kept g k h = mod-eq_of_lt (lt_of_lt_of_le h (lit≤ tt))

pub invariant_of-result : goal.invariant_of-result
invariant_of-result c =
    let g = c.args.significand.digits in
    let l = c.from-shift.result in
    let r = widened g _ l c.from-shift.ensures c.ilog2.ensures.power_le c.ilog2.ensures.next_power_gt (omega arith) in
    record { short = rw (kept g (52 - l) (raised_lt g l r)) (raised_lt g l r) }

pub invariant_of-result-2 : goal.invariant_of-result-2
invariant_of-result-2 c =
    let g = c.args.significand.digits in
    let l = c.from-shift.result in
    let r = widened g _ l c.from-shift.ensures c.ilog2.ensures.power_le c.ilog2.ensures.next_power_gt (omega arith) in
    record { long = rw (kept g (52 - l) (raised_lt g l r)) (raised_ge g l r); in_range = omega arith }

pub returns : goal.returns
returns c =
    let g = c.args.significand.digits in
    let l = c.from-shift.result in
    let r = widened g _ l c.from-shift.ensures c.ilog2.ensures.power_le c.ilog2.ensures.next_power_gt (omega arith) in
    rw (kept g (52 - l) (raised_lt g l r)) (raised_same g l c.args.exponent r)
