use Rattle.std.proofs.Common.{◌≡◌, ℕ, ◌+◌, ◌-◌, ◌*◌, ◌/◌, ◌%◌, ◌^◌, ◌<◌, sym, ap, ◌∙◌, arith}
use native.Mathlib.Nat.{div-div-eq-div-mul}
use Rattle.numbers.proofs.bits.Fields.{powers}
use Rattle.square_root.proofs.quarter_root.Goals as goal

-- two digits more of m
two_more : (m i : ℕ) → 0 < i → m / 2 ^ (2 * i) * 4 + m / 2 ^ (2 * (i - 1)) % 4 ≡ m / 2 ^ (2 * (i - 1))
two_more m i h =
    let k = 2 * (i - 1) in
    let upper : m / 2 ^ (2 * i) ≡ m / 2 ^ k / 4 = ap (λ (p : ℕ). m / p) (sym (powers k 2 (2 * i) (omega arith))) ∙ sym (div-div-eq-div-mul m (2 ^ k) 4) in
    omega (arith, upper)

pub loop-i-preserved : goal.loop-i-preserved
loop-i-preserved c = c.next_digit-root.ensures ∙ ap (λ (n : ℕ). n * 4 + c.args.m / 2 ^ (2 * (c.loop-i.i - 1)) % 4) c.loop-i.invariant ∙ two_more c.args.m c.loop-i.i (omega arith)
