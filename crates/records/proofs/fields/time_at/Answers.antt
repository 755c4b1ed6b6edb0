-- Bits beside the sign that are at most the limit's are a value within the limits, and no NaN's; one place up they are what the code compares.
use mathlib.Core.Path.{◌≡◌, refl, sym}
use Prim.Native.Nat.{ℕ, ◌-◌, ◌*◌, ◌%◌, ◌^◌, ◌≤◌, ◌<◌}
use native.Mathlib.Omega.{arith}
use lib.Bits.{bit_and, and_mask}
use lib.Ieee.{binary64}
use Rattle.numbers.proofs.Patterns.{within_bits, beyond_bits}
use Rattle.numbers.proofs.bits.Laws.{number_pattern}
use Rattle.records.proofs.fields.time_at.Goals as goal

module _ (w : ℕ) where
  without_sign : w * 2 % 2 ^ 64 ≡ bit_and w (2 ^ 63 - 1) * 2
  without_sign = omega (arith, and_mask w 63)

  within : w * 2 % 2 ^ 64 ≤ 0x415e848000000000 * 2 → bit_and w (2 ^ 63 - 1) ≤ 0x415e848000000000
  within h = omega (arith, h, without_sign)

  beyond : 0x415e848000000000 * 2 < w * 2 % 2 ^ 64 → 0x415e848000000000 < bit_and w (2 ^ 63 - 1)
  beyond h = omega (arith, h, without_sign)

pub float_from_bits-result : goal.float_from_bits-result
float_from_bits-result c =
    let w = c.word_at-bits.result in
    number_pattern binary64 63 refl w (omega (arith, within w c.if-bits-gt-TIME_LIMIT_BITS.false))

pub returns-then-bits-gt-TIME_LIMIT_BITS : goal.returns-then-bits-gt-TIME_LIMIT_BITS
returns-then-bits-gt-TIME_LIMIT_BITS c =
    simp (sym c.word_at-bits.ensures.0, beyond_bits 0x415e848000000000 c.word_at-bits.result (omega arith) (beyond c.word_at-bits.result c.if-bits-gt-TIME_LIMIT_BITS.true))

pub returns-else-bits-gt-TIME_LIMIT_BITS : goal.returns-else-bits-gt-TIME_LIMIT_BITS
returns-else-bits-gt-TIME_LIMIT_BITS c =
    simp (sym c.word_at-bits.ensures.0, within_bits 0x415e848000000000 c.word_at-bits.result (omega arith) (within c.word_at-bits.result c.if-bits-gt-TIME_LIMIT_BITS.false))
