-- Values of the steps that a second program worked out, in doubles: at 0, 1, -1, at both ends of what the slider breaks ask for, at -700 and just below
-- it, where the squarings overflow, where the quotient comes before the product by its last bits, and not a number.
use Rattle.std.specs.Prelude.{◌≡◌, refl, [], ◌∷◌, map, ℕ}
use Rattle.std.specs.Float.{binary64}
use Rattle.std.specs.Float.Ieee.{of_bits, to_bits, round, of_int, add, mul, div, lt, neg, sum}
use Rattle.exponential.specs.Exp.{series_of, squared, exp_of}

abbrev bits_of_exp : ℕ → ℕ
bits_of_exp v = to_bits binary64 (exp_of (of_bits binary64 v))

steps : map bits_of_exp (
    0x0000_0000_0000_0000 ∷ 0x8000_0000_0000_0000 ∷ 0x3ff0_0000_0000_0000 ∷ 0xbff0_0000_0000_0000 ∷ 0x4013_cccc_cccc_cccd ∷ 0xc024_1999_9999_999a
    ∷ 0xc085_e000_0000_0000 ∷ 0xc085_e000_0000_0001 ∷ 0x4086_2800_0000_0000 ∷ 0x4086_3000_0000_0000 ∷ 0x7ff0_0000_0000_0000
    ∷ 0xc076_9ccc_cccc_cccd ∷ 0x7ff8_0000_0000_0000 ∷ [])
    ≡ (0x3ff0_0000_0000_0000 ∷ 0x3ff0_0000_0000_0000 ∷ 0x4005_bf0a_8b14_5459 ∷ 0x3fd7_8b56_362c_f004 ∷ 0x4061_a599_4df0_1684 ∷ 0x3f06_a44b_09f7_eec3
    ∷ 0x00d1_4fec_7c9d_fe95 ∷ 0x0000_0000_0000_0000 ∷ 0x7fdd_41c2_d96c_0e50 ∷ 0x7ff0_0000_0000_0000 ∷ 0x7ff0_0000_0000_0000
    ∷ 0x1f50_5e94_d3ce_6072 ∷ 0x7ff8_0000_0000_0000 ∷ [])
unfolding exp_of series_of squared of_int of_bits to_bits round add mul div lt neg sum
steps = refl
