-- `numbers::rounding::round_ties_even_i32` is right since the sum with 3 * 2 ^ 51 is x rounded, and its bits are that many above those of 3 * 2 ^ 51; any other x
-- goes by its parts. Assumes nothing.
use Rattle.std.proofs.Common.{◌≡◌, ◌^◌, ◌<◌, Bool, not, T, ℤ, pos, ◌-ℤ◌, sym, ap, ◌∙◌, subst, arith, w32, w64, SFits, to_z, of_z}
use borrow.Author.Rules.{sfits_of}
use lib.Ieee.{binary64, add, of_bits, to_bits}
use lib.Signed.{mag}
use mir.ValLaws.{to_z_pos, to_z-of_z}
use Rattle.numbers.specs.Rounding.{round_ties_even_i32}
use Rattle.numbers.proofs.rounding.Added.{BySum, by_sum}
use Rattle.numbers.proofs.rounding.round_ties_even_i32.Goals as goal
use Rattle.numbers.proofs.rounding.round_ties_even_i32.Goals.{Then-x}

module _ (c : Then-x) where
  rounded : BySum c.args.x
  rounded = by_sum c.args.x c.if-x.true

  abbrev above : ℤ
  above = to_z w64 (to_bits binary64 (add binary64 c.args.x (of_bits binary64 0x4338000000000000))) -ℤ pos 0x4338000000000000

  above_is : above ≡ round_ties_even_i32 c.args.x
  above_is = ap (λ (z : ℤ). z -ℤ pos 0x4338000000000000) (to_z_pos w64 _ rounded.bits_lt) ∙ rounded.is

  small : mag above < 2 ^ 31
  small = subst (λ (z : ℤ). mag z < 2 ^ 31) (sym above_is) rounded.small

  back : to_z w64 (of_z w64 above) ≡ above
  back = to_z-of_z w64 above (sfits_of (omega (arith, small)))

  narrow : SFits w32 (to_z w64 (of_z w64 above))
  narrow = subst (λ (z : ℤ). SFits w32 z) (sym back) (sfits_of small)

pub float_to_bits-result : goal.float_to_bits-result
float_to_bits-result c = subst (λ (b : Bool). T (not b)) (sym (rounded (goal.at.float_to_bits-result c).Then-x).number) tt

pub overflow_cast-result : goal.overflow_cast-result
overflow_cast-result c = sfits_of (rounded (goal.at.overflow_cast-result c).Then-x).bits_lt

pub overflow_sub-result : goal.overflow_sub-result
overflow_sub-result c = sfits_of (omega (arith, small (goal.at.overflow_sub-result c).Then-x))

pub overflow_cast-result-then-x : goal.overflow_cast-result-then-x
overflow_cast-result-then-x c = narrow (goal.at.overflow_cast-result-then-x c).Then-x

pub returns-then-x : goal.returns-then-x
returns-then-x c =
    to_z-of_z w32 _ (narrow (goal.at.returns-then-x c).Then-x) ∙ back (goal.at.returns-then-x c).Then-x ∙ above_is (goal.at.returns-then-x c).Then-x
