-- `numbers::rounding::round_parts` is right since a finite x is significand * 2 ^ exponent / 2 ^ 1074, and the nearest whole number is the same for every
-- fraction that x equals; what is above 2 ^ 31 makes no difference to the saturated result. Assumes nothing.
use Rattle.std.proofs.Common.{ℕ, ◌*◌, ◌^◌, T, sym, ap, ◌∙◌, subst, pow_pos, w32}
use borrow.Author.Rules.{sfits_of}
use lib.Ieee.Nearest.{closest}
use mir.ValLaws.{to_z-of_z}
use Rattle.numbers.specs.Rounding.{saturated}
use Rattle.numbers.proofs.bits.Fields.{IsFinite, parts_value}
use Rattle.numbers.proofs.rounding.Even.{even_nan, even_inf, even_at}
use Rattle.numbers.proofs.rounding.Range.{saturated_min}
use Rattle.numbers.proofs.rounding.round_parts.Goals as goal
use Rattle.numbers.proofs.rounding.round_parts.Goals.{In-Finite}

-- what the finite arm knows of x
finite_arm : (c : In-Finite) →
    (IsFinite c.args.x c.in-Finite.negative c.in-Finite.significand c.in-Finite.exponent)
finite_arm c =
    parts_value c.args.x (subst T (sym c.well_formed.0.1) tt) c.in-Finite.negative c.in-Finite.significand c.in-Finite.exponent
    (sym c.split.ensures ∙ c.in-Finite.is)

pub magnitude-requires : goal.magnitude-requires
magnitude-requires c = (finite_arm (goal.at.magnitude-requires c).In-Finite).normal

pub invariant_of-significand : goal.invariant_of-significand
invariant_of-significand c = record { short = (finite_arm (goal.at.invariant_of-significand c).In-Finite).small }

pub returns-in-NotANumber : goal.returns-in-NotANumber
returns-in-NotANumber c = even_nan c.args.x (sym c.split.ensures ∙ c.in-NotANumber.is)

pub returns-in-Infinite : goal.returns-in-Infinite
returns-in-Infinite c =
    to_z-of_z w32 c.saturate_i32.result (sfits_of c.saturate_i32.type_inv)
    ∙ c.saturate_i32.ensures
    ∙ even_inf c.args.x c.in-Infinite.negative
    (sym c.split.ensures ∙ c.in-Infinite.is)

pub returns-in-Finite : goal.returns-in-Finite
returns-in-Finite c =
    let x = c.args.x in
    let a = c.in-Finite.significand * 2 ^ c.in-Finite.exponent in
    to_z-of_z w32 c.saturate_i32-in-Finite.result (sfits_of c.saturate_i32-in-Finite.type_inv)
    ∙ c.saturate_i32-in-Finite.ensures
    ∙ ap (λ (k : ℕ). saturated c.in-Finite.negative k) c.magnitude.ensures
    ∙ saturated_min c.in-Finite.negative (closest a (2 ^ 1074))
    ∙ even_at x c.in-Finite.negative a (2 ^ 1074) (pow_pos 1074) (finite_arm (goal.at.returns-in-Finite c).In-Finite).value
