-- `numbers::bits::split` is right since the masks and shifts take the pattern's fields, by which the definition of a float's bits reads a value: the digits,
-- with a leading one unless the field is 0, times a power of two by the field. Assumes nothing.
use Rattle.std.proofs.Common.{◌≡◌, ℕ, ◌+◌, ◌-◌, ◌/◌, ◌^◌, Bool, cond, T, sym, refl, ap, ◌∙◌, subst, arith, eq-eqb, ne_eqb}
use lib.Bits.{bit_or, mask_lt, or_shifted_r}
use lib.Ieee.{nan, inf, binary64, of_fields}
use Rattle.numbers.specs.declared.bits.Parts.TheVariants.{Finite}
use Rattle.numbers.specs.Bits.{parts_of}
use Rattle.numbers.proofs.bits.Fields.{sign_of, field_of, digits_of, decoded, parts_low, parts_high, parts_top}
use Rattle.numbers.proofs.bits.split.Goals as goal
use Rattle.numbers.proofs.bits.split.Goals.{After-f64_to_bits_with_nan-bits, Else-field-lt2047}

-- the value is what its fields stand for
fields : (c : After-f64_to_bits_with_nan-bits) →
    (let b = c.f64_to_bits_with_nan-bits.result in parts_of (of_fields binary64 (sign_of b) (field_of b) (digits_of b)) ≡ parts_of c.args.v)
fields c =
    ap parts_of (decoded c.args.v c.f64_to_bits_with_nan-bits.result (subst T (sym c.well_formed.0.1) tt) c.f64_to_bits_with_nan-bits.ensures)

pub returns-then-field-eq0 : goal.returns-then-field-eq0
returns-then-field-eq0 c =
    let b = c.f64_to_bits_with_nan-bits.result in
    sym (parts_low (sign_of b) (field_of b) (digits_of b) (mask_lt b 52) c.if-field-eq0.true) ∙ fields (goal.at.returns-then-field-eq0 c).After-f64_to_bits_with_nan-bits

pub returns-then-field-lt2047 : goal.returns-then-field-lt2047
returns-then-field-lt2047 c =
    let b = c.f64_to_bits_with_nan-bits.result in
    let one : bit_or (digits_of b) (2 ^ 52) ≡ 2 ^ 52 + digits_of b = or_shifted_r 1 52 (digits_of b) (mask_lt b 52) in
    ap (λ (g : ℕ). Finite (sign_of b) g (field_of b - 1)) one
    ∙ sym (parts_high (sign_of b) (field_of b) (digits_of b) (mask_lt b 52) c.if-field-eq0.false c.if-field-lt2047.true)
    ∙ fields (goal.at.returns-then-field-lt2047 c).After-f64_to_bits_with_nan-bits

-- a field of all ones
all_ones : (c : Else-field-lt2047) → (b : ℕ) → b ≡ c.f64_to_bits_with_nan-bits.result → field_of b ≡ 2047
all_ones c b e = subst (λ (n : ℕ). field_of n ≡ 2047) (sym e) (omega (arith, mask_lt (c.f64_to_bits_with_nan-bits.result / 2 ^ 52) 11))

pub returns-then-digits-eq0 : goal.returns-then-digits-eq0
unfolding parts_of
returns-then-digits-eq0 c =
    let b = c.f64_to_bits_with_nan-bits.result in
    sym
    (sym (fields (goal.at.returns-then-digits-eq0 c).After-f64_to_bits_with_nan-bits)
    ∙ parts_top (sign_of b) (field_of b) (digits_of b) (all_ones (goal.at.returns-then-digits-eq0 c).Else-field-lt2047 b refl)
    ∙ ap (λ (t : Bool). parts_of (cond t (inf (sign_of b)) nan)) (eq-eqb (digits_of b) 0 c.if-digits-eq0.true))

pub returns-else-digits-eq0 : goal.returns-else-digits-eq0
unfolding parts_of
returns-else-digits-eq0 c =
    let b = c.f64_to_bits_with_nan-bits.result in
    sym
    (sym (fields (goal.at.returns-else-digits-eq0 c).After-f64_to_bits_with_nan-bits)
    ∙ parts_top (sign_of b) (field_of b) (digits_of b) (all_ones (goal.at.returns-else-digits-eq0 c).Else-field-lt2047 b refl)
    ∙ ap (λ (t : Bool). parts_of (cond t (inf (sign_of b)) nan)) (ne_eqb (digits_of b) 0 c.if-digits-eq0.false))
