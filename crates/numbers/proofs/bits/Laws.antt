-- A NaN's bit pattern by a mask and a comparison, and a float that is written as bits and read back. Over the format. Assumes nothing.
use Rattle.std.proofs.Common.{◌≡◌, ℕ, ◌-◌, ◌*◌, ◌%◌, ◌^◌, ◌<◌, ◌≤◌, Bool, not, T, ltb, sym, ap, ◌∙◌, subst, le-ltb}
use lib.Bits.{bit_and, and_mask}
use lib.Ieee.{Float, Format, ones, hid, top, nan_bits, of_bits, to_bits, fits}
use lib.Ieee.Bits.{nan_bits_above, of_bits-to_bits, to_bits-lt}

-- the sign has the weight 2 ^ k, so the mask 2 ^ k - 1 clears it
module _ (f : Format) (k : ℕ) (sign : top f ≡ 2 ^ k) (n : ℕ) where
  pub nan_test : nan_bits f n ≡ ltb (ones f * hid f) (bit_and n (2 ^ k - 1))
  nan_test = nan_bits_above f n ∙ ap (λ (t : ℕ). ltb (ones f * hid f) (n % t)) sign ∙ ap (λ (m : ℕ). ltb (ones f * hid f) m) (sym (and_mask n k))

  pub number_pattern : bit_and n (2 ^ k - 1) ≤ ones f * hid f → T (not (nan_bits f n))
  number_pattern h = subst (λ (b : Bool). T (not b)) (sym (nan_test ∙ le-ltb (ones f * hid f) (bit_and n (2 ^ k - 1)) h)) tt

-- Written and read back: every value that its format holds comes back, a NaN as the NaN. An f64 or f32 of the code always fits its format.
pub written_read : (f : Format) (x : Float) → T (fits f x) → of_bits f (to_bits f x) ≡ x
written_read = of_bits-to_bits

pub written_lt : (f : Format) (x : Float) → T (fits f x) → to_bits f x < 2 * top f
written_lt = to_bits-lt
