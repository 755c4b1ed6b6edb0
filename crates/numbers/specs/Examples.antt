-- Worked values of the definitions, each computed.
use Rattle.std.specs.Prelude.{◌≡◌, ◌-◌, ◌^◌, false, [], ◌∷◌, map, pos, negsuc, refl}
use Rattle.std.specs.Float.{nan, inf, binary64}
use Rattle.std.specs.Float.Ieee.{lt, is_nan, neg, of_int, round, to_bits, to_unsigned}
use Rattle.numbers.specs.Floats.{whole, part}
use Rattle.numbers.specs.MinMax.{max_of, min_of, clamp_of}
use Rattle.numbers.specs.Rounding.{round_ties_even_i32}
use Rattle.numbers.specs.Words.{word_at, bytes_of}

-- 0.5, 1.5, 2.5, -0.5, -1.5 and -2 ^ 40
ties : map round_ties_even_i32 (part 1 2 ∷ part 3 2 ∷ part 5 2 ∷ neg (part 1 2) ∷ neg (part 3 2) ∷ neg (whole 0x100_0000_0000) ∷ [])
    ≡ pos 0 ∷ pos 2 ∷ pos 2 ∷ pos 0 ∷ negsuc 1 ∷ negsuc (2 ^ 31 - 1) ∷ []
unfolding round_ties_even_i32 neg of_int round
ties = refl

-- 1.99, -3 and an infinity, cut
cuts : map (to_unsigned 31) (part 199 100 ∷ neg (whole 3) ∷ inf false ∷ []) ≡ 1 ∷ 0 ∷ (2 ^ 31 - 1) ∷ []
unfolding to_unsigned neg of_int round
cuts = refl

-- a NaN is dropped by max and min on either side, and stays in clamp
nans : max_of nan (whole 0) ∷ max_of (whole 0) nan ∷ min_of nan (whole 2) ∷ clamp_of nan (whole 0) (whole 2) ∷ [] ≡ whole 0 ∷ whole 0 ∷ whole 2 ∷ nan ∷ []
unfolding max_of min_of clamp_of lt is_nan of_int round
nans = refl

-- the f64 nearest to 1.06, and 3,600 as two bytes, read back and read past the end
decimal : to_bits binary64 (part 106 100) ≡ 0x3ff0_f5c2_8f5c_28f6
unfolding to_bits round
decimal = refl

word : word_at (bytes_of 2 3600) 0 2 ∷ word_at (bytes_of 2 3600) 1 2 ∷ word_at (bytes_of 2 3600) 2 2 ∷ [] ≡ 3600 ∷ 14 ∷ 0 ∷ []
unfolding word_at bytes_of
word = refl
