-- Worked values of the definitions, each computed.
use Rattle.std.specs.Prelude.{◌^◌, ◌-◌, ◌≡◌, refl, [], ◌∷◌, map}
use Rattle.std.specs.Float.{nan}
use Rattle.std.specs.Float.Ieee.{neg, of_int, round, to_bits, is_nan}
use Rattle.numbers.specs.Floats.{whole}
use Rattle.text.specs.Ascii.{ascii}
use Rattle.text.specs.Space.{put_at, behind}
use Rattle.text.specs.Numbers.{decimal_up_to, decimal_of, hex_of, float_text}

decimals : map decimal_of (0 ∷ 10 ∷ 1010 ∷ (2 ^ 64 - 1) ∷ []) ≡ ascii "0" ∷ ascii "10" ∷ ascii "1010" ∷ ascii "18446744073709551615" ∷ []
unfolding decimal_of decimal_up_to
decimals = refl

floats : map float_text (nan ∷ whole 1 ∷ neg (whole 0) ∷ []) ≡ ascii "nan" ∷ ascii "3ff0000000000000" ∷ ascii "8000000000000000" ∷ []
unfolding float_text hex_of is_nan to_bits neg of_int round
floats = refl

-- inside the space, over its end, and past it
puts : map (λ at. put_at (ascii "......") at (ascii "abc")) (2 ∷ 4 ∷ 9 ∷ []) ≡ ascii "..abc." ∷ ascii "....ab" ∷ ascii "......" ∷ []
unfolding put_at
puts = refl

places : map (λ at. behind (ascii "......") at (ascii "abc")) (2 ∷ 4 ∷ 9 ∷ []) ≡ 5 ∷ 6 ∷ 6 ∷ []
unfolding behind
places = refl
