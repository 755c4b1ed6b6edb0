-- Numbers as text, in ASCII. Definitions only.
use Rattle.std.specs.Prelude.{ℕ, zero, suc, ◌+◌, ◌-◌, ◌*◌, ◌/◌, ◌%◌, true, false, cond, List, [], ◌∷◌, ◌++◌, ltb, Float}
use Rattle.std.specs.Float.{binary64}
use Rattle.std.specs.Float.Ieee.{is_nan, to_bits}
use Rattle.text.specs.Ascii.{ascii}
use Rattle.io.specs.Digits.{hex_digit_ascii, last_digits}

-- a number below 10 is its digit; any other the digits of its tenth, and then its last digit. The first argument bounds how many there are.
unfoldable pub decimal_up_to : ℕ → ℕ → List ℕ
decimal_up_to zero n = []
decimal_up_to (suc k) n = elim (ltb n 10) [ true ↦ hex_digit_ascii n ∷ [] | false ↦ decimal_up_to k (n / 10) ++ (hex_digit_ascii (n % 10) ∷ []) ]

-- the decimal digits of n with no zero in front; there are at most n + 1
unfoldable pub decimal_of : ℕ → List ℕ
decimal_of n = decimal_up_to (suc n) n

-- the number that decimal digits say, where digits in front of them say v
unfoldable pub value_from : ℕ → List ℕ → ℕ
value_from v [] = v
value_from v (d ∷ t) = value_from (v * 10 + (d - 48)) t

-- the 16 hexadecimal digits of a number of 64 bits
unfoldable pub hex_of : ℕ → List ℕ
hex_of n = last_digits 16 16 n

-- a float by its bits, and `nan` for what is not a number
unfoldable pub float_text : Float → List ℕ
float_text x = cond (is_nan x) (ascii "nan") (hex_of (to_bits binary64 x))
