-- Roots that are known: of 2 and 3, of the smallest f64 above 0 and of the largest; and 4 to the power 2.5.
use Rattle.std.specs.Prelude.{◌≡◌, refl}
use Rattle.std.specs.Float.{binary64}
use Rattle.std.specs.Float.Ieee.{of_bits, to_bits, round, size, mul, of_int}
use Rattle.numbers.specs.Floats.{whole}
use Rattle.square_root.specs.Roots.{root_digits, isqrt, rooted, root_of, power_of}

two : to_bits binary64 (root_of (whole 2)) ≡ 0x3ff6_a09e_667f_3bcd
unfolding root_of rooted isqrt root_digits size of_int to_bits round
two = refl

three : to_bits binary64 (root_of (whole 3)) ≡ 0x3ffb_b67a_e858_4caa
unfolding root_of rooted isqrt root_digits size of_int to_bits round
three = refl

least : to_bits binary64 (root_of (of_bits binary64 1)) ≡ 0x1e60_0000_0000_0000
unfolding root_of rooted isqrt root_digits size of_bits to_bits round
least = refl

most : to_bits binary64 (root_of (of_bits binary64 0x7fef_ffff_ffff_ffff)) ≡ 0x5fef_ffff_ffff_ffff
unfolding root_of rooted isqrt root_digits size of_bits to_bits round
most = refl

four_power : power_of (whole 4) ≡ whole 32
unfolding power_of root_of rooted isqrt root_digits size of_int mul round
four_power = refl
