-- Document 01, "float bits split for root": the parts of an f64. Definitions only.
use Rattle.std.specs.Prelude.{◌-◌, ◌*◌, ◌/◌, ◌^◌, Float}
use Rattle.std.specs.Float.{nan, inf, fin}
use Rattle.std.specs.Float.Ieee.{up, down, size}
use Rattle.numbers.specs.declared.bits.Parts.{Parts}
use Rattle.numbers.specs.declared.bits.Parts.TheVariants.{NotANumber, Infinite, Finite}

-- A finite value is n of the smallest values, 2 ^ -1074. It keeps the 53 leading digits of n, and the exponent says how many follow them.
unfoldable pub parts_of : Float → Parts
parts_of nan = NotANumber
parts_of (inf s) = Infinite s
parts_of (fin s m e) =
    let n = m * up e * 2 ^ 1074 / down e in
    let k = size n - 53 in
    Finite s (n / 2 ^ k) k
