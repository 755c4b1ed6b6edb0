-- The places of records by their numbers: none is 0, and so no other.
use mathlib.Core.Path.{◌≡◌, refl}
use mathlib.Core.Bool.{true, false}
use Prim.Native.Nat.{◌<◌}
use native.Mathlib.Omega.{arith}
use Rattle.std.specs.Prelude.{Option, Some, None, is_none}
use Rattle.map_file.specs.Order.{place}
use Rattle.map_file.specs.declared.file.Rank.{Rank}
use Rattle.map_file.specs.declared.file.Rank.TheVariants as rank
use Rattle.rules.proofs.Laws.{never}

pub none_is : (r : Option Rank) → is_none r ≡ true → r ≡ None
none_is None e = refl
none_is (Some r) e = never (cc)

pub some_placed : (r : Option Rank) → is_none r ≡ false → 0 < place r
some_placed None e = never (cc)
some_placed (Some rank.Header) e = omega arith
some_placed (Some rank.Break) e = omega arith
some_placed (Some rank.Object) e = omega arith
some_placed (Some rank.Play) e = omega arith
some_placed (Some rank.Beyond) e = omega arith

pub placed_some : (r : Option Rank) → 0 < place r → is_none r ≡ false
placed_some None h = never (omega (arith, h))
placed_some (Some r) h = refl
