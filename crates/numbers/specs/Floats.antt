-- Document 01, "Each float operation is rounded once": f64 constants and operations under short names, so that a definition reads like the Rust formula.
-- Definitions only.
use Rattle.std.specs.Prelude.{ℕ, false, pos, Float}
use Rattle.std.specs.Float.{binary64}
use Rattle.std.specs.Float.Ieee.{add, sub, mul, div, of_int, round}

-- the f64 of a whole number, as Rust's literal `300.0` and its `n as f64`
abbrev pub whole : ℕ → Float
whole n = of_int binary64 (pos n)

-- the f64 nearest to a / b, as Rust's literal `1.06` is `part 106 100`
abbrev pub part : ℕ → ℕ → Float
part a b = round binary64 false a b

-- Rust's `+`, `-`, `*` and `/` on f64
infixl 60 ◌⊕◌
infixl 60 ◌⊖◌
infixl 70 ◌⊗◌
infixl 70 ◌⊘◌
abbrev pub ◌⊕◌ : Float → Float → Float
x ⊕ y = add binary64 x y

abbrev pub ◌⊖◌ : Float → Float → Float
x ⊖ y = sub binary64 x y

abbrev pub ◌⊗◌ : Float → Float → Float
x ⊗ y = mul binary64 x y

abbrev pub ◌⊘◌ : Float → Float → Float
x ⊘ y = div binary64 x y
