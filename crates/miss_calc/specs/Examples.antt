-- Document 02, §3, computed: "(max combo - 2) × max combo as an exact whole number, then as a float".
use Rattle.std.specs.Prelude.{ℕ, ◌≡◌, refl, List, [], ◌∷◌, map}
use Rattle.std.specs.Float.{binary64}
use Rattle.std.specs.Float.Ieee.{to_bits, of_int, round, neg}
use Rattle.miss_calc.specs.ScoreBased.{combo_product_of}

-- a combo and the bits of its product: -1, 0 and 3; the last of 32 bits, the first above them, and that of the most combo
products : List (ℕ × ℕ)
products =
    (1, 0xbff0_0000_0000_0000)
    ∷ (2, 0)
    ∷ (3, 0x4008_0000_0000_0000)
    ∷ (46341, 0x41df_ffaa_03c0_0000)
    ∷ (46342, 0x41e0_0002_4300_0000)
    ∷ (8200192, 0x42ce_9421_82e0_0000)
    ∷ []

products_told : map (λ (r : ℕ × ℕ). to_bits binary64 (combo_product_of r.0)) products ≡ map (λ (r : ℕ × ℕ). r.1) products
unfolding products combo_product_of to_bits of_int round neg
products_told = refl
