-- `round_ties_even_i32` by the parts of a float, and by any fraction that its value equals. Assumes nothing.
use Rattle.std.proofs.Common.{◌≡◌, ℕ, ◌*◌, ◌^◌, ◌<◌, Bool, pos, sym, refl, ap, ◌∙◌, arith}
use lib.Ieee.{Float, nan, inf, fin, up, down}
use lib.Ieee.Fits.{down_pos}
use lib.Ieee.Exact.{HasValue}
use lib.Ieee.Nearest.{closest, closest_same}
use Rattle.numbers.specs.declared.bits.Parts.TheVariants.{NotANumber, Infinite}
use Rattle.numbers.specs.Bits.{parts_of}
use Rattle.numbers.specs.Rounding.{round_ties_even_i32, saturated}

pub even_nan : (x : Float) → parts_of x ≡ NotANumber → pos 0 ≡ round_ties_even_i32 x
unfolding parts_of round_ties_even_i32
even_nan nan e = refl
even_nan (inf t) e = let z : ◌≡◌ {A = ℕ} 0 1 = cc in absurd (omega arith)
even_nan (fin t m d) e = let z : ◌≡◌ {A = ℕ} 0 1 = cc in absurd (omega arith)

pub even_inf : (x : Float) (s : Bool) → parts_of x ≡ Infinite s → saturated s (2 ^ 31) ≡ round_ties_even_i32 x
unfolding parts_of round_ties_even_i32
even_inf nan s e = let z : ◌≡◌ {A = ℕ} 0 1 = cc in absurd (omega arith)
even_inf (inf t) s e = let p : s ≡ t = cc in ap (λ (b : Bool). saturated b (2 ^ 31)) p
even_inf (fin t m d) s e = let z : ◌≡◌ {A = ℕ} 0 1 = cc in absurd (omega arith)

pub even_at : (x : Float) (s : Bool) (a c : ℕ) → 0 < c → HasValue x s a c → saturated s (closest a c) ≡ round_ties_even_i32 x
unfolding round_ties_even_i32
even_at nan s a c C h = absurd h
even_at (inf t) s a c C h = absurd h
even_at (fin t m e) s a c C h =
    sym (ap (λ (b : Bool). saturated b (closest (m * up e) (down e))) h.0 ∙ ap (λ (n : ℕ). saturated s n)
    (closest_same (m * up e) (down e) a c (down_pos e) C h.1))
