-- Sums and products of whole numbers as f64 are the f64 of the sum or product, and a whole number that is cut comes back. Assumes nothing.
use Rattle.std.proofs.Common.{◌≡◌, ℕ, ◌+◌, ◌-◌, ◌*◌, ◌/◌, ◌^◌, ◌<◌, ◌≤◌, min, true, false, T, sym, ap, ◌∙◌, true≢false, le_trans, mul-le-mul_right, zero-lt-suc, mul-pos, mul-one, div-mul-le_self, mul-div_cancel, arith}
use native.Mathlib.Nat.{min-le_left, mul-mul-mul_comm}
use lib.Ieee.{Float, nan, inf, fin, Format, binary64, up, down, round, sum, add, mul, of_int, to_unsigned}
use lib.Ieee.Back.{round_whole}
use lib.Ieee.Exact.{HasValue}
use lib.Ieee.Fits.{down_pos}
use lib.Ieee.Positive.{num, den}
use lib.Ieee.Scale.{round_same}
use Rattle.numbers.specs.Floats.{whole}
use Rattle.numbers.proofs.Bounds.{Upto, nonnegative}

-- up to 2 ^ 53 every whole number is an f64
pub whole_is : (n : ℕ) → n ≤ 2 ^ 53 → HasValue (whole n) false n 1
unfolding of_int
whole_is n h = round_whole binary64 false n h

add_at : (f : Format) (x y : Float) (a b : ℕ) → HasValue x false a 1 → HasValue y false b 1 → add f x y ≡ round f false (a + b) 1
unfolding add sum
add_at f nan y a b h k = absurd h
add_at f (inf s) y a b h k = absurd h
add_at f (fin true m e) y a b h k = absurd (true≢false h.0)
add_at f (fin false m e) nan a b h k = absurd k
add_at f (fin false m e) (inf t) a b h k = absurd k
add_at f (fin false m e) (fin true n d) a b h k = absurd (true≢false k.0)
add_at f (fin false m e) (fin false n d) a b h k =
    let x = m * up e in
    let y = n * up d in
    round_same f false (x * down d + y * down e) (down e * down d) (a + b) 1 (mul-pos (down_pos e) (down_pos d)) (zero-lt-suc 0)
    (cross x (down e) y (down d) h.1 k.1)
  where
    same : (a b e d : ℕ) → a * e * d + b * d * e ≡ (a + b) * (e * d)
    same a b e d = omega arith

    cross : (x e y d : ℕ) → x * 1 ≡ a * e → y * 1 ≡ b * d → (x * d + y * e) * 1 ≡ (a + b) * (e * d)
    cross x e y d p q =
        let p' : x ≡ a * e = sym (mul-one x) ∙ p in
        let q' : y ≡ b * d = sym (mul-one y) ∙ q in
        mul-one (x * d + y * e) ∙ ap (λ (z : ℕ). z * d + y * e) p' ∙ ap (λ (z : ℕ). a * e * d + z * e) q' ∙ same a b e d

pub whole_add : (a b : ℕ) → a ≤ 2 ^ 53 → b ≤ 2 ^ 53 → add binary64 (whole a) (whole b) ≡ whole (a + b)
unfolding of_int
whole_add a b h k = add_at binary64 (whole a) (whole b) a b (whole_is a h) (whole_is b k)

mul_at : (f : Format) (x y : Float) (a b : ℕ) → HasValue x false a 1 → HasValue y false b 1 → mul f x y ≡ round f false (a * b) 1
unfolding mul
mul_at f nan y a b h k = absurd h
mul_at f (inf s) y a b h k = absurd h
mul_at f (fin true m e) y a b h k = absurd (true≢false h.0)
mul_at f (fin false m e) nan a b h k = absurd k
mul_at f (fin false m e) (inf t) a b h k = absurd k
mul_at f (fin false m e) (fin true n d) a b h k = absurd (true≢false k.0)
mul_at f (fin false m e) (fin false n d) a b h k =
    round_same f false (m * up e * (n * up d)) (down e * down d) (a * b) 1 (mul-pos (down_pos e) (down_pos d)) (zero-lt-suc 0)
    (mul-mul-mul_comm (m * up e) (n * up d) 1 1
    ∙ ap (λ (z : ℕ). z * (n * up d * 1)) h.1
    ∙ ap (λ (z : ℕ). a * down e * z) k.1
    ∙ mul-mul-mul_comm a (down e) b (down d))

pub whole_mul : (a b : ℕ) → a ≤ 2 ^ 53 → b ≤ 2 ^ 53 → mul binary64 (whole a) (whole b) ≡ whole (a * b)
unfolding of_int
whole_mul a b h k = mul_at binary64 (whole a) (whole b) a b (whole_is a h) (whole_is b k)

cut_at : (w : ℕ) (x : Float) (a : ℕ) → HasValue x false a 1 → a < 2 ^ w → to_unsigned w x ≡ a
unfolding to_unsigned
cut_at w nan a h l = absurd h
cut_at w (inf s) a h l = absurd h
cut_at w (fin true m e) a h l = absurd (true≢false h.0)
cut_at w (fin false m e) a h l =
    let q : m * up e / down e ≡ a = ap (λ (z : ℕ). z / down e) (sym (mul-one (m * up e)) ∙ h.1) ∙ mul-div_cancel a (down_pos e) in
    ap (λ (z : ℕ). min z (2 ^ w - 1)) q ∙ under a (2 ^ w) l
  where
    under : (a c : ℕ) → a < c → min a (c - 1) ≡ a
    under a c h = omega arith

pub whole-cut : (w a : ℕ) → a ≤ 2 ^ 53 → a < 2 ^ w → to_unsigned w (whole a) ≡ a
whole-cut w a h l = cut_at w (whole a) a (whole_is a h) l

-- and what is cut of a float from 0 on is at most that float
above_whole : (x y : Float) (a : ℕ) → HasValue x false a 1 → a * den y ≤ num y → Upto x y
above_whole nan y a h k = absurd h
above_whole (inf s) y a h k = absurd h
above_whole (fin true m e) y a h k = absurd (true≢false h.0)
above_whole (fin false m e) y a h k = record { is = tt; at_most = cross (m * up e) (down e) (den y) (num y) h.1 k }
  where
    cross : (x d c n : ℕ) → x * 1 ≡ a * d → a * c ≤ n → x * c ≤ n * d
    cross x d c n p q =
        let p' : x ≡ a * d = sym (mul-one x) ∙ p in
        let q' : a * c * d ≤ n * d = mul-le-mul_right d q in
        rw p' (omega (arith, q'))

pub cut_least : (w : ℕ) (x : Float) → T (nonnegative x) → to_unsigned w x ≤ 2 ^ 53 → Upto (whole (to_unsigned w x)) x
unfolding to_unsigned
cut_least w x h k = above_whole (whole (to_unsigned w x)) x (to_unsigned w x) (whole_is (to_unsigned w x) k) (least x h)
  where
    least : (x : Float) → T (nonnegative x) → to_unsigned w x * den x ≤ num x
    least nan h = absurd h
    least (inf s) h = absurd h
    least (fin true m e) h = omega arith
    least (fin false m e) h = le_trans (mul-le-mul_right (down e) (min-le_left (m * up e / down e) (2 ^ w - 1))) (div-mul-le_self (m * up e) (down e))
