-- A value from -k to k rounds to a whole number from -k to k. Assumes nothing.
use Rattle.std.proofs.Common.{◌≡◌, ℕ, zero, suc, ◌*◌, ◌^◌, ◌<◌, ◌≤◌, min, Bool, true, false, ◌&&◌, ◌||◌, T, eqb, ltb, pos, neg_ℤ, sym, ap, ◌∙◌, true≢false, le_trans, le_of_eq, le_of_lt, mul-one, mul_right_comm, le_of_mul-le-mul_right, arith, eqb→eq, ltb→lt}
use lib.Signed.{mag}
use lib.Ieee.{Float, nan, inf, fin, up, down, le, neg}
use lib.Ieee.Exact.{HasValue}
use lib.Ieee.Fits.{down_pos}
use lib.Ieee.Nearest.{closest}
use Rattle.numbers.specs.Floats.{whole}
use Rattle.numbers.specs.Rounding.{round_ties_even_i32, saturated}
use Rattle.numbers.proofs.Wholes.{whole_is}
use Rattle.numbers.proofs.rounding.Closest.{closest_under}

at_most : (a b : ℕ) (x y z : Bool) → (T x → a < b) → (T y → a ≡ b) → T (x || (y && z)) → a ≤ b
at_most a b true y z f g t = le_of_lt (f tt)
at_most a b false true z f g t = le_of_eq (g tt)
at_most a b false false z f g t = absurd t

-- a / b at most k rounds to at most k
closest_most : (a b n d k : ℕ) → 0 < b → 0 < d → n * 1 ≡ k * d → a * d ≤ n * b → closest a b ≤ k
closest_most a b n d k B D e h =
    let whole-times : a * d ≤ k * b * d = le_trans h (le_of_eq (ap (λ (z : ℕ). z * b) (sym (mul-one n) ∙ e) ∙ mul_right_comm k d b)) in
    closest_under k a b B (le_of_mul-le-mul_right whole-times D)

mag_saturated : (s : Bool) (n k : ℕ) → n ≤ k → mag (saturated s n) ≤ k
mag_saturated false n k h = omega arith
mag_saturated true n k h = negative (min n (2 ^ 31)) (omega arith)
  where
    negative : (m : ℕ) → m ≤ k → mag (neg_ℤ (pos m)) ≤ k
    negative zero h = omega arith
    negative (suc m) h = omega arith

bounded : (x y : Float) (k : ℕ) → HasValue y false k 1 → T (le (neg y) x) → T (le x y) → mag (round_ties_even_i32 x) ≤ k
unfolding le neg round_ties_even_i32
bounded x nan k v l h = absurd v
bounded x (inf t) k v l h = absurd v
bounded x (fin true n d) k v l h = absurd (true≢false v.0)
bounded nan (fin false n d) k v l h = absurd h
bounded (inf true) (fin false n d) k v l h = absurd l
bounded (inf false) (fin false n d) k v l h = absurd h
bounded (fin false m e) (fin false n d) k v l h =
    let a = m * up e * down d in
    let b = n * up d * down e in
    let c = at_most a b (ltb a b) (eqb a b) true (ltb→lt a b) (eqb→eq a b) h in
    mag_saturated false (closest (m * up e) (down e)) k (closest_most (m * up e) (down e) (n * up d) (down d) k (down_pos e) (down_pos d) v.1 c)
bounded (fin true m e) (fin false n d) k v l h =
    let a = m * up e * down d in
    let b = n * up d * down e in
    let c = at_most a b (ltb a b) (eqb b a) true (ltb→lt a b) (λ (t : T (eqb b a)). sym (eqb→eq b a t)) l in
    mag_saturated true (closest (m * up e) (down e)) k (closest_most (m * up e) (down e) (n * up d) (down d) k (down_pos e) (down_pos d) v.1 c)

pub round_bounded : (x : Float) (k : ℕ) → k ≤ 2 ^ 53 → T (le (neg (whole k)) x) → T (le x (whole k)) → mag (round_ties_even_i32 x) ≤ k
round_bounded x k w l h = bounded x (whole k) k (whole_is k w) l h
