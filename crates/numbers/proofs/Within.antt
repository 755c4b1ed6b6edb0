-- A float is within ±k just where its size is at most that of k: the two tests that a program makes, by the fractions. Assumes nothing.
use Rattle.std.proofs.Common.{◌≡◌, ℕ, ◌*◌, ◌<◌, ◌≤◌, Bool, true, false, ◌&&◌, T, ℤ, refl, ap, true≢false, le_of_lt, mul-le-mul_right, lt_of_mul-lt-mul_right, mul-lt-mul_of_pos_right, mul-pos, arith, le-ltb, ne_eqb}
use lib.Ieee.{Float, nan, inf, fin, up, down, neg, lt, eq, le, is_nan}
use lib.Ieee.Exact.{HasValue}
use lib.Ieee.Fits.{down_pos}
use lib.Ieee.Order.{transfer}
use lib.Ieee.Scale.{finite}
use Rattle.numbers.proofs.Order.{le_of_not_lt}

and_false : (a : Bool) → (a && false) ≡ false
and_false true = refl
and_false false = refl

-- of magnitudes, by the sign of the first
inside : (t : Bool) (m n : ℕ) (e d : ℤ) → m * up e * down d ≤ n * up d * down e → (le (fin true n d) (fin t m e) && le (fin t m e) (fin false n d)) ≡ true
unfolding lt is_nan
inside t m n e d h =
    rw (le_of_not_lt (fin t m e) (fin true n d) refl refl (low t), le_of_not_lt (fin false n d) (fin t m e) refl refl (high t))
  where
    low : (t : Bool) → lt (fin t m e) (fin true n d) ≡ false
    low false = refl
    low true = le-ltb (n * up d * down e) (m * up e * down d) h

    high : (t : Bool) → lt (fin false n d) (fin t m e) ≡ false
    high false = le-ltb (n * up d * down e) (m * up e * down d) h
    high true = refl

outside : (t : Bool) (m n : ℕ) (e d : ℤ) → n * up d * down e < m * up e * down d → (le (fin true n d) (fin t m e) && le (fin t m e) (fin false n d)) ≡ false
unfolding le lt eq
outside false m n e d h =
    let a = m * up e * down d in
    let b = n * up d * down e in
    rw (le-ltb a b (le_of_lt h), ne_eqb a b (λ e. omega arith)) (and_false (le (fin true n d) (fin false m e)))
outside true m n e d h =
    let a = m * up e * down d in
    let b = n * up d * down e in
    rw (le-ltb a b (le_of_lt h), ne_eqb b a (λ e. omega arith))

-- x is a / c in size, and k is b / c
pub within_size : (x k : Float) (s : Bool) (a b c : ℕ) → 0 < c → HasValue x s a c → HasValue k false b c → a ≤ b → (le (neg k) x && le x k) ≡ true
unfolding neg
within_size nan k s a b c C p q h = absurd p
within_size (inf t) k s a b c C p q h = absurd p
within_size (fin t m e) nan s a b c C p q h = absurd q
within_size (fin t m e) (inf u) s a b c C p q h = absurd q
within_size (fin t m e) (fin true n d) s a b c C p q h = absurd (true≢false q.0)
within_size (fin t m e) (fin false n d) s a b c C p q h =
    inside t m n e d (transfer (m * up e) (n * up d) (down e) (down d) a b c c C C p.1 q.1 (mul-le-mul_right c h))

pub beyond_size : (x k : Float) (s : Bool) (a b c : ℕ) → HasValue x s a c → HasValue k false b c → b < a → (le (neg k) x && le x k) ≡ false
unfolding neg
beyond_size nan k s a b c p q h = absurd p
beyond_size (inf t) k s a b c p q h = absurd p
beyond_size (fin t m e) nan s a b c p q h = absurd q
beyond_size (fin t m e) (inf u) s a b c p q h = absurd q
beyond_size (fin t m e) (fin true n d) s a b c p q h = absurd (true≢false q.0)
beyond_size (fin t m e) (fin false n d) s a b c p q h =
    outside t m n e d (cross (n * up d) (m * up e) (down d) (down e) (down_pos d) (down_pos e) q.1 p.1)
  where
    cross : (y x d e : ℕ) → 0 < d → 0 < e → y * c ≡ b * d → x * c ≡ a * e → y * e < x * d
    cross y x d e D E q p =
        let l : b * (d * e) < a * (d * e) = mul-lt-mul_of_pos_right h (mul-pos D E) in
        let u : y * c * e ≡ b * d * e = ap (λ (z : ℕ). z * e) q in
        let v : x * c * d ≡ a * e * d = ap (λ (z : ℕ). z * d) p in
        lt_of_mul-lt-mul_right c (let w : y * e * c < x * d * c = omega arith in w)

-- what is not finite is within no bounds
pub beyond_all : (x k : Float) → (T (finite x) → ⊥) → T (finite k) → (le (neg k) x && le x k) ≡ false
unfolding neg le lt eq
beyond_all x nan h q = absurd q
beyond_all x (inf u) h q = absurd q
beyond_all nan (fin u n d) h q = refl
beyond_all (inf false) (fin u n d) h q = refl
beyond_all (inf true) (fin u n d) h q = refl
beyond_all (fin t m e) (fin u n d) h q = absurd (h tt)
