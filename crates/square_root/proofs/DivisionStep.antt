-- The division of `more_digits`: what it leaves is right by the square of a sum. Assumes nothing.
use Rattle.std.proofs.Common.{◌≡◌, ℕ, zero, suc, ◌+◌, ◌-◌, ◌*◌, ◌/◌, ◌%◌, ◌^◌, ◌<◌, ◌≤◌, sym, ap, subst, le_trans, mul-le-mul_right, mod-lt, div-add-mod', div-lt_iff_lt-mul, mul-le-mul, sub-one, arith}
use Rattle.square_root.specs.Roots.{isqrt}
use Rattle.square_root.proofs.Isqrt.{sq_lt, root_is}

-- what the division asks: h is the root so far, d its remainder, p the power of the digits to come, a and b the number's next digits
abbrev Given : ℕ → ℕ → ℕ → ℕ → ℕ → Type 0
Given h d p a b = (d ≤ h * 2) × (h < 2 ^ 27) × (p ≤ h * 2) × (p ≤ 2 ^ 27) × (a < p) × (b < p)

-- and what `more_digits` asks of the number n that h is the root of
abbrev pub Asked : ℕ → ℕ → ℕ → ℕ → Type 0
Asked n p a b = (n < 2 ^ 54) × (p ≤ isqrt n * 2) × (p ≤ 2 ^ 27) × (a < p) × (b < p)

given : (n h d p a b : ℕ) → h * h + d ≡ n → d ≤ h * 2 → Asked n p a b → Given h d p a b
given n h d p a b e l (small, most, word, upper, lower) =
    let own : h ≡ isqrt n = root_is h d n e l in
    (l, sq_lt h (2 ^ 27) (omega arith), omega arith, word, upper, lower)

-- t is twice the root so far
dividend_lt : (t d p a : ℕ) → d ≤ t → a < p → d * p + a < t * p + p
dividend_lt t d p a l g = let s : d * p ≤ t * p = mul-le-mul_right p l in omega arith

digits_le : (t d p a : ℕ) → d ≤ t → a < p → p ≤ t → (d * p + a) / t ≤ p
digits_le t d p a l g k =
    let s = dividend_lt t d p a l g in
    let below : d * p + a < (p + 1) * t = omega arith in
    let less : (d * p + a) / t < p + 1 = (div-lt_iff_lt-mul {k = t} (omega arith)).1 below in
    omega arith

-- e is what the division left
left_lt : (t e p b : ℕ) → e < t → b < p → e * p + b < t * p
left_lt t e p b l g = let s : suc e * p ≤ t * p = mul-le-mul_right p l in omega arith

-- the root may be one less where the square of x is above n, as x is above 0 then
room : (h p x n : ℕ) → x ≤ p → p ≤ h * 2 → n < x * x → x * x + 1 ≤ n + (h * p + x) * 2
room h p zero n l g k = omega arith
room h p (suc y) n l g k =
    let s : suc y * suc y ≤ h * 2 * p = mul-le-mul (le_trans l g) l in
    omega arith

-- the square of the sum, and what the division left
squared : (h d p a b x e : ℕ) → x * (h * 2) + e ≡ d * p + a
    → (h * p + x) * (h * p + x) + (e * p + b) ≡ ((h * h + d) * p + a) * p + b + x * x
squared h d p a b x e s = let m : (x * (h * 2) + e) * p ≡ (d * p + a) * p = ap (λ (n : ℕ). n * p) s in omega arith

-- one less than R, where the square of R is above n by less than R * 2
one_less : (n R e s : ℕ) → R * R + e ≡ n + s → e < s → s + 1 ≤ e + R * 2
    → ((R - 1) * (R - 1) + (e + R * 2 - 1 - s) ≡ n) × (e + R * 2 - 1 - s ≤ (R - 1) * 2)
one_less n zero e s q l g = omega arith
one_less n (suc t) e s q l g =
    subst (λ (r : ℕ). (r * r + (e + suc t * 2 - 1 - s) ≡ n) × (e + suc t * 2 - 1 - s ≤ r * 2)) (sym (sub-one (suc t))) (omega arith, omega arith)

-- the two ends, with x for the quotient and e for the remainder of the division
kept : (h d p a b x e : ℕ) → x * (h * 2) + e ≡ d * p + a → e < h * 2 → b < p → x * x ≤ e * p + b
    → ((h * p + x) * (h * p + x) + (e * p + b - x * x) ≡ ((h * h + d) * p + a) * p + b) × (e * p + b - x * x ≤ (h * p + x) * 2)
kept h d p a b x e s l k g =
    let q = squared h d p a b x e s in
    let f = left_lt (h * 2) e p b l k in
    (omega arith, omega arith)

lowered : (h d p a b x e : ℕ) → x * (h * 2) + e ≡ d * p + a → x ≤ p → p ≤ h * 2 → e * p + b < x * x
    → ((h * p + x - 1) * (h * p + x - 1) + (e * p + b + (h * p + x) * 2 - 1 - x * x) ≡ ((h * h + d) * p + a) * p + b)
    × (e * p + b + (h * p + x) * 2 - 1 - x * x ≤ (h * p + x - 1) * 2)
lowered h d p a b x e s l g k =
    one_less (((h * h + d) * p + a) * p + b) (h * p + x) (e * p + b) (x * x) (squared h d p a b x e s) k (room h p x (e * p + b) l g k)

-- ---- all that `more_digits` leans on, for the quotient x of the division and what is left of the number behind it

pub record Division (n h d p a b x l : ℕ) : Type 0 where
  pub divisor : 0 < h * 2
  pub square : x * x ≤ 2 ^ 54
  pub room : l < x * x → x * x + 1 ≤ l + (h * p + x) * 2
  pub kept : x * x ≤ l → ((h * p + x) * (h * p + x) + (l - x * x) ≡ (n * p + a) * p + b) × (l - x * x ≤ (h * p + x) * 2)
  pub lowered : l < x * x
      → ((h * p + x - 1) * (h * p + x - 1) + (l + (h * p + x) * 2 - 1 - x * x) ≡ (n * p + a) * p + b) × (l + (h * p + x) * 2 - 1 - x * x ≤ (h * p + x - 1) * 2)

abbrev pub Divided : ℕ → ℕ → ℕ → ℕ → ℕ → ℕ → Type 0
Divided n h d p a b = Division n h d p a b ((d * p + a) / (h * 2)) ((d * p + a) % (h * 2) * p + b)

pub division : (n h d p a b : ℕ) → h * h + d ≡ n → d ≤ h * 2 → Asked n p a b → Divided n h d p a b
division n h d p a b e l asked =
    let g = given n h d p a b e l asked in
    let m = d * p + a in
    let divisor : 0 < h * 2 = omega arith in
    let few : m / (h * 2) ≤ p = digits_le (h * 2) d p a g.0 g.4 g.2 in
    let square : m / (h * 2) * (m / (h * 2)) ≤ 2 ^ 27 * 2 ^ 27 = mul-le-mul (le_trans few g.3) (le_trans few g.3) in
    let sum = div-add-mod' m (h * 2) in
    record {
      divisor = divisor;
      square = omega arith;
      room = room h p (m / (h * 2)) (m % (h * 2) * p + b) few g.2;
      kept = λ t. rw (sym e) (kept h d p a b (m / (h * 2)) (m % (h * 2)) sum (mod-lt m divisor) g.5 t);
      lowered = λ t. rw (sym e) (lowered h d p a b (m / (h * 2)) (m % (h * 2)) sum few g.2 t);
    }
