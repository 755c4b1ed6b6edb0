-- Bounds on the size of numbers that may be negative: `Magnitude x q j` says that x is finite with |x| ≤ q / 2 ^ j. Rounding keeps the order and leaves
-- such a bound as it is where q has few enough digits, so what bounds the exact result of an operation bounds the rounded one. Assumes nothing.
use Rattle.std.proofs.Common.{◌≡◌, ℕ, zero, suc, ◌+◌, ◌-◌, ◌*◌, ◌^◌, ◌<◌, ◌≤◌, Bool, true, false, cond, not, ◌&&◌, T, eqb, ltb, sym, refl, ap, ◌∙◌, true≢false, le_trans, le_of_eq, lt_of_lt_of_le, mul-le-mul_right, mul_assoc, mul-le-mul, mul-pos, le_of_mul-le-mul_right, arith, pow_pos, pow_mono, pow-add, shl_lt}
use native.Mathlib.Nat.{mul-mul-mul_comm}
use mathlib.Core.Bool.{beq}
use lib.Dec.{eqb-suc-zero}
use lib.Ieee.{Float, nan, inf, fin, Format, prec, emax, low, unlike, up, down, round, units, odd, neg, sum, add, sub, mul, div, is_nan}
use lib.Ieee.Digits.{back}
use lib.Ieee.Exact.{HasValue, round_exact}
use lib.Ieee.Fits.{reach, round_is}
use lib.Ieee.Positive.{num, den, den_pos, through, value→cross}
use lib.Ieee.Scale.{finite}
use Rattle.numbers.proofs.Bounds.{plain, nonnegative, rounded}

-- the sign, which -0 has too
abbrev pub negative : Float → Bool
negative nan = false
negative (inf s) = s
negative (fin s m e) = s

pub record Magnitude (x : Float) (q j : ℕ) : Type 0 where
  pub is : T (finite x)
  pub at_most : num x * 2 ^ j ≤ q * den x

-- a divisor: finite, and b or more
pub record AtLeast (y : Float) (b : ℕ) : Type 0 where
  pub is : T (plain y)
  pub at_least : b * den y ≤ num y

-- ---- a rounded fraction
pub value_plain : (x : Float) (a c : ℕ) → HasValue x false a c → T (plain x)
value_plain nan a c h = absurd h
value_plain (inf s) a c h = absurd h
value_plain (fin true m e) a c h = absurd (true≢false h.0)
value_plain (fin false m e) a c h = tt

pub nonnegative_finite : (x : Float) → T (nonnegative x) → T (finite x)
nonnegative_finite nan h = absurd h
nonnegative_finite (inf s) h = absurd h
nonnegative_finite (fin s m e) h = tt

pub plain_finite : (x : Float) → T (plain x) → T (finite x)
plain_finite nan h = absurd h
plain_finite (inf s) h = absurd h
plain_finite (fin s m e) h = tt

pub magnitude_number : {x : Float} {q j : ℕ} → Magnitude x q j → is_nan x ≡ false
magnitude_number {x} h = go x h.is
  where
    go : (x : Float) → T (finite x) → is_nan x ≡ false
    go nan p = absurd p
    go (inf s) p = absurd p
    go (fin s m e) p = unfold is_nan in refl

-- q / 2 ^ j is a value of the format
pub dyadic : (f : Format) (q j : ℕ) → q < 2 ^ prec f → j ≤ low f → HasValue (round f false q (2 ^ j)) false q (2 ^ j)
dyadic f q j h k =
    round_exact f false q (2 ^ j) q (low f - j) (pow_pos j) h
    (lt_of_lt_of_le (shl_lt (prec f) (low f - j) h) (pow_mono (room (prec f) (low f) (suc (emax f)) (reach f))))
    (ap (λ (z : ℕ). q * z) (ap (λ (z : ℕ). 2 ^ z) (sym (back (low f) j k)) ∙ pow-add 2 (low f - j) j) ∙ sym (mul_assoc q (2 ^ (low f - j)) (2 ^ j)))
  where
    room : (p l e : ℕ) → p ≤ e → p + (l - j) ≤ l + e
    room p l e h = omega arith

-- with the other sign a fraction rounds to the same size
odd_neg : (d q k l : ℕ) → odd d true q k l ≡ neg (odd d false q k l)
unfolding odd neg
odd_neg d zero k l = refl
odd_neg d (suc q) k l = refl

units_neg : (f : Format) (q k : ℕ) → units f true q k ≡ neg (units f false q k)
unfolding units neg
units_neg f q k = go (ltb (q * 2 ^ k) (2 ^ (low f + suc (emax f))))
  where
    go : (b : Bool) → cond b (odd (suc (prec f)) true q k (low f)) (inf true) ≡ neg (cond b (odd (suc (prec f)) false q k (low f)) (inf false))
    go true = odd_neg (suc (prec f)) q k (low f)
    go false = refl

round_neg : (f : Format) (a c : ℕ) → round f true a c ≡ neg (round f false a c)
round_neg f a c = round_is f true a c ∙ units_neg f _ _ ∙ ap neg (sym (round_is f false a c))

neg_magnitude : (x : Float) {q j : ℕ} → Magnitude x q j → Magnitude (neg x) q j
unfolding neg
neg_magnitude nan h = absurd h.is
neg_magnitude (inf s) h = absurd h.is
neg_magnitude (fin s m e) h = record { is = tt; at_most = h.at_most }

clear_magnitude : (f : Format) (a c q j : ℕ) → 0 < c → a * 2 ^ j ≤ q * c → q < 2 ^ prec f → j ≤ low f → Magnitude (round f false a c) q j
clear_magnitude f a c q j C h small fine =
    let K = round f false q (2 ^ j) in
    let exact = dyadic f q j small fine in
    let u = rounded f false a c q (2 ^ j) C (pow_pos j) absurd h (value_plain K q (2 ^ j) exact) in
    let x = round f false a c in
    record {
      is = nonnegative_finite x u.is;
      at_most = through (num x) (num K) q (den x) (den K) (2 ^ j) (den_pos K) u.at_most (le_of_eq (value→cross K q (2 ^ j) exact));
    }

pub round_magnitude : (f : Format) (s : Bool) (a c q j : ℕ) → 0 < c → a * 2 ^ j ≤ q * c → q < 2 ^ prec f → j ≤ low f → Magnitude (round f s a c) q j
round_magnitude f false a c q j C h small fine = clear_magnitude f a c q j C h small fine
round_magnitude f true a c q j C h small fine = rw round_neg (neg_magnitude _ (clear_magnitude f a c q j C h small fine))

-- ---- the operations, each as a rounded fraction
pub mul_is : (f : Format) (x y : Float) → T (finite x) → T (finite y)
    → mul f x y ≡ round f (unlike (negative x) (negative y)) (num x * num y) (den x * den y)
unfolding mul
mul_is f nan y p q = absurd p
mul_is f (inf s) y p q = absurd p
mul_is f (fin s m e) nan p q = absurd q
mul_is f (fin s m e) (inf t) p q = absurd q
mul_is f (fin s m e) (fin t n d) p q = refl

pub div_is : (f : Format) (x y : Float) → T (finite x) → T (finite y) → 0 < num y
    → div f x y ≡ round f (unlike (negative x) (negative y)) (num x * den y) (num y * den x)
unfolding div
div_is f nan y p q h = absurd p
div_is f (inf s) y p q h = absurd p
div_is f (fin s m e) nan p q h = absurd q
div_is f (fin s m e) (inf t) p q h = absurd q
div_is f (fin s m e) (fin t zero d) p q h = absurd (none (up d) h)
  where
    none : (u : ℕ) → 0 < 0 * u → ⊥
    none u h = omega arith
div_is f (fin s m e) (fin t (suc n) d) p q h =
    ap (λ (b : Bool). cond b (cond (eqb m 0) nan (inf (unlike s t))) (round f (unlike s t) (m * up e * down d) (suc n * up d * down e))) (eqb-suc-zero n)

pub add_is : (f : Format) (x y : Float) → T (finite x) → T (finite y)
    → add f x y ≡ sum f (negative x) (num x * den y) (negative y) (num y * den x) (den x * den y)
unfolding add
add_is f nan y p q = absurd p
add_is f (inf s) y p q = absurd p
add_is f (fin s m e) nan p q = absurd q
add_is f (fin s m e) (inf t) p q = absurd q
add_is f (fin s m e) (fin t n d) p q = refl

pub sub_is : (f : Format) (x y : Float) → T (finite x) → T (finite y)
    → sub f x y ≡ sum f (negative x) (num x * den y) (not (negative y)) (num y * den x) (den x * den y)
unfolding sub
sub_is f nan y p q = absurd p
sub_is f (inf s) y p q = absurd p
sub_is f (fin s m e) nan p q = absurd q
sub_is f (fin s m e) (inf t) p q = absurd q
sub_is f (fin s m e) (fin t n d) p q = refl

-- ---- fractions n / d ≤ a / p and m / e ≤ b / q: their product, their sum over one denominator, and a quotient by m / e ≥ b
pub product : (n p a d m q b e : ℕ) → n * p ≤ a * d → m * q ≤ b * e → n * m * (p * q) ≤ a * b * (d * e)
product n p a d m q b e h k = le_trans (le_of_eq (mul-mul-mul_comm n m p q)) (le_trans (mul-le-mul h k) (le_of_eq (mul-mul-mul_comm a d b e)))

pub total : (n d a m e b p : ℕ) → n * p ≤ a * d → m * p ≤ b * e → (n * e + m * d) * p ≤ (a + b) * (d * e)
total n d a m e b p h k =
    let h' : n * p * e ≤ a * d * e = mul-le-mul_right e h in
    let k' : m * p * d ≤ b * e * d = mul-le-mul_right d k in
    omega arith

pub quotient : (n d a p m e b r q : ℕ) → 0 < p → 0 < b → n * p ≤ a * d → b * e ≤ m → a * r ≤ q * (b * p) → n * e * r ≤ q * (m * d)
quotient n d a p m e b r q P B h k l =
    let u : n * p * (b * e * r) ≤ a * d * (m * r) = mul-le-mul h (mul-le-mul_right r k) in
    let v : a * r * (d * m) ≤ q * (b * p) * (d * m) = mul-le-mul_right (d * m) l in
    let w : n * e * r * (p * b) ≤ q * (m * d) * (p * b) = omega arith in
    le_of_mul-le-mul_right w (mul-pos P B)

-- ---- sizes, whatever the signs
pub mul_magnitude : (f : Format) {x y : Float} {a b i j : ℕ} → Magnitude x a i → Magnitude y b j → a * b < 2 ^ prec f → i + j ≤ low f
    → Magnitude (mul f x y) (a * b) (i + j)
mul_magnitude f {x} {y} {a} {b} {i} {j} h k small fine =
    rw (mul_is f x y h.is k.is)
    (round_magnitude f (unlike (negative x) (negative y)) (num x * num y) (den x * den y) (a * b) (i + j) (mul-pos (den_pos x) (den_pos y))
    (rw pow-add (product (num x) (2 ^ i) a (den x) (num y) (2 ^ j) b (den y) h.at_most k.at_most)) small fine)

sum_magnitude : (f : Format) (s t : Bool) (a b c q j : ℕ) → 0 < c → (a + b) * 2 ^ j ≤ q * c → q < 2 ^ prec f → j ≤ low f → Magnitude (sum f s a t b c) q j
unfolding sum
sum_magnitude f s t a b c q j C h small fine = go (beq s t) (ltb a b)
  where
    within : (d : ℕ) → d ≤ a + b → d * 2 ^ j ≤ q * c
    within d k = le_trans (mul-le-mul_right (2 ^ j) k) h

    go : (u v : Bool) → Magnitude (cond u (round f s (a + b) c) (cond v (round f t (b - a) c) (round f (s && ltb b a) (a - b) c))) q j
    go true v = round_magnitude f s (a + b) c q j C h small fine
    go false true = round_magnitude f t (b - a) c q j C (within (b - a) (omega arith)) small fine
    go false false = round_magnitude f (s && ltb b a) (a - b) c q j C (within (a - b) (omega arith)) small fine

pub add_magnitude : (f : Format) {x y : Float} {a b j : ℕ} → Magnitude x a j → Magnitude y b j → a + b < 2 ^ prec f → j ≤ low f
    → Magnitude (add f x y) (a + b) j
add_magnitude f {x} {y} {a} {b} {j} h k small fine =
    rw (add_is f x y h.is k.is)
    (sum_magnitude f (negative x) (negative y) (num x * den y) (num y * den x) (den x * den y) (a + b) j (mul-pos (den_pos x) (den_pos y))
    (total (num x) (den x) a (num y) (den y) b (2 ^ j) h.at_most k.at_most) small fine)

pub sub_magnitude : (f : Format) {x y : Float} {a b j : ℕ} → Magnitude x a j → Magnitude y b j → a + b < 2 ^ prec f → j ≤ low f
    → Magnitude (sub f x y) (a + b) j
unfolding sub
sub_magnitude f {y = y} h k small fine = add_magnitude f h (neg_magnitude y k) small fine

pub div_magnitude : (f : Format) {x y : Float} {a b i : ℕ} (q j : ℕ) → Magnitude x a i → AtLeast y b → 0 < b → a * 2 ^ j ≤ q * (b * 2 ^ i) → q < 2 ^ prec f
    → j ≤ low f → Magnitude (div f x y) q j
div_magnitude f {x} {y} {a} {b} {i} q j h k B l small fine =
    let Y : 0 < num y = lt_of_lt_of_le (mul-pos B (den_pos y)) k.at_least in
    rw (div_is f x y h.is (plain_finite y k.is) Y)
    (round_magnitude f (unlike (negative x) (negative y)) (num x * den y) (num y * den x) q j (mul-pos Y (den_pos x))
    (quotient (num x) (den x) a (2 ^ i) (num y) (den y) b (2 ^ j) q (pow_pos i) B h.at_most k.at_least l) small fine)
