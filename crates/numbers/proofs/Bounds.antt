-- Upper bounds that go through the operations: `Upto x K` says that x is a number that is not below zero (-0 is in) and at most K.
-- An operation on bounded operands is at most the operation on the bounds, which antt computes. Assumes nothing.
use Rattle.std.proofs.Common.{◌≡◌, ℕ, zero, suc, ◌+◌, ◌-◌, ◌*◌, ◌/◌, ◌^◌, ◌<◌, ◌≤◌, min, Bool, true, false, cond, not, ◌&&◌, ◌||◌, T, eqb, ltb, ℤ, pos, sym, refl, ap, ◌∙◌, subst, le_trans, le_of_eq, le_refl, le_of_lt, mul-le-mul_right, zero-lt-suc, mul_comm, mul-le-mul, mul-pos, mul-zero, zero-mul, arith, eqb→eq, ltb→lt, nltb→le, pow_pos, le-ltb}
use native.Mathlib.Nat.{mul-mul-mul_comm}
use lib.Dec.{eqb-suc-zero}
use lib.Ieee.{Float, nan, inf, fin, Format, prec, emax, low, unlike, up, down, round, units, odd, add, mul, div, sum, le, to_unsigned}
use lib.Ieee.Casts.{to_unsigned-lt}
use lib.Ieee.Exact.{HasValue, round_exact}
use lib.Ieee.Fits.{up_pos, down_pos, round_is, and_l}
use lib.Ieee.Nearest.{closest, div_mono}
use lib.Ieee.Order.{drop, round_mono}
use lib.Ieee.Positive.{num, den, den_pos, through}

-- a number with the sign clear; and a number that is not below zero
abbrev pub plain : Float → Bool
plain nan = false
plain (inf s) = false
plain (fin true m e) = false
plain (fin false m e) = true

abbrev pub nonnegative : Float → Bool
nonnegative nan = false
nonnegative (inf s) = false
nonnegative (fin true zero e) = true
nonnegative (fin true (suc m) e) = false
nonnegative (fin false m e) = true

pub record Upto (x K : Float) : Type 0 where
  pub is : T (nonnegative x)
  pub at_most : num x * den K ≤ num K * den x

-- ---- a rounded fraction
odd_plain : (d q k l : ℕ) → T (plain (odd d false q k l))
unfolding odd
odd_plain d zero k l = tt
odd_plain d (suc q) k l = tt

no_inf : (K : Float) → T (plain K) → T (le (inf false) K) → ⊥
unfolding le
no_inf nan p h = p
no_inf (inf s) p h = p
no_inf (fin true m e) p h = p
no_inf (fin false m e) p h = h

-- what no infinity has says that a rounded fraction is a number
units_plain : (f : Format) (q k : ℕ) (P : Float → Type 0) → (P (inf false) → ⊥) → P (units f false q k) → T (plain (units f false q k))
unfolding units
units_plain f q k P never h = go (ltb (q * 2 ^ k) (2 ^ (low f + suc (emax f)))) h
  where
    go : (b : Bool) → P (cond b (odd (suc (prec f)) false q k (low f)) (inf false))
        → T (plain (cond b (odd (suc (prec f)) false q k (low f)) (inf false)))
    go true h = odd_plain (suc (prec f)) q k (low f)
    go false h = absurd (never h)

round_plain : (f : Format) (a c : ℕ) (P : Float → Type 0) → (P (inf false) → ⊥) → P (round f false a c) → T (plain (round f false a c))
round_plain f a c P never h =
    subst (λ (z : Float). T (plain z)) (sym (round_is f false a c))
    (units_plain f (closest (a * 2 ^ low f) (c * 2 ^ drop (prec f) (a * 2 ^ low f) c)) (drop (prec f) (a * 2 ^ low f) c) P never
    (subst P (round_is f false a c) h))

lt_or_eq : (a b : ℕ) → T (ltb a b || (eqb a b && true)) → a ≤ b
lt_or_eq a b t = go (ltb a b) (eqb a b) (ltb→lt a b) (eqb→eq a b) t
  where
    go : (x y : Bool) → (T x → a < b) → (T y → a ≡ b) → T (x || (y && true)) → a ≤ b
    go true y f g t = le_of_lt (f tt)
    go false true f g t = le_of_eq (g tt)
    go false false f g t = absurd t

pub le→cross : (x y : Float) → T (plain x) → T (plain y) → T (le x y) → num x * den y ≤ num y * den x
unfolding le
le→cross nan y p q h = absurd p
le→cross (inf s) y p q h = absurd p
le→cross (fin true m e) y p q h = absurd p
le→cross (fin false m e) nan p q h = absurd q
le→cross (fin false m e) (inf t) p q h = absurd q
le→cross (fin false m e) (fin true n d) p q h = absurd q
le→cross (fin false m e) (fin false n d) p q h = lt_or_eq (m * up e * down d) (n * up d * down e) h

plain_nonnegative : (x : Float) → T (plain x) → T (nonnegative x)
plain_nonnegative nan p = absurd p
plain_nonnegative (inf s) p = absurd p
plain_nonnegative (fin true m e) p = absurd p
plain_nonnegative (fin false m e) p = tt

-- -0, rounded
zero_left : (m u c : ℕ) → 0 < u → 0 < c → m * u * c ≡ 0 → m ≡ 0
zero_left zero u c U C e = refl
zero_left (suc m) u c U C e = let p : 0 < suc m * u * c = mul-pos (mul-pos (zero-lt-suc m) U) C in omega arith

zero_most : (u d k : ℕ) → 0 * u * d ≤ k
zero_most u d k = omega arith

minus_zero_lem : (x K : Float) (c : ℕ) → 0 < c → HasValue x true 0 c → Upto x K
minus_zero_lem nan K c C h = absurd h
minus_zero_lem (inf s) K c C h = absurd h
minus_zero_lem (fin s zero e) K c C h =
    record { is = either s; at_most = zero_most (up e) (den K) (num K * down e) }
  where
    either : (s : Bool) → T (nonnegative (fin s zero e))
    either true = tt
    either false = tt
minus_zero_lem (fin s (suc m) e) K c C h = absurd (no (zero_left (suc m) (up e) c (up_pos e) C (h.1 ∙ zero-mul (down e))))
  where
    no : suc m ≡ 0 → ⊥
    no z = omega arith

round_zero : (f : Format) (c : ℕ) → 0 < c → HasValue (round f true 0 c) true 0 c
round_zero f c C = round_exact f true 0 c 0 0 C (pow_pos (prec f)) (pow_pos (low f + suc (emax f))) (zero-mul (2 ^ low f) ∙ sym (zero-mul c))

-- the one law: of a fraction a / c, negative only at 0, and a fraction A / C that is no smaller and does not overflow
pub rounded : (f : Format) (s : Bool) (a c A C : ℕ) → 0 < c → 0 < C → (T s → a ≡ 0) → a * C ≤ A * c → T (plain (round f false A C))
    → Upto (round f s a c) (round f false A C)
rounded f true a c A C p P z h k =
    subst (λ (n : ℕ). Upto (round f true n c) (round f false A C)) (sym (z tt)) (minus_zero_lem (round f true 0 c) (round f false A C) c p (round_zero f c p))
rounded f false a c A C p P z h k =
    let l : T (le (round f false a c) (round f false A C)) = round_mono f a c A C p P h in
    let q : T (plain (round f false a c)) = round_plain f a c (λ z. T (le z (round f false A C))) (no_inf (round f false A C) k) l in
    record { is = plain_nonnegative (round f false a c) q; at_most = le→cross (round f false a c) (round f false A C) q k l }

-- ---- the operations
-- both signs clear, or the product is 0
product_zero : (s t : Bool) (m : ℕ) (e : ℤ) (n : ℕ) (d : ℤ) → T (nonnegative (fin s m e)) → T (nonnegative (fin t n d)) → T (unlike s t) → m * up e * (n * up d) ≡ 0
product_zero true true m e n d p q u = absurd u
product_zero true false zero e n d p q u = ap (λ (k : ℕ). k * (n * up d)) (zero-mul (up e)) ∙ zero-mul (n * up d)
product_zero true false (suc m) e n d p q u = absurd p
product_zero false true m e zero d p q u = ap (λ (k : ℕ). m * up e * k) (zero-mul (up d)) ∙ mul-zero (m * up e)
product_zero false true m e (suc n) d p q u = absurd q
product_zero false false m e n d p q u = absurd u

pub mul_upto : (f : Format) (x y A B : Float) → T (plain A) → T (plain B) → Upto x A → Upto y B → T (plain (mul f A B)) → Upto (mul f x y) (mul f A B)
unfolding mul
mul_upto f nan y A B a b h k p = absurd h.is
mul_upto f (inf s) y A B a b h k p = absurd h.is
mul_upto f (fin s m e) nan A B a b h k p = absurd k.is
mul_upto f (fin s m e) (inf t) A B a b h k p = absurd k.is
mul_upto f (fin s m e) (fin t n d) nan B a b h k p = absurd a
mul_upto f (fin s m e) (fin t n d) (inf u) B a b h k p = absurd a
mul_upto f (fin s m e) (fin t n d) (fin true M E) B a b h k p = absurd a
mul_upto f (fin s m e) (fin t n d) (fin false M E) nan a b h k p = absurd b
mul_upto f (fin s m e) (fin t n d) (fin false M E) (inf v) a b h k p = absurd b
mul_upto f (fin s m e) (fin t n d) (fin false M E) (fin true N D) a b h k p = absurd b
mul_upto f (fin s m e) (fin t n d) (fin false M E) (fin false N D) a b h k p =
    rounded f (unlike s t) (m * up e * (n * up d)) (down e * down d) (M * up E * (N * up D)) (down E * down D) (mul-pos (down_pos e) (down_pos d))
    (mul-pos (down_pos E) (down_pos D))
    (product_zero s t m e n d h.is k.is)
    (le_trans (le_of_eq (mul-mul-mul_comm (m * up e) (n * up d) (down E) (down D)))
    (le_trans (mul-le-mul h.at_most k.at_most) (le_of_eq (mul-mul-mul_comm (M * up E) (down e) (N * up D) (down d)))))
    p

-- a product of two numbers with the sign clear has it clear, unless it overflows
pub mul_plain : (f : Format) (x y : Float) → T (plain x) → T (plain y) → T (nonnegative (mul f x y)) → T (plain (mul f x y))
unfolding mul
mul_plain f nan y p q h = absurd p
mul_plain f (inf s) y p q h = absurd p
mul_plain f (fin true m e) y p q h = absurd p
mul_plain f (fin false m e) nan p q h = absurd q
mul_plain f (fin false m e) (inf t) p q h = absurd q
mul_plain f (fin false m e) (fin true n d) p q h = absurd q
mul_plain f (fin false m e) (fin false n d) p q h = round_plain f (m * up e * (n * up d)) (down e * down d) (λ z. T (nonnegative z)) (λ z. z) h

div_is : (f : Format) (s : Bool) (m : ℕ) (e : ℤ) (n : ℕ) (d : ℤ)
    → div f (fin s m e) (fin false (suc n) d) ≡ round f (unlike s false) (m * up e * down d) (suc n * up d * down e)
unfolding div
div_is f s m e n d =
    ap (λ (b : Bool). cond b (cond (eqb m 0) nan (inf (unlike s false))) (round f (unlike s false) (m * up e * down d) (suc n * up d * down e))) (eqb-suc-zero n)

quotient_zero : (s : Bool) (m : ℕ) (e : ℤ) (k : ℕ) → T (nonnegative (fin s m e)) → T (unlike s false) → m * up e * k ≡ 0
quotient_zero true zero e k p u = ap (λ (z : ℕ). z * k) (zero-mul (up e)) ∙ zero-mul k
quotient_zero true (suc m) e k p u = absurd p
quotient_zero false m e k p u = absurd u

-- by a divisor that is a number above zero
pub div_upto : (f : Format) (x A : Float) (n : ℕ) (d : ℤ) → T (plain A) → Upto x A → T (plain (div f A (fin false (suc n) d)))
    → Upto (div f x (fin false (suc n) d)) (div f A (fin false (suc n) d))
div_upto f nan A n d a h p = absurd h.is
div_upto f (inf s) A n d a h p = absurd h.is
div_upto f (fin s m e) nan n d a h p = absurd a
div_upto f (fin s m e) (inf u) n d a h p = absurd a
div_upto f (fin s m e) (fin true M E) n d a h p = absurd a
div_upto f (fin s m e) (fin false M E) n d a h p =
    let N = suc n * up d in
    let N-pos : 0 < N = mul-pos (zero-lt-suc n) (up_pos d) in
    subst (λ (z : Float). Upto z (div f (fin false M E) (fin false (suc n) d))) (sym (div_is f s m e n d))
    (subst (λ (z : Float). Upto (round f (unlike s false) (m * up e * down d) (N * down e)) z) (sym (div_is f false M E n d))
    (rounded f (unlike s false) (m * up e * down d) (N * down e) (M * up E * down d) (N * down E) (mul-pos N-pos (down_pos e))
    (mul-pos N-pos (down_pos E)) (quotient_zero s m e (down d) h.is)
    (le_trans (le_of_eq (turn (m * up e) (down d) N (down E)))
    (le_trans (mul-le-mul_right (down d * N) h.at_most) (le_of_eq (sym (turn (M * up E) (down d) N (down e))))))
    (subst (λ (z : Float). T (plain z)) (div_is f false M E n d) p)))
  where
    turn : (a d n k : ℕ) → a * d * (n * k) ≡ a * k * (d * n)
    turn a d n k = ap (λ (z : ℕ). a * d * z) (mul_comm n k) ∙ mul-mul-mul_comm a d k n

pub sum_is : (f : Format) (s t : Bool) (a b c : ℕ) → (T s → a ≡ 0) → (T t → b ≡ 0) → sum f s a t b c ≡ round f (s && t) (a + b) c
unfolding sum
sum_is f true true a b c h k = refl
sum_is f false false a b c h k = refl
sum_is f true false a b c h k = go (ltb a b) (ltb→lt a b) (nltb→le a b)
  where
    go : (x : Bool) → (T x → a < b) → (T (not x) → b ≤ a) → cond x (round f false (b - a) c) (round f (ltb b a) (a - b) c) ≡ round f false (a + b) c
    go true l g = let z : a ≡ 0 = h tt in let w : b - a ≡ a + b = omega arith in ap (λ (n : ℕ). round f false n c) w
    go false l g =
        let z : a ≡ 0 = h tt in
        let q : b ≤ a = g tt in
        let w : a - b ≡ a + b = omega arith in
        ap (λ (u : Bool). round f u (a - b) c) (le-ltb b a (omega arith)) ∙ ap (λ (n : ℕ). round f false n c) w
sum_is f false true a b c h k = go (ltb a b) (ltb→lt a b)
  where
    go : (x : Bool) → (T x → a < b) → cond x (round f true (b - a) c) (round f false (a - b) c) ≡ round f false (a + b) c
    go true l = let z : b ≡ 0 = k tt in let q : a < b = l tt in absurd (omega arith)
    go false l = let z : b ≡ 0 = k tt in let w : a - b ≡ a + b = omega arith in ap (λ (n : ℕ). round f false n c) w

zero_of : (s : Bool) (m : ℕ) (e : ℤ) (k : ℕ) → T (nonnegative (fin s m e)) → T s → m * up e * k ≡ 0
zero_of true zero e k p u = ap (λ (z : ℕ). z * k) (zero-mul (up e)) ∙ zero-mul k
zero_of true (suc m) e k p u = absurd p
zero_of false m e k p u = absurd u

pub add_upto : (f : Format) (x y A B : Float) → T (plain A) → T (plain B) → Upto x A → Upto y B → T (plain (add f A B)) → Upto (add f x y) (add f A B)
unfolding add
add_upto f nan y A B a b h k p = absurd h.is
add_upto f (inf s) y A B a b h k p = absurd h.is
add_upto f (fin s m e) nan A B a b h k p = absurd k.is
add_upto f (fin s m e) (inf t) A B a b h k p = absurd k.is
add_upto f (fin s m e) (fin t n d) nan B a b h k p = absurd a
add_upto f (fin s m e) (fin t n d) (inf u) B a b h k p = absurd a
add_upto f (fin s m e) (fin t n d) (fin true M E) B a b h k p = absurd a
add_upto f (fin s m e) (fin t n d) (fin false M E) nan a b h k p = absurd b
add_upto f (fin s m e) (fin t n d) (fin false M E) (inf v) a b h k p = absurd b
add_upto f (fin s m e) (fin t n d) (fin false M E) (fin true N D) a b h k p = absurd b
add_upto f (fin s m e) (fin t n d) (fin false M E) (fin false N D) a b h k p =
    let x = m * up e in
    let y = n * up d in
    let X = M * up E in
    let Y = N * up D in
    let big = sum_is f false false (X * down D) (Y * down E) (down E * down D) absurd absurd in
    subst (λ (z : Float). Upto z (sum f false (X * down D) false (Y * down E) (down E * down D)))
    (sym (sum_is f s t (x * down d) (y * down e) (down e * down d) (zero_of s m e (down d) h.is) (zero_of t n d (down e) k.is)))
    (subst (λ (z : Float). Upto (round f (s && t) (x * down d + y * down e) (down e * down d)) z) (sym big)
    (rounded f (s && t) (x * down d + y * down e) (down e * down d) (X * down D + Y * down E) (down E * down D) (mul-pos (down_pos e) (down_pos d))
    (mul-pos (down_pos E) (down_pos D))
    (both s t (x * down d) (y * down e) (zero_of s m e (down d) h.is) (zero_of t n d (down e) k.is))
    (cross x (down e) y (down d) X (down E) Y (down D) h.at_most k.at_most)
    (subst (λ (z : Float). T (plain z)) big p)))
  where
    both : (s t : Bool) (a b : ℕ) → (T s → a ≡ 0) → (T t → b ≡ 0) → T (s && t) → a + b ≡ 0
    both true true a b p q u = let v : a ≡ 0 = p tt in let w : b ≡ 0 = q tt in omega arith
    both true false a b p q u = absurd u
    both false t a b p q u = absurd u

    cross : (x e y d X E Y D : ℕ) → x * E ≤ X * e → y * D ≤ Y * d → (x * d + y * e) * (E * D) ≤ (X * D + Y * E) * (e * d)
    cross x e y d X E Y D h k =
        let p : x * E * (d * D) ≤ X * e * (d * D) = mul-le-mul_right (d * D) h in
        let q : y * D * (e * E) ≤ Y * d * (e * E) = mul-le-mul_right (e * E) k in
        omega arith

-- ---- from the tests of a program: not below zero, and at most K
pub of_tests : (x K : Float) → T (plain K) → T (le (fin false 0 (pos 0)) x) → T (le x K) → Upto x K
unfolding le
of_tests nan K p l h = absurd h
of_tests (inf true) K p l h = absurd l
of_tests (inf false) K p l h = absurd (no_inf K p h)
of_tests (fin true zero e) K p l h =
    record { is = tt; at_most = zero_most (up e) (den K) (num K * down e) }
of_tests (fin true (suc m) e) K p l h =
    absurd (none (suc m * up e * 1) (down e) (mul-pos (mul-pos (zero-lt-suc m) (up_pos e)) (zero-lt-suc 0))
    (and_l (eqb (0 * 1 * down e) (suc m * up e * 1)) (eqb (0 * 1 * down e) 0) l))
  where
    none : (a d : ℕ) → 0 < a → T (eqb (0 * 1 * d) a) → ⊥
    none a d A t = let z : 0 * 1 * d ≡ a = eqb→eq (0 * 1 * d) a t in omega arith
of_tests (fin false m e) K p l h = record { is = tt; at_most = le→cross (fin false m e) K tt p h }

-- a bound is at most itself
pub of_itself : (K : Float) → T (plain K) → Upto K K
of_itself K p = record { is = plain_nonnegative K p; at_most = le_refl (num K * den K) }

pub upto_trans : (x y z : Float) → Upto x y → Upto y z → Upto x z
upto_trans x y z h k =
    record { is = h.is; at_most = through (num x) (num y) (num z) (den x) (den y) (den z) (den_pos y) h.at_most k.at_most }

-- ---- a bounded value, cut toward zero
pub cut_upto : (w : ℕ) (x : Float) (m : ℕ) (e : ℤ) → Upto x (fin false m e) → to_unsigned w x ≤ m * up e / down e
unfolding to_unsigned
cut_upto w nan m e h = absurd h.is
cut_upto w (inf s) m e h = absurd h.is
cut_upto w (fin true n d) m e h = omega arith
cut_upto w (fin false n d) m e h =
    le_trans (least (n * up d / down d) (2 ^ w - 1)) (div_mono (n * up d) (down d) (m * up e) (down e) (down_pos d) (down_pos e) h.at_most)
  where
    least : (a b : ℕ) → min a b ≤ a
    least a b = omega arith

pub cut_mono : (w : ℕ) (x K : Float) → T (plain K) → Upto x K → to_unsigned w x ≤ to_unsigned w K
unfolding to_unsigned
cut_mono w x nan p h = absurd p
cut_mono w x (inf s) p h = absurd p
cut_mono w x (fin true m e) p h = absurd p
cut_mono w x (fin false m e) p h = both (cut_upto w x m e h) (to_unsigned-lt w x)
  where
    both : {a b c : ℕ} → a ≤ b → a < c → a ≤ min b (c - 1)
    both h k = omega (arith, h, k)
