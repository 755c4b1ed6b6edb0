-- Intervals: `Between x lo hi j` says that x lies from lo / 2 ^ j to hi / 2 ^ j, where -0 counts as 0. An operation on operands in their intervals stays
-- between the results at the ends, which are values of the format, since rounding keeps the order. Assumes nothing.
use Rattle.std.proofs.Common.{◌≡◌, ℕ, zero, suc, ◌+◌, ◌-◌, ◌*◌, ◌^◌, ◌<◌, ◌≤◌, Bool, true, false, cond, not, ◌&&◌, T, ltb, leb, ◌⊎◌, sym, refl, ap, ◌∙◌, subst, inl, inr, true≢false, zero-le, le_trans, le_of_eq, lt_of_lt_of_le, lt_of_le_of_lt, le_of_lt, mul-le-mul_right, add-mul, mul-pos, mul-zero, zero-mul, mul-one, sub-add_cancel, le_of_mul-le-mul_right, sub-le, arith, lit<, lit≤, pow_pos, pow-add, le-ltb, leb-false, leb-true}
use lib.Ieee.{Float, nan, inf, fin, Format, binary64, prec, emax, low, unlike, up, down, round, units, odd, sum, add, sub, mul, div, lt, le, is_nan, of_int, below}
use lib.Ieee.Fits.{down_pos, round_is}
use lib.Ieee.Positive.{num, den, den_pos, through, value→cross}
use lib.Ieee.Scale.{finite, round_val, round_under, grid}
use Rattle.numbers.specs.Floats.{whole}
use Rattle.numbers.specs.MinMax.{clamp_of}
use Rattle.numbers.proofs.Bounds.{plain, nonnegative, rounded, sum_is, of_tests}
use Rattle.numbers.proofs.Magnitudes.{negative, Magnitude, AtLeast, value_plain, nonnegative_finite, plain_finite, dyadic, round_magnitude, mul_is, add_is, sub_is, div_is, product, total, quotient}
use Rattle.numbers.proofs.Order.{le_of_not_lt, le_self, whole-number, whole_le}
use Rattle.numbers.proofs.Wholes.{whole_is}

pub record Between (x : Float) (lo hi j : ℕ) : Type 0 where
  pub size : Magnitude x hi j
  pub sign : T (negative x) → num x ≡ 0
  pub at_least : lo * den x ≤ num x * 2 ^ j

-- ---- a rounded fraction
plain_sign : (x : Float) → T (plain x) → T (negative x) → num x ≡ 0
plain_sign nan p n = refl
plain_sign (inf s) p n = refl
plain_sign (fin true m e) p n = absurd p
plain_sign (fin false m e) p n = absurd n

round_plain : (f : Format) (a c : ℕ) → T (finite (round f false a c)) → T (plain (round f false a c))
round_plain f a c h = value_plain (round f false a c) (grid f a c) (2 ^ low f) (round_val f a c (round_under f a c h))

round_least : (f : Format) (a c q j : ℕ) → 0 < c → q * c ≤ a * 2 ^ j → q < 2 ^ prec f → j ≤ low f → T (finite (round f false a c))
    → q * den (round f false a c) ≤ num (round f false a c) * 2 ^ j
round_least f a c q j C h small fine p =
    let K = round f false q (2 ^ j) in
    let x = round f false a c in
    let u = rounded f false q (2 ^ j) a c (pow_pos j) C absurd h (round_plain f a c p) in
    through q (num K) (num x) (2 ^ j) (den K) (den x) (den_pos K) (le_of_eq (sym (value→cross K q (2 ^ j) (dyadic f q j small fine)))) u.at_most

pub round_between : (f : Format) (s : Bool) (a c lo hi j : ℕ) → 0 < c → (T s → a ≡ 0) → lo * c ≤ a * 2 ^ j → a * 2 ^ j ≤ hi * c → hi < 2 ^ prec f
    → j ≤ low f → Between (round f s a c) lo hi j
round_between f false a c lo hi j C z l h small fine =
    let size = round_magnitude f false a c hi j C h small fine in
    let ends : lo ≤ hi = le_of_mul-le-mul_right (le_trans l h) C in
    record {
      size = size;
      sign = plain_sign (round f false a c) (round_plain f a c size.is);
      at_least = round_least f a c lo j C l (lt_of_le_of_lt ends small) fine size.is;
    }
round_between f true a c lo hi j C z l h small fine =
    let none = round_magnitude f true a c 0 0 C (rw (z tt) zero-le) (pow_pos (prec f)) zero-le in
    let least : lo * c ≤ 0 * c = le_trans (rw (z tt) at l) (le_of_eq (zero-mul (2 ^ j) ∙ sym (zero-mul c))) in
    let lowest : lo ≤ 0 = le_of_mul-le-mul_right least C in
    record {
      size = round_magnitude f true a c hi j C h small fine;
      sign = λ t. zero_size (num (round f true a c)) (den (round f true a c)) none.at_most;
      at_least = le_trans (mul-le-mul_right (den (round f true a c)) lowest) (le_trans (le_of_eq (zero-mul (den (round f true a c)))) zero-le);
    }
  where
    zero_size : (m d : ℕ) → m * 1 ≤ 0 * d → m ≡ 0
    zero_size m d h = omega arith

-- ---- the operations
zero_times : {m : ℕ} (k : ℕ) → m ≡ 0 → m * k ≡ 0
zero_times k z = ap (λ (n : ℕ). n * k) z ∙ zero-mul k

unlike_zero : (s t : Bool) (m n : ℕ) → (T s → m ≡ 0) → (T t → n ≡ 0) → T (unlike s t) → m * n ≡ 0
unlike_zero true true m n h k u = absurd u
unlike_zero true false m n h k u = zero_times n (h tt)
unlike_zero false true m n h k u = ap (λ (z : ℕ). m * z) (k tt) ∙ mul-zero m
unlike_zero false false m n h k u = absurd u

pub mul_between : (f : Format) {x y : Float} {a A b B i j : ℕ} → Between x a A i → Between y b B j → A * B < 2 ^ prec f → i + j ≤ low f
    → Between (mul f x y) (a * b) (A * B) (i + j)
mul_between f {x} {y} {a} {A} {b} {B} {i} {j} h k small fine =
    rw (mul_is f x y h.size.is k.size.is)
    (round_between f (unlike (negative x) (negative y)) (num x * num y) (den x * den y) (a * b) (A * B) (i + j) (mul-pos (den_pos x) (den_pos y))
    (unlike_zero (negative x) (negative y) (num x) (num y) h.sign k.sign)
    (rw pow-add (product a (den x) (num x) (2 ^ i) b (den y) (num y) (2 ^ j) h.at_least k.at_least))
    (rw pow-add (product (num x) (2 ^ i) A (den x) (num y) (2 ^ j) B (den y) h.size.at_most k.size.at_most)) small fine)

both : (s t : Bool) (m n : ℕ) → (T s → m ≡ 0) → (T t → n ≡ 0) → T (s && t) → m + n ≡ 0
both true true m n h k u = let p : m ≡ 0 = h tt in let q : n ≡ 0 = k tt in omega arith
both true false m n h k u = absurd u
both false t m n h k u = absurd u

pub add_between : (f : Format) {x y : Float} {a A b B j : ℕ} → Between x a A j → Between y b B j → A + B < 2 ^ prec f → j ≤ low f
    → Between (add f x y) (a + b) (A + B) j
add_between f {x} {y} {a} {A} {b} {B} {j} h k small fine =
    let zero-x : T (negative x) → num x * den y ≡ 0 = λ t. zero_times (den y) (h.sign t) in
    let zero-y : T (negative y) → num y * den x ≡ 0 = λ t. zero_times (den x) (k.sign t) in
    rw (add_is f x y h.size.is k.size.is, sum_is f (negative x) (negative y) (num x * den y) (num y * den x) (den x * den y) zero-x zero-y)
    (round_between f (negative x && negative y) (num x * den y + num y * den x) (den x * den y) (a + b) (A + B) j (mul-pos (den_pos x) (den_pos y))
    (both (negative x) (negative y) (num x * den y) (num y * den x) zero-x zero-y)
    (total_least a (den x) (num x) b (den y) (num y) (2 ^ j) h.at_least k.at_least)
    (total (num x) (den x) A (num y) (den y) B (2 ^ j) h.size.at_most k.size.at_most) small fine)
  where
    total_least : (a d n b e m p : ℕ) → a * d ≤ n * p → b * e ≤ m * p → (a + b) * (d * e) ≤ (n * e + m * d) * p
    total_least a d n b e m p h k =
        let h' : a * d * e ≤ n * p * e = mul-le-mul_right e h in
        let k' : b * e * d ≤ m * p * d = mul-le-mul_right d k in
        omega arith

-- a difference that is not below zero
sum_minus : (f : Format) (s t : Bool) (a b c : ℕ) → (T s → a ≡ 0) → (T t → b ≡ 0) → b ≤ a → sum f s a (not t) b c ≡ round f (s && not t) (a - b) c
unfolding sum
sum_minus f true true a b c h k l =
    let z : a ≡ 0 = h tt in
    rw (le-ltb a b l, le-ltb b a (omega arith))
sum_minus f true false a b c h k l = let z : a ≡ 0 = h tt in ap (λ (n : ℕ). round f true n c) (omega arith)
sum_minus f false true a b c h k l = let z : b ≡ 0 = k tt in ap (λ (n : ℕ). round f false n c) (omega arith)
sum_minus f false false a b c h k l = rw (le-ltb a b l)

pub sub_between : (f : Format) {x y : Float} {a A b B j : ℕ} → Between x a A j → Between y b B j → B ≤ a → A < 2 ^ prec f → j ≤ low f
    → Between (sub f x y) (a - B) (A - b) j
sub_between f {x} {y} {a} {A} {b} {B} {j} h k l small fine =
    let zero-x : T (negative x) → num x * den y ≡ 0 = λ t. zero_times (den y) (h.sign t) in
    let zero-y : T (negative y) → num y * den x ≡ 0 = λ t. zero_times (den x) (k.sign t) in
    let order = ordered (num x) (den x) a (num y) (den y) B (2 ^ j) (pow_pos j) h.at_least k.size.at_most l in
    rw (sub_is f x y h.size.is k.size.is, sum_minus f (negative x) (negative y) (num x * den y) (num y * den x) (den x * den y) zero-x zero-y order)
    (round_between f (negative x && not (negative y)) (num x * den y - num y * den x) (den x * den y) (a - B) (A - b) j (mul-pos (den_pos x) (den_pos y))
    (none (negative x) (not (negative y)) (num x * den y) (num y * den x) zero-x)
    (least (num x) (den x) a (num y) (den y) B (2 ^ j) order h.at_least k.size.at_most l)
    (most (num x) (den x) A (num y) (den y) b (2 ^ j) order h.size.at_most k.at_least) (lt_of_le_of_lt (sub-le A b) small) fine)
  where
    ordered : (n d a m e b p : ℕ) → 0 < p → a * d ≤ n * p → m * p ≤ b * e → b ≤ a → m * d ≤ n * e
    ordered n d a m e b p P h k l =
        let h' : a * d * e ≤ n * p * e = mul-le-mul_right e h in
        let k' : m * p * d ≤ b * e * d = mul-le-mul_right d k in
        let l' : b * (e * d) ≤ a * (e * d) = mul-le-mul_right (e * d) l in
        let w : m * d * p ≤ n * e * p = omega arith in
        le_of_mul-le-mul_right w P

    none : (s t : Bool) (m n : ℕ) → (T s → m ≡ 0) → T (s && t) → m - n ≡ 0
    none true t m n h u = let z : m ≡ 0 = h tt in omega arith
    none false t m n h u = absurd u

    least : (n d a m e b p : ℕ) → m * d ≤ n * e → a * d ≤ n * p → m * p ≤ b * e → b ≤ a → (a - b) * (d * e) ≤ (n * e - m * d) * p
    least n d a m e b p o h k l =
        let h' : a * d * e ≤ n * p * e = mul-le-mul_right e h in
        let k' : m * p * d ≤ b * e * d = mul-le-mul_right d k in
        let u : (a - b) * (d * e) + b * (d * e) ≡ a * (d * e) = sym (add-mul (a - b) b (d * e)) ∙ ap (λ (z : ℕ). z * (d * e)) (sub-add_cancel l) in
        let v : (n * e - m * d) * p + m * d * p ≡ n * e * p = sym (add-mul (n * e - m * d) (m * d) p) ∙ ap (λ (z : ℕ). z * p) (sub-add_cancel o) in
        omega arith

    most : (n d a m e b p : ℕ) → m * d ≤ n * e → n * p ≤ a * d → b * e ≤ m * p → (n * e - m * d) * p ≤ (a - b) * (d * e)
    most n d a m e b p o h k =
        let h' : n * p * e ≤ a * d * e = mul-le-mul_right e h in
        let k' : b * e * d ≤ m * p * d = mul-le-mul_right d k in
        let u : a * (d * e) ≤ (a - b) * (d * e) + b * (d * e) = le_trans (mul-le-mul_right (d * e) (cover a b)) (le_of_eq (add-mul (a - b) b (d * e))) in
        let v : (n * e - m * d) * p + m * d * p ≡ n * e * p = sym (add-mul (n * e - m * d) (m * d) p) ∙ ap (λ (z : ℕ). z * p) (sub-add_cancel o) in
        omega arith
      where
        cover : (a b : ℕ) → a ≤ a - b + b
        cover a b = omega arith

pub div_between : (f : Format) {x y : Float} {a A b i : ℕ} (q j : ℕ) → Between x a A i → AtLeast y b → 0 < b → A * 2 ^ j ≤ q * (b * 2 ^ i) → q < 2 ^ prec f
    → j ≤ low f → Between (div f x y) 0 q j
div_between f {x} {y} {a} {A} {b} {i} q j h k B l small fine =
    let Y : 0 < num y = lt_of_lt_of_le (mul-pos B (den_pos y)) k.at_least in
    rw (div_is f x y h.size.is (plain_finite y k.is) Y)
    (round_between f (unlike (negative x) (negative y)) (num x * den y) (num y * den x) 0 q j (mul-pos Y (den_pos x))
    (λ u. zero_times (den y) (h.sign (left (negative x) y k.is u)))
    (le_trans (le_of_eq (zero-mul (num y * den x))) zero-le)
    (quotient (num x) (den x) A (2 ^ i) (num y) (den y) b (2 ^ j) q (pow_pos i) B h.size.at_most k.at_least l) small fine)
  where
    left : (s : Bool) (y : Float) → T (plain y) → T (unlike s (negative y)) → T s
    left s nan p u = absurd p
    left s (inf t) p u = absurd p
    left s (fin true m e) p u = absurd p
    left true (fin false m e) p u = tt
    left false (fin false m e) p u = absurd u

-- wider ends
pub wider : {x : Float} {a A i : ℕ} (b B j : ℕ) → Between x a A i → b * 2 ^ i ≤ a * 2 ^ j → A * 2 ^ j ≤ B * 2 ^ i → Between x b B j
wider {x} {a} {A} {i} b B j h l k =
    record {
      size = record { is = h.size.is; at_most = through (num x) A B (den x) (2 ^ i) (2 ^ j) (pow_pos i) h.size.at_most k };
      sign = h.sign;
      at_least = through b a (num x) (2 ^ j) (2 ^ i) (den x) (pow_pos i) l h.at_least;
    }

-- on one side of m / 2 ^ j
pub either_side : {x : Float} {lo hi j : ℕ} (m : ℕ) → Between x lo hi j → Between x lo m j ⊎ Between x m hi j
either_side {x} {lo} {hi} {j} m h = go (leb (num x * 2 ^ j) (m * den x)) refl
  where
    go : (b : Bool) → leb (num x * 2 ^ j) (m * den x) ≡ b → Between x lo m j ⊎ Between x m hi j
    go true e = inl (record { size = record { is = h.size.is; at_most = leb-true _ _ e }; sign = h.sign; at_least = h.at_least })
    go false e = inr (record { size = h.size; sign = h.sign; at_least = le_of_lt (leb-false _ _ e) })

-- from k / 2 ^ j to (k + 1) / 2 ^ j for some k
pub in_part : {x : Float} {hi j : ℕ} (n lo : ℕ) → hi ≡ suc (lo + n) → Between x lo hi j → (k : ℕ) × (k < hi) × Between x k (suc k) j
in_part {x} {hi} {j} zero lo e h = let last : hi ≡ suc lo = omega arith in (lo, omega arith, subst (λ (z : ℕ). Between x lo z j) last h)
in_part (suc n) lo e h = elim (either_side (suc lo) h) [ inl first ↦ (lo, omega arith, first) | inr rest ↦ in_part n (suc lo) (omega arith) rest ]

-- ---- whole numbers
pub whole_between : (n j : ℕ) → n * 2 ^ j < 2 ^ 53 → j ≤ 1074 → Between (whole n) (n * 2 ^ j) (n * 2 ^ j) j
unfolding of_int
whole_between n j small fine =
    let one = mul-one (n * 2 ^ j) in
    round_between binary64 false n 1 (n * 2 ^ j) (n * 2 ^ j) j (lit< tt) absurd (le_of_eq one) (le_of_eq (sym one)) small fine

pub whole-at_least : (n : ℕ) → n ≤ 2 ^ 53 → AtLeast (whole n) n
whole-at_least n h =
    let exact = whole_is n h in
    record { is = value_plain (whole n) n 1 exact; at_least = le_of_eq (sym (value→cross (whole n) n 1 exact) ∙ mul-one (num (whole n))) }

-- ---- the tests of a program
nonnegative_sign : (x : Float) → T (nonnegative x) → T (negative x) → num x ≡ 0
nonnegative_sign nan h n = refl
nonnegative_sign (inf s) h n = refl
nonnegative_sign (fin true zero e) h n = zero-mul (up e)
nonnegative_sign (fin true (suc m) e) h n = absurd h
nonnegative_sign (fin false m e) h n = absurd n

pub of_tests_between : (x : Float) (n : ℕ) → n ≤ 2 ^ 53 → le (whole 0) x ≡ true → le x (whole n) ≡ true → Between x 0 n 0
unfolding of_int
of_tests_between x n h l k =
    let K = whole n in
    let exact = whole_is n h in
    let u = of_tests x K (value_plain K n 1 exact) (subst T (sym l) tt) (subst T (sym k) tt) in
    record {
      size = record {
        is = nonnegative_finite x u.is;
        at_most = through (num x) (num K) n (den x) (den K) 1 (den_pos K) u.at_most (le_of_eq (value→cross K n 1 exact));
      };
      sign = nonnegative_sign x u.is;
      at_least = le_trans (le_of_eq (zero-mul (den x))) zero-le;
    }

cross_le : (x y : Float) → T (finite x) → T (finite y) → (T (negative y) → num y ≡ 0) → num x * den y ≤ num y * den x → le x y ≡ true
unfolding lt is_nan
cross_le nan y p q z h = absurd p
cross_le (inf s) y p q z h = absurd p
cross_le (fin s m e) nan p q z h = absurd q
cross_le (fin s m e) (inf t) p q z h = absurd q
cross_le (fin s m e) (fin t n d) p q z h =
    le_of_not_lt (fin t n d) (fin s m e) refl refl (go t s (n * up d) (down e) (m * up e * down d) z h)
  where
    go : (t s : Bool) (y c x : ℕ) → (T t → y ≡ 0) → x ≤ y * c → below t (y * c) s x ≡ false
    go false false y c x z h = le-ltb (y * c) x h
    go false true y c x z h = refl
    go true s y c x z h = zeros s x (y * c) (zero_times c (z tt)) h
      where
        zeros : (s : Bool) (x v : ℕ) → v ≡ 0 → x ≤ v → below true v s x ≡ false
        zeros false x v e h = le-ltb 0 (v + x) (omega arith)
        zeros true x v e h = le-ltb x v (omega arith)

pub between_above : {x : Float} {lo hi j : ℕ} → Between x lo hi j → le (whole 0) x ≡ true
unfolding of_int
between_above {x} h = cross_le (whole 0) x tt h.size.is h.sign (le_trans (le_of_eq (zero-mul (den x))) zero-le)

pub between_below : {x : Float} {lo n : ℕ} → Between x lo n 0 → n ≤ 2 ^ 53 → le x (whole n) ≡ true
between_below {x} {lo} {n} h k =
    let K = whole n in
    let least = whole-at_least n k in
    cross_le x K h.size.is (plain_finite K least.is) (plain_sign K least.is)
    (through (num x) n (num K) (den x) 1 (den K) (lit< tt) h.size.at_most (le_trans least.at_least (le_of_eq (sym (mul-one (num K))))))

pub clamp_between : (w : Float) (n : ℕ) → is_nan w ≡ false → n ≤ 2 ^ 53 → Between (clamp_of w (whole 0) (whole n)) 0 n 0
unfolding clamp_of
clamp_between w n p h = go (lt w (whole 0)) refl
  where
    second : (b : Bool) → lt (whole n) w ≡ b → lt w (whole 0) ≡ false → Between (cond b (whole n) w) 0 n 0
    second true e l = of_tests_between (whole n) n h (whole_le 0 n zero-le) (le_self (whole n) (whole-number n h))
    second false e l = of_tests_between w n h (le_of_not_lt w (whole 0) p (whole-number 0 zero-le) l) (le_of_not_lt (whole n) w (whole-number n h) p e)

    go : (b : Bool) → lt w (whole 0) ≡ b → Between (cond b (whole 0) (cond (lt (whole n) w) (whole n) w)) 0 n 0
    go true e = of_tests_between (whole 0) n h (le_self (whole 0) (whole-number 0 zero-le)) (whole_le 0 n zero-le)
    go false e = second (lt (whole n) w) refl e

-- ---- with the sign clear, an infinity included
abbrev pub unsigned : Float → Bool
unsigned nan = false
unsigned (inf s) = not s
unsigned (fin s m e) = not s

pub unsigned_number : (x : Float) → T (unsigned x) → is_nan x ≡ false
unfolding is_nan
unsigned_number nan h = absurd h
unsigned_number (inf s) h = refl
unsigned_number (fin s m e) h = refl

odd_unsigned : (d q k l : ℕ) → T (unsigned (odd d false q k l))
unfolding odd
odd_unsigned d zero k l = tt
odd_unsigned d (suc q) k l = tt

units_unsigned : (f : Format) (q k : ℕ) → T (unsigned (units f false q k))
unfolding units
units_unsigned f q k = go (ltb (q * 2 ^ k) (2 ^ (low f + suc (emax f))))
  where
    go : (b : Bool) → T (unsigned (cond b (odd (suc (prec f)) false q k (low f)) (inf false)))
    go true = odd_unsigned (suc (prec f)) q k (low f)
    go false = tt

round_unsigned : (f : Format) (a c : ℕ) → T (unsigned (round f false a c))
round_unsigned f a c = rw round_is (units_unsigned f _ _)

pub square_unsigned : (f : Format) (x : Float) → is_nan x ≡ false → T (unsigned (mul f x x))
unfolding mul is_nan
square_unsigned f nan h = absurd (true≢false h)
square_unsigned f (inf false) h = tt
square_unsigned f (inf true) h = tt
square_unsigned f (fin false m e) h = round_unsigned f (m * up e * (m * up e)) (down e * down e)
square_unsigned f (fin true m e) h = round_unsigned f (m * up e * (m * up e)) (down e * down e)

-- 1 / (1 + x) for such an x
over : (z : Float) → T (unsigned z) → (T (finite z) → 1 * den z ≤ num z * 1) → Between (div binary64 (whole 1) z) 0 1 0
unfolding div of_int
over nan u h = absurd u
over (inf true) u h = absurd u
over (inf false) u h = record { size = record { is = tt; at_most = lit≤ tt }; sign = absurd; at_least = lit≤ tt }
over (fin true m e) u h = absurd u
over (fin false m e) u h =
    let divisor : AtLeast (fin false m e) 1 = record { is = tt; at_least = le_trans (h tt) (le_of_eq (mul-one (m * up e))) } in
    div_between binary64 1 0 (whole_between 1 0 (lit< tt) zero-le) divisor (lit< tt) (lit≤ tt) (lit< tt) zero-le

pub one_over : (x : Float) → T (unsigned x) → Between (div binary64 (whole 1) (add binary64 (whole 1) x)) 0 1 0
unfolding of_int add
one_over nan u = absurd u
one_over (inf true) u = absurd u
one_over (inf false) u = over (inf false) tt absurd
one_over (fin true m e) u = absurd u
one_over (fin false m e) u =
    let a = 1 * 1 * down e + m * up e * 1 in
    let c = 1 * down e in
    over (round binary64 false a c) (round_unsigned binary64 a c)
    (round_least binary64 a c 1 0 (mul-pos (lit< tt) (down_pos e)) (grows (down e) (m * up e)) (lit< tt) zero-le)
  where
    grows : (d n : ℕ) → 1 * (1 * d) ≤ (1 * 1 * d + n * 1) * 1
    grows d n = omega arith
