-- The sum of an x within ±2 ^ 31 and 3 * 2 ^ 51 lies where the floats are the whole numbers, so it is rounded to one, a tie to the even one: 3 * 2 ^ 51 is even, so
-- that is x rounded, and the sum's bits go up with the whole number. Assumes nothing.
use Rattle.std.proofs.Common.{◌≡◌, ℕ, zero, suc, ◌+◌, ◌-◌, ◌*◌, ◌/◌, ◌%◌, ◌^◌, ◌<◌, ◌≤◌, min, Bool, true, false, cond, ◌&&◌, T, ltb, ℤ, pos, negsuc, ◌-ℤ◌, neg_ℤ, sym, refl, ap, ◌∙◌, subst, true≢false, lt_of_lt_of_le, mul-le-mul_right, mod-lt, mul_assoc, div-lt_iff_lt-mul, lt_of_mul-lt-mul_right, mul-lt-mul_of_pos_right, mul-pos, div-add-mod', le-div_iff_mul-le, mul-one, mul_right_comm, le_of_mul-le-mul_right, mul-div_cancel, arith, lit<, lit≤, pow_pos, pow_mono, shl_lt, ltb-false, ltb-true, le-ltb, lt-ltb}
use Prim.Native.Nat.{compare, Ordering}
use lib.Arith.{digits_div, digits_mod}
use lib.Ieee.{Float, nan, inf, fin, binary64, up, down, nearest, size, units, round, sum, add, neg, le, is_nan, of_bits, to_bits}
use lib.Ieee.Exact.{HasValue, units_val}
use lib.Ieee.Fits.{down_pos, core, round_is}
use lib.Ieee.Nearest.{closest, closest_same}
use lib.Signed.{mag}
use lib.Ieee.Scale.{finite}
use lib.Ieee.Positive.{num, den}
use lib.Pow.{shl-shr}
use Rattle.numbers.specs.Rounding.{round_ties_even_i32, saturated}
use Rattle.numbers.proofs.Within.{beyond_size, beyond_all}
use Rattle.numbers.proofs.bits.Fields.{size_is, dropped, powers}
use Rattle.numbers.proofs.rounding.Closest.{is_lt, is_gt, is_eq, closest_under}
use Rattle.numbers.proofs.rounding.Even.{even_at}

-- ---- the nearest whole number, with an even one added, or taken away from an even one
closest_digits : (q r c : ℕ) → r < c → closest (q * c + r) c ≡ nearest q (compare (r * 2) c)
closest_digits q r c h =
    ap (λ (z : ℕ). nearest z (compare ((q * c + r) % c * 2) c)) (digits_div q h) ∙ ap (λ (z : ℕ). nearest q (compare (z * 2) c)) (digits_mod q h)

nearest_more : (k q : ℕ) (o : Ordering) → nearest (k * 2 + q) o ≡ k * 2 + nearest q o
nearest_more k q Ordering.lt = refl
nearest_more k q Ordering.eq = omega arith
nearest_more k q Ordering.gt = omega arith

closest_more : (k a c : ℕ) → 0 < c → closest (a + k * 2 * c) c ≡ k * 2 + closest a c
closest_more k a c C =
    let q = a / c in
    let r = a % c in
    let h : r < c = mod-lt a C in
    let e : q * c + r ≡ a = div-add-mod' a c in
    let f : a + k * 2 * c ≡ (k * 2 + q) * c + r = omega arith in
    ap (λ (z : ℕ). closest z c) f ∙ closest_digits (k * 2 + q) r c h ∙ nearest_more k q (compare (r * 2) c)
    ∙ ap (λ (z : ℕ). k * 2 + z) (sym (closest_digits q r c h) ∙ ap (λ (z : ℕ). closest z c) e)

-- two that add up to an even number of c: none of both is left, or what is left of them adds up to c
flip_none : (d q c : ℕ) → 0 < c → closest (d * c + 0) c + closest (q * c + 0) c ≡ d + q
flip_none d q c C =
    let at : (z : ℕ) → closest (z * c + 0) c ≡ z = λ z. closest_digits z 0 c C ∙ ap (nearest z) (is_lt 0 c C) in
    ap (λ (z : ℕ). z + closest (q * c + 0) c) (at d) ∙ ap (λ (z : ℕ). d + z) (at q)

flip_some : (k d s q r c : ℕ) → 0 < r → 0 < s → s + r ≡ c → d + suc q ≡ k * 2 → closest (d * c + s) c + closest (q * c + r) c ≡ k * 2
flip_some k d s q r c R S e f =
    ap (λ (z : ℕ). z + closest (q * c + r) c) (closest_digits d s c (omega arith))
    ∙ ap (λ (z : ℕ). nearest d (compare (s * 2) c) + z) (closest_digits q r c (omega arith))
    ∙ go (ltb (r * 2) c) (ltb c (r * 2)) refl refl
  where
    both : (o p : Ordering) → compare (s * 2) c ≡ o → compare (r * 2) c ≡ p → nearest d o + nearest q p ≡ k * 2
        → nearest d (compare (s * 2) c) + nearest q (compare (r * 2) c) ≡ k * 2
    both o p u v w = ap (λ (z : Ordering). nearest d z + nearest q (compare (r * 2) c)) u ∙ ap (λ (z : Ordering). nearest d o + nearest q z) v ∙ w

    go : (t u : Bool) → ltb (r * 2) c ≡ t → ltb c (r * 2) ≡ u → nearest d (compare (s * 2) c) + nearest q (compare (r * 2) c) ≡ k * 2
    go true u h l = let l = ltb-true (r * 2) c h in both Ordering.gt Ordering.lt (is_gt (s * 2) c (omega arith)) (is_lt (r * 2) c l) (omega arith)
    go false true h l = let l = ltb-true c (r * 2) l in both Ordering.lt Ordering.gt (is_lt (s * 2) c (omega arith)) (is_gt (r * 2) c l) (omega arith)
    go false false h l =
        let u : c ≡ r * 2 = omega (arith, ltb-false (r * 2) c h, ltb-false c (r * 2) l) in
        let v : c ≡ s * 2 = omega arith in
        both Ordering.eq Ordering.eq (ap (compare (s * 2)) v ∙ is_eq (s * 2)) (ap (compare (r * 2)) u ∙ is_eq (r * 2)) (omega arith)

closest_less : (k p a c : ℕ) → 0 < c → p + a ≡ k * 2 * c → closest p c + closest a c ≡ k * 2
closest_less k p a c C h = go (a % c) (a / c) (mod-lt a C) (div-add-mod' a c)
  where
    go : (r q : ℕ) → r < c → q * c + r ≡ a → closest p c + closest a c ≡ k * 2
    go zero q l e =
        let d = k * 2 - q in
        let most : q * c ≤ k * 2 * c = omega arith in
        let t : d + q ≡ k * 2 = omega (arith, le_of_mul-le-mul_right most C) in
        let f : p ≡ d * c + 0 = omega (arith, ap (λ (z : ℕ). z * c) t) in
        ap (λ (z : ℕ). closest z c + closest a c) f ∙ ap (λ (z : ℕ). closest (d * c + 0) c + closest z c) (sym e) ∙ flip_none d q c C ∙ t
    go (suc r) q l e =
        let d = k * 2 - suc q in
        let most : q * c < k * 2 * c = omega arith in
        let t : d + suc q ≡ k * 2 = omega (arith, lt_of_mul-lt-mul_right c most) in
        let f : p ≡ d * c + (c - suc r) = omega (arith, ap (λ (z : ℕ). z * c) t) in
        ap (λ (z : ℕ). closest z c + closest a c) f
        ∙ ap (λ (z : ℕ). closest (d * c + (c - suc r)) c + closest z c) (sym e)
        ∙ flip_some k d (c - suc r) q (suc r) c (omega arith) (omega arith) (omega arith) t

-- ---- between 2 ^ 52 and 2 ^ 53 the unit is 1
unit_size : (p c l : ℕ) → 0 < c → 2 ^ 52 * c ≤ p → p < 2 ^ 53 * c → size (p * 2 ^ l / c) ≡ l + 52 + 1
unit_size p c l C lo hi = size_is (p * 2 ^ l / c) (l + 52) ((le-div_iff_mul-le C).1 least) ((div-lt_iff_lt-mul C).1 most)
  where
    least : 2 ^ (l + 52) * c ≤ p * 2 ^ l
    least =
        let h : 2 ^ 52 * c * 2 ^ l ≤ p * 2 ^ l = mul-le-mul_right (2 ^ l) lo in
        subst (λ (z : ℕ). z * c ≤ p * 2 ^ l) (powers 52 l (l + 52) (omega arith)) (omega arith)

    most : p * 2 ^ l < 2 ^ (l + 52 + 1) * c
    most =
        let h : p * 2 ^ l < 2 ^ 53 * c * 2 ^ l = mul-lt-mul_of_pos_right hi (pow_pos l) in
        subst (λ (z : ℕ). p * 2 ^ l < z * c) (powers 53 l (l + 52 + 1) (omega arith)) (omega arith)

round_unit : (p c : ℕ) → 0 < c → 2 ^ 52 * c ≤ p → p < 2 ^ 53 * c → round binary64 false p c ≡ units binary64 false (closest p c) 1074
round_unit p c C lo hi =
    round_is binary64 false p c
    ∙ ap (λ (z : ℕ). core binary64 false (p * 2 ^ 1074) c (z - 53)) (unit_size p c 1074 C lo hi)
    ∙ ap (λ (z : ℕ). units binary64 false z 1074)
    (closest_same (p * 2 ^ 1074) (c * 2 ^ 1074) p c (mul-pos C (pow_pos 1074)) C (mul_right_comm p (2 ^ 1074) c ∙ mul_assoc p c (2 ^ 1074)))

-- its pattern
pub bits_at : (v : Float) (q : ℕ) → HasValue v false (q * 2 ^ 1074) (2 ^ 1074) → 2 ^ 52 ≤ q → q < 2 ^ 53 → to_bits binary64 v ≡ 1074 * 2 ^ 52 + q
unfolding to_bits
bits_at nan q h l u = absurd h
bits_at (inf s) q h l u = absurd h
bits_at (fin s m e) q h l u =
    let n : m * up e * 2 ^ 1074 / down e ≡ q * 2 ^ 1074 = ap (λ (a : ℕ). a / down e) h.1 ∙ mul-div_cancel (q * 2 ^ 1074) (down_pos e) in
    ap (λ (a : ℕ). cond s (2 ^ 63) 0 + (size a - 53) * 2 ^ 52 + a / 2 ^ (size a - 53)) n
    ∙ ap (λ (y : ℕ). cond s (2 ^ 63) 0 + y * 2 ^ 52 + q * 2 ^ 1074 / 2 ^ y) (dropped q 1074 u (λ (p : 0 < 1074). l))
    ∙ ap (λ (a : ℕ). cond s (2 ^ 63) 0 + 1074 * 2 ^ 52 + a) (shl-shr q 1074)
    ∙ ap (λ (b : Bool). cond b (2 ^ 63) 0 + 1074 * 2 ^ 52 + q) h.0

-- ---- the sum
-- 3 * 2 ^ 51, which is even
abbrev pub wholes : ℕ
wholes = 3 * 2 ^ 50 * 2

abbrev pub moved : Bool → ℕ → ℕ
moved s n = cond s (wholes - n) (wholes + n)

rounded_value : (p c n : ℕ) → 0 < c → 2 ^ 52 * c ≤ p → p < 2 ^ 53 * c → closest p c ≡ n → n < 2 ^ 53
    → HasValue (round binary64 false p c) false (n * 2 ^ 1074) (2 ^ 1074)
rounded_value p c n C lo hi e u =
    subst (λ (x : Float). HasValue x false (n * 2 ^ 1074) (2 ^ 1074)) (sym (round_unit p c C lo hi ∙ ap (λ (z : ℕ). units binary64 false z 1074) e))
    (units_val binary64 false n 1074 (lt_of_lt_of_le (shl_lt 53 1074 u) (pow_mono {i = 53 + 1074} {j = 1074 + 1024} (lit≤ tt))))

sum_value : (s : Bool) (a c : ℕ) → 0 < c → a ≤ 2 ^ 31 * c
    → HasValue (sum binary64 s a false (wholes * c) c) false (moved s (closest a c) * 2 ^ 1074) (2 ^ 1074)
unfolding sum
sum_value false a c C h =
    rounded_value (a + wholes * c) c (wholes + closest a c) C (omega (arith, h)) (omega (arith, h, C)) (closest_more (3 * 2 ^ 50) a c C)
    (omega (arith, closest_under (2 ^ 31) a c C h))
sum_value true a c C h =
    let l : a < wholes * c = omega (arith, h, C) in
    rw (lt-ltb a (wholes * c) l)
    (rounded_value (wholes * c - a) c (wholes - closest a c) C (omega (arith, h)) (omega (arith, h, C))
    (omega (arith, closest_less (3 * 2 ^ 50) (wholes * c - a) a c C (omega arith)))
    (omega (arith, closest_under (2 ^ 31) a c C h)))

-- ---- the bits, read as a whole number with a sign
abbrev bits_of : ℕ
bits_of = 1074 * 2 ^ 52 + wholes

difference : (s : Bool) (n : ℕ) → n ≤ 2 ^ 30 → pos (1074 * 2 ^ 52 + moved s n) -ℤ pos bits_of ≡ saturated s n
difference false n h =
    let b = 1074 * 2 ^ 52 + (wholes + n) in
    ap (λ (t : Bool). cond t (negsuc (bits_of - suc b)) (pos (b - bits_of))) (le-ltb b bits_of (omega arith)) ∙ ap pos (omega arith)
difference true zero h = refl
difference true (suc n) h =
    let b = 1074 * 2 ^ 52 + (wholes - suc n) in
    let e : suc n ≡ min (suc n) (2 ^ 31) = omega arith in
    ap (λ (t : Bool). cond t (negsuc (bits_of - suc b)) (pos (b - bits_of))) (lt-ltb b bits_of (omega arith))
    ∙ ap negsuc (omega arith)
    ∙ ap (λ (z : ℕ). neg_ℤ (pos z)) e

in_range : (s : Bool) (n : ℕ) → n ≤ 2 ^ 30 → mag (saturated s n) < 2 ^ 31
in_range false n h = omega arith
in_range true zero h = lit< tt
in_range true (suc n) h =
    let e : suc n ≡ min (suc n) (2 ^ 31) = omega arith in
    subst (λ (z : ℕ). mag (neg_ℤ (pos z)) < 2 ^ 31) e (let l : n < 2 ^ 31 = omega arith in l)

-- ---- x and its sum
abbrev near : Float
near = of_bits binary64 0x41d0000000000000

abbrev pub with_wholes : Float → Float
with_wholes x = add binary64 x (of_bits binary64 0x4338000000000000)

size_small : (x : Float) → (le (neg near) x && le x near) ≡ true → T (finite x) × (num x ≤ 2 ^ 30 * den x)
unfolding of_bits
size_small nan h = absurd (true≢false (sym h ∙ beyond_all nan near absurd tt))
size_small (inf s) h = absurd (true≢false (sym h ∙ beyond_all (inf s) near absurd tt))
size_small (fin s m e) h = (tt, go (ltb (2 ^ 30 * down e) (m * up e)) refl)
  where
    go : (t : Bool) → ltb (2 ^ 30 * down e) (m * up e) ≡ t → m * up e ≤ 2 ^ 30 * down e
    go false l = ltb-false (2 ^ 30 * down e) (m * up e) l
    go true l =
        absurd (true≢false (sym h ∙ beyond_size (fin s m e) near s (m * up e) (2 ^ 30 * down e) (down e) (refl, refl) (refl, sym (mul-one (2 ^ 30 * down e)))
        (ltb-true (2 ^ 30 * down e) (m * up e) l)))

-- what the code makes of an x within ±2 ^ 30
pub record BySum (x : Float) : Type 0 where
  pub number : is_nan (with_wholes x) ≡ false
  pub bits_lt : to_bits binary64 (with_wholes x) < 2 ^ 63
  pub is : pos (to_bits binary64 (with_wholes x)) -ℤ pos 0x4338000000000000 ≡ round_ties_even_i32 x
  pub small : mag (round_ties_even_i32 x) < 2 ^ 31

pub value_number : (x : Float) (s : Bool) (a c : ℕ) → HasValue x s a c → is_nan x ≡ false
unfolding is_nan
value_number nan s a c h = absurd h
value_number (inf t) s a c h = absurd h
value_number (fin t m e) s a c h = refl

pub added_value : (s : Bool) (m : ℕ) (e : ℤ) → m * up e ≤ 2 ^ 31 * down e
    → HasValue (with_wholes (fin s m e)) false (moved s (closest (m * up e) (down e)) * 2 ^ 1074) (2 ^ 1074)
unfolding add of_bits
added_value s m e h =
    let a = m * up e in
    let c = down e in
    let sum_is : with_wholes (fin s m e) ≡ sum binary64 s a false (wholes * c) c =
    ap (λ (z : ℕ). sum binary64 s z false (wholes * c) (c * 1)) (mul-one a) ∙ ap (λ (z : ℕ). sum binary64 s a false (wholes * c) z) (mul-one c) in
    subst (λ (x : Float). HasValue x false (moved s (closest a c) * 2 ^ 1074) (2 ^ 1074)) (sym sum_is) (sum_value s a c (down_pos e) h)

by_value : (s : Bool) (m : ℕ) (e : ℤ) → m * up e ≤ 2 ^ 30 * down e → BySum (fin s m e)
by_value s m e h =
    let a = m * up e in
    let c = down e in
    let n = closest a c in
    let few : n ≤ 2 ^ 30 = closest_under (2 ^ 30) a c (down_pos e) h in
    let value = added_value s m e (omega (arith, h)) in
    let bits : to_bits binary64 (with_wholes (fin s m e)) ≡ 1074 * 2 ^ 52 + moved s n = bits_at _ (moved s n) value (low s n few) (high s n few) in
    let same : saturated s n ≡ round_ties_even_i32 (fin s m e) = even_at (fin s m e) s a c (down_pos e) (refl, refl) in
    record {
      number = value_number _ false (moved s n * 2 ^ 1074) (2 ^ 1074) value;
      bits_lt = subst (λ (z : ℕ). z < 2 ^ 63) (sym bits) (let k = high s n few in omega arith);
      is = ap (λ (z : ℕ). pos z -ℤ pos 0x4338000000000000) bits ∙ difference s n few ∙ same;
      small = subst (λ (z : ℤ). mag z < 2 ^ 31) same (in_range s n few);
    }
  where
    low : (s : Bool) (n : ℕ) → n ≤ 2 ^ 30 → 2 ^ 52 ≤ moved s n
    low false n h = omega arith
    low true n h = omega arith

    high : (s : Bool) (n : ℕ) → n ≤ 2 ^ 30 → moved s n < 2 ^ 53
    high false n h = omega arith
    high true n h = omega arith

pub by_sum : (x : Float) → (le (neg near) x && le x near) ≡ true → BySum x
by_sum nan h = absurd (size_small nan h).0
by_sum (inf s) h = absurd (size_small (inf s) h).0
by_sum (fin s m e) h = by_value s m e (size_small (fin s m e) h).1
