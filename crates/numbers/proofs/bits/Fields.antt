-- The parts of an f64 by the fields of its bit pattern, and what the parts of a finite one say of its value. Assumes nothing.
use Rattle.std.proofs.Common.{◌≡◌, ℕ, zero, suc, ◌+◌, ◌-◌, ◌*◌, ◌/◌, ◌%◌, ◌^◌, ◌<◌, ◌≤◌, Bool, true, false, cond, not, T, eqb, leb, sym, refl, ap, ◌∙◌, subst, inl, inr, lt_of_lt_of_le, mul-le-mul_right, zero-lt-suc, eq-or-lt_of_le, mul-lt-mul_of_pos_right, lt_of_not-le, not-le_of_lt, mul-div_cancel, sub-one, arith, leb→le, pow_pos, pow_mono, pow-add, eq-eqb, ne_eqb}
use lib.Dec.{nleb→lt}
use lib.Bits.{bit_and, and_mask, mask_lt}
use lib.Pow as Pow
use lib.Pow.{shl-shr}
use lib.Ieee.{Float, nan, inf, fin, binary64, up, down, size, odd, of_fields, of_bits, to_bits, fits}
use lib.Ieee.Bits.{of_bits-to_bits}
use lib.Ieee.Digits.{size-lt, size-le}
use lib.Ieee.Exact.{HasValue, odd_sign}
use lib.Ieee.Fits.{down_pos}
use Rattle.numbers.specs.declared.bits.Parts.TheVariants.{Finite}
use Rattle.numbers.specs.Bits.{parts_of}

-- ---- the fields, as masks and shifts take them

abbrev pub sign_of : ℕ → Bool
sign_of b = not (eqb (b / 2 ^ 63) 0)

abbrev pub field_of : ℕ → ℕ
field_of b = bit_and (b / 2 ^ 52) 2047

abbrev pub digits_of : ℕ → ℕ
digits_of b = bit_and b (2 ^ 52 - 1)

sign_is : (b : ℕ) → sign_of b ≡ leb (2 ^ 63) b
sign_is b = go (leb (2 ^ 63) b) (leb→le (2 ^ 63) b) (nleb→lt (2 ^ 63) b)
  where
    go : (t : Bool) → (T t → 2 ^ 63 ≤ b) → (T (not t) → b < 2 ^ 63) → sign_of b ≡ t
    go true y n = let h : 2 ^ 63 ≤ b = y tt in ap not (ne_eqb (b / 2 ^ 63) 0 (λ (e : b / 2 ^ 63 ≡ 0). omega arith))
    go false y n = let h : b < 2 ^ 63 = n tt in ap not (eq-eqb (b / 2 ^ 63) 0 (omega arith))

pub of_bits_is : (b : ℕ) → of_bits binary64 b ≡ of_fields binary64 (leb (2 ^ 63) b) (b % 2 ^ 63 / 2 ^ 52) (b % 2 ^ 52)
unfolding of_bits
of_bits_is b = refl

pub decoded : (v : Float) (b : ℕ) → T (fits binary64 v) → b ≡ to_bits binary64 v → of_fields binary64 (sign_of b) (field_of b) (digits_of b) ≡ v
decoded v b h e =
    ap (λ (s : Bool). of_fields binary64 s (field_of b) (digits_of b)) (sign_is b)
    ∙ sym
    (of_bits_is b
    ∙ ap (λ (x : ℕ). of_fields binary64 (leb (2 ^ 63) b) x (b % 2 ^ 52)) (Pow.field b 11 52 ∙ sym (and_mask (b / 2 ^ 52) 11))
    ∙ ap (λ (t : ℕ). of_fields binary64 (leb (2 ^ 63) b) (field_of b) t) (sym (and_mask b 52)))
    ∙ ap (of_bits binary64) e
    ∙ of_bits-to_bits binary64 v h

-- ---- the parts of a value that is g * 2 ^ x of the smallest values

pub powers : (a b c : ℕ) → a + b ≡ c → 2 ^ a * 2 ^ b ≡ 2 ^ c
powers a b c e = sym (pow-add 2 a b) ∙ ap (λ (k : ℕ). 2 ^ k) e

pub size_is : (n k : ℕ) → 2 ^ k ≤ n → n < 2 ^ (k + 1) → size n ≡ k + 1
size_is n k lo hi = omega (arith, lt_of_not-le (λ (g : size n ≤ k). not-le_of_lt (lt_of_lt_of_le (size-lt n) (pow_mono g)) lo), size-le n (k + 1) hi)

pub dropped : (g x : ℕ) → g < 2 ^ 53 → (0 < x → 2 ^ 52 ≤ g) → size (g * 2 ^ x) - 53 ≡ x
dropped g zero h k = omega (arith, size-le (g * 1) 53 (omega arith))
dropped g (suc x) h k =
    let low : 2 ^ (suc x + 52) ≤ g * 2 ^ suc x =
    subst (λ (p : ℕ). p ≤ g * 2 ^ suc x) (powers 52 (suc x) (suc x + 52) (omega arith)) (mul-le-mul_right (2 ^ suc x) (k (zero-lt-suc x))) in
    let high : g * 2 ^ suc x < 2 ^ (suc x + 52 + 1) =
    subst (λ (p : ℕ). g * 2 ^ suc x < p) (powers 53 (suc x) (suc x + 52 + 1) (omega arith)) (mul-lt-mul_of_pos_right h (pow_pos (suc x))) in
    omega (arith, size_is (g * 2 ^ suc x) (suc x + 52) low high)

pub parts_at : (v : Float) (s : Bool) (g x : ℕ) → HasValue v s (g * 2 ^ x) (2 ^ 1074) → g < 2 ^ 53 → (0 < x → 2 ^ 52 ≤ g) → parts_of v ≡ Finite s g x
unfolding parts_of
parts_at nan s g x h l k = absurd h
parts_at (inf t) s g x h l k = absurd h
parts_at (fin t m e) s g x h l k =
    let n : m * up e * 2 ^ 1074 / down e ≡ g * 2 ^ x = ap (λ (a : ℕ). a / down e) h.1 ∙ mul-div_cancel (g * 2 ^ x) (down_pos e) in
    ap (λ (a : ℕ). Finite t (a / 2 ^ (size a - 53)) (size a - 53)) n
    ∙ ap (λ (y : ℕ). Finite t (g * 2 ^ x / 2 ^ y) y) (dropped g x l k)
    ∙ ap (λ (a : ℕ). Finite t a x) (shl-shr g x)
    ∙ ap (λ (b : Bool). Finite b g x) h.0

-- what the parts of a finite value say: the value, and the ranges
pub record IsFinite (v : Float) (s : Bool) (g x : ℕ) : Type 0 where
  pub value : HasValue v s (g * 2 ^ x) (2 ^ 1074)
  pub small : g < 2 ^ 53
  pub range : x < 2046
  pub normal : 0 < x → 2 ^ 52 ≤ g

parts_of_lem : (v : Float) (s : Bool) (g x : ℕ) → IsFinite v s g x → parts_of v ≡ Finite s g x
parts_of_lem v s g x h = parts_at v s g x h.value h.small h.normal

-- ---- the parts by the fields

-- a field of 0 has no leading digit
pub low_value : (s : Bool) (t : ℕ) → t < 2 ^ 52 → IsFinite (of_fields binary64 s 0 t) s t 0
unfolding of_fields
low_value s t h = record { value = odd_sign 53 s t 0 1074; small = omega arith; range = omega arith; normal = λ (p : 0 < 0). omega arith }

pub high_value : (s : Bool) (x t : ℕ) → t < 2 ^ 52 → suc x < 2047 → IsFinite (of_fields binary64 s (suc x) t) s (2 ^ 52 + t) x
unfolding of_fields
high_value s x t h l =
    let e : eqb (suc x) 2047 ≡ false = ne_eqb (suc x) 2047 (λ (e : suc x ≡ 2047). omega arith) in
    subst (λ (b : Bool). IsFinite (cond b (cond (eqb t 0) (inf s) nan) (odd 53 s (2 ^ 52 + t) x 1074)) s (2 ^ 52 + t) x) (sym e)
    (record { value = odd_sign 53 s (2 ^ 52 + t) x 1074; small = omega arith; range = omega arith; normal = λ (p : 0 < x). omega arith })

pub parts_low : (s : Bool) (x t : ℕ) → t < 2 ^ 52 → x ≡ 0 → parts_of (of_fields binary64 s x t) ≡ Finite s t 0
parts_low s x t h e = ap (λ (y : ℕ). parts_of (of_fields binary64 s y t)) e ∙ parts_of_lem (of_fields binary64 s 0 t) s t 0 (low_value s t h)

pub parts_high : (s : Bool) (x t : ℕ) → t < 2 ^ 52 → (x ≡ 0 → ⊥) → x < 2047 → parts_of (of_fields binary64 s x t) ≡ Finite s (2 ^ 52 + t) (x - 1)
parts_high s zero t h n l = absurd (n refl)
parts_high s (suc x) t h n l =
    parts_of_lem (of_fields binary64 s (suc x) t) s (2 ^ 52 + t) x (high_value s x t h l) ∙ ap (λ (y : ℕ). Finite s (2 ^ 52 + t) y) (sym (sub-one (suc x)))

pub parts_top : (s : Bool) (x t : ℕ) → x ≡ 2047 → parts_of (of_fields binary64 s x t) ≡ parts_of (cond (eqb t 0) (inf s) nan)
unfolding of_fields
parts_top s x t e = ap (λ (y : ℕ). parts_of (of_fields binary64 s y t)) e

-- ---- the value by the parts

no_finite : (s : Bool) (b : Bool) (u : Bool) (g x : ℕ) → parts_of (cond b (inf s) nan) ≡ Finite u g x → ⊥
unfolding parts_of
no_finite s true u g x e = let z : ◌≡◌ {A = ℕ} 0 1 = cc in omega arith
no_finite s false u g x e = let z : ◌≡◌ {A = ℕ} 0 1 = cc in omega arith

same_parts : (v : Float) (s u : Bool) (g h x y : ℕ) → IsFinite v s g x → parts_of v ≡ Finite u h y → IsFinite v u h y
same_parts v s u g h x y f e =
    let p : Finite s g x ≡ Finite u h y = sym (parts_of_lem v s g x f) ∙ e in
    let ps : s ≡ u = cc in
    let pg : g ≡ h = cc in
    let px : x ≡ y = cc in
    subst (λ (b : Bool). IsFinite v b h y) ps (subst (λ (k : ℕ). IsFinite v s k y) pg (subst (λ (k : ℕ). IsFinite v s g k) px f))

by_fields : (s : Bool) (x t : ℕ) → t < 2 ^ 52 → x < 2048 → (u : Bool) (h y : ℕ) → parts_of (of_fields binary64 s x t) ≡ Finite u h y
    → IsFinite (of_fields binary64 s x t) u h y
by_fields s zero t l m u h y e = same_parts (of_fields binary64 s 0 t) s u t h 0 y (low_value s t l) e
by_fields s (suc x) t l m u h y e =
    let k : suc x ≤ 2047 = omega arith in
    elim (eq-or-lt_of_le k) [
      | inl z ↦ absurd (no_finite s (eqb t 0) u h y (sym (parts_top s (suc x) t z) ∙ e))
      | inr z ↦ same_parts (of_fields binary64 s (suc x) t) s u (2 ^ 52 + t) h x y (high_value s x t l z) e
    ]

pub parts_value : (v : Float) → T (fits binary64 v) → (s : Bool) (g x : ℕ) → parts_of v ≡ Finite s g x → IsFinite v s g x
parts_value v h s g x e =
    let b = to_bits binary64 v in
    let d : of_fields binary64 (sign_of b) (field_of b) (digits_of b) ≡ v = decoded v b h refl in
    subst (λ (y : Float). IsFinite y s g x) d
    (by_fields (sign_of b) (field_of b) (digits_of b) (mask_lt b 52) (mask_lt (b / 2 ^ 52) 11) s g x (ap parts_of d ∙ e))
