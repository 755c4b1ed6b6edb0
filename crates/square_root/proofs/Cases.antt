-- `root_of` by the parts of its argument. Assumes nothing.
use Rattle.std.proofs.Common.{◌≡◌, ℕ, zero, suc, ◌+◌, ◌*◌, ◌/◌, ◌^◌, ◌<◌, Bool, true, false, sym, refl, ap, ◌∙◌, true≢false, zero-lt-suc, mul_assoc, mul-pos, mul_right_comm, mul-div_cancel, arith, pow_pos}
use lib.Ieee.{Float, nan, inf, fin, up, down}
use lib.Ieee.Exact.{HasValue}
use lib.Ieee.Fits.{up_pos, down_pos}
use Rattle.numbers.specs.declared.bits.Parts.TheVariants.{NotANumber, Infinite}
use Rattle.numbers.specs.Bits.{parts_of}
use Rattle.numbers.proofs.bits.Fields.{powers}
use Rattle.square_root.specs.Roots.{rooted, root_of}

pub of_nan : (v : Float) → parts_of v ≡ NotANumber → v ≡ root_of v
unfolding parts_of root_of
of_nan nan e = refl
of_nan (inf t) e = let z : ◌≡◌ {A = ℕ} 0 1 = cc in absurd (omega arith)
of_nan (fin t m d) e = let z : ◌≡◌ {A = ℕ} 0 1 = cc in absurd (omega arith)

infinite : (v : Float) (s : Bool) → parts_of v ≡ Infinite s → v ≡ inf s
unfolding parts_of
infinite nan s e = let z : ◌≡◌ {A = ℕ} 0 1 = cc in absurd (omega arith)
infinite (inf t) s e = let p : t ≡ s = cc in ap inf p
infinite (fin t m d) s e = let z : ◌≡◌ {A = ℕ} 0 1 = cc in absurd (omega arith)

pub of_minus_infinity : (v : Float) (s : Bool) → parts_of v ≡ Infinite s → s ≡ true → nan ≡ root_of v
unfolding root_of
of_minus_infinity v s e t = sym (ap root_of (infinite v s e ∙ ap inf t))

pub of_infinity : (v : Float) (s : Bool) → parts_of v ≡ Infinite s → s ≡ false → v ≡ root_of v
unfolding root_of
of_infinity v s e t = let p : v ≡ inf false = infinite v s e ∙ ap inf t in p ∙ sym (ap root_of p)

-- a significand is 0 just for a zero
not_zero : (m u p : ℕ) → 0 < u → 0 < p → suc m * u * p ≡ 0 → ⊥
not_zero m u p U P e = let k : 0 < suc m * u * p = mul-pos (mul-pos (zero-lt-suc m) U) P in omega arith

pub of_zero : (v : Float) (s : Bool) (g x : ℕ) → HasValue v s (g * 2 ^ x) (2 ^ 1074) → g ≡ 0 → v ≡ root_of v
unfolding root_of
of_zero nan s g x h z = absurd h
of_zero (inf t) s g x h z = absurd h
of_zero (fin t zero e) s g x h z = refl
of_zero (fin t (suc m) e) s g x h z =
    absurd (not_zero m (up e) (2 ^ 1074) (up_pos e) (pow_pos 1074) (h.1 ∙ ap (λ (k : ℕ). k * 2 ^ x * down e) z ∙ none (2 ^ x) (down e)))
  where
    none : (p d : ℕ) → 0 * p * d ≡ 0
    none p d = omega arith

-- a value above 0 in size has digits
digits_of : (m u p A d : ℕ) → 0 < A → 0 < d → m * u * p ≡ A * d → (m ≡ 0 → ⊥)
digits_of m u p A d A_pos D e z =
    let k : 0 < A * d = mul-pos A_pos D in
    let o : m * u * p ≡ 0 = ap (λ (j : ℕ). j * u * p) z ∙ none u p in
    omega arith
  where
    none : (u p : ℕ) → 0 * u * p ≡ 0
    none u p = omega arith

pub of_negative : (v : Float) (A : ℕ) → HasValue v true A (2 ^ 1074) → 0 < A → nan ≡ root_of v
unfolding root_of
of_negative nan A h p = absurd h
of_negative (inf t) A h p = absurd h
of_negative (fin false m e) A h p = absurd (true≢false (sym h.0))
of_negative (fin true zero e) A h p = absurd (digits_of 0 (up e) (2 ^ 1074) A (down e) p (down_pos e) h.1 refl)
of_negative (fin true (suc m) e) A h p = refl

pub cut : (a A d k : ℕ) → 0 < d → a * 2 ^ 1074 ≡ A * d → a * 2 ^ (1074 + k) / d ≡ A * 2 ^ k
cut a A d k D h =
    ap (λ (x : ℕ). a * x / d) (sym (powers 1074 k (1074 + k) refl))
    ∙ ap (λ (x : ℕ). x / d) (sym (mul_assoc a (2 ^ 1074) (2 ^ k)) ∙ ap (λ (x : ℕ). x * 2 ^ k) h ∙ mul_right_comm A d (2 ^ k))
    ∙ mul-div_cancel (A * 2 ^ k) D

pub of_positive : (v : Float) (A : ℕ) → HasValue v false A (2 ^ 1074) → 0 < A → rooted (A * 2 ^ 126) ≡ root_of v
unfolding root_of
of_positive nan A h p = absurd h
of_positive (inf t) A h p = absurd h
of_positive (fin true m e) A h p = absurd (true≢false h.0)
of_positive (fin false zero e) A h p = absurd (digits_of 0 (up e) (2 ^ 1074) A (down e) p (down_pos e) h.1 refl)
of_positive (fin false (suc m) e) A h p = ap rooted (sym (cut (suc m * up e) A (down e) 126 (down_pos e) h.1))

-- the normal form has the same value
pub same_number : (g x s e : ℕ) → s * 2 ^ e ≡ g * 2 ^ (x + 64) → s * 2 ^ e * 2 ^ 62 ≡ g * 2 ^ x * 2 ^ 126
same_number g x s e h =
    ap (λ (k : ℕ). k * 2 ^ 62) h
    ∙ mul_assoc g (2 ^ (x + 64)) (2 ^ 62)
    ∙ ap (λ (k : ℕ). g * k) (powers (x + 64) 62 (x + 126) (omega arith) ∙ sym (powers x 126 (x + 126) refl))
    ∙ sym (mul_assoc g (2 ^ x) (2 ^ 126))
