-- THE ROOT IS THE PROCESSOR'S. For every double v, `root_of v` is what `f64::sqrt` of std gives. Both are the exact root rounded once: that of std is taken to
-- 2271 binary places first, that of `rooted` to 600, and both to one place more that says that the root goes on. Assumes nothing.
use Rattle.std.proofs.Common.{◌≡◌, ℕ, zero, suc, ◌+◌, ◌-◌, ◌*◌, ◌/◌, ◌^◌, ◌<◌, ◌≤◌, Bool, true, false, cond, T, eqb, eqb→eq, ℤ, pos, negsuc, sym, refl, ap, ◌∙◌, subst, mul_assoc, mul_comm, div-lt_iff_lt-mul, le-div_iff_mul-le, mul-div_cancel, arith, mul-pos, zero-mul, zero-lt-suc, pow-suc, pow_pos, pow-add}
use native.Mathlib.Nat.{div-div-eq-div-mul}
use lib.Ieee.{Float, nan, inf, fin, binary64, up, down, size, units, round, fits, sqrt, root_twice, root_below}
use lib.Ieee.Exact.{HasValue}
use lib.Ieee.Fits.{up_pos, down_pos, round_is}
use lib.Ieee.Nearest.{closest, closest_same}
use lib.Ieee.Root.{whole_part}
use Rattle.numbers.proofs.bits.Fields.{powers, size_is}
use Rattle.square_root.specs.Roots.{isqrt, rooted, root_of}
use Rattle.square_root.proofs.Isqrt.{IsRoot, isqrt_root}
use Rattle.square_root.proofs.Assembly.{last, rounding, as_units}
use Rattle.square_root.proofs.Cases.{of_positive, cut}
use Rattle.square_root.proofs.Grid.{InUnits, in_units}
use Rattle.square_root.proofs.Nearest.{scaled}

-- ---- W / 2 ^ 2272 rounded, for a W of j + 1726 digits
rounded_fine : (W j : ℕ) → 2 ^ (j + 1671 + 54) ≤ W → W < 2 ^ (j + 1671 + 55)
    → round binary64 false W (2 ^ 2272) ≡ units binary64 false (closest W (2 ^ (j + 1671 + 2))) (j + 475)
rounded_fine W j lo hi =
    let cut : W * 2 ^ 1074 / 2 ^ 2272 ≡ W / 2 ^ 1198 =
    ap (λ (x : ℕ). W * 2 ^ 1074 / x) (sym (powers 1074 1198 2272 refl))
    ∙ sym (div-div-eq-div-mul (W * 2 ^ 1074) (2 ^ 1074) (2 ^ 1198))
    ∙ ap (λ (x : ℕ). x / 2 ^ 1198) (mul-div_cancel W (pow_pos 1074)) in
    let low : 2 ^ (j + 527) ≤ W / 2 ^ 1198 =
    (le-div_iff_mul-le (pow_pos 1198)).1 (subst (λ (x : ℕ). x ≤ W) (sym (powers (j + 527) 1198 (j + 1671 + 54) (omega arith))) lo) in
    let high : W / 2 ^ 1198 < 2 ^ (j + 527 + 1) =
    (div-lt_iff_lt-mul (pow_pos 1198)).1 (subst (λ (x : ℕ). W < x) (sym (powers (j + 527 + 1) 1198 (j + 1671 + 55) (omega arith))) hi) in
    let k : size (W * 2 ^ 1074 / 2 ^ 2272) - 53 ≡ j + 475 = omega (arith, ap size cut ∙ size_is (W / 2 ^ 1198) (j + 527) low high) in
    let m : 2 ^ 1074 * 2 ^ (j + 1671 + 2) ≡ 2 ^ 2272 * 2 ^ (j + 475) =
    powers 1074 (j + 1671 + 2) (j + 2747) (omega arith) ∙ sym (powers 2272 (j + 475) (j + 2747) (omega arith)) in
    round_is binary64 false W (2 ^ 2272)
    ∙ ap (λ (x : ℕ). units binary64 false (closest (W * 2 ^ 1074) (2 ^ 2272 * 2 ^ x)) x) k
    ∙ ap (λ (x : ℕ). units binary64 false x (j + 475))
    (closest_same (W * 2 ^ 1074) (2 ^ 2272 * 2 ^ (j + 475)) W (2 ^ (j + 1671 + 2)) (positive j) (pow_pos (j + 1671 + 2))
    (mul_assoc W (2 ^ 1074) (2 ^ (j + 1671 + 2)) ∙ ap (λ (x : ℕ). W * x) m))
  where
    positive : (j : ℕ) → 0 < 2 ^ 2272 * 2 ^ (j + 475)
    positive j = subst (λ (x : ℕ). 0 < x) (sym (powers 2272 (j + 475) (j + 2747) (omega arith))) (pow_pos (j + 2747))

-- std's root with its last digit
twice_is : (n : ℕ) → root_twice n ≡ last (root_below (size n) n) n
unfolding root_twice
twice_is n = let r = root_below (size n) n in ap (λ (x : ℕ). x + cond (eqb (r * r) n) 0 1) (mul_comm 2 r)

-- ---- for a v of M * 2 ^ 54 * 4 ^ (h + 4) / 2 ^ 1200
same_root : (M h q : ℕ) → 2 ^ 52 ≤ M → M < 2 ^ 54 → h < 1056 → IsRoot q (M * 2 ^ 54)
    → round binary64 false (root_twice (M * 2 ^ 54 * 4 ^ (h + 4 + 1671))) (2 ^ 2272) ≡ rooted (M * 2 ^ 54 * 4 ^ (h + 4))
same_root M h q lo hi short own =
    let n = M * 2 ^ 54 * 4 ^ (h + 4 + 1671) in
    let r = rounding M q (h + 4 + 1671) (root_below (size n) n) lo hi own (whole_part n) in
    ap (λ (w : ℕ). round binary64 false w (2 ^ 2272)) (twice_is n)
    ∙ rounded_fine (last (root_below (size n) n) n) (h + 4) r.0 r.1
    ∙ ap (λ (x : ℕ). units binary64 false x (h + 4 + 475)) r.2
    ∙ ap (λ (x : ℕ). units binary64 false ((q + 1) / 2) x) (omega arith)
    ∙ sym (as_units M h q lo hi short own)

-- ---- the cases
of_scaled : (v : Float) (nv : ℕ) → T (fits binary64 v) → HasValue v false nv (2 ^ 1074) → 0 < nv
    → round binary64 false (root_twice (nv * 2 ^ 3468)) (2 ^ 2272) ≡ root_of v
of_scaled v nv f is p =
    let s = scaled v nv f is p in
    let n = s.M * 2 ^ 54 in
    let more : nv * 2 ^ 3468 ≡ n * 4 ^ (s.h + 4 + 1671) =
    ap (λ (x : ℕ). nv * x) (sym (powers 126 3342 3468 refl)) ∙ sym (mul_assoc nv (2 ^ 126) (2 ^ 3342)) ∙ ap (λ (x : ℕ). x * 2 ^ 3342) (sym s.number)
    ∙ mul_assoc n (4 ^ (s.h + 4)) (4 ^ 1671) ∙ ap (λ (x : ℕ). n * x) (sym (pow-add 4 (s.h + 4) 1671)) in
    ap (λ (x : ℕ). round binary64 false (root_twice x) (2 ^ 2272)) more
    ∙ same_root s.M s.h (isqrt n) s.lo s.hi s.short (isqrt_root n)
    ∙ ap rooted s.number
    ∙ of_positive v nv is p

-- the one way to write a zero
zero_place : (e : ℤ) → T (eqb (up e * down e) 1) → e ≡ pos 0
zero_place (pos zero) t = refl
zero_place (pos (suc k)) t = absurd (even (2 ^ k) (ap (λ (p : ℕ). p * 1) (sym (pow-suc 2 k)) ∙ eqb→eq (2 ^ suc k * 1) 1 t))
  where
    even : (p : ℕ) → p * 2 * 1 ≡ 1 → ⊥
    even p e = omega arith
zero_place (negsuc k) t = absurd (even (2 ^ k) (ap (λ (p : ℕ). 1 * p) (sym (pow-suc 2 k)) ∙ eqb→eq (1 * 2 ^ suc k) 1 t))
  where
    even : (p : ℕ) → 1 * (p * 2) ≡ 1 → ⊥
    even p e = omega arith

above_zero : (m : ℕ) (e : ℤ) → T (fits binary64 (fin false (suc m) e)) → (i : InUnits (fin false (suc m) e))
    → round binary64 false (root_twice (suc m * up e * 2 ^ 4542 / down e)) (2 ^ 2272) ≡ root_of (fin false (suc m) e)
above_zero m e f i =
    let v = fin false (suc m) e in
    let is : HasValue v false i.count (2 ^ 1074) = subst (λ (s : Bool). HasValue v s i.count (2 ^ 1074)) (sym i.value.0) i.value in
    ap (λ (x : ℕ). round binary64 false (root_twice x) (2 ^ 2272)) (cut (suc m * up e) i.count (down e) 3468 (down_pos e) is.1)
    ∙ of_scaled v i.count f is (some i.count (mul-pos (mul-pos (zero-lt-suc m) (up_pos e)) (pow_pos 1074)) is.1)
  where
    some : (k : ℕ) {a : ℕ} → 0 < a → a ≡ k * down e → 0 < k
    some zero l q = let none : 0 * down e ≡ 0 = zero-mul (down e) in absurd (omega arith)
    some (suc k) l q = zero-lt-suc k

pub sqrt_is : (v : Float) → T (fits binary64 v) → sqrt binary64 v ≡ root_of v
unfolding sqrt root_of fits
sqrt_is nan f = refl
sqrt_is (inf false) f = refl
sqrt_is (inf true) f = refl
sqrt_is (fin s zero e) f = ap (λ (d : ℤ). fin s 0 d) (sym (zero_place e f))
sqrt_is (fin true (suc m) e) f = refl
sqrt_is (fin false (suc m) e) f = above_zero m e f (in_units (fin false (suc m) e) f tt)
