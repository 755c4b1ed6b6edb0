-- THE ROOT IS THE NEAREST DOUBLE. For every double v above zero, `root_of v` is a finite double r with its sign clear, and every other double is farther from the
-- exact root √v: the middle between r and a double y above r lies above √v, and the middle between r and a double y below r lies below √v. (Doubles below zero
-- are farther than zero is.)
-- In whole numbers: a finite double is a whole number of units of 2 ^ -1074, the smallest double above zero (`in_units` of Grid). Let v, r and y be nv, nr and ny
-- units. Then √v is √(nv * 2 ^ 1074) units and the middle is (nr + ny) / 2 units, so the claim compares (nr + ny)² with 4 * (nv * 2 ^ 1074). It never meets
-- equality: there are no ties, so nothing is left to say of the even one of two. Assumes nothing.
use Rattle.std.proofs.Common.{◌≡◌, ℕ, ◌+◌, ◌-◌, ◌*◌, ◌/◌, ◌%◌, ◌^◌, ◌<◌, ◌≤◌, Bool, true, false, not, T, ltb, sym, refl, ap, ◌∙◌, subst, inl, inr, le_trans, le_of_eq, le_of_lt, mul-le-mul_right, mul_assoc, mul_comm, eq-or-lt_of_le, arith, ltb→lt, nltb→le, pow_pos}
use lib.Ieee.{Float, binary64, size, fits}
use lib.Ieee.Exact.{HasValue}
use Rattle.numbers.proofs.bits.Fields.{powers}
use Rattle.square_root.specs.Roots.{isqrt, rooted, root_of}
use Rattle.square_root.proofs.Isqrt.{IsRoot, isqrt_root, four_pow}
use Rattle.square_root.proofs.Assembly.{value_is, rooted_fits, no_square, halves, root_ge, parted, doubled_lt, doubled_ge}
use Rattle.square_root.proofs.Grid.{Multiple, counted, multiple, apart, raised_ge, raised_lt, raised_same, leading_place, factor_pos}
use Rattle.square_root.proofs.Middle.{above_at, below_even, below_odd}
use Rattle.square_root.proofs.Cases.{of_positive, same_number}

-- ---- the claim

pub record NearestRoot (v : Float) (nv : ℕ) : Type 0 where
  pub nr : ℕ
  pub is_double : T (fits binary64 (root_of v))
  pub value : HasValue (root_of v) false nr (2 ^ 1074)
  pub above : (y : Float) (ny : ℕ) → T (fits binary64 y) → HasValue y false ny (2 ^ 1074) → nr < ny → 4 * (nv * 2 ^ 1074) < (nr + ny) * (nr + ny)
  pub below : (y : Float) (ny : ℕ) → T (fits binary64 y) → HasValue y false ny (2 ^ 1074) → ny < nr → (nr + ny) * (nr + ny) < 4 * (nv * 2 ^ 1074)

-- ---- the theorem, for a v of M * 2 ^ 54 * 4 ^ (h + 4) / 2 ^ 126 units

module _ (v : Float) (nv M h q : ℕ) (is : HasValue v false nv (2 ^ 1074)) (positive : 0 < nv)
    (lo : 2 ^ 52 ≤ M) (hi : M < 2 ^ 54) (short : h < 1056) (own : IsRoot q (M * 2 ^ 54)) (number : M * 2 ^ 54 * 4 ^ (h + 4) ≡ nv * 2 ^ 126) where
  root_is : rooted (M * 2 ^ 54 * 4 ^ (h + 4)) ≡ root_of v
  root_is = ap rooted number ∙ of_positive v nv is positive

  unit : 2 ^ (h + 479) ≡ 2 * 2 ^ (h + 478)
  unit = sym (powers (h + 478) 1 (h + 479) (omega arith)) ∙ mul_comm (2 ^ (h + 478)) 2

  -- the root in units
  root_value : HasValue (root_of v) false ((q + 1) / 2 * (2 * 2 ^ (h + 478))) (2 ^ 1074)
  root_value =
      subst (λ (u : ℕ). HasValue (root_of v) false ((q + 1) / 2 * u) (2 ^ 1074)) unit
      (subst (λ (y : Float). HasValue y false ((q + 1) / 2 * 2 ^ (h + 479)) (2 ^ 1074)) root_is
      (value_is M h q lo hi short own))

  -- the square of the exact root, in units
  square : M * 2 ^ 54 * (2 ^ (h + 478) * 2 ^ (h + 478)) ≡ nv * 2 ^ 1074
  square =
      let four : 4 ^ (h + 4) ≡ 2 ^ (h + h + 8) = four_pow (h + 4) ∙ powers (h + 4) (h + 4) (h + h + 8) (omega arith) in
      let grown : 2 ^ (h + 478) * 2 ^ (h + 478) ≡ 4 ^ (h + 4) * 2 ^ 948 =
      powers (h + 478) (h + 478) (h + h + 956) (omega arith) ∙ sym (ap (λ (z : ℕ). z * 2 ^ 948) four ∙ powers (h + h + 8) 948 (h + h + 956) (omega arith)) in
      ap (λ (z : ℕ). M * 2 ^ 54 * z) grown ∙ sym (mul_assoc (M * 2 ^ 54) (4 ^ (h + 4)) (2 ^ 948)) ∙ ap (λ (z : ℕ). z * 2 ^ 948) number
      ∙ mul_assoc nv (2 ^ 126) (2 ^ 948)

  -- from 2 ^ 53 * P on the doubles are multiples of 2 * P
  on_grid : (y : Float) (ny : ℕ) → T (fits binary64 y) → HasValue y false ny (2 ^ 1074) → 2 ^ 53 * 2 ^ (h + 478) ≤ ny → Multiple ny (2 * 2 ^ (h + 478))
  on_grid y ny f k l =
      let two : 2 ^ (h + 478 + 1) ≡ 2 * 2 ^ (h + 478) = sym (powers (h + 478) 1 (h + 478 + 1) refl) ∙ mul_comm (2 ^ (h + 478)) 2 in
      subst (λ (d : ℕ). Multiple ny d) two (multiple ny (h + 478) (counted y ny f k) l)

  -- above
  above_is : (y : Float) (ny : ℕ) → T (fits binary64 y) → HasValue y false ny (2 ^ 1074) → (q + 1) / 2 * (2 * 2 ^ (h + 478)) < ny
      → 4 * (nv * 2 ^ 1074) < ((q + 1) / 2 * (2 * 2 ^ (h + 478)) + ny) * ((q + 1) / 2 * (2 * 2 ^ (h + 478)) + ny)
  above_is y ny f k l =
      let p = 2 ^ (h + 478) in
      let big : 2 ^ 53 * p ≤ (q + 1) / 2 * (2 * p) = le_trans (mul-le-mul_right p (doubled q (root_ge q M lo own))) (le_of_eq (turned ((q + 1) / 2) p)) in
      let g = on_grid y ny f k (le_trans big (le_of_lt l)) in
      let far : ((q + 1) / 2 + 1) * (2 * p) ≤ ny =
      le_trans (apart ((q + 1) / 2) g.times (2 * p) (subst (λ (z : ℕ). (q + 1) / 2 * (2 * p) < z) g.is l)) (le_of_eq (sym g.is)) in
      subst (λ (z : ℕ). 4 * z < ((q + 1) / 2 * (2 * p) + ny) * ((q + 1) / 2 * (2 * p) + ny)) square (above_at (M * 2 ^ 54) q p own (pow_pos (h + 478)) ny far)
    where
      doubled : (q : ℕ) → 2 ^ 53 ≤ q → 2 ^ 53 ≤ (q + 1) / 2 * 2
      doubled q h = omega arith

      turned : (r p : ℕ) → r * 2 * p ≡ r * (2 * p)
      turned r p = omega arith

  below_is : (y : Float) (ny : ℕ) → T (fits binary64 y) → HasValue y false ny (2 ^ 1074) → ny < (q + 1) / 2 * (2 * 2 ^ (h + 478))
      → ((q + 1) / 2 * (2 * 2 ^ (h + 478)) + ny) * ((q + 1) / 2 * (2 * 2 ^ (h + 478)) + ny) < 4 * (nv * 2 ^ 1074)
  below_is y ny f k l =
      let p = 2 ^ (h + 478) in
      let a = q / 2 in
      subst (λ (z : ℕ). ((q + 1) / 2 * (2 * p) + ny) * ((q + 1) / 2 * (2 * p) + ny) < 4 * z) square
      (elim (halves q) [
        | inl e ↦
            let half : (q + 1) / 2 ≡ a = omega arith in
            subst (λ (r : ℕ). (r * (2 * p) + ny) * (r * (2 * p) + ny) < 4 * (M * 2 ^ 54 * (p * p))) (sym half)
            (below_even (M * 2 ^ 54) q p own (pow_pos (h + 478)) a ny e (subst (λ (r : ℕ). ny < r * (2 * p)) half l))
        | inr e ↦
            let half : (q + 1) / 2 ≡ a + 1 = omega arith in
            subst (λ (r : ℕ). (r * (2 * p) + ny) * (r * (2 * p) + ny) < 4 * (M * 2 ^ 54 * (p * p))) (sym half)
            (below_odd (M * 2 ^ 54) q p own (pow_pos (h + 478)) a ny e (no_root a e)
            (gap a (omega (arith, root_ge q M lo own)) (subst (λ (r : ℕ). ny < r * (2 * p)) half l)))
      ])
    where
      -- an odd number's square is no multiple of four
      no_root : (a : ℕ) → q ≡ a * 2 + 1 → q * q < M * 2 ^ 54
      no_root a e = elim (eq-or-lt_of_le own.0) [
        | inl z ↦ absurd (no_square a M (subst (λ (k : ℕ). k * k ≡ M * 2 ^ 54) e z))
        | inr z ↦ z
      ]

      gap : (a : ℕ) → 2 ^ 52 ≤ a → ny < (a + 1) * (2 * 2 ^ (h + 478)) → ny + 2 * 2 ^ (h + 478) ≤ (a + 1) * (2 * 2 ^ (h + 478))
      gap a w l = go (ltb ny (2 ^ 53 * p)) (ltb→lt ny (2 ^ 53 * p)) (nltb→le ny (2 ^ 53 * p))
        where
          p : ℕ
          p = 2 ^ (h + 478)

          go : (b : Bool) → (T b → ny < 2 ^ 53 * p) → (T (not b) → 2 ^ 53 * p ≤ ny) → ny + 2 * p ≤ (a + 1) * (2 * p)
          go true y' n' = small a p ny (mul-le-mul_right (2 * p) w) (y' tt)
            where
              small : (a p n : ℕ) → 2 ^ 52 * (2 * p) ≤ a * (2 * p) → n < 2 ^ 53 * p → n + 2 * p ≤ (a + 1) * (2 * p)
              small a p n w l = omega arith
          go false y' n' =
              let g = on_grid y ny f k (n' tt) in
              le_trans (le_of_eq (ap (λ (n : ℕ). n + 2 * p) g.is ∙ next g.times (2 * p)))
              (apart g.times (a + 1) (2 * p) (subst (λ (n : ℕ). n < (a + 1) * (2 * p)) g.is l))
            where
              next : (t d : ℕ) → t * d + d ≡ (t + 1) * d
              next t d = omega arith

  nearest : NearestRoot v nv
  nearest =
      record {
        nr = (q + 1) / 2 * (2 * 2 ^ (h + 478));
        is_double = subst (λ (y : Float). T (fits binary64 y)) root_is (rooted_fits (M * 2 ^ 54 * 4 ^ (h + 4)));
        value = root_value;
        above = above_is;
        below = below_is;
      }

-- ---- every double above zero is one

pub record Scaled (nv : ℕ) : Type 0 where
  pub M : ℕ
  pub h : ℕ
  pub lo : 2 ^ 52 ≤ M
  pub hi : M < 2 ^ 54
  pub short : h < 1056
  pub number : M * 2 ^ 54 * 4 ^ (h + 4) ≡ nv * 2 ^ 126

pub scaled : (v : Float) (nv : ℕ) → T (fits binary64 v) → HasValue v false nv (2 ^ 1074) → 0 < nv → Scaled nv
scaled v nv f is p =
    let c = counted v nv f is in
    let g = c.digits in
    let x = c.zeros in
    let l = size g - 1 in
    let r = leading_place g (factor_pos g x nv c.is p) c.small in
    let s = g * 2 ^ (52 - l) in
    let e = x + 64 - (52 - l) in
    let ge : 2 ^ 52 ≤ s = raised_ge g l r in
    let lt : s < 2 ^ 53 = raised_lt g l r in
    record {
      M = s * 2 ^ (e % 2) % 2 ^ 64;
      h = e / 2;
      lo = doubled_ge s e ge lt;
      hi = doubled_lt s e lt;
      short = omega (arith, c.range);
      number = parted s e lt ∙ same_number g x s e (raised_same g l x r) ∙ ap (λ (n : ℕ). n * 2 ^ 126) (sym c.is);
    }

-- For every double v above zero: v is nv units, and the root is the nearest double.
pub nearest_root : (v : Float) (nv : ℕ) → T (fits binary64 v) → HasValue v false nv (2 ^ 1074) → 0 < nv → NearestRoot v nv
nearest_root v nv f is p =
    let s = scaled v nv f is p in
    nearest v nv s.M s.h (isqrt (s.M * 2 ^ 54)) is p s.lo s.hi s.short (isqrt_root (s.M * 2 ^ 54)) s.number
