-- The middle between two doubles against a root, on whole numbers: the number is m * (P * P), q is the whole root of m, so that the root lies between q * P and
-- (q + 1) * P, and the double is (q + 1) / 2 * (2 * P). Assumes nothing.
use Rattle.std.proofs.Common.{◌≡◌, ℕ, ◌+◌, ◌*◌, ◌/◌, ◌<◌, ◌≤◌, sym, subst, le_trans, le_of_eq, le_refl, lt_of_lt_of_le, lt_of_le_of_lt, le_of_lt, add-le-add, mul-le-mul_right, mul-le-mul, mul-le-mul_left, mul-lt-mul_of_pos_right, mul-pos, arith}
use native.Mathlib.Nat.{mul-lt-mul_of_pos_left}
use Rattle.square_root.proofs.Isqrt.{IsRoot}

pub square_mono : (a b : ℕ) → a ≤ b → a * a ≤ b * b
square_mono a b h = mul-le-mul h h

pub square_lt : (a b : ℕ) → a < b → a * a < b * b
square_lt a b h = lt_of_le_of_lt (mul-le-mul_right a (le_of_lt h)) (mul-lt-mul_of_pos_left h (omega arith))

pub scaled_square : (k P : ℕ) → 2 * k * P * (2 * k * P) ≡ 4 * (k * k * (P * P))
scaled_square k P = omega arith

module _ (m q P : ℕ) (own : IsRoot q m) (P_pos : 0 < P) where
  squared : 0 < P * P
  squared = mul-pos P_pos P_pos

  -- a double above is at least 2 * P above, so the middle is at least (q + 1) * P
  pub above_at : (b : ℕ) → ((q + 1) / 2 + 1) * (2 * P) ≤ b → 4 * (m * (P * P)) < ((q + 1) / 2 * (2 * P) + b) * ((q + 1) / 2 * (2 * P) + b)
  above_at b h =
      let far : 2 * (q + 1) * P ≤ (q + 1) / 2 * (2 * P) + b = le_trans (spread q ((q + 1) / 2) P (omega arith)) (add-le-add (le_refl ((q + 1) / 2 * (2 * P))) h) in
      lt_of_lt_of_le (four (m * (P * P)) ((q + 1) * (q + 1) * (P * P)) (mul-lt-mul_of_pos_right own.1 squared))
      (le_trans (le_of_eq (sym (scaled_square (q + 1) P))) (square_mono (2 * (q + 1) * P) ((q + 1) / 2 * (2 * P) + b) far))
    where
      four : (a b : ℕ) → a < b → 4 * a < 4 * b
      four a b h = omega arith

      spread : (q r P : ℕ) → q ≤ 2 * r → 2 * (q + 1) * P ≤ r * (2 * P) + (r + 1) * (2 * P)
      spread q r P h =
          let wide : 2 * (q + 1) ≤ 4 * r + 2 = omega arith in
          le_trans (mul-le-mul_right P wide) (le_of_eq (sum r P))
        where
          sum : (r P : ℕ) → (4 * r + 2) * P ≡ r * (2 * P) + (r + 1) * (2 * P)
          sum r P = omega arith

  -- an even q: the root is at or above q * P, which is the double
  pub below_even : (a b : ℕ) → q ≡ a * 2 → b < a * (2 * P) → (a * (2 * P) + b) * (a * (2 * P) + b) < 4 * (m * (P * P))
  below_even a b e h =
      let near : a * (2 * P) + b < 2 * q * P = subst (λ (k : ℕ). a * (2 * P) + b < 2 * k * P) (sym e) (twice a b P h) in
      lt_of_lt_of_le (square_lt (a * (2 * P) + b) (2 * q * P) near)
      (le_trans (le_of_eq (scaled_square q P)) (mul-le-mul_left 4 (mul-le-mul_right (P * P) own.0)))
    where
      twice : (a b P : ℕ) → b < a * (2 * P) → a * (2 * P) + b < 2 * (a * 2) * P
      twice a b P h = omega arith

  -- an odd q: the root is above q * P, and a double below is at most (q - 1) * P
  pub below_odd : (a b : ℕ) → q ≡ a * 2 + 1 → q * q < m → b + 2 * P ≤ (a + 1) * (2 * P) → ((a + 1) * (2 * P) + b) * ((a + 1) * (2 * P) + b) < 4 * (m * (P * P))
  below_odd a b e l h =
      let near : (a + 1) * (2 * P) + b ≤ 2 * q * P = subst (λ (k : ℕ). (a + 1) * (2 * P) + b ≤ 2 * k * P) (sym e) (less a b P h) in
      lt_of_le_of_lt (le_trans (square_mono ((a + 1) * (2 * P) + b) (2 * q * P) near) (le_of_eq (scaled_square q P)))
      (mul-lt-mul_of_pos_left (mul-lt-mul_of_pos_right l squared) (omega arith))
    where
      less : (a b P : ℕ) → b + 2 * P ≤ (a + 1) * (2 * P) → (a + 1) * (2 * P) + b ≤ 2 * (a * 2 + 1) * P
      less a b P h = omega arith
