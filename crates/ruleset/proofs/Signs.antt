-- Sums, differences and quotients of signed numbers stay small. Assumes nothing.
use Rattle.std.proofs.Common.{◌≡◌, ℕ, zero, suc, ◌+◌, ◌-◌, ◌/◌, ◌^◌, ◌<◌, ◌≤◌, Bool, true, false, cond, ltb, ℤ, pos, negsuc, ◌+ℤ◌, ◌-ℤ◌, neg_ℤ, arith, w64, to_z, of_z}
use borrow.Author.Rules.{sfits_of}
use lib.IntN.{sub_ℕ}
use lib.Signed.{mag, quot_z}
use mir.ValLaws.{to_z-of_z}

sub_mag : (a b : ℕ) → mag (sub_ℕ a b) ≤ a + b
sub_mag a b = go (ltb a b)
  where
    go : (x : Bool) → mag (cond x (negsuc (b - suc a)) (pos (a - b))) ≤ a + b
    go true = omega arith
    go false = omega arith

pub mag_add : (a b : ℤ) → mag (a +ℤ b) ≤ mag a + mag b + 2
mag_add (pos a) (pos b) = omega arith
mag_add (pos a) (negsuc b) = omega (arith, sub_mag a (suc b))
mag_add (negsuc a) (pos b) = omega (arith, sub_mag b (suc a))
mag_add (negsuc a) (negsuc b) = omega arith

mag_neg : (b : ℤ) → mag (neg_ℤ b) ≤ mag b + 1
mag_neg (pos zero) = omega arith
mag_neg (pos (suc b)) = omega arith
mag_neg (negsuc b) = omega arith

pub mag_sub : (a b : ℤ) → mag (a -ℤ b) ≤ mag a + mag b + 3
mag_sub a b = omega (arith, mag_add a (neg_ℤ b), mag_neg b)

pub mag_quot : (z : ℤ) → mag (quot_z z (pos 1000)) ≤ mag z + 1
mag_quot (pos n) = omega arith
mag_quot (negsuc n) = omega (arith, mag_neg (pos (suc n / 1000)))

-- a word of 64 bits reads back a number that fits
pub kept : (z : ℤ) → mag z < 2 ^ 63 → to_z w64 (of_z w64 z) ≡ z
kept z h = to_z-of_z w64 z (sfits_of h)
