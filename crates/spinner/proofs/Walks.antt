-- The sums behind each half spin, and the points of a walk as two counts. Assumes nothing.
use mathlib.Core.Path.{◌≡◌, refl, sym, ap, ◌∙◌}
use Prim.Native.Nat.{ℕ, zero, suc, ◌+◌, ◌-◌, ◌*◌, ◌/◌, ◌%◌, ◌≤◌, ◌<◌, min}
use native.Mathlib.Omega.{arith}
use mathlib.Core.Logic.{◌⊎◌, inl, inr}
use mathlib.Core.Bool.{Bool, true, false, not, cond, ◌&&◌}
use lib.Ieee.{Float}
use lib.Dec.{T, ltb, eqb, ltb→lt, nltb→le, eqb→eq}
use borrow.Author.Tests.{eqb-false, lt-ltb, le-ltb}
use Rattle.spinner.specs.HalfSpins.{total_half_spins, required_half_spins}
use Rattle.spinner.specs.Bonus.{is_large, is_small, half_spin_points, sums_before, legacy_of, standardised_of, large_count, small_count}

-- one more step, by what it adds
add_large : (l s L S L' S' : ℕ) → L' ≡ L + 1 → S' ≡ S → l * L + s * S + l ≡ l * L' + s * S'
add_large l s L S L' S' p q = more l s L S ∙ sym (ap (λ (x : ℕ). l * x + s * S') p ∙ ap (λ (x : ℕ). l * (L + 1) + s * x) q)
  where
    more : (l s L S : ℕ) → l * L + s * S + l ≡ l * (L + 1) + s * S
    more l s L S = omega arith

add_small : (l s L S L' S' : ℕ) → L' ≡ L → S' ≡ S + 1 → l * L + s * S + s ≡ l * L' + s * S'
add_small l s L S L' S' p q = more l s L S ∙ sym (ap (λ (x : ℕ). l * x + s * S') p ∙ ap (λ (x : ℕ). l * L + s * x) q)
  where
    more : (l s L S : ℕ) → l * L + s * S + s ≡ l * L + s * (S + 1)
    more l s L S = omega arith

add_none : (l s L S L' S' : ℕ) → L' ≡ L → S' ≡ S → l * L + s * S + 0 ≡ l * L' + s * S'
add_none l s L S L' S' p q = more l s L S ∙ sym (ap (λ (x : ℕ). l * x + s * S') p ∙ ap (λ (x : ℕ). l * L + s * x) q)
  where
    more : (l s L S : ℕ) → l * L + s * S + 0 ≡ l * L + s * S
    more l s L S = omega arith

-- a test with what it says either way
record Says (b : Bool) (Y N : Type 0) : Type 0 where
  yes : T b → Y
  no : T (not b) → N

says_lt : (a b : ℕ) → Says (ltb a b) (a < b) (b ≤ a)
says_lt a b = record { yes = ltb→lt a b; no = nltb→le a b }

says_even : (a : ℕ) → Says (eqb (a % 2) 0) (a % 2 ≡ 0) (a % 2 ≡ 1)
says_even a = record { yes = eqb→eq (a % 2) 0; no = odd }
  where
    odd : T (not (eqb (a % 2) 0)) → a % 2 ≡ 1
    odd t = let n : a % 2 ≡ 0 → ⊥ = eqb-false (a % 2) 0 (lib.Ieee.Bits.is_false (eqb (a % 2) 0) t) in omega arith

module _ (l s b t : ℕ) where
  go : (p1 p2 p3 p4 p5 : Bool) → Says p1 (b < suc t) (suc t ≤ b) → Says p2 ((suc t - b) % 2 ≡ 0) ((suc t - b) % 2 ≡ 1) → Says p3 (1 < suc t) (suc t ≤ 1) → Says p4 (suc t % 2 ≡ 0) (suc t % 2 ≡ 1) → Says p5 (b % 2 ≡ 0) (b % 2 ≡ 1)
      → l * ((t - b) / 2) + s * cond p5 (min t b / 2) (t / 2) + cond (p1 && p2) l (cond (p3 && p4) s 0) ≡ l * ((suc t - b) / 2) + s * cond p5 (min (suc t) b / 2) (suc t / 2)
  go true true p3 p4 true f1 f2 f3 f4 f5 =
      let a = f1.yes tt in let c = f2.yes tt in let d = f5.yes tt in add_large l s ((t - b) / 2) (min t b / 2) ((suc t - b) / 2) (min (suc t) b / 2) (omega arith) (omega arith)
  go true true p3 p4 false f1 f2 f3 f4 f5 =
      let a = f1.yes tt in let c = f2.yes tt in let d = f5.no tt in add_large l s ((t - b) / 2) (t / 2) ((suc t - b) / 2) (suc t / 2) (omega arith) (omega arith)
  go true false true true true f1 f2 f3 f4 f5 =
      let a = f1.yes tt in let c = f2.no tt in let d = f5.yes tt in let e = f4.yes tt in add_small l s ((t - b) / 2) (min t b / 2) ((suc t - b) / 2) (min (suc t) b / 2) (omega arith) (omega arith)
  go true false true true false f1 f2 f3 f4 f5 =
      let a = f1.yes tt in let c = f2.no tt in let d = f5.no tt in let e = f4.yes tt in add_small l s ((t - b) / 2) (t / 2) ((suc t - b) / 2) (suc t / 2) (omega arith) (omega arith)
  go true false true false true f1 f2 f3 f4 f5 =
      let a = f1.yes tt in let c = f2.no tt in let d = f5.yes tt in let e = f4.no tt in add_none l s ((t - b) / 2) (min t b / 2) ((suc t - b) / 2) (min (suc t) b / 2) (omega arith) (omega arith)
  go true false true false false f1 f2 f3 f4 f5 =
      let a = f1.yes tt in let c = f2.no tt in let d = f5.no tt in let e = f4.no tt in add_none l s ((t - b) / 2) (t / 2) ((suc t - b) / 2) (suc t / 2) (omega arith) (omega arith)
  go true false false p4 true f1 f2 f3 f4 f5 =
      let a = f1.yes tt in let c = f2.no tt in let d = f5.yes tt in let e = f3.no tt in add_none l s ((t - b) / 2) (min t b / 2) ((suc t - b) / 2) (min (suc t) b / 2) (omega arith) (omega arith)
  go true false false p4 false f1 f2 f3 f4 f5 =
      let a = f1.yes tt in let c = f2.no tt in let d = f5.no tt in let e = f3.no tt in add_none l s ((t - b) / 2) (t / 2) ((suc t - b) / 2) (suc t / 2) (omega arith) (omega arith)
  go false p2 true true true f1 f2 f3 f4 f5 =
      let a = f1.no tt in let d = f5.yes tt in let e = f4.yes tt in add_small l s ((t - b) / 2) (min t b / 2) ((suc t - b) / 2) (min (suc t) b / 2) (omega arith) (omega arith)
  go false p2 true true false f1 f2 f3 f4 f5 =
      let a = f1.no tt in let d = f5.no tt in let e = f4.yes tt in add_small l s ((t - b) / 2) (t / 2) ((suc t - b) / 2) (suc t / 2) (omega arith) (omega arith)
  go false p2 true false true f1 f2 f3 f4 f5 =
      let a = f1.no tt in let d = f5.yes tt in let e = f4.no tt in add_none l s ((t - b) / 2) (min t b / 2) ((suc t - b) / 2) (min (suc t) b / 2) (omega arith) (omega arith)
  go false p2 true false false f1 f2 f3 f4 f5 =
      let a = f1.no tt in let d = f5.no tt in let e = f4.no tt in add_none l s ((t - b) / 2) (t / 2) ((suc t - b) / 2) (suc t / 2) (omega arith) (omega arith)
  go false p2 false p4 true f1 f2 f3 f4 f5 =
      let a = f1.no tt in let d = f5.yes tt in let e = f3.no tt in add_none l s ((t - b) / 2) (min t b / 2) ((suc t - b) / 2) (min (suc t) b / 2) (omega arith) (omega arith)
  go false p2 false p4 false f1 f2 f3 f4 f5 =
      let a = f1.no tt in let d = f5.no tt in let e = f3.no tt in add_none l s ((t - b) / 2) (t / 2) ((suc t - b) / 2) (suc t / 2) (omega arith) (omega arith)

  next : l * large_count b t + s * small_count b t + cond (is_large b (suc t)) l (cond (is_small (suc t)) s 0) ≡ l * large_count b (suc t) + s * small_count b (suc t)
  next =
      go (ltb b (suc t)) (eqb ((suc t - b) % 2) 0) (ltb 1 (suc t)) (eqb (suc t % 2) 0) (eqb (b % 2) 0) (says_lt b (suc t)) (says_even (suc t - b)) (says_lt 1 (suc t)) (says_even (suc t)) (says_even b)

none : (l s x y : ℕ) → x ≡ 0 → y ≡ 0 → 0 + 0 ≡ l * y + s * x
none l s x y p q = sym (ap (λ (z : ℕ). l * z + s * x) q ∙ ap (λ (z : ℕ). l * 0 + s * z) p ∙ all l s)
  where
    all : (l s : ℕ) → l * 0 + s * 0 ≡ 0
    all l s = omega arith

first : (l s b : ℕ) → half_spin_points l s b 1 ≡ l * large_count b 0 + s * small_count b 0
unfolding half_spin_points
first l s b = start (ltb b 0) (says_lt b 0) (eqb (b % 2) 0)
  where
    start : (p : Bool) → Says p (b < 0) (0 ≤ b) → (q : Bool) → 0 + cond (p && eqb ((0 - b) % 2) 0) l 0 ≡ l * ((0 - b) / 2) + s * cond q (min 0 b / 2) 0
    start true f q = let a = f.yes tt in absurd (omega arith)
    start false f true = none l s (min 0 b / 2) ((0 - b) / 2) (omega arith) (omega arith)
    start false f false = none l s 0 ((0 - b) / 2) refl (omega arith)

pub walked_is : (l s b t : ℕ) → half_spin_points l s b (suc t) ≡ l * large_count b t + s * small_count b t
unfolding half_spin_points
walked_is l s b zero = first l s b
walked_is l s b (suc t) = ap (λ (x : ℕ). x + cond (is_large b (suc t)) l (cond (is_small (suc t)) s 0)) (walked_is l s b t) ∙ next l s b t

-- ---- one half spin more, by what it earns
module _ (l s b i : ℕ) where
  pub next_large : is_large b i ≡ true → half_spin_points l s b i + l ≡ half_spin_points l s b (suc i)
  unfolding half_spin_points
  next_large e = ap (λ (x : Bool). half_spin_points l s b i + cond x l (cond (is_small i) s 0)) (sym e)

  pub next_small : is_large b i ≡ false → is_small i ≡ true → half_spin_points l s b i + s ≡ half_spin_points l s b (suc i)
  unfolding half_spin_points
  next_small e f =
      ap (λ (x : Bool). half_spin_points l s b i + cond x s 0) (sym f) ∙ ap (λ (x : Bool). half_spin_points l s b i + cond x l (cond (is_small i) s 0)) (sym e)

  pub next_none : is_large b i ≡ false → is_small i ≡ false → half_spin_points l s b i ≡ half_spin_points l s b (suc i)
  unfolding half_spin_points
  next_none e f =
      (let z : half_spin_points l s b i ≡ half_spin_points l s b i + 0 = omega arith in z)
      ∙ ap (λ (x : Bool). half_spin_points l s b i + cond x s 0) (sym f)
      ∙ ap (λ (x : Bool). half_spin_points l s b i + cond x l (cond (is_small i) s 0)) (sym e)

-- each half spin earns at most the large bonus
pub points_most : (l s b i : ℕ) → s ≤ l → half_spin_points l s b i ≤ l * i
unfolding half_spin_points
points_most l s b zero h = omega arith
points_most l s b (suc i) h = let z = points_most l s b i h in let e = earned (is_large b i) (is_small i) in omega (arith, z, e)
  where
    earned : (p q : Bool) → cond p l (cond q s 0) ≤ l
    earned true q = omega arith
    earned false true = h
    earned false false = omega arith

-- ---- the two tests, as the code asks them
pub large_not : (b i : ℕ) → ((b < i) × (eqb ((i - b) % 2) 0 ≡ false)) ⊎ (i ≤ b) → is_large b i ≡ false
large_not b i (inl x) = rw (lt-ltb b i x.0, x.1)
large_not b i (inr h) = rw (le-ltb b i h)

pub small_not : (i : ℕ) → ((1 < i) × (eqb (i % 2) 0 ≡ false)) ⊎ (i ≤ 1) → is_small i ≡ false
small_not i (inl x) = rw (lt-ltb 1 i x.0, x.1)
small_not i (inr h) = rw (le-ltb 1 i h)

-- ---- document 02, §4: the sums behind a half spin t by the two counts, "and at the end, for each duration"
pub record ByCounts (b t : ℕ) : Type 0 where
  pub legacy : (sums_before b (suc t)).legacy.0 ≡ 1100 * large_count b t + 100 * small_count b t
  pub standardised : (sums_before b (suc t)).standardised.0 ≡ 50 * large_count b t + 10 * small_count b t

pub by_counts : (b t : ℕ) → ByCounts b t
by_counts b t = record { legacy = walked_is 1100 100 b t; standardised = walked_is 50 10 b t }

pub record SpunByCounts (d : Float) (b t : ℕ) : Type 0 where
  pub legacy : legacy_of d ≡ 1100 * large_count b t + 100 * small_count b t
  pub standardised : standardised_of d ≡ 50 * large_count b t + 10 * small_count b t

pub spun_by_counts : (d : Float) → SpunByCounts d (required_half_spins d + 3) (total_half_spins d)
unfolding legacy_of standardised_of
spun_by_counts d =
    let b = required_half_spins d + 3 in
    let t = total_half_spins d in
    record { legacy = walked_is 1100 100 b t; standardised = walked_is 50 10 b t }
