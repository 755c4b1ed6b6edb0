-- The least level, and the search for it.
use Prim.Native.Nat.{ℕ, zero, suc, ◌+◌, ◌-◌, ◌^◌, ◌≤◌, ◌<◌}
use mathlib.Core.Path.{◌≡◌, refl, ◌∙◌, subst}
use mathlib.Core.Bool.{Bool, true, false, cond}
use native.Mathlib.Omega.{arith}
use native.Mathlib.Decide.{dec_le}
use native.Mathlib.Nat.{add-zero, lt_of_not-le, not-le_of_lt}
use native.Mathlib.Numerals.{add-one}
use lib.Dec.{leb}
use lib.Pow.{pow_mono}
use borrow.Author.Tests.{le-leb, lt-leb}
use Rattle.rules.specs.Limits.{max_levels, max_objects}
use Rattle.tree.specs.Size.{levels_of, levels_from}

pub below_13 : (l : ℕ) → 2 ^ l < max_objects → l < max_levels
below_13 l h = lt_of_not-le (λ g. not-le_of_lt h (pow_mono {i = max_levels} g))

-- one level too small: look on
pub look_on : (n l : ℕ) → l < max_levels → 2 ^ l < n → levels_from (max_levels - (l + 1)) n (l + 1) ≡ levels_from (max_levels - l) n l
unfolding levels_from
look_on n l h k = go (max_levels - l) (max_levels - (l + 1)) (omega arith)
  where
    go : (a b : ℕ) → a ≡ suc b → levels_from b n (l + 1) ≡ levels_from a n l
    go a b e = rw (e, lt-leb _ _ k, add-one)

pub look_ends : (n l : ℕ) → n ≤ 2 ^ l → l ≡ levels_from (max_levels - l) n l
unfolding levels_from
look_ends n l h = go (max_levels - l)
  where
    go : (a : ℕ) → l ≡ levels_from a n l
    go zero = refl
    go (suc a) = rw (le-leb _ _ h)

-- looking from level l on finds what looking from 0 does, if all levels below are too small
reached : (n l : ℕ) → l ≤ max_levels → ((k : ℕ) → k < l → 2 ^ k < n) → levels_from (max_levels - l) n l ≡ levels_of n
unfolding levels_of
reached n zero h small = refl
reached n (suc l) h small =
    let step : levels_from (max_levels - suc l) n (suc l) ≡ levels_from (max_levels - l) n l = rw add-one at (look_on n l h (small l (omega arith))) in
    step ∙ reached n l (omega (arith, h)) (λ k lt. small k (omega (arith, lt)))

pub levels_are : (n l : ℕ) → l ≤ max_levels → n ≤ 2 ^ l → ((k : ℕ) → k < l → 2 ^ k < n) → l ≡ levels_of n
levels_are n l h hold small = look_ends n l hold ∙ reached n l h small

-- the levels found hold n places
pub levels_from_lem : (k n l : ℕ) → n ≤ 2 ^ (l + k) → n ≤ 2 ^ levels_from k n l
unfolding levels_from
levels_from_lem zero n l h = subst (λ (m : ℕ). n ≤ 2 ^ m) (add-zero l) h
levels_from_lem (suc k) n l h = go (levels_from_lem k n (suc l) (subst (λ (m : ℕ). n ≤ 2 ^ m) (slide l k) h)) (dec_le n (2 ^ l))
  where
    slide : (l k : ℕ) → l + suc k ≡ suc l + k
    slide l k = omega arith

    go : n ≤ 2 ^ levels_from k n (suc l) → Dec (n ≤ 2 ^ l) → n ≤ 2 ^ cond (leb n (2 ^ l)) l (levels_from k n (suc l))
    go ih (yes g) = rw (le-leb _ _ g) g
    go ih (no g) = rw (lt-leb n (2 ^ l) (omega arith)) ih

pub levels_hold : (n : ℕ) → n ≤ max_objects → n ≤ 2 ^ levels_of n
unfolding levels_of
levels_hold n h = levels_from_lem max_levels n 0 h

levels_upto : (k n l : ℕ) → levels_from k n l ≤ l + k
unfolding levels_from
levels_upto zero n l = omega arith
levels_upto (suc k) n l = go (levels_upto k n (suc l)) (leb n (2 ^ l))
  where
    go : levels_from k n (suc l) ≤ suc l + k → (b : Bool) → cond b l (levels_from k n (suc l)) ≤ l + suc k
    go ih true = omega arith
    go ih false = omega (arith, ih)

pub levels_most : (n : ℕ) → levels_of n ≤ max_levels
unfolding levels_of
levels_most n = levels_upto max_levels n 0
