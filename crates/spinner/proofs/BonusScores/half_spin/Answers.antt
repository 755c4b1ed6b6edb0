-- The tests are the definition's, the large bonus first, so that each way adds what its half spin earns.
use mathlib.Core.Path.{◌≡◌, ap, ◌∙◌}
use mathlib.Core.Bool.{true, false}
use mathlib.Core.Logic.{inl, inr}
use Prim.Native.Nat.{ℕ, suc, ◌+◌, ◌*◌, ◌≤◌}
use native.Mathlib.Omega.{arith}
use borrow.Author.Rules.{rules}
use borrow.Author.Tests.{lt-ltb}
use Rattle.spinner.specs.Bonus.{is_large, is_small, half_spin_points, sums_before}
use Rattle.spinner.specs.declared.BonusScores.{BonusScores}
use Rattle.spinner.proofs.Walks.{next_large, next_small, next_none, points_most, large_not, small_not}
use Rattle.std.proofs.lemmas.Bool.{ne_eqb}
use Rattle.spinner.proofs.BonusScores.half_spin.Goals as goal
use Rattle.spinner.proofs.BonusScores.half_spin.Goals.{Joined-else-before-i}

-- both sums leave room
module _ (b i : ℕ) (x : BonusScores) (e : x ≡ sums_before b i) where
  legacy_most : x.legacy.0 ≤ 1100 * i
  legacy_most = let h = points_most 1100 100 b i (omega arith) in let z = ap (λ (y : BonusScores). y.legacy.0) e in omega (arith, h, z)

  standardised_most : x.standardised.0 ≤ 50 * i
  standardised_most = let h = points_most 50 10 b i (omega arith) in let z = ap (λ (y : BonusScores). y.standardised.0) e in omega (arith, h, z)

  -- a law of one sum at both bonuses
  more : (l s : ℕ) → half_spin_points 1100 100 b i + l ≡ half_spin_points 1100 100 b (suc i) → half_spin_points 50 10 b i + s ≡ half_spin_points 50 10 b (suc i)
      → record { legacy = record { 0 = x.legacy.0 + l }; standardised = record { 0 = x.standardised.0 + s } } ≡ sums_before b (suc i)
  more l s p q =
      ap (λ (y : BonusScores). record { legacy = record { 0 = y.legacy.0 + l }; standardised = record { 0 = y.standardised.0 + s } }) e
      ∙ ap (λ (z : ℕ). record { legacy = record { 0 = z }; standardised = record { 0 = half_spin_points 50 10 b i + s } }) p
      ∙ ap (λ (z : ℕ). record { legacy = record { 0 = half_spin_points 1100 100 b (suc i) }; standardised = record { 0 = z } }) q

  same : half_spin_points 1100 100 b i ≡ half_spin_points 1100 100 b (suc i) → half_spin_points 50 10 b i ≡ half_spin_points 50 10 b (suc i) → x ≡ sums_before b (suc i)
  same p q =
      e
      ∙ ap (λ (z : ℕ). record { legacy = record { 0 = z }; standardised = record { 0 = half_spin_points 50 10 b i } }) p
      ∙ ap (λ (z : ℕ). record { legacy = record { 0 = half_spin_points 1100 100 b (suc i) }; standardised = record { 0 = z } }) q

-- where the large bonus is not earned
not_large : (c : Joined-else-before-i) → is_large c.args.before c.args.i ≡ false
not_large c = large_not c.args.before c.args.i (elim c.else-before-i.branch [
  | goal.else-before-i-via-then-before-i+else-i-before-eq0 w ↦ inl (w.if-before-i.true, ne_eqb _ 0 w.if-i-before-eq0.false)
  | goal.else-before-i-via-else-before-i w ↦ inr w.if-before-i.false
])

pub overflow_add-result : goal.overflow_add-result
overflow_add-result c =
    let h = legacy_most c.args.before c.args.i c.args.self c.requires.0 in
    search rules

pub overflow_add-result-then-i-before-eq0 : goal.overflow_add-result-then-i-before-eq0
overflow_add-result-then-i-before-eq0 c =
    let h = standardised_most c.args.before c.args.i c.args.self c.requires.0 in
    search rules

pub returns-then-i-before-eq0 : goal.returns-then-i-before-eq0
returns-then-i-before-eq0 c =
    let large : is_large c.args.before c.args.i ≡ true = rw (lt-ltb c.args.before c.args.i c.if-before-i.true, c.if-i-before-eq0.true) in
    more c.args.before c.args.i c.args.self c.requires.0 1100 50 (next_large 1100 100 c.args.before c.args.i large) (next_large 50 10 c.args.before c.args.i large)

pub overflow_add-result-then-i-eq0 : goal.overflow_add-result-then-i-eq0
overflow_add-result-then-i-eq0 c =
    let h = legacy_most c.args.before c.args.i c.args.self c.requires.0 in
    search rules

pub overflow_add-result-then-i-eq0-2 : goal.overflow_add-result-then-i-eq0-2
overflow_add-result-then-i-eq0-2 c =
    let h = standardised_most c.args.before c.args.i c.args.self c.requires.0 in
    search rules

pub returns-then-i-eq0 : goal.returns-then-i-eq0
returns-then-i-eq0 c =
    let large = not_large (goal.at.returns-then-i-eq0 c).Joined-else-before-i in
    let small : is_small c.args.i ≡ true = rw (lt-ltb 1 c.args.i c.if-i-gt1.true, c.if-i-eq0.true) in
    more c.args.before c.args.i c.args.self c.requires.0 100 10 (next_small 1100 100 c.args.before c.args.i large small) (next_small 50 10 c.args.before c.args.i large small)

pub returns : goal.returns
returns c =
    let large = not_large (goal.at.returns c).Joined-else-before-i in
    let small = small_not c.args.i (elim c.else-i-gt1.branch [
      | goal.else-i-gt1-via-then-i-gt1+else-i-eq0 w ↦ inl (w.if-i-gt1.true, ne_eqb _ 0 w.if-i-eq0.false)
      | goal.else-i-gt1-via-else-i-gt1 w ↦ inr w.if-i-gt1.false
    ]) in
    same c.args.before c.args.i c.args.self c.requires.0 (next_none 1100 100 c.args.before c.args.i large small) (next_none 50 10 c.args.before c.args.i large small)
