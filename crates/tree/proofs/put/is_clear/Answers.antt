use Prim.Native.Nat.{ℕ, ◌^◌, ◌≤◌}
use mathlib.Core.Path.{sym, ap, subst, ◌∙◌}
use native.Mathlib.Omega.{arith}
use native.Mathlib.Nat.{sub-zero}
use Rattle.std.proofs.lemmas.Nat.{one_shl}
use Rattle.rules.proofs.Laws.{so}
use Rattle.entries.specs.Words.{entry_at}
use Rattle.entries.proofs.Checks.{passed}
use Rattle.tree.specs.Put.{joined_at, Clear}
use Rattle.tree.proofs.Rises.{Climbing, climbing_start, climbing_next, climbing_end, sum_fits}
use Rattle.tree.proofs.put.is_clear.Goals as goal
use Rattle.tree.proofs.put.is_clear.Goals.{Else-e-levels}

path : (c : Else-e-levels) → 2 ^ c.args.levels ≤ c.args.e
path c = subst (λ (n : ℕ). n ≤ c.args.e) (one_shl c.args.levels 64 (let h = c.if-levels-gt-MAX_LEVELS.false in omega (arith, h))) c.if-e-levels.false

pub loop-init : goal.loop-init
loop-init c =
    rw sub-zero (climbing_start c.args.b.now c.args.levels c.args.e c.v.inside.entry (path (goal.at.loop-init c).Else-e-levels) c.v.invariant c.requires)

pub joined_at-sum-requires : goal.joined_at-sum-requires
joined_at-sum-requires c = sum_fits c.loop.invariant.rising c.if-levels-gt-MAX_LEVELS.false

pub loop-preserved : goal.loop-preserved
loop-preserved c =
    let p = passed _ _ (so c.in-Ok.is c.checked.ensures) in
    subst (Climbing _ _ _ _ _ _) (sym (c.joined_at-sum.ensures ∙ ap (joined_at c.loop.at c.loop.sum) p.same)) (climbing_next c.loop.invariant _ (omega arith) c.if-levels-gt-MAX_LEVELS.false c.load.result
    (c.load.ensures ∙ ap (entry_at _) c.beside.ensures) p.within)

pub returns : goal.returns
returns c =
    λ h. subst (Clear _ _ _) c.v.view_is (climbing_end c.loop.invariant (omega arith) c.if-levels-gt-MAX_LEVELS.false (path (goal.at.returns c).Else-e-levels) (so c.within.ensures h))
