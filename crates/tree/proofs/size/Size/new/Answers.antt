-- Half of C is the largest power of two below the count, where the count is above 1.
use Prim.Native.Nat.{ℕ, ◌+◌, ◌-◌, ◌*◌, ◌^◌, ◌≤◌, ◌<◌}
use mathlib.Core.Path.{◌≡◌}
use native.Mathlib.Omega.{arith}
use native.Mathlib.Nat.{pow-suc}
use native.Mathlib.Numerals.{add-one}
use lib.Pow.{pow_mono}
use Rattle.std.proofs.lemmas.Nat.{one_shl}
use Rattle.rules.specs.Limits.{max_levels, max_objects}
use Rattle.tree.specs.Size.{levels_of}
use Rattle.tree.proofs.Levels.{below_13, levels_are}
use Rattle.tree.proofs.size.Size.new.Goals as goal

pub returns-then-count-le1 : goal.returns-then-count-le1
returns-then-count-le1 c = let h = c.if-count-le1.true in (levels_are c.args.count 0 (omega arith) h (λ k lt. absurd (omega (arith, lt))), h)

-- one level above that of the largest power of two below n
module _ (n l : ℕ) (few : n ≤ max_objects) (more : 1 < n) (le : 2 ^ l ≤ n - 1) (lt : n - 1 < 2 * 2 ^ l) where
  high : l + 1 ≤ max_levels
  high = let h = below_13 l (omega (arith, le, few, more)) in omega (arith, h)

  holds : n ≤ 2 ^ (l + 1)
  holds = let p = pow-suc 2 l in let e = add-one l in rw e (omega (arith, p, lt))

  least : l + 1 ≡ levels_of n
  least = levels_are n (l + 1) high holds (λ k low. let m = pow_mono {i = k} {j = l} (omega (arith, low)) in omega (arith, m, le, more))

pub invariant_of-result-2 : goal.invariant_of-result-2
invariant_of-result-2 c =
    let few = high c.args.count c.ilog2.result c.requires c.if-count-le1.false c.ilog2.ensures.power_le c.ilog2.ensures.next_power_gt in
    (few, one_shl (c.ilog2.result + 1) 64 (omega (arith, few)))

pub returns : goal.returns
returns c = (least c.args.count c.ilog2.result c.requires c.if-count-le1.false c.ilog2.ensures.power_le c.ilog2.ensures.next_power_gt, holds c.args.count c.ilog2.result c.requires c.if-count-le1.false c.ilog2.ensures.power_le c.ilog2.ensures.next_power_gt)
