use Rattle.std.proofs.lemmas.Nat.{one_shl}
use Rattle.rules.proofs.Laws.{so}
use Rattle.tree.proofs.Jumps.{summing_start, summing_next, summed, sums_fit, inside}
use Rattle.tree.proofs.first.quick_sum_of_first.Goals as goal

pub loop-rest-init : goal.loop-rest-init
loop-rest-init c = rw (c.cap-done.ensures.0, c.new-sum.ensures) (summing_start c.args.b.now c.args.size c.args.p c.requires.0)

pub add-requires : goal.add-requires
add-requires c = (
  inside c.loop-rest.invariant c.ilog2-level.result c.ilog2-level.ensures.power_le c.ilog2-level.ensures.next_power_gt c.requires.0 c.requires.1,
  sums_fit c.loop-rest.invariant c.cap-done.ensures.1,
)

pub loop-rest-preserved : goal.loop-rest-preserved
loop-rest-preserved c =
    summing_next c.loop-rest.invariant c.ilog2-level.result c.ilog2-level.ensures.power_le c.ilog2-level.ensures.next_power_gt c.cap-done.ensures.1 _
    (one_shl c.ilog2-level.result 64 c.ilog2-level.ensures.bound) _
    (so c.in-Ok.is c.add.ensures)

pub returns-then-within : goal.returns-then-within
returns-then-within c = summed c.loop-rest.invariant c.loop-rest-test.false (so c.within.ensures c.if-within.true)
