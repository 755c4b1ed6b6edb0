use Rattle.std.proofs.Common.{◌≡◌, ◌∙◌, ◌+◌, ◌-◌, ◌≤◌, ◌^◌, arith, rules}
use native.Mathlib.Nat.{sub-zero}
use Rattle.rules.specs.Limits.{max_objects}
use Rattle.rules.specs.Refusals.{refused}
use Rattle.rules.proofs.Laws.{so}
use Rattle.tree.proofs.Firsts.{walking_start, x_small, x_inside, after_next, after_end, at_last}
use Rattle.tree.proofs.first.sum_of_first.Goals as goal

pub loop-init : goal.loop-init
loop-init c =
    let few : 2 ^ c.args.size ≤ max_objects = rw c.cap.ensures.0 at c.cap.ensures.2 in
    rw (c.levels-levels.ensures.0, c.cap.ensures.0, c.new.ensures, sub-zero) (walking_start c.args.b.now c.args.size c.args.p few c.requires.0 c.requires.1)

pub turn-requires : goal.turn-requires
turn-requires c = (x_small c.loop.invariant (omega arith), x_inside c.loop.invariant (omega arith))

pub loop-preserved : goal.loop-preserved
loop-preserved c =
    let one : c.levels-levels.result + 1 - c.loop.counter - 1 ≡ c.levels-levels.result + 1 - (c.loop.counter + 1) = omega arith in
    rw one at (after_next c.loop.invariant (omega arith) _ (so c.in_ok-t.was c.turn.ensures))

pub returns-in_err-t : goal.returns-in_err-t
returns-in_err-t c =
    let up : c.from_residual.result ≡ refused c.in_err-t.field-0.0 = search rules in
    up ∙ rw (c.levels-levels.ensures.0, c.new.ensures) at (after_end c.loop.invariant (omega arith) _ (so c.in_err-t.was c.turn.ensures))

pub returns : goal.returns
returns c = rw (c.levels-levels.ensures.0, c.new.ensures) at (at_last c.loop.invariant (omega arith))
