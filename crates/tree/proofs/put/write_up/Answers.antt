use Prim.Native.Nat.{◌+◌, ◌-◌}
use mathlib.Core.Path.{refl, sym, ap, ◌∙◌, subst}
use native.Mathlib.Omega.{arith}
use native.Mathlib.Nat.{sub-zero}
use Rattle.rules.specs.Refusals.{good}
use Rattle.tree.specs.Put.{Clear}
use Rattle.tree.proofs.Rises.{writing_start, writing_next, writing_end, halves, clear_climbs}
use Rattle.tree.proofs.put.write_up.Goals as goal

pub loop-init : goal.loop-init
loop-init c =
    rw sub-zero (writing_start _ c.args.levels c.args.e c.v.inside.entry (subst (Clear _ _ _) (sym c.v.view_is) c.requires.1) c.v.invariant c.requires.0)

pub halves_joined-sum-requires : goal.halves_joined-sum-requires
halves_joined-sum-requires c =
    let h = halves c.loop.invariant (c.args.levels - (c.loop.counter + 1)) (omega arith) _ c.store.ensures _ _ refl refl in
    let room = c.loop.invariant.room in
    let same = c.store.auto.b in
    (omega (arith, room, same), h.0, h.1)

pub loop-preserved : goal.loop-preserved
loop-preserved c =
    writing_next c.loop.invariant (c.args.levels - (c.loop.counter + 1)) (omega arith) _ c.store.ensures _ _ refl refl _ c.halves_joined-sum.ensures

pub returns : goal.returns
returns c =
    let written = c.store-2.ensures ∙ writing_end c.loop.invariant (omega arith) in
    rw (← c.v.view_is) (
      written,
      clear_climbs c.args.levels c.args.b.now c.args.e c.v.inside.entry c.v.invariant (subst (Clear _ _ _) (sym c.v.view_is) c.requires.1) ∙ ap good (sym written),
    )
