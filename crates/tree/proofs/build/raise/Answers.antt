use Prim.Native.Nat.{◌-◌}
use mathlib.Core.Path.{refl, sym, ap, ◌∙◌, subst}
use native.Mathlib.Omega.{arith}
use Rattle.entries.specs.Words.{put_entry}
use Rattle.tree.specs.Build.{raised, Raises}
use Rattle.tree.proofs.Builds.{raise_next, raised_end}
use Rattle.tree.proofs.build.raise.Goals as goal

pub halves_joined-joined-requires : goal.halves_joined-joined-requires
halves_joined-joined-requires c =
    let n = raise_next _ _ _ (c.loop-e.e - 1) (omega arith) refl refl c.loop-e.invariant.2 in
    let same = c.loop-e.invariant.3 in
    (omega (arith, same), n.0, n.1)

pub loop-e-preserved : goal.loop-e-preserved
loop-e-preserved c =
    let n = raise_next _ _ _ (c.loop-e.e - 1) (omega arith) refl refl c.loop-e.invariant.2 in
    let now = c.store.ensures ∙ ap (put_entry c.loop-e.b (c.loop-e.e - 1)) c.halves_joined-joined.ensures in (
      omega arith,
      ap (raised (c.loop-e.e - 1 - 1)) now ∙ n.3 ∙ c.loop-e.invariant.1,
      subst (Raises (c.loop-e.e - 1 - 1)) (sym now) n.2,
      c.store.auto.b ∙ c.loop-e.invariant.3,
    )

pub returns : goal.returns
returns c = sym (raised_end _ _ (omega arith)) ∙ c.loop-e.invariant.1
