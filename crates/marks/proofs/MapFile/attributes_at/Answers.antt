-- The run from the state comes to the play's passed objects, which make the map complete.
use mathlib.Core.Path.{sym, ap, ◌∙◌, subst}
use Prim.Native.Nat.{ℕ}
use native.Mathlib.Omega.{arith}
use Rattle.map_reader.specs.Attributes.{Complete}
use Rattle.map_reader.specs.declared.objects.Objects.{Objects}
use Rattle.marks.specs.Marks.{state_or, with_passed}
use Rattle.marks.proofs.Marked.{few_objects, behind_small, complete_there}
use Rattle.std.specs.Coded.{le_prop}
use Rattle.std.proofs.Math.Logic.{∥∥₁_elim}
use Rattle.marks.proofs.Props.{small_prop, complete_prop}
use Rattle.marks.proofs.MapFile.attributes_at.Goals as goal

pub state_at-passed-requires : goal.state_at-passed-requires
state_at-passed-requires g c =
    let read = c.args.self.now.read in
    let h = c.requires.passed in
    let e = c.passed_of.ensures in (
      ∥∥₁_elim read (small_prop _ _) (λ w. behind_small w g.S.SpinnerStep.walks c.requires.n c.args.before (omega (arith, h, e)) c.requires.is),
      ∥∥₁_elim read le_prop (λ w. (let most = few_objects w in omega (arith, e, most))),
    )

pub attributes_of-requires : goal.attributes_of-requires
attributes_of-requires g c =
    let s = c.args.self.now.bytes.now in
    let same = c.state_at-passed.ensures ∙ ap (λ (n : ℕ). state_or g.S.SpinnerStep.walks s c.args.before n) c.passed_of.ensures in
    ∥∥₁_elim c.args.self.now.read (complete_prop (with_passed c.args.self.now.map c.state_at-passed.result)) (λ w.
    subst (λ (x : Objects). Complete (with_passed c.args.self.now.map x)) (sym same) (complete_there w.is g.S.SpinnerStep.walks c.args.play c.args.before c.requires)
    )
