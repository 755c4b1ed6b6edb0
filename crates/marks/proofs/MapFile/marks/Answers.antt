use mathlib.Core.Path.{ap, ◌∙◌}
use native.Mathlib.Omega.{arith}
use Rattle.map_reader.specs.Objects.{objects_at}
use Rattle.marks.proofs.Marked.{few_objects, marking_start, marking_end, marking_stands, marking_small, marking_next}
use Rattle.std.specs.Coded.{le_prop}
use Rattle.std.proofs.Math.Logic.{∥∥₁_elim}
use Rattle.marks.proofs.Props.{small_prop, marking_prop}
use Rattle.marks.proofs.MapFile.marks.Goals as goal

pub loop-i-init : goal.loop-i-init
loop-i-init c =
    marking_start c.args.self.now.bytes.now c.args.self.now.map _ _ c.stride_of-stride.ensures (c.new-state.ensures ∙ ap objects_at c.objects_from.ensures)

pub state_at-state-requires : goal.state_at-state-requires
state_at-state-requires c =
    let i = c.loop-i.invariant in
    let read = c.args.self.now.read in (
      ∥∥₁_elim read (small_prop _ _) (λ w. marking_small i w (omega arith)),
      ∥∥₁_elim read le_prop (λ w. (let stands = marking_stands i w (omega arith) in let most = few_objects w in omega (arith, stands, most))),
    )

pub loop-i-preserved : goal.loop-i-preserved
loop-i-preserved c =
    ∥∥₁_elim c.args.self.now.read (marking_prop _ _ _ _ _ _) (λ w. marking_next c.loop-i.invariant w (omega arith) _ c.state_at-state.ensures)

pub returns : goal.returns
returns c = marking_end c.loop-i.invariant (omega arith)
