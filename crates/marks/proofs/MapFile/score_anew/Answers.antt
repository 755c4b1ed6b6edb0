-- Before the first object nothing is passed yet.
use mathlib.Core.Path.{sym, ap, ◌∙◌, subst}
use mathlib.Core.Bool.{true}
use Rattle.map_reader.specs.Objects.{objects_at}
use Rattle.marks.specs.Marks.{StateBefore}
use Rattle.marks.proofs.Marked.{first_before}
use Rattle.marks.proofs.MapFile.score_anew.Goals as goal

pub attributes_at-requires : goal.attributes_at-requires
attributes_at-requires c =
    let s = c.args.self.now.bytes.now in
    let m = c.args.self.now.map in
    let first = c.new-first.ensures ∙ ap objects_at c.objects_from.ensures in
    subst (StateBefore true s m c.args.play) (sym first) (first_before true s m c.args.play)
