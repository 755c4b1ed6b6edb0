-- Header and breaks, then the objects: what was read is the map of the file.
use mathlib.Core.Path.{◌≡◌, sym, ◌∙◌, subst}
use native.Mathlib.Omega.{arith}
use borrow.Author.Rules.{rules}
use Rattle.rules.specs.Refusals.{refused, refusal_at}
use Rattle.map_reader.specs.Map.{MapReadOf}
use Rattle.map_reader.proofs.Breaks.{head_reads, breaks_inside}
use Rattle.map_reader.proofs.Mapping.{read_is, read_refused}
use Rattle.map_reader.proofs.map.read_passed.Goals as goal

pub returns-in_err-settings : goal.returns-in_err-settings
returns-in_err-settings c =
    let up : c.from_residual.result ≡ refused (refusal_at c.in_err-settings.field-0.0 0) = search rules in
    subst (MapReadOf c.args.s.now c.args.passed) (sym up) (read_refused c.args.s.now _ c.args.passed (sym c.in_err-settings.was ∙ c.read_head.ensures))

pub read_objects-requires : goal.read_objects-requires
read_objects-requires c = let inside = breaks_inside (head_reads c.args.s.now _ (sym c.in_ok-settings.was ∙ c.read_head.ensures)) in omega (arith, inside)

pub returns : goal.returns
returns c =
    let s = c.args.s.now in
    subst (MapReadOf s c.args.passed) (sym c.read_objects.ensures)
    (read_is s c.in_ok-settings.settings _ c.args.passed (sym c.in_ok-settings.was ∙ c.read_head.ensures) c.count_breaks.ensures)
