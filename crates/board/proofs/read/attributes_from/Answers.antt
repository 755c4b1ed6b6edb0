-- The drain and the multiplier are those of the definition; the words within the limits leave room in the attributes.
use mathlib.Core.Path.{sym, ap, ap₂, ◌∙◌, subst}
use lib.IntN.{ℤ}
use Rattle.rules.specs.Limits.{max_objects}
use Rattle.ruleset.specs.Stars.{multiplier_of}
use Rattle.simulator.specs.Limits.{Bounded, Counted}
use Rattle.entries.specs.Scores.{state_in, counts_in}
use Rattle.simulator.specs.declared.legacy_score.NestedScorePerObject.{NestedScorePerObject}
use Rattle.entries.proofs.Sound.{state_bounded, counts_bounded}
use Rattle.board.specs.Read.{attributes_from}
use Rattle.board.proofs.Readings as readings
use Rattle.board.proofs.read.attributes_from.Goals as goal

pub score_attributes_with-requires : goal.score_attributes_with-requires
score_attributes_with-requires c = (
  c.args.map.in_range,
  subst Bounded (sym (c.state.ensures ∙ ap state_in (sym c.sum.view_is))) (state_bounded c.sum.inside.entry c.sum.invariant),
  subst (Counted max_objects) (sym c.into.ensures) (counts_bounded c.sum.inside.entry c.sum.invariant),
)

pub returns : goal.returns
unfolding attributes_from
returns c =
    let counts = c.into.ensures ∙ ap counts_in c.sum.view_is in
    let m = ap₂ (λ (n : NestedScorePerObject) (d : ℤ). multiplier_of c.args.map.settings n.object_count d) counts c.drain_from-drain.ensures in
    c.score_attributes_with.ensures ∙ readings.same_attributes c.state.ensures counts m
