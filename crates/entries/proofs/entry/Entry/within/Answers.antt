use mathlib.Core.Path.{refl, sym, ◌∙◌}
use mathlib.Core.Logic.{inl, inr}
use Rattle.entries.specs.Entry.{in_limits}
use Rattle.entries.proofs.Limits.{all_le_end}
use Rattle.entries.proofs.entry.Entry.within.Goals as goal

pub loop-word-init : goal.loop-word-init
unfolding in_limits
loop-word-init c =
    let words = c.iter.ensures.rest ∙ c.from-words.ensures in
    rw (c.into_iter-word-iterator.ensures.into_iter_gives, c.zip-word-items.ensures.first, words, c.zip-word-items.ensures.second.0) (refl, refl)

pub returns : goal.returns
returns c =
    let i = c.loop-word.invariant in
    sym (all_le_end _ _ _ (elim c.in-None.ensures.steps [ inl h ↦ h.1.0 | inr h ↦ i.1 ∙ h.1.0 ])) ∙ i.0
