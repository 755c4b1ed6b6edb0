use mathlib.Core.Path.{refl, ap, ◌∙◌}
use native.Mathlib.Omega.{arith}
use lib.ListN.{get_or}
use Rattle.entries.specs.Entry.{words_of, summed}
use Rattle.entries.specs.declared.entry.Entry.{Entry}
use Rattle.entries.proofs.ByWord.{word_of, summed_is}
use Rattle.entries.proofs.Limits.{sum_fits}
use Rattle.entries.proofs.entry.Entry.sum.Goals as goal

pub overflow_add-words : goal.overflow_add-words
overflow_add-words c =
    let fits = sum_fits c.args.self c.b.inside.entry c.requires c.b.invariant c.loop-i.i c.loop-i-test.true in
    let left = c.loop-i.invariant.left c.loop-i.i (omega arith) in
    rw (c.from-more.ensures, left) (omega (arith, fits))

pub returns : goal.returns
returns c =
    summed_is c.from.result c.args.self c.b.inside.entry _ _ (λ i lt.
    ap (λ (e : Entry). get_or (words_of e) i 0) c.from.ensures ∙ word_of c.loop-i.words i lt ∙ c.loop-i.invariant.done i (omega (arith, lt)) ∙ rw c.from-more.ensures refl)
    ∙ ap (λ (e : Entry). summed c.args.self e c.args.combos_before c.args.first_no_slider) c.b.view_is
