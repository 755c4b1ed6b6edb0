-- `numbers::words::word_at` is right since the bytes that the end of the input cuts off count as 0: they add nothing. Assumes nothing.
use Rattle.std.proofs.Common.{◌-◌, ◌≤◌, min, length, sym, ap, ◌∙◌, arith}
use Rattle.numbers.specs.Words.{word_at}
use Rattle.numbers.proofs.words.Laws.{word_at_past, word_at-cut}
use Rattle.numbers.proofs.words.Reading.{length_left, left_part, first_part, bounded}
use Rattle.numbers.proofs.words.word_at.Goals as goal

pub returns-then-s-at : goal.returns-then-s-at
returns-then-s-at c = bounded 0 c.args.s.now c.args.at (min c.args.n 8) c.type_inv.s (sym (word_at_past c.args.s.now c.args.at (min c.args.n 8) c.if-s-at.true))

pub returns-then-n-rest : goal.returns-then-n-rest
returns-then-n-rest c =
    let s = c.args.s.now in
    let fits : c.min-n.result ≤ length s - c.args.at = omega (arith, length_left s c.args.at) in
    bounded c.whole_word.result s c.args.at (min c.args.n 8) c.type_inv.s
    (c.whole_word.ensures ∙ first_part s c.args.at c.min-n.result fits ∙ ap (word_at s c.args.at) c.min-n.ensures)

pub returns-else-n-rest : goal.returns-else-n-rest
returns-else-n-rest c =
    let s = c.args.s.now in
    let few : length s - c.args.at ≤ min c.args.n 8 = omega (arith, length_left s c.args.at) in
    bounded c.whole_word-else-n-rest.result s c.args.at (min c.args.n 8) c.type_inv.s
    (c.whole_word-else-n-rest.ensures ∙ left_part s c.args.at
    ∙ sym (word_at-cut s c.args.at (min c.args.n 8) (length s - c.args.at) few (omega arith)))
