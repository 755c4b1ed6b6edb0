use Rattle.std.proofs.Common.{◌≡◌, ◌+◌, ◌*◌, ◌^◌, ◌<◌, [], ◌∷◌, ◌++◌, refl, sym, ap, ◌∙◌, arith}
use Rattle.std.specs.Iterator.Adapters.{rev_source}
use Rattle.std.specs.Slice.Iter.{iter_rest}
use Rattle.std.proofs.lemmas.List.{append-nil, append_assoc}
use Rattle.numbers.specs.Words.{word_at}
use Rattle.numbers.proofs.words.Reading.{one_below, fits_word}
use Rattle.numbers.proofs.words.whole_word.Goals as goal
use Rattle.numbers.proofs.words.whole_word.Goals.{In-Some}

pub loop-byte-init : goal.loop-byte-init
unfolding word_at
loop-byte-init c =
    let all = ap (λ r. iter_rest (rev_source r)) c.into_iter-byte-iterator.ensures.into_iter_gives ∙ ap iter_rest c.rev-byte-items.ensures.source ∙ c.iter.ensures.rest in
    ([], sym (append-nil _ ∙ all), refl)

-- the byte that is read now goes before those that were
one_more : (c : In-Some) → c.args.s.now ≡ iter_rest (rev_source c.next.new.self) ++ (c.in-Some.field-0.now ∷ c.loop-byte.invariant.0)
one_more c =
    c.loop-byte.invariant.1
    ∙ ap (λ l. l ++ c.loop-byte.invariant.0) c.in-Some.ensures.steps
    ∙ append_assoc (iter_rest (rev_source c.next.new.self)) (c.in-Some.field-0.now ∷ []) c.loop-byte.invariant.0

fits : (c : In-Some) → c.loop-byte.word * 256 + c.in-Some.field-0.now < 2 ^ 64
fits c =
    let below = one_below c.in-Some.field-0.now c.loop-byte.invariant.0 in
    let all = fits_word c.args.s.now (iter_rest (rev_source c.next.new.self)) (c.in-Some.field-0.now ∷ c.loop-byte.invariant.0) (one_more c) c.requires c.type_inv.s in
    omega (arith, c.loop-byte.invariant.2, below, all)

pub overflow_mul-word : goal.overflow_mul-word
overflow_mul-word c = omega (arith, fits (goal.at.overflow_mul-word c).In-Some)

pub overflow_add-word : goal.overflow_add-word
overflow_add-word c = omega (arith, c.from.ensures, c.in-Some.byte-is, fits (goal.at.overflow_add-word c).In-Some)

pub loop-byte-preserved : goal.loop-byte-preserved
loop-byte-preserved c = (
  c.in-Some.field-0.now ∷ c.loop-byte.invariant.0,
  one_more (goal.at.loop-byte-preserved c).In-Some,
  omega (arith, c.from.ensures, c.in-Some.byte-is, c.loop-byte.invariant.2, one_below c.in-Some.field-0.now c.loop-byte.invariant.0),
)
