-- The pairs are the breaks, and their length is what `len_before` ensures.
use Rattle.std.proofs.Common.{rules, ap, ◌∙◌}
use Rattle.std.specs.Slice.Iter.{chunks_exact_rest, chunks_exact_size}
use Rattle.std.proofs.lemmas.Iterator.{YieldsList-from_map}
use Rattle.std.proofs.lemmas.List.{map-id}
use Rattle.ruleset.specs.Drain.{breaks_of}
use Rattle.ruleset.proofs.Breaks.{length_at, pairs_given}
use Rattle.ruleset.proofs.score_multiplier.break_len.Goals as goal

pub returns : goal.returns
returns c =
    let source = c.map-periods.ensures.source in
    let pairs = pairs_given c.args.breaks.now _ (ap chunks_exact_rest source ∙ c.chunks_exact.ensures.rest) (ap chunks_exact_size source ∙ c.chunks_exact.ensures.size) in
    length_at c.args.last_start c.len_before.ensures (map-id (breaks_of c.args.breaks.now)) (YieldsList-from_map _ (λ b. b) pairs c.map-periods.ensures.closure (λ x r q k. search rules))
