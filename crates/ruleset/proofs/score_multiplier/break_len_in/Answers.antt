-- The break records are read place by place, and their length is what `len_before` ensures.
use Rattle.std.proofs.Common.{rules, arith, sym, ◌+◌, ◌*◌}
use Rattle.std.proofs.lemmas.Iterator.{YieldsList-from_map, YieldsList-from_range}
use Rattle.ruleset.specs.Drain.{break_at}
use Rattle.ruleset.proofs.Breaks.{length_at, records_given}
use Rattle.ruleset.proofs.score_multiplier.break_len_in.Goals as goal

pub returns : goal.returns
returns c =
    let places = YieldsList-from_range 0 c.args.breaks.count c.args.breaks.count c.map.ensures.source (omega arith) in
    length_at c.args.last_start c.len_before.ensures (sym (records_given c.args.s.now 0 c.args.breaks.count)) (YieldsList-from_map _ (λ i. break_at c.args.s.now (14 + 18 * i)) places c.map.ensures.closure (λ x r q k. search rules))
