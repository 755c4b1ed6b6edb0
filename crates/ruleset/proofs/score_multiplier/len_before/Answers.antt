use Rattle.std.proofs.Common.{◌≡◌, of_z, [], ◌∷◌, ◌+ℤ◌, to_z, w64, ap, ◌∙◌, arith}
use Rattle.std.proofs.lemmas.Int.{ints, to_z-of_z}
use Rattle.std.proofs.lemmas.List.{length-append}
use Rattle.ruleset.specs.Drain.{breaks_length}
use Rattle.ruleset.proofs.Signs.{mag_add}
use Rattle.ruleset.proofs.Breaks.{goes_on, stops, ends}
use Rattle.ruleset.proofs.score_multiplier.len_before.Goals as goal

pub loop-period-preserved : goal.loop-period-preserved
loop-period-preserved g c =
    let t = to_z w64 c.loop-period.milliseconds-bits in
    let n = c.length_between-milliseconds.result in
    let e : to_z w64 (of_z w64 (t +ℤ to_z w64 (of_z w64 n))) ≡ t +ℤ n = grind (arith, ints, to_z-of_z) in
    let next = c.in-Some.ensures.goes.on c.loop-period.invariant.1 in
    let more = length-append c.loop-period.yielded (c.in-Some.period ∷ []) in (
      next.0,
      next.1,
      omega (arith, next.2, more, c.loop-period.invariant.2),
      (λ rest. ap (λ z. z +ℤ breaks_length c.args.last_start rest) (e ∙ ap (λ z. t +ℤ z) c.length_between-milliseconds.ensures.0)
          ∙ goes_on c.args.last_start t c.loop-period.yielded c.loop-period.invariant.3 c.in-Some.period rest c.if-period-last_start.true),
      rw e (omega (arith, mag_add t n, more, c.loop-period.invariant.4)),
    )

pub returns-else-period-last_start : goal.returns-else-period-last_start
returns-else-period-last_start g c =
    λ periods all. stops g.I.Iterator.next_gives c.args.last_start _ _ periods _ _ _ _ c.into_iter-period-iterator.ensures.into_iter_gives c.loop-period.invariant.3 c.loop-period.yielded_by all _ c.if-period-last_start.false c.in-Some.ensures.steps

pub returns : goal.returns
returns g c =
    λ periods all. ends g.I.Iterator.next_gives c.args.last_start _ _ periods _ _ _ _ c.into_iter-period-iterator.ensures.into_iter_gives c.loop-period.invariant.3 c.loop-period.yielded_by all c.in-None.ensures.steps
