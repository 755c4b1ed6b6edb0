use mathlib.Core.Path.{◌≡◌, ap, ◌∙◌}
use native.Mathlib.Omega.{arith}
use Rattle.rules.proofs.Laws.{so}
use Rattle.rules.specs.Refusals.{good, refused, refusal_at}
use Rattle.scoring.proofs.Playing.{stopped, playing_cut, marked_refused, marked_more, playing_end}
use Rattle.scoring.proofs.plays.check_any.Goals as goal

pub returns-in_err-play : goal.returns-in_err-play
returns-in_err-play c =
    let n = c.in_err-play.field-0.0.rule in
    let told : c.play_at.result ≡ refused n = grind arith in
    let up : c.from_residual.result ≡ refused (refusal_at n c.loop-at.at-counter) = grind arith in
    λ i k. up ∙ stopped _ (playing_cut (c.loop-at.invariant i k) c.loop-at-test.true n (so told c.play_at.ensures))

pub returns-then-exceeds_map : goal.returns-then-exceeds_map
returns-then-exceeds_map c =
    let play : c.play_at.result ≡ good c.in_ok-play.play = grind arith in
    λ i k.
    ap refused c.at.ensures
    ∙ stopped _ (marked_refused (c.loop-at.invariant i k) c.loop-at-test.true _ (so play c.play_at.ensures) c.marks-marks.ensures _ _ c.mark_before-i.ensures.0 _ c.attributes_from.ensures (so c.exceeds_map.ensures c.if-exceeds_map.true))

pub loop-at-preserved : goal.loop-at-preserved
loop-at-preserved c =
    let play : c.play_at.result ≡ good c.in_ok-play.play = grind arith in
    λ i k.
    marked_more (c.loop-at.invariant i k) c.loop-at-test.true _ (so play c.play_at.ensures) c.marks-marks.ensures _ _ c.mark_before-i.ensures.0 _ c.attributes_from.ensures (so c.exceeds_map.ensures c.if-exceeds_map.false) _ c.after_play-wanted.ensures

pub returns : goal.returns
returns c = λ i k. playing_end (c.loop-at.invariant i k) c.loop-at-test.false

-- behind the last play that there can be
pub returns-else-exceeds_map : goal.returns-else-exceeds_map
returns-else-exceeds_map c =
    let play : c.play_at.result ≡ good c.in_ok-play.play = grind arith in
    λ i k.
    playing_end
    (marked_more (c.loop-at.invariant i k) c.loop-at-test.true _ (so play c.play_at.ensures) c.marks-marks.ensures _ _ c.mark_before-i.ensures.0 _ c.attributes_from.ensures (so c.exceeds_map.ensures c.if-exceeds_map.false) _ c.after_play-wanted.ensures)
    (omega arith)
