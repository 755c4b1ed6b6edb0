use mathlib.Core.Path.{◌≡◌, ◌∙◌}
use native.Mathlib.Omega.{arith}
use Rattle.rules.proofs.Laws.{so}
use Rattle.rules.specs.Refusals.{good, refused, refusal_at}
use Rattle.scoring.proofs.Playing.{stopped, on_start, on_refused, on_more, playing_cut, playing_end}
use Rattle.scoring.proofs.plays.check_behind.Goals as goal

pub loop-at-init : goal.loop-at-init
loop-at-init c = λ k. on_start k.map _

pub returns-in_err-play : goal.returns-in_err-play
returns-in_err-play c =
    let k = c.loop-at.invariant c.requires in
    let n = c.in_err-play.field-0.0.rule in
    let told : c.play_at.result ≡ refused n = grind arith in
    let up : c.from_residual.result ≡ refused (refusal_at n c.loop-at.at-counter) = grind arith in
    up ∙ stopped _ (playing_cut k.is c.loop-at-test.true n (so told c.play_at.ensures))

pub check_any-requires : goal.check_any-requires
check_any-requires c = let k = c.loop-at.invariant c.requires in record { i = _; is = k.is }

pub returns-then-needs_marks : goal.returns-then-needs_marks
returns-then-needs_marks c = let k = c.loop-at.invariant c.requires in c.check_any.ensures _ k.is

pub returns-in_err-score : goal.returns-in_err-score
returns-in_err-score c =
    let k = c.loop-at.invariant c.requires in
    let n = c.in_err-score.field-0.0.rule in
    let play : c.play_at.result ≡ good c.in_ok-play.play = grind arith in
    let told : c.score_behind.result ≡ refused n = grind arith in
    let up : c.from_residual-in_err-score.result ≡ refused (refusal_at n c.loop-at.at-counter) = grind arith in
    up ∙ stopped _ (on_refused k c.loop-at-test.true _ (so play c.play_at.ensures) n (so told (c.score_behind.ensures c.requires)))

pub loop-at-preserved : goal.loop-at-preserved
loop-at-preserved c =
    let play : c.play_at.result ≡ good c.in_ok-play.play = grind arith in
    let score : c.score_behind.result ≡ good c.in_ok-score.score = grind arith in
    λ k. on_more (c.loop-at.invariant k) c.loop-at-test.true _ (so play c.play_at.ensures) _ (so score (c.score_behind.ensures k)) _ c.after-wanted.ensures

-- behind the last play that there can be
pub returns-in_ok-score : goal.returns-in_ok-score
returns-in_ok-score c =
    let play : c.play_at.result ≡ good c.in_ok-play.play = grind arith in
    let score : c.score_behind.result ≡ good c.in_ok-score.score = grind arith in
    let k = c.requires in
    let on = on_more (c.loop-at.invariant k) c.loop-at-test.true _ (so play c.play_at.ensures) _ (so score (c.score_behind.ensures k)) _ c.after-wanted.ensures in
    playing_end on.is (omega arith)

pub returns : goal.returns
returns c = let k = c.loop-at.invariant c.requires in playing_end k.is c.loop-at-test.false
