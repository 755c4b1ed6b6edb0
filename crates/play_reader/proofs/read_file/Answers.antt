use mathlib.Core.Path.{◌≡◌, sym, ◌∙◌, subst}
use native.Mathlib.Omega.{arith}
use borrow.Author.Rules.{rules}
use Rattle.rules.specs.Refusals.{refused, good, refusal_at}
use Rattle.map_reader.specs.Map.{MapReadOf}
use Rattle.play_reader.specs.Plays.{MapFileOf, all, refuses}
use Rattle.play_reader.proofs.Playing.{map_refused, map_out, read_start, read_more, read_stop, read_end}
use Rattle.play_reader.proofs.read_file.Goals as goal

pub returns-in_err-map : goal.returns-in_err-map
returns-in_err-map c =
    let up : c.from_residual.result ≡ refused c.in_err-map.field-0.0 = search rules in
    subst (MapFileOf c.args.s.now c.args.passed) (sym up) (map_refused (subst (MapReadOf c.args.s.now c.args.passed) c.in_err-map.was c.read_passed.ensures))

pub loop-at-init : goal.loop-at-init
loop-at-init c = read_start (map_out (subst (MapReadOf c.args.s.now c.args.passed) c.in_ok-map.was c.read_passed.ensures))

pub returns-in_err-map_err : goal.returns-in_err-map_err
returns-in_err-map_err c =
    let n = c.in_err-map_err.field-0.0.rule in
    let told : c.play_at.result ≡ refused n = grind arith in
    let up : c.from_residual-in_err-map_err.result ≡ refused (refusal_at n c.loop-at.at-counter) = grind arith in
    subst (MapFileOf c.args.s.now c.args.passed) (sym up) (refuses (read_stop c.loop-at.invariant c.loop-at-test.true _ (sym told ∙ c.play_at.ensures)))

pub loop-at-preserved : goal.loop-at-preserved
loop-at-preserved c =
    let told : c.play_at.result ≡ good c.in_ok-map_err.field-0 = grind arith in
    read_more c.loop-at.invariant c.loop-at-test.true _ (sym told ∙ c.play_at.ensures)

pub returns-in_ok-map : goal.returns-in_ok-map
returns-in_ok-map c = let k = c.loop-at.invariant in all k.map k.file k.reached (read_end k c.loop-at-test.false)

pub returns-in_ok-map_err : goal.returns-in_ok-map_err
returns-in_ok-map_err c =
    let told : c.play_at.result ≡ good c.in_ok-map_err.field-0 = grind arith in
    let k = read_more c.loop-at.invariant c.loop-at-test.true _ (sym told ∙ c.play_at.ensures) in
    all k.map k.file k.reached (read_end k (omega arith))
