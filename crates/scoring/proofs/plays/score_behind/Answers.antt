-- The attributes are those of the play's passed objects, known or worked out anew.
use mathlib.Core.Path.{sym, ◌∙◌}
use Rattle.marks.proofs.Marked.{anew_is}
use Rattle.scoring.proofs.Playing.{same_passed}
use Rattle.scoring.proofs.plays.score_behind.Goals as goal

pub returns-then-passes_as_many : goal.returns-then-passes_as_many
returns-then-passes_as_many c =
    let as_many = sym c.passes_as_many.ensures ∙ c.if-passes_as_many.true in
    λ k. c.score_on.ensures ∙ same_passed c.args.file.now.bytes.now c.args.passed c.args.file.now.map c.args.a k c.args.play as_many

pub returns : goal.returns
returns c = λ k. c.score_anew.ensures ∙ anew_is k.map c.args.play
