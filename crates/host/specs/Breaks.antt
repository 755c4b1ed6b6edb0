-- The values of a play with its slider breaks as a host gets them.
use Rattle.std.specs.Prelude.{eqb}
use Rattle.rules.specs.Refusals.{Checked, OrRefusal, good, refused, refusal_at, pick, FACTOR}
use Rattle.play_state.specs.declared.Play.{Play}
use Rattle.slider_breaks.specs.SliderBreaks.{no_breaks, estimated_breaks}
use Rattle.slider_breaks.specs.Given.{BreaksScore, factors_bad}
use Rattle.slider_breaks.specs.declared.calculator.SliderFactors.{SliderFactors}
use Rattle.slider_breaks.specs.declared.calculator.SliderBreaks.{SliderBreaks}
use Rattle.host.specs.Answer.{play_answer_in, play_answer_refused}
use Rattle.host.specs.declared.answer.PlayAnswer.{PlayAnswer}
use Rattle.host.specs.declared.breaks.BreaksAnswer.{BreaksAnswer}

-- the answer of the call without factors, and the slider breaks
abbrev pub with_slider_breaks : PlayAnswer → SliderBreaks → BreaksAnswer
with_slider_breaks a b = record {
  status = a.status;
  offset = a.offset;
  attributes = a.attributes;
  estimates = a.estimates;
  slider_breaks = b;
}

-- of a play that is given with factors beside a file or a board; a refusal has none of the values
abbrev pub breaks_answer_of : OrRefusal BreaksScore → BreaksAnswer
breaks_answer_of (good s) = with_slider_breaks (play_answer_in s.score) s.slider_breaks
breaks_answer_of (refused r) = with_slider_breaks (play_answer_refused r) no_breaks

-- ---- the same from what a host gets without factors (proofs/BreaksAdded)
-- a status of 0 is that of a good call
unfoldable pub added_to : Play → SliderFactors → PlayAnswer → Checked SliderBreaks
added_to p f a =
    pick (eqb a.status 0)
    (pick (factors_bad f) (refused FACTOR) (good (estimated_breaks p a.attributes.max_combo a.estimates.effective f)))
    (good no_breaks)

abbrev pub answer_with : PlayAnswer → Checked SliderBreaks → BreaksAnswer
answer_with a (refused n) = with_slider_breaks (play_answer_refused (refusal_at n 0)) no_breaks
answer_with a (good b) = with_slider_breaks a b
