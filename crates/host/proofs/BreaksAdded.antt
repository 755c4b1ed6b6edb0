-- What a call with factors answers from a host's answer is what it answers from the engine's, since no rule has the number of a good call, 0.
use native.Mathlib.Omega.{arith}
use mathlib.Core.Bool.{Bool, true, false}
use mathlib.Core.Path.{◌≡◌, refl}
use borrow.Author.Tests.{ne_eqb}
use Rattle.rules.specs.Refusals.{good, refused, pick, number_of, FACTOR, OrRefusal, refusal_at}
use Rattle.rules.proofs.Numbers.{number_above_0}
use Rattle.play_state.specs.declared.Play.{Play}
use Rattle.play_score.specs.declared.PlayScore.{PlayScore}
use Rattle.slider_breaks.specs.SliderBreaks.{estimated_breaks}
use Rattle.slider_breaks.specs.Given.{factors_bad, breaks_score, with_breaks}
use Rattle.slider_breaks.specs.declared.calculator.SliderFactors.{SliderFactors}
use Rattle.host.specs.Answer.{play_answer_in, given_answer_of}
use Rattle.host.specs.Breaks.{breaks_answer_of, added_to, answer_with}

pub added_is : (p : Play) (f : SliderFactors) (g : OrRefusal PlayScore) → answer_with (given_answer_of g) (added_to p f (given_answer_of g)) ≡ breaks_answer_of (with_breaks p f g)
unfolding added_to
added_is p f (refused r) = simp (ne_eqb (number_of r.rule) 0 (λ e. omega (arith, number_above_0 r.rule, e)))
added_is p f (good s) = go (factors_bad f)
  where
    go : (t : Bool)
        → answer_with (play_answer_in s) (pick t (refused FACTOR) (good (estimated_breaks p s.attributes.difficulty.max_combo s.estimates.effective f)))
        ≡ breaks_answer_of (pick t (refused (refusal_at FACTOR 0)) (good (breaks_score p f s)))
    go true = refl
    go false = refl
