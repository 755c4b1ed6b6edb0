-- Document 02, §1: what a call with factors answers: the answer of the same call without them, then 14, then the values. One definition for the call
-- on a map file and for the read of a board.
use Rattle.std.specs.Prelude.{Bool, not, ◌||◌, Float}
use Rattle.numbers.specs.Floats.{whole}
use Rattle.rules.specs.Refusals.{OrRefusal, good, refused, refusal_at, pick, FACTOR}
use Rattle.play_state.specs.declared.Play.{Play}
use Rattle.records.specs.Fields.{within}
use Rattle.play_score.specs.declared.PlayScore.{PlayScore}
use Rattle.slider_breaks.specs.SliderBreaks.{estimated_breaks}
use Rattle.slider_breaks.specs.declared.calculator.SliderFactors.{SliderFactors}
use Rattle.slider_breaks.specs.declared.calculator.SliderBreaks.{SliderBreaks}

-- all that the call without factors gives, and the two estimates
pub record BreaksScore : Type 0 where
  pub score : PlayScore
  pub slider_breaks : SliderBreaks

-- "the two top-weighted factors, each from 0 to 10": by value, so that -0.0 passes; what is not finite does not
unfoldable pub is_factor : Float → Bool
is_factor = within (whole 0) (whole 10)

unfoldable pub factors_bad : SliderFactors → Bool
factors_bad f = not (is_factor f.aim) || not (is_factor f.speed)

abbrev pub breaks_score : Play → SliderFactors → PlayScore → BreaksScore
breaks_score p f s = record { score = s; slider_breaks = estimated_breaks p s.attributes.difficulty.max_combo s.estimates.effective f }

-- "14: a factor out of range or not finite; checked last", with offset 0
abbrev pub with_breaks : Play → SliderFactors → OrRefusal PlayScore → OrRefusal BreaksScore
with_breaks p f (refused r) = refused r
with_breaks p f (good s) = pick (factors_bad f) (refused (refusal_at FACTOR 0)) (good (breaks_score p f s))
