-- What a host gets, computed: the words of a board at the edges, and the fields of a call with factors by names that stand for themselves, so that none
-- can change places.
use Rattle.rules.specs.Refusals.{good, refused, refusal_at, number_of}
use Rattle.rules.specs.declared.refusal.Rule.{Rule}
use Rattle.std.specs.Prelude.{ℕ, true, ◌≡◌, refl}
use Rattle.std.specs.Float.Ieee.{lt}
use Rattle.numbers.specs.Floats.{whole}
use Rattle.play_state.specs.declared.Play.{Play}
use Rattle.play_score.specs.declared.PlayScore.{PlayScore}
use Rattle.slider_breaks.specs.SliderBreaks.{slider_breaks_of, estimated_breaks}
use Rattle.slider_breaks.specs.Given.{BreaksScore, breaks_score}
use Rattle.slider_breaks.specs.declared.calculator.SliderFactors.{SliderFactors}
use Rattle.host.specs.Answer.{play_answer_in}
use Rattle.host.specs.Status.{board_words}
use Rattle.tree.specs.Size.{levels_of, levels_from}
use Rattle.host.specs.Breaks.{breaks_answer_of}

-- no object, one, 4,097 and the most that a map has; then one more
words_at_the_edges : (board_words 0 ≡ 26) × (board_words 1 ≡ 26) × (board_words 4097 ≡ 212992) × (board_words 8192 ≡ 212992) × (board_words 8193 ≡ 0)
unfolding levels_of levels_from
words_at_the_edges = (refl, refl, refl, refl, refl)

-- the factors of a host are the engine's: each makes the estimate of its name
factors_cross : (p : Play) (f : SliderFactors) (s : PlayScore) → lt (whole 0) s.estimates.effective ≡ true
    → ((breaks_answer_of (good (breaks_score p f s))).slider_breaks.aim ≡ slider_breaks_of p s.attributes.difficulty.max_combo s.estimates.effective f.aim)
    × ((breaks_answer_of (good (breaks_score p f s))).slider_breaks.speed ≡ slider_breaks_of p s.attributes.difficulty.max_combo s.estimates.effective f.speed)
unfolding estimated_breaks
factors_cross p f s h = (simp h, simp h)

-- a refusal keeps its number and its offset
refusal_told : (n : Rule) (at : ℕ) → ((breaks_answer_of (refused (refusal_at n at))).status ≡ number_of n) × ((breaks_answer_of (refused (refusal_at n at))).offset ≡ at)
refusal_told n at = (refl, refl)

-- values have status 0, all of the call without factors, and each estimate in its place
values_told : (x : BreaksScore)
    → ((breaks_answer_of (good x)).status ≡ 0)
    × ((breaks_answer_of (good x)).attributes ≡ (play_answer_in x.score).attributes)
    × ((breaks_answer_of (good x)).estimates ≡ (play_answer_in x.score).estimates)
    × ((breaks_answer_of (good x)).slider_breaks.aim ≡ x.slider_breaks.aim)
    × ((breaks_answer_of (good x)).slider_breaks.speed ≡ x.slider_breaks.speed)
values_told x = (refl, refl, refl, refl, refl)
