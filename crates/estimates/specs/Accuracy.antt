-- Document 01, "Estimates": "Accuracy is `OsuHitResults::accuracy`", each operation rounded once, in the Rust's order.
use Rattle.std.specs.Prelude.{ℕ, ◌+◌, ◌*◌, ◌^◌, min, cond, Float}
use Rattle.std.specs.Float.Ieee.{neg, lt, le}
use Rattle.numbers.specs.Floats.{whole, part, ◌⊕◌, ◌⊖◌, ◌⊗◌, ◌⊘◌}
use Rattle.miss_calc.specs.Counts.{total_hits}
use Rattle.play_state.specs.declared.OsuHitResults.{OsuHitResults}
use Rattle.play_state.specs.declared.OsuScoreOrigin.{OsuScoreOrigin}
use Rattle.play_state.specs.declared.OsuScoreOrigin.TheVariants.{Stable, WithSliderAcc, WithoutSliderAcc}
use Rattle.simulator.specs.declared.attributes.OsuDifficultyAttributes.{OsuDifficultyAttributes}

unfoldable pub abs_of : Float → Float
abs_of x = cond (lt x (whole 0)) (neg x) x

-- `denominator.eq(0.0)` of `float_ext`: within the machine epsilon, 2 ^ -52
unfoldable pub quotient_of : Float → Float → Float
quotient_of n d = cond (le (abs_of (d ⊖ whole 0)) (whole 1 ⊘ whole (2 ^ 52))) (whole 0) (n ⊘ d)

-- a 300 counts 6, a 100 counts 2, a 50 counts 1
unfoldable pub weighted : OsuHitResults → Float
weighted h = whole (6 * h.n300 + 2 * h.n100 + h.n50)

unfoldable pub heaviest : OsuHitResults → Float
heaviest h = whole (6 * total_hits h)

abbrev pub large_ticks : OsuDifficultyAttributes → ℕ
large_ticks a = a.n_ticks + a.n_repeats

-- "origin 1 has maxima ticks + repeats and sliders"
unfoldable pub with_slider_acc : OsuHitResults → OsuDifficultyAttributes → Float
with_slider_acc h a = quotient_of
    (weighted h ⊕ (whole (3 * min h.slider_end_hits a.n_sliders) ⊕ part 6 10 ⊗ whole (min h.large_tick_hits (large_ticks a))))
    (heaviest h ⊕ (whole (3 * a.n_sliders) ⊕ part 6 10 ⊗ whole (large_ticks a)))

-- "origin 2 sliders + ticks + repeats (large) and sliders (small)"
unfoldable pub without_slider_acc : OsuHitResults → OsuDifficultyAttributes → Float
without_slider_acc h a = quotient_of
    (weighted h ⊕ (part 6 10 ⊗ whole (min h.large_tick_hits (a.n_sliders + large_ticks a)) ⊕ part 2 10 ⊗ whole (min h.small_tick_hits a.n_sliders)))
    (heaviest h ⊕ (part 6 10 ⊗ whole (a.n_sliders + large_ticks a) ⊕ part 2 10 ⊗ whole a.n_sliders))

unfoldable pub accuracy_of : OsuHitResults → OsuScoreOrigin → OsuDifficultyAttributes → Float
accuracy_of h Stable a = quotient_of (weighted h) (heaviest h)
accuracy_of h WithSliderAcc a = with_slider_acc h a
accuracy_of h WithoutSliderAcc a = without_slider_acc h a
