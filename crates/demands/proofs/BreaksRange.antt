-- On every accepted play each estimate of slider breaks lies from 0 to the play's 100s: what exceeds its map is refused, so the judgements are at most
-- the passed objects, each of which adds to the max combo. Assumes nothing.
use mathlib.Core.Bool.{Bool, true, false, ◌||◌}
use mathlib.Core.List.{List, [], ◌∷◌}
use mathlib.Core.Path.{◌≡◌, refl, sym, subst}
use Prim.Native.Nat.{ℕ, ◌+◌, ◌≤◌}
use native.Mathlib.Omega.{arith}
use borrow.Author.Tests.{ltb-false}
use lib.Dec.{ltb}
use lib.ListN.{length, take, length-take}
use Rattle.rules.specs.Limits.{max_objects}
use Rattle.rules.specs.Refusals.{Checked, good, refused, ◌>>◌, refuse◌when◌, PLAY_FIELD, PLAY_EXCEEDS, at_0, OrRefusal, ◌>>=◌}
use Rattle.rules.proofs.Laws.{never}
use Rattle.play_state.specs.declared.Play.{Play}
use Rattle.records.specs.Objects.{Object, Kind, circle, slider, spinner}
use Rattle.map_file.specs.File.{Map, file_of}
use Rattle.encoding.specs.Limits.{MapWithin}
use Rattle.ruleset.specs.Stars.{multiplier_at}
use Rattle.simulator.specs.Combo.{gain}
use Rattle.simulator.specs.Hits.{hits_of}
use Rattle.simulator.specs.Walk.{State, fresh, walk, after}
use Rattle.simulator.specs.Nested.{no_object}
use Rattle.simulator.specs.Attributes.{score_attributes_at, score_attributes_of, difficulty_attributes_of}
use Rattle.simulator.specs.declared.attributes.ScoreAttributes.{ScoreAttributes}
use Rattle.simulator.proofs.Few.{count_is}
use Rattle.simulator.proofs.Sums.{walk-gain}
use Rattle.miss_calc.specs.Counts.{total_hits}
use Rattle.estimates.specs.Effective.{estimates_of}
use Rattle.play_score.specs.PlayRules.{mods_bad, hits_exceed, exceeds, play_score, given_score}
use Rattle.play_score.specs.declared.PlayScore.{PlayScore}
use Rattle.play_score.proofs.Exceeding.{score_of}
use Rattle.slider_breaks.specs.Given.{BreaksScore, factors_bad, breaks_score, with_breaks}
use Rattle.slider_breaks.specs.declared.calculator.SliderFactors.{SliderFactors}
use Rattle.slider_breaks.proofs.Laws.{Values, values_of}
use Rattle.slider_breaks.proofs.Range.{BreaksInRange, breaks_range}
use Rattle.scoring.specs.Scores.{Scores, scores_of, given_play_of}
use Rattle.scoring.proofs.Answers.{values_within}
use Rattle.demands.proofs.Exactness.{combo_most}
use Rattle.demands.proofs.Refusals.{effective_of_counts}

-- ---- each object adds to the combo
gains : (k : Kind) → 1 ≤ gain k
gains circle = omega arith
gains (slider is) = omega arith
gains (spinner d) = omega arith

all_gain : (n : ℕ) (st : State) (os : List Object) → st.combo + length os ≤ (after n st os).combo
unfolding after
all_gain n st [] = omega arith
all_gain n st (o ∷ os) =
    let rest = all_gain n (walk n st (hits_of o.kind)) os in
    let own = walk-gain n st o.kind in
    let some = gains o.kind in
    omega (arith, rest, own, some)

-- ---- a play that is scored does not exceed its map
record Fits (p : Play) (a : ScoreAttributes) (s : PlayScore) : Type 0 where
  judged : total_hits p.hitresults ≤ a.object_count
  combo : p.max_combo ≤ a.difficulty.max_combo
  is : s ≡ score_of p a

fits_of : (p : Play) (a : ScoreAttributes) (s : PlayScore) → given_score p a ≡ good s → Fits p a s
unfolding given_score play_score exceeds ◌>>◌ refuse◌when◌
fits_of p a s e =
    go (mods_bad p.mods) (ltb a.object_count (total_hits p.hitresults)) (ltb a.difficulty.max_combo p.max_combo)
    (hits_exceed p.hitresults p.origin a.difficulty) refl refl e
  where
    go : (t u v w : Bool) → ltb a.object_count (total_hits p.hitresults) ≡ u → ltb a.difficulty.max_combo p.max_combo ≡ v
        → ((refuse PLAY_FIELD when t) >> ((refuse PLAY_EXCEEDS when (u || v || w)) >> good (score_of p a))) ≡ good s → Fits p a s
    go true u v w q r e = never (cc)
    go false true v w q r e = never (cc)
    go false false true w q r e = never (cc)
    go false false false true q r e = never (cc)
    go false false false false q r e = record { judged = ltb-false _ _ q; combo = ltb-false _ _ r; is = cc }

-- ---- the range
module _ (m : Map) (w : MapWithin m) (p : Play) where
  abbrev a : ScoreAttributes
  a = score_attributes_at m p.passed_objects

  few : a.object_count ≤ max_objects
  unfolding score_attributes_at score_attributes_of
  few =
      let counted = count_is no_object (take p.passed_objects m.objects) in
      let taken = length-take p.passed_objects m.objects in
      omega (arith, counted, taken, w.few_objects)

  no_less : a.object_count ≤ a.difficulty.max_combo
  unfolding score_attributes_at score_attributes_of difficulty_attributes_of
  no_less =
      let counted = count_is no_object (take p.passed_objects m.objects) in
      let gained = all_gain (multiplier_at m p.passed_objects) fresh (take p.passed_objects m.objects) in
      omega (arith, counted, gained)

  scored_range : (f : SliderFactors) (s : PlayScore) → factors_bad f ≡ false → given_score p a ≡ good s → BreaksInRange (breaks_score p f s).slider_breaks p.hitresults.n100
  scored_range f s good-factors e =
      let fit = fits_of p a s e in
      let judged = fit.judged in
      let few_objects = few in
      let no-less-combo = no_less in
      let most = combo_most m p.passed_objects w in
      let range = effective_of_counts p a.difficulty (omega (arith, judged, few_objects)) in
      subst (λ (x : PlayScore). BreaksInRange (breaks_score p f x).slider_breaks p.hitresults.n100) (sym fit.is)
      (breaks_range p a.difficulty.max_combo (estimates_of p a.difficulty).effective f (omega (arith, judged, few_objects)) fit.combo
      (λ (some : 1 ≤ p.hitresults.n100). omega (arith, some, judged, no-less-combo)) (omega (arith, most)) range.0 range.1 good-factors)

-- of a play that is given with factors beside a file
pub breaks_of_a_play : (s : List ℕ) (p : Play) (f : SliderFactors) (b : BreaksScore) → with_breaks p f (given_play_of p (scores_of (file_of s))) ≡ good b
    → BreaksInRange b.slider_breaks p.hitresults.n100
unfolding ◌>>=◌
breaks_of_a_play s p f b e = go (scores_of (file_of s)) refl v.score
  where
    v : Values p f (given_play_of p (scores_of (file_of s))) b
    v = values_of p f (given_play_of p (scores_of (file_of s))) b e

    in_range : (sc : Scores) → scores_of (file_of s) ≡ good sc → (x : Checked PlayScore) → given_score p (score_attributes_at sc.map p.passed_objects) ≡ x
        → at_0 x ≡ good b.score → BreaksInRange b.slider_breaks p.hitresults.n100
    in_range sc q (refused n) h k = never (cc)
    in_range sc q (good t) h k =
        let same : t ≡ b.score = cc in
        subst (λ (z : BreaksScore). BreaksInRange z.slider_breaks p.hitresults.n100) (sym v.scored)
        (subst (λ (z : PlayScore). BreaksInRange (breaks_score p f z).slider_breaks p.hitresults.n100) same
        (scored_range sc.map (values_within s sc q) p f t v.factors h))

    go : (x : OrRefusal Scores) → scores_of (file_of s) ≡ x → given_play_of p x ≡ good b.score → BreaksInRange b.slider_breaks p.hitresults.n100
    go (refused r) q k = never (cc)
    go (good sc) q k = in_range sc q _ refl k
