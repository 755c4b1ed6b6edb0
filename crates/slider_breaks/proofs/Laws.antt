-- Factors add one number to those of the call without them.
use Prim.Native.Nat.{ℕ}
use mathlib.Core.Bool.{Bool, true, false}
use mathlib.Core.Logic.{◌≢◌}
use mathlib.Core.Path.{◌≡◌, refl, sym, ap, subst}
use Rattle.rules.specs.Refusals.{pick, FACTOR, OrRefusal, good, refused, refusal_at}
use Rattle.rules.specs.declared.refusal.Refusal.{Refusal}
use Rattle.rules.specs.declared.refusal.Rule.{Rule}
use Rattle.rules.proofs.Laws.{never}
use Rattle.play_state.specs.declared.Play.{Play}
use Rattle.play_score.specs.declared.PlayScore.{PlayScore}
use Rattle.slider_breaks.specs.Given.{BreaksScore, factors_bad, breaks_score, with_breaks}
use Rattle.slider_breaks.specs.declared.calculator.SliderFactors.{SliderFactors}

-- any other refusal is that of the call without factors
pub other_number : (p : Play) (f : SliderFactors) (g : OrRefusal PlayScore) (n : Rule) (at : ℕ) → n ≢ FACTOR → with_breaks p f g ≡ refused (refusal_at n at) → g ≡ refused (refusal_at n at)
other_number p f (refused r) n at other e = let same : r ≡ refusal_at n at = cc in rw same
other_number p f (good s) n at other e = go (factors_bad f) e
  where
    go : (t : Bool) → pick t (refused (refusal_at FACTOR 0)) (good (breaks_score p f s)) ≡ refused (refusal_at n at) → good s ≡ refused (refusal_at n at)
    go true e = let told : refusal_at FACTOR 0 ≡ refusal_at n at = cc in absurd (other (ap (λ (r : Refusal). r.rule) (sym told)))
    go false e = never (cc)

-- values have those of the call without factors, and good factors
pub record Values (p : Play) (f : SliderFactors) (g : OrRefusal PlayScore) (b : BreaksScore) : Type 0 where
  pub score : g ≡ good b.score
  pub factors : factors_bad f ≡ false
  pub scored : b ≡ breaks_score p f b.score

pub values_of : (p : Play) (f : SliderFactors) (g : OrRefusal PlayScore) (b : BreaksScore) → with_breaks p f g ≡ good b → Values p f g b
values_of p f (refused r) b e = never (cc)
values_of p f (good s) b e = go (factors_bad f) refl e
  where
    go : (t : Bool) → factors_bad f ≡ t → pick t (refused (refusal_at FACTOR 0)) (good (breaks_score p f s)) ≡ good b → Values p f (good s) b
    go true q e = never (cc)
    go false q e =
        let same : breaks_score p f s ≡ b = cc in
        subst (Values p f (good s)) same (record { score = refl; factors = q; scored = refl })
