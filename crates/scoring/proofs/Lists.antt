-- The scores of plays one after the other: those of a list, then those of what follows it.
use Rattle.rules.specs.declared.refusal.Rule.{Rule}
use mathlib.Core.Path.{◌≡◌, refl, ap, ◌∙◌}
use mathlib.Core.List.{List, [], ◌∷◌, ◌++◌}
use Prim.Native.Nat.{ℕ, zero, suc, ◌-◌}
use native.Mathlib.Omega.{arith}
use lib.Dec.{eqb-suc-zero}
use Rattle.rules.specs.Refusals.{good, refused, ◌>>=◌, OrRefusal, refusal_at, pick, at_offset}
use Rattle.map_file.specs.File.{Map}
use Rattle.play_state.specs.declared.Play.{Play}
use Rattle.scoring.specs.Scores.{play_score_on, play_scores}
use Rattle.scoring.specs.View.{wanted_of, wanted_after}
use Rattle.play_score.specs.declared.PlayScore.{PlayScore}
use Rattle.scoring.specs.declared.plays.Wanted.TheVariants as wanted

abbrev Several : Type 0
Several = OrRefusal (List PlayScore)

-- the scores of both parts, the first refusal standing
abbrev joined : Several → Several → Several
joined a b = do
  ss ← a
  ts ← b
  good (ss ++ ts)

joined-none : (b : Several) → b ≡ joined (good []) b
unfolding ◌>>=◌
joined-none (refused r) = refl
joined-none (good ts) = refl

-- a score in front of others
abbrev in_front : OrRefusal PlayScore → Several → Several
in_front a b = do
  s ← a
  ss ← b
  good (s ∷ ss)

joined-one : (a : OrRefusal PlayScore) (b c : Several) → in_front a (joined b c) ≡ joined (in_front a b) c
unfolding ◌>>=◌
joined-one (refused r) b c = refl
joined-one (good s) (refused r) c = refl
joined-one (good s) (good ss) (refused r) = refl
joined-one (good s) (good ss) (good ts) = refl

pub scores_append : (m : Map) (ps qs : List (ℕ × Play)) → play_scores m (ps ++ qs) ≡ joined (play_scores m ps) (play_scores m qs)
unfolding play_scores
scores_append m [] qs = joined-none (play_scores m qs)
scores_append m (p ∷ ps) qs =
    let first = at_offset p.0 (play_score_on m p.1) in
    ap (in_front first) (scores_append m ps qs) ∙ joined-one first (play_scores m ps) (play_scores m qs)

pub scores_one : (m : Map) (at : ℕ) (p : Play) → play_scores m ((at, p) ∷ []) ≡ (at_offset at (play_score_on m p) >>= λ s. good (s ∷ []))
unfolding play_scores ◌>>=◌
scores_one m at p = refl

pub scores_none : (m : Map) → play_scores m [] ≡ good []
unfolding play_scores
scores_none m = refl

-- one more play, good or refused
module _ (m : Map) (at : ℕ) (p : Play) (ps : List (ℕ × Play)) (ss : List PlayScore) (e : play_scores m ps ≡ good ss) where
  pub scores_more : (s : PlayScore) → play_score_on m p ≡ good s → play_scores m (ps ++ ((at, p) ∷ [])) ≡ good (ss ++ (s ∷ []))
  unfolding ◌>>=◌
  scores_more s q = rw (scores_append m ps ((at, p) ∷ []), e, scores_one m at p, q)

  pub scores_refused : (n : Rule) → play_score_on m p ≡ refused n → play_scores m (ps ++ ((at, p) ∷ [])) ≡ refused (refusal_at n at)
  unfolding ◌>>=◌
  scores_refused n q = rw (scores_append m ps ((at, p) ∷ []), e, scores_one m at p, q)

pub refused_more : (m : Map) (ps qs : List (ℕ × Play)) (n : Rule) (at : ℕ) → play_scores m ps ≡ refused (refusal_at n at) → play_scores m (ps ++ qs) ≡ refused (refusal_at n at)
unfolding ◌>>=◌
refused_more m ps qs n at e = rw (scores_append m ps qs, e)

-- ---- the wanted play
pub wanted_more : (i : ℕ) (ss : List PlayScore) (s : PlayScore) → wanted_after (wanted_of i ss) s ≡ wanted_of i (ss ++ (s ∷ []))
unfolding wanted_of wanted_after
wanted_more zero [] s = refl
wanted_more (suc i) [] s =
    let e : suc i - 1 ≡ i = omega arith in
    ap (λ b. pick b (wanted.Is s) (wanted.Ahead (suc i - 1))) (eqb-suc-zero i) ∙ ap wanted.Ahead e
wanted_more zero (t ∷ ss) s = refl
wanted_more (suc i) (t ∷ ss) s = wanted_more i ss s
