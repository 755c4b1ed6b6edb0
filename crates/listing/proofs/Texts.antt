-- From what the check of a file's plays answered to the text of the file.
use Rattle.rules.specs.declared.refusal.Refusal.{Refusal}
use Rattle.rules.specs.Refusals.{good, refused, ◌>>=◌, OrRefusal}
use mathlib.Core.Path.{◌≡◌, refl, sym, ap, ◌∙◌}
use mathlib.Core.List.{List, ◌++◌}
use Prim.Native.Nat.{ℕ, ◌+◌, ◌≤◌, min}
use native.Mathlib.Omega.{arith}
use mathlib.Core.Bool.{Bool, true, false}
use borrow.Author.Tests.{ltb-true, ltb-false, le-ltb}
use lib.Dec.{ltb}
use lib.ListN.{length}
use Rattle.text.specs.Space.{behind}
use Rattle.text.specs.Pages.{put}
use Rattle.text.specs.declared.page.Page.{Page}
use Rattle.text.proofs.Space.{length_put}
use Rattle.lines.specs.Lines.{map_line, refused_line}
use Rattle.map_file.specs.File.{file_of}
use Rattle.simulator.specs.Attributes.{score_attributes_at}
use Rattle.simulator.specs.declared.attributes.ScoreAttributes.{ScoreAttributes}
use Rattle.map_reader.specs.declared.map.Map.{Map}
use Rattle.scoring.specs.Scores.{Scores, scores_of, map_score_of}
use Rattle.scoring.specs.View.{PlaysOf, are}
use Rattle.scoring.proofs.Answers.{plays_refused, map_scored}
use Rattle.listing.specs.Listing.{GoodFile, plays_text, text_of, file_text, if_fits, listed_of}
use Rattle.rules.proofs.Laws.{never}

map_text : (x : OrRefusal Scores) (a : ScoreAttributes) → good a ≡ map_score_of x → map_line a ++ plays_text x ≡ text_of x
unfolding ◌>>=◌
map_text (refused r) a e = never (cc)
map_text (good s) a e =
    let is : a ≡ score_attributes_at s.map (length s.map.objects) = cc in ap (λ (b : ScoreAttributes). map_line b ++ plays_text (good s)) is

-- all objects are passed
module _ (s : List ℕ) where
  pub text_refused : (r : Refusal) → PlaysOf s 18446744073709551615 (refused r) → refused_line r ≡ file_text s
  unfolding file_text
  text_refused r k = sym (ap text_of (plays_refused k))

  module _ (m : Map) (a : ScoreAttributes) (k : PlaysOf s 18446744073709551615 (good (m, a))) where
    pub text_good : map_line a ++ plays_text (scores_of (file_of s)) ≡ file_text s
    unfolding file_text
    text_good = map_text (scores_of (file_of s)) a (map_scored m a k)

    pub file_good : GoodFile s m
    file_good = go k
      where
        go : PlaysOf s 18446744073709551615 (good (m, a)) → GoodFile s m
        go (are map scores e same attributes) = record { p = 18446744073709551615; map = map; scores = scores; good = e }

-- a text ends within its space
pub put_inside : (p : Page) (t : List ℕ) → (put p t).at ≤ length (put p t).space.now
unfolding behind
put_inside p t = let size = length_put p.space.now p.at t in omega (arith, size)

-- a text that ends within the space ends at its length
pub listed_is : (l t : List ℕ) → if_fits (behind l 0 t) (length l) ≡ listed_of t (length l)
unfolding behind
listed_is l t = go (ltb (length t) (length l)) refl
  where
    go : (b : Bool) → ltb (length t) (length l) ≡ b → if_fits (min (length l) (0 + length t)) (length l) ≡ listed_of t (length l)
    go true e =
        let h = ltb-true (length t) (length l) e in
        let m : min (length l) (0 + length t) ≡ length t = omega (arith, h) in
        ap (λ (n : ℕ). if_fits n (length l)) m
    go false e =
        let h = ltb-false (length t) (length l) e in
        let m : min (length l) (0 + length t) ≡ length l = omega (arith, h) in
        ap (λ (n : ℕ). if_fits n (length l)) m ∙ simp (le-ltb (length l) (length l) (omega arith), e)
