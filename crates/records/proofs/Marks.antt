-- A mark is told by its own number alone, and by nothing shorter.
use mathlib.Core.Path.{◌≡◌, refl, ap, ◌∙◌}
use mathlib.Core.Bool.{Bool, true, false}
use mathlib.Core.List.{List}
use Prim.Native.Nat.{ℕ, ◌≤◌}
use native.Mathlib.Omega.{arith}
use lib.Dec.{eqb, ltb}
use lib.ListN.{length}
use borrow.Author.Tests.{eqb-true, eq-eqb, ne_eqb, ltb-true}
use Rattle.std.proofs.Common.{w8, Fits, get_or}
use Rattle.numbers.specs.Words.{word_at}
use Rattle.numbers.proofs.words.Laws.{word_at_split, word_at_past, word_at_lt}
use Rattle.rules.specs.Refusals.{Checked, good, ◌>>◌, refuse◌when◌, pick, CUT}
use Rattle.rules.proofs.Laws.{never}
use Rattle.records.specs.Marks.{MH, BR, CI, SL, SP, PL, mark_of, mark_in, word_of}
use Rattle.records.specs.declared.mark.Mark.{Mark}
use Rattle.records.specs.declared.mark.Mark.TheVariants as mark

-- one step of the choice
chosen : (b : Bool) (word : ℕ) (m k : Mark) (rest : Checked Mark) → eqb word (word_of m) ≡ b → pick b (good m) rest ≡ good k → (rest ≡ good k → word ≡ word_of k) → word ≡ word_of k
chosen true word m k rest q e next = let same : m ≡ k = cc in eqb-true word (word_of m) q ∙ ap word_of same
chosen false word m k rest q e next = next e

pub word_is : (word : ℕ) (k : Mark) → mark_of word ≡ good k → word ≡ word_of k
word_is w k e =
    chosen (eqb w CI) w mark.Circle k _ refl e (λ e.
    chosen (eqb w SL) w mark.Slider k _ refl e (λ e.
    chosen (eqb w SP) w mark.Spinner k _ refl e (λ e.
    chosen (eqb w MH) w mark.Header k _ refl e (λ e.
    chosen (eqb w BR) w mark.Break k _ refl e (λ e.
    chosen (eqb w PL) w mark.Play k _ refl e (λ e. never (cc)))))))

-- ---- the mark that a list starts with
pub mark_word : (r : List ℕ) (m : Mark) → mark_in r ≡ good m → word_at r 0 2 ≡ word_of m
unfolding mark_in ◌>>◌ refuse◌when◌
mark_word r m e = go (ltb (length r) 2) e
  where
    go : (b : Bool) → ((refuse CUT when b) >> mark_of (word_at r 0 2)) ≡ good m → word_at r 0 2 ≡ word_of m
    go true q = never (cc)
    go false q = word_is (word_at r 0 2) m q

of_word : (m : Mark) → mark_of (word_of m) ≡ good m
of_word mark.Header = refl
of_word mark.Break = refl
of_word mark.Circle = refl
of_word mark.Slider = refl
of_word mark.Spinner = refl
of_word mark.Play = refl

two_bytes : (m : Mark) → 256 ≤ word_of m
two_bytes mark.Header = omega arith
two_bytes mark.Break = omega arith
two_bytes mark.Circle = omega arith
two_bytes mark.Slider = omega arith
two_bytes mark.Spinner = omega arith
two_bytes mark.Play = omega arith

module _ (r : List ℕ) (m : Mark) where
  pub mark_stands : mark_in r ≡ good m → eqb (word_at r 0 2) (word_of m) ≡ true
  mark_stands e = eq-eqb _ _ (mark_word r m e)

  word_stands : ((i : ℕ) → Fits w8 (get_or r i 0)) → word_at r 0 2 ≡ word_of m → mark_in r ≡ good m
  unfolding mark_in ◌>>◌ refuse◌when◌
  word_stands bytes e = go (ltb (length r) 2) refl
    where
      go : (b : Bool) → ltb (length r) 2 ≡ b → ((refuse CUT when b) >> mark_of (word_at r 0 2)) ≡ good m
      go true q =
          let short = word_at_past r 1 1 (omega (arith, ltb-true _ _ q)) in
          let parts = word_at_split r 0 1 1 in
          let low = word_at_lt r 0 1 (λ i. omega (arith, bytes i)) in
          absurd (omega (arith, e, short, parts, low, two_bytes m))
      go false q = ap mark_of e ∙ of_word m

  pub mark_other : ((i : ℕ) → Fits w8 (get_or r i 0)) → (mark_in r ≡ good m → ⊥) → eqb (word_at r 0 2) (word_of m) ≡ false
  mark_other bytes h = ne_eqb _ _ (λ e. h (word_stands bytes e))
