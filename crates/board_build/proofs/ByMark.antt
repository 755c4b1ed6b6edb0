-- An object read by its mark is the one of the mark's number, and where no mark is read, that number is of no object.
use Prim.Native.Nat.{ℕ}
use mathlib.Core.Path.{◌≡◌, refl, ap}
use mathlib.Core.Bool.{Bool, true, false}
use mathlib.Core.List.{List}
use lib.Dec.{eqb}
use Rattle.std.proofs.Common.{w8, Fits, get_or}
use Rattle.numbers.specs.Words.{word_at}
use Rattle.rules.specs.Refusals.{good, refused, pick, MARK}
use Rattle.rules.specs.declared.refusal.Rule.{Rule}
use Rattle.rules.proofs.Laws.{never}
use Rattle.records.specs.Marks.{CI, SL, SP, mark_in, word_of}
use Rattle.records.specs.declared.mark.Mark.{Mark}
use Rattle.records.specs.declared.mark.Mark.TheVariants as mark
use Rattle.records.specs.Records.{object_of, record_read, circle_of, slider_of, spinner_of}
use Rattle.records.proofs.Marks.{mark_word, mark_other}

module _ (r : List ℕ) where
  pub marked : (m : Mark) → mark_in r ≡ good m → record_read (object_of r (word_at r 0 2)) ≡ record_read (object_of r (word_of m))
  marked m e = ap (λ (w : ℕ). record_read (object_of r w)) (mark_word r m e)

  module _ (n : Rule) (bytes : (i : ℕ) → Fits w8 (get_or r i 0)) (e : mark_in r ≡ refused n) where
    other : (m : Mark) → eqb (word_at r 0 2) (word_of m) ≡ false
    other m = mark_other r m bytes (λ (d : mark_in r ≡ good m). never (cc))

    pub unmarked : record_read (object_of r (word_at r 0 2)) ≡ refused MARK
    unfolding object_of
    unmarked = go _ _ _ (other mark.Circle) (other mark.Slider) (other mark.Spinner)
      where
        go : (c s p : Bool) → c ≡ false → s ≡ false → p ≡ false → record_read (pick c (circle_of r) (pick s (slider_of r) (pick p (spinner_of r) (refused MARK)))) ≡ refused MARK
        go true s p a b d = never (cc)
        go false true p a b d = never (cc)
        go false false true a b d = never (cc)
        go false false false a b d = refl
