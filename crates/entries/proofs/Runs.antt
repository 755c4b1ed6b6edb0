-- The words of a run of objects: those of two neighbouring runs joined are those of both, and one object's are what the code makes of it.
use Prim.Native.Nat.{ℕ, suc, ◌+◌, ◌*◌, ◌<◌}
use mathlib.Core.Path.{◌≡◌, refl, ap, ap₂, ◌∙◌}
use mathlib.Core.Bool.{Bool, true, false, cond}
use mathlib.Core.List.{List, [], ◌∷◌, ◌++◌}
use native.Mathlib.Omega.{arith}
use lib.ListN.{length, length-append}
use borrow.Author.Tests.{lt-ltb}
use Rattle.records.specs.Objects.{Object, Kind, circle, slider, spinner, repeats, ticks, kind_view, kind_bonus}
use Rattle.spinner.specs.Bonus.{legacy_of, standardised_of}
use Rattle.simulator.specs.Nested.{spinner_score_of}
use Rattle.simulator.specs.Combo.{gain, gain_before, combos_before_of, first_no_slider_of}
use Rattle.simulator.proofs.Sums.{items_count}
use Rattle.entries.specs.Entry.{accuracy_gain, standardised_gain, is_circle, is_slider, is_spinner, repeats_in, ticks_in, spinner_score_in, total, entry_of, none, first_of, summed, joined, own_entry}
use Rattle.entries.specs.declared.entry.Entry.{Entry}
use Rattle.entries.proofs.ByWord.{summed_turned}

-- the joined entry of two in either order: k and n are the factors, c, f and g what the first objects are told from, h what they are
pub joined_at : (l : Bool) (a b : Entry) (k n c f g h : ℕ) → k ≡ cond l a.combo b.combo → n ≡ cond l b.object_count a.object_count
    → c ≡ cond l a.object_count b.object_count → f ≡ cond l a.first_no_slider b.first_no_slider
    → g ≡ cond l b.first_no_slider a.first_no_slider → h ≡ first_of c f g
    → summed a b (a.combos_before + b.combos_before + k * n) h ≡ cond l (joined a b) (joined b a)
unfolding joined
joined_at true a b k n c f g h ek en ec ef eg eh = rw (ek, en, eh, ec, ef, eg) refl
joined_at false a b k n c f g h ek en ec ef eg eh =
    let before : a.combos_before + b.combos_before + k * n ≡ b.combos_before + a.combos_before + b.combo * a.object_count = rw (ek, en) (omega arith) in
    let first : h ≡ first_of b.object_count b.first_no_slider a.first_no_slider = rw (eh, ec, ef, eg) refl in
    summed_turned a b _ _ ∙ ap₂ (summed b a) before first

-- ---- two runs
total-append : (v : Kind → ℕ) (xs ys : List Object) → total v (xs ++ ys) ≡ total v xs + total v ys
unfolding total
total-append v [] ys = omega arith
total-append v (x ∷ xs) ys = let e = total-append v xs ys in omega (arith, e)

-- each object meets the combo that was there before
before_more : (c : ℕ) (os : List Object) → combos_before_of c os ≡ combos_before_of 0 os + c * length os
before_more c [] = omega arith
before_more c (o ∷ os) =
    let a = before_more (c + gain o.kind) os in
    let b = before_more (0 + gain o.kind) os in
    step (gain_before o.kind) (gain o.kind) (combos_before_of 0 os) (combos_before_of (c + gain o.kind) os) (combos_before_of (0 + gain o.kind) os) (length os) a b
  where
    step : (g h s x y n : ℕ) → x ≡ s + (c + h) * n → y ≡ s + (0 + h) * n → c + g + x ≡ 0 + g + y + c * suc n
    step g h s x y n a b = omega (arith, a, b)

before_from : (c : ℕ) (xs ys : List Object) → combos_before_of c (xs ++ ys) ≡ combos_before_of c xs + combos_before_of 0 ys + (c + total gain xs) * length ys
unfolding total
before_from c [] ys = let e = before_more c ys in let z : c + 0 ≡ c = omega arith in rw z (omega (arith, e))
before_from c (x ∷ xs) ys =
    let g = gain x.kind in
    let e = before_from (c + g) xs ys in
    let z : c + g + total gain xs ≡ c + (g + total gain xs) = omega arith in
    let f = rw z at e in
    omega (arith, f)

before_append : (xs ys : List Object) → combos_before_of 0 (xs ++ ys) ≡ combos_before_of 0 xs + combos_before_of 0 ys + total gain xs * length ys
before_append xs ys = let z : 0 + total gain xs ≡ total gain xs = omega arith in before_from 0 xs ys ∙ ap (λ (n : ℕ). combos_before_of 0 xs + combos_before_of 0 ys + n * length ys) z

first_append : (xs ys : List Object) → first_no_slider_of (xs ++ ys) ≡ first_of (length xs) (first_no_slider_of xs) (first_no_slider_of ys)
first_append [] ys = refl
first_append (x ∷ xs) ys = let h : 0 < suc (length xs) = omega arith in simp (lt-ltb 0 (suc (length xs)) h)

pub entry_append : (xs ys : List Object) → entry_of (xs ++ ys) ≡ joined (entry_of xs) (entry_of ys)
unfolding entry_of joined
entry_append xs ys = λ i. record {
  object_count = length-append xs ys i;
  combo = total-append gain xs ys i;
  combos_before = before_append xs ys i;
  first_no_slider = first_append xs ys i;
  accuracy_score = total-append accuracy_gain xs ys i;
  legacy_bonus_score = total-append kind_bonus xs ys i;
  standardised_bonus_score = total-append standardised_gain xs ys i;
  n_circles = total-append is_circle xs ys i;
  n_sliders = total-append is_slider xs ys i;
  n_spinners = total-append is_spinner xs ys i;
  n_repeats = total-append repeats_in xs ys i;
  n_ticks = total-append ticks_in xs ys i;
  spinner_score = total-append spinner_score_in xs ys i;
}

-- ---- no object, and one
pub entry_none : entry_of [] ≡ none
unfolding entry_of total
entry_none = refl

same_sum : (a : ℕ) → a ≡ a + 0
same_sum a = omega arith

pub entry_own : (o : Object) → own_entry (kind_view o.kind) ≡ entry_of (o ∷ [])
unfolding entry_of total
entry_own o = go o.kind refl
  where
    go : (k : Kind) → o.kind ≡ k → own_entry (kind_view o.kind) ≡ entry_of (o ∷ [])
    go circle e = rw e refl
    go (slider is) e =
        let n = items_count is in
        let combo : repeats is + ticks is + 2 ≡ 1 + (length is + 1) + 0 = omega (arith, n) in
        let before : repeats is + ticks is + 2 ≡ 0 + (1 + (length is + 1)) + 0 = omega (arith, n) in
        rw e
        (λ i. record {
          object_count = 1;
          combo = combo i;
          combos_before = before i;
          first_no_slider = 0;
          accuracy_score = same_sum ((repeats is + 2) * 30 + ticks is * 10 + 300) i;
          legacy_bonus_score = 0;
          standardised_bonus_score = 0;
          n_circles = 0;
          n_sliders = 1;
          n_spinners = 0;
          n_repeats = same_sum (repeats is) i;
          n_ticks = same_sum (ticks is) i;
          spinner_score = 0;
        })
    go (spinner d) e =
        rw e
        (λ i. record {
          object_count = 1;
          combo = 1;
          combos_before = 0;
          first_no_slider = 1;
          accuracy_score = 300;
          legacy_bonus_score = same_sum (legacy_of d) i;
          standardised_bonus_score = same_sum (standardised_of d) i;
          n_circles = 0;
          n_sliders = 0;
          n_spinners = 1;
          n_repeats = 0;
          n_ticks = 0;
          spinner_score = same_sum (spinner_score_of d) i;
        })
