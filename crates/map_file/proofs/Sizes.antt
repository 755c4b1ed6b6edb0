-- A record that is read has at least its mark, and ends within the input; all but sliders have one size for each kind.
use Rattle.rules.specs.Refusals.{CUT, COUNT, MARK, PLAY_FIELD, BONUS}
use mathlib.Core.Path.{◌≡◌, refl}
use mathlib.Core.Bool.{false}
use mathlib.Core.List.{List}
use Prim.Native.Nat.{ℕ, ◌+◌, ◌≤◌}
use native.Mathlib.Omega.{arith}
use lib.Dec.{eqb, ltb}
use lib.ListN.{length}
use borrow.Author.Tests.{ltb-false}
use Rattle.numbers.specs.Words.{word_at}
use Rattle.records.specs.Marks.{MH, BR, CI, SL, SP, PL}
use Rattle.records.specs.Records.{Content, header, break, object, play, header_of, break_of, circle_of, slider_of, spinner_of, play_of, object_of}
use Rattle.map_file.specs.Order.{body_of, record_of}
use Rattle.map_file.specs.declared.file.Counts.{Counts}
use Rattle.rules.proofs.All.{All, none, that, all_bind, all_any, all_when, all_pick}

-- the size of a record that is no object
abbrev pub SizeBy : Content → ℕ → Type 0
SizeBy (header s) n = n ≡ 14
SizeBy (break b) n = n ≡ 18
SizeBy (object o) n = Unit
SizeBy (play p) n = n ≡ 44

abbrev pub Sized : List ℕ → Content × ℕ → Type 0
Sized r f = (2 ≤ f.1) × (f.1 ≤ length r) × SizeBy f.0 f.1

-- a part that is not cut
there : (r : List ℕ) (n : ℕ) {S : Type 0} → S → 2 ≤ n → ltb (length r) n ≡ false → (2 ≤ n) × (n ≤ length r) × S
there r n k h e = (h, ltb-false (length r) n e, k)

header_sized : (r : List ℕ) → All (Sized r) (header_of r)
unfolding header_of
header_sized r = all_when CUT _ _ (λ e. all_any _ _ (λ hp. all_any _ _ (λ od. all_any _ _ (λ cs. that (there r 14 refl (omega arith) e)))))

break_sized : (r : List ℕ) → All (Sized r) (break_of r)
unfolding break_of
break_sized r = all_when CUT _ _ (λ e. all_any _ _ (λ a. all_any _ _ (λ b. that (there r 18 refl (omega arith) e))))

circle_sized : (r : List ℕ) → All (Sized r) (circle_of r)
unfolding circle_of
circle_sized r = all_when CUT _ _ (λ e. all_any _ _ (λ a. that (there r 10 tt (omega arith) e)))

slider_sized : (r : List ℕ) → All (Sized r) (slider_of r)
unfolding slider_of
slider_sized r = all_when CUT _ _ (λ _. all_any _ _ (λ a. all_when COUNT _ _ (λ _. all_when CUT _ _ (λ e. all_any _ _ (λ is. that (there r (12 + word_at r 10 2) tt (omega arith) e))))))

spinner_sized : (r : List ℕ) → All (Sized r) (spinner_of r)
unfolding spinner_of
spinner_sized r = all_when CUT _ _ (λ e. all_any _ _ (λ a. all_any _ _ (λ b. that (there r 18 tt (omega arith) e))))

play_sized : (r : List ℕ) → All (Sized r) (play_of r)
unfolding play_of
play_sized r = all_when CUT _ _ (λ e. all_any _ _ (λ o. all_any _ _ (λ s. all_when PLAY_FIELD _ _ (λ _. all_any _ _ (λ x. that (there r 44 refl (omega arith) e))))))

pub object_sized : (r : List ℕ) (mark : ℕ) → All (Sized r) (object_of r mark)
unfolding object_of
object_sized r m = all_pick (eqb m CI) (λ _. circle_sized r) (λ _. all_pick (eqb m SL) (λ _. slider_sized r) (λ _. all_pick (eqb m SP) (λ _. spinner_sized r) (λ _. none)))

body_sized : (r : List ℕ) (mark : ℕ) → All (Sized r) (body_of r mark)
unfolding body_of
body_sized r m = all_pick (eqb m MH) (λ _. header_sized r) (λ _. all_pick (eqb m BR) (λ _. break_sized r) (λ _. all_pick (eqb m PL) (λ _. play_sized r) (λ _. object_sized r m)))

pub record_sized : (r : List ℕ) (c : Counts) → All (Sized r) (record_of r c)
unfolding record_of
record_sized r c =
    all_when CUT _ _ (λ _. all_when MARK _ _ (λ _. all_when COUNT _ _ (λ _. all_bind (body_of r (word_at r 0 2)) _ (body_sized r (word_at r 0 2)) (λ f h. all_when BONUS _ _ (λ _. that h)))))
