-- Laws of a text in a space: two texts one behind the other are one text. Each goes by the space and the place, since `put_at` and `behind` step
-- through both. Assumes nothing.
use mathlib.Core.Path.{◌≡◌, ap, ◌∙◌, refl}
use Prim.Native.Nat.{ℕ, zero, suc, ◌≤◌}
use native.Mathlib.Nat.{suc-add, zero-add, add-zero, sub-zero, zero-sub, suc-sub-suc, suc-min-suc, min-zero}
use native.Mathlib.Omega.{arith}
use mathlib.Core.List.{List, [], ◌∷◌, ◌++◌, append-nil}
use lib.ListN.{length, take, drop, length-append, take-append-drop}
use lib.Seq.{take_all, take-nil, drop-nil, take-append_seam}
use Rattle.text.specs.Space.{put_at, behind}
use Rattle.text.specs.Pages.{put}
use Rattle.text.specs.declared.page.Page.{Page}

-- ---- one step through the space

put_no_space : (at : ℕ) (t : List ℕ) → put_at [] at t ≡ []
unfolding put_at
put_no_space at t = simp (take-nil, drop-nil, zero-sub)

pub put_nothing : (l : List ℕ) (at : ℕ) → put_at l at [] ≡ l
unfolding put_at
put_nothing l at = simp (take-nil, add-zero, append-nil) (take-append-drop at l)

put_here : (b : ℕ) (l : List ℕ) (x : ℕ) (t : List ℕ) → put_at (b ∷ l) 0 (x ∷ t) ≡ x ∷ put_at l 0 t
unfolding put_at
put_here b l x t = simp (zero-add, sub-zero)

put_later : (b : ℕ) (l : List ℕ) (at : ℕ) (t : List ℕ) → put_at (b ∷ l) (suc at) t ≡ b ∷ put_at l at t
unfolding put_at
put_later b l at t = simp (suc-add, suc-sub-suc)

behind_here : (b : ℕ) (l : List ℕ) (x : ℕ) (t : List ℕ) → behind (b ∷ l) 0 (x ∷ t) ≡ suc (behind l 0 t)
unfolding behind
behind_here b l x t = simp (zero-add, suc-min-suc)

behind_nothing : (l : List ℕ) → behind l 0 [] ≡ 0
unfolding behind
behind_nothing l = simp min-zero

behind_later : (b : ℕ) (l : List ℕ) (at : ℕ) (t : List ℕ) → behind (b ∷ l) (suc at) t ≡ suc (behind l at t)
unfolding behind
behind_later b l at t = simp (suc-add, suc-min-suc)

-- ---- a text in two pieces

pub length_put : (l : List ℕ) (at : ℕ) (t : List ℕ) → length (put_at l at t) ≡ length l
length_put [] at t = ap length (put_no_space at t)
length_put (b ∷ l) zero [] = ap length (put_nothing (b ∷ l) 0)
length_put (b ∷ l) zero (x ∷ t) = ap length (put_here b l x t) ∙ ap suc (length_put l 0 t)
length_put (b ∷ l) (suc at) t = ap length (put_later b l at t) ∙ ap suc (length_put l at t)

pub put_put : (l : List ℕ) (at : ℕ) (x y : List ℕ) → put_at (put_at l at x) (behind l at x) y ≡ put_at l at (x ++ y)
put_put [] at x y = simp put_no_space
put_put (b ∷ l) zero [] y = simp (put_nothing, behind_nothing)
put_put (b ∷ l) zero (a ∷ x) y = simp (put_here, behind_here, put_later, put_put l 0 x y)
put_put (b ∷ l) (suc at) x y = simp (put_later, behind_later, put_put l at x y)

pub behind-behind : (l : List ℕ) (at : ℕ) (x y : List ℕ) → behind (put_at l at x) (behind l at x) y ≡ behind l at (x ++ y)
unfolding behind
behind-behind l at x y = simp (length_put, length-append) (omega arith)

-- ---- a text at the front of a space that holds it

pub put_front : (l t : List ℕ) → length t ≤ length l → put_at l 0 t ≡ t ++ drop (length t) l
unfolding put_at
put_front l t h = simp (sub-zero, zero-add, take_all (length l) t h)

pub take_put_front : (l t : List ℕ) → length t ≤ length l → take (length t) (put_at l 0 t) ≡ t
take_put_front l t h = simp (put_front l t h) (take-append_seam t (drop (length t) l))

-- ---- two texts on a page

pub put-put : (p : Page) (x y : List ℕ) → put (put p x) y ≡ put p (x ++ y)
put-put p x y = rw (put_put p.space.now p.at x y, behind-behind p.space.now p.at x y) refl

pub ruleset pieces = (put-put)
