-- A text is put right by a copy of as much of it as the space has room for, which leaves the rest of the space. Assumes nothing.
use mathlib.Core.Path.{◌≡◌, ap, ◌∙◌}
use mathlib.Core.List.{List, append_assoc}
use Prim.Native.Nat.{ℕ, ◌+◌, ◌-◌, min}
use native.Mathlib.Omega.{arith}
use lib.ListN.{length, take, drop}
use borrow.Rule.Slice.PartMut.{put_mid}
use Rattle.std.proofs.lemmas.List.{take_min, drop_min, drop-drop}
use Rattle.text.specs.Space.{put_at}

pub copied : (l t : List ℕ) (at start count : ℕ) → start ≡ min at (length l) → count ≡ min (length t) (length l - start)
    → put_mid start (start + count - start) l (take count t) ≡ put_at l at t
unfolding put_at
copied l t at start count p q =
    let front : take start l ≡ take at l = rw p (take_min at l) in
    let room : count ≡ min (length l - at) (length t) = omega arith in
    let middle : take count t ≡ take (length l - at) t = rw room (take_min (length l - at) t) in
    let end : start + (start + count - start) ≡ min (at + length t) (length l) = omega arith in
    let back : drop (start + count - start) (drop start l) ≡ drop (at + length t) l =
    drop-drop (start + count - start) start l ∙ ap (λ (k : ℕ). drop k l) end ∙ drop_min (at + length t) l in
    rw (front, middle, back, ← append_assoc)
