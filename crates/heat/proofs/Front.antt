-- A loop that puts f of each element of one list over the elements of another keeps the one list's images in front of the rest of the other, since each
-- turn makes that front one element longer. Assumes nothing.
use mathlib.Core.Path.{◌≡◌, ◌∙◌, ap, sym}
use Prim.Native.Nat.{ℕ, ◌<◌, ◌+◌}
use native.Mathlib.Omega.{arith}
use mathlib.Core.List.{List, [], ◌∷◌, map, ◌++◌}
use lib.ListN.{length, take, drop, set, get_or}
use Rattle.std.proofs.lemmas.List.{append_assoc, length-map, length-take-le, set_at, drop_more, map_more}

pub front_more : {A B : Type 0} (f : A → B) (d : A) (i : ℕ) (ps : List A) (os : List B) → i < length ps → i < length os
    → set (map f (take i ps) ++ drop i os) i (f (get_or ps i d)) ≡ map f (take (i + 1) ps) ++ drop (i + 1) os
front_more {A} {B} f d i ps os l k =
    ap (λ (t : List B). set (front ++ t) i new) (drop_more os i new k)
    ∙ set_at front (get_or os i new) (drop (i + 1) os) new i (length-map (take i ps) f ∙ length-take-le i ps (omega arith))
    ∙ sym (append_assoc front (new ∷ []) (drop (i + 1) os))
    ∙ ap (λ (t : List B). t ++ drop (i + 1) os) (sym (map_more f ps i d l))
  where
    front : List B
    front = map f (take i ps)

    new : B
    new = f (get_or ps i d)
