-- Reads in place: what was read stands at the front of the space.
use Rattle.std.proofs.Common.{◌≡◌, ℕ, ◌+◌, ◌-◌, ◌<◌, ◌≤◌, List, ◌++◌, Option, Some, None, IfSome, length, take, drop, sym, ap, subst, ◌∙◌, length-take-le, take_all, append-nil, ◌⊎◌, inl, inr, arith}
use Rattle.std.proofs.Math.Seq.{take-add, take-append_seam}
use Rattle.std.proofs.lemmas.Bool.{cases_lt}
use Rattle.std.proofs.KnownBytes.{Consumes-trans}
use Rattle.std.specs.Io.KnownBytes.{Consumes, IsAtEnd}

-- the front up to a place, and what one read put behind it
pub front_grows : (a b c : Option (List ℕ)) (old new : List ℕ) (at place : ℕ) → at ≤ place → take at new ≡ take at old
    → Consumes a b (take at old) → Consumes b c (take (place - at) (drop at new)) → Consumes a c (take place new)
front_grows a b c old new at place behind front before read =
    let whole : at + (place - at) ≡ place = omega arith in
    let joined = ap (λ l. l ++ take (place - at) (drop at new)) (sym front) ∙ sym (take-add at (place - at) new) ∙ ap (λ n. take n new) whole in
    subst (Consumes a c) joined (Consumes-trans a b c _ _ before read)

-- a front that fills the room, or that ends with the reader, tells all of the reader's bytes that can be told from as many as the room takes
pub front_told : (a b : Option (List ℕ)) (space : List ℕ) (count room : ℕ) (P : List ℕ → Type 0) → ((bytes : List ℕ) → P (take room bytes) → P bytes)
    → length space ≡ room → count ≤ room → Consumes a b (take count space) → (count < room → IsAtEnd b) → P (take count space) → IfSome a P
front_told None b space count room P cut long within read ends h = tt
front_told (Some x) None space count room P cut long within read ends h = absurd read
front_told (Some x) (Some y) space count room P cut long within read ends h = cut x (subst P (sym (whole (cases_lt count room))) h)
  where
    front : length (take count space) ≡ count
    front = length-take-le count space (omega arith)

    whole : (count < room) ⊎ (room ≤ count) → take room x ≡ take count space
    whole (inl short) =
        ap (take room) (read ∙ ap (λ l. take count space ++ l) (ends short) ∙ append-nil (take count space))
        ∙ take_all room (take count space) (omega (arith, front))
    whole (inr full) =
        let same : length (take count space) ≡ room = omega (arith, front) in
        ap (take room) read ∙ ap (λ n. take n (take count space ++ y)) (sym same) ∙ take-append_seam (take count space) y
