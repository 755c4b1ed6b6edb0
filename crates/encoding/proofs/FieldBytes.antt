-- A field that was written is read back: one law over the list of a record's fields.
use Rattle.std.specs.Prelude.{Option}
use mathlib.Core.Path.{◌≡◌, refl, ap, ◌∙◌}
use mathlib.Core.Bool.{Bool, true, false, ◌&&◌}
use mathlib.Core.List.{List, [], ◌∷◌, ◌++◌, append_assoc}
use Prim.Native.Nat.{ℕ, ◌+◌, ◌-◌, ◌≤◌, ◌<◌, ◌^◌}
use native.Mathlib.Omega.{arith}
use borrow.Author.Tests.{eqb-true}
use lib.Dec.{T, eqb, leb, eqb→eq, leb→le}
use lib.ListN.{length, length-append}
use lib.Ieee.{Float}
use Rattle.records.specs.Fields.{within, if_in}
use Rattle.numbers.specs.Words.{word_at, bytes_of}
use Rattle.numbers.proofs.words.Laws.{word_at_bytes, word_at_skip, bytes_of-length}
use Rattle.rules.specs.Refusals.{pick}
use Rattle.encoding.specs.Encoding.{fields_of}

-- each number is within its width
abbrev pub Fit : List (ℕ × ℕ) → Type 0
Fit [] = Unit
Fit (f ∷ fs) = (f.1 < 256 ^ f.0) × Fit fs

-- the number of the field at an offset
abbrev pub field_at : List (ℕ × ℕ) → ℕ → ℕ
field_at [] at = 0
field_at (f ∷ fs) at = pick (eqb at 0) f.1 (field_at fs (at - f.0))

-- a field of n bytes begins at an offset
abbrev pub begins : List (ℕ × ℕ) → ℕ → ℕ → Bool
begins [] at n = false
begins (f ∷ fs) at n = pick (eqb at 0) (eqb f.0 n) (leb f.0 at && begins fs (at - f.0) n)

abbrev pub widths : List (ℕ × ℕ) → ℕ
widths [] = 0
widths (f ∷ fs) = f.0 + widths fs

pub fields_length : (fs : List (ℕ × ℕ)) → length (fields_of fs) ≡ widths fs
unfolding fields_of
fields_length [] = refl
fields_length (f ∷ fs) = length-append (bytes_of f.0 f.1) (fields_of fs) ∙ (let p = bytes_of-length f.0 f.1 in let q = fields_length fs in omega (arith, p, q))

both : (a b : Bool) → T (a && b) → T a × T b
both true true t = (tt, tt)
both true false t = (tt, t)
both false b t = absurd t

pub field_back : (fs : List (ℕ × ℕ)) (rest : List ℕ) (at n : ℕ) → Fit fs → T (begins fs at n) → word_at (fields_of fs ++ rest) at n ≡ field_at fs at
unfolding fields_of
field_back [] rest at n p t = absurd t
field_back (f ∷ fs) rest at n p t = go (eqb at 0) refl t (λ q. field_back fs rest (at - f.0) n p.1 q)
  where
    go : (z : Bool) → eqb at 0 ≡ z → T (pick z (eqb f.0 n) (leb f.0 at && begins fs (at - f.0) n))
        → (T (begins fs (at - f.0) n) → word_at (fields_of fs ++ rest) (at - f.0) n ≡ field_at fs (at - f.0))
        → word_at ((bytes_of f.0 f.1 ++ fields_of fs) ++ rest) at n ≡ pick z f.1 (field_at fs (at - f.0))
    go true e t later =
        let a : at ≡ 0 = eqb-true at 0 e in
        let w : f.0 ≡ n = eqb→eq f.0 n t in
        rw (a, ← w, append_assoc) (word_at_bytes f.0 f.1 (fields_of fs ++ rest) p.0)
    go false e t later =
        let b = both (leb f.0 at) (begins fs (at - f.0) n) t in
        let h : f.0 ≤ at = leb→le f.0 at b.0 in
        let a : at ≡ f.0 + (at - f.0) = omega arith in
        rw append_assoc (ap (λ (k : ℕ). word_at (bytes_of f.0 f.1 ++ (fields_of fs ++ rest)) k n) a ∙ word_at_skip f.0 f.1 (fields_of fs ++ rest) (at - f.0) n ∙ later b.1)

pub mark_back : (m : ℕ) (fs : List (ℕ × ℕ)) (rest : List ℕ) → m < 256 ^ 2 → word_at (fields_of ((2, m) ∷ fs) ++ rest) 0 2 ≡ m
unfolding fields_of
mark_back m fs rest h = rw append_assoc (word_at_bytes 2 m (fields_of fs ++ rest) h)

-- a float field that is held to a range: times and durations
abbrev pub double_within : Float → Float → Float → Option Float
double_within low high x = if_in (within low high x) x
