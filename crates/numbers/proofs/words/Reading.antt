-- One step of the loop of `whole_word`, and the number of a part of the bytes. Assumes nothing.
use Rattle.std.proofs.Common.{◌≡◌, ℕ, ◌+◌, ◌-◌, ◌*◌, ◌^◌, ◌<◌, ◌≤◌, List, [], ◌∷◌, ◌++◌, length, get_or, get_or-append-add, take, drop, sym, ap, ◌∙◌, subst, lt_of_lt_of_le, arith, zero-add, get_or-drop, w8, Fits}
use native.Mathlib.Nat.{pow-le-pow_right}
use Rattle.std.proofs.lemmas.List.{length-append, get_or-take, take-take, length-take-le, length-drop}
use Rattle.numbers.specs.Words.{word_at}
use Rattle.numbers.proofs.words.Laws.{word_at_same, word_at_lt, word_at-append}

bytes_mono : (i j : ℕ) → i ≤ j → 256 ^ i ≤ 256 ^ j
bytes_mono i j h = pow-le-pow_right (omega arith) h

-- one byte below the ones that were read
pub one_below : (b : ℕ) (read : List ℕ) → word_at read 0 (length read) * 256 + b ≡ word_at (b ∷ read) 0 (length (b ∷ read))
unfolding word_at
one_below b read = omega (arith, word_at-append (b ∷ []) read 0 (length read))

-- eight bytes fill a word
pub fits_word : (s left read : List ℕ) → s ≡ left ++ read → length s ≤ 8 → ((i : ℕ) → Fits w8 (get_or s i 0)) → word_at read 0 (length read) < 2 ^ 64
fits_word s left read e n b =
    let each : (i : ℕ) → get_or s (length left + i) 0 ≡ get_or read i 0 = λ i. ap (λ l. get_or l (length left + i) 0) e ∙ get_or-append-add left read i 0 in
    lt_of_lt_of_le (word_at_lt read 0 (length read) (λ i. omega (arith, b (length left + i), each i)))
    (bytes_mono (length read) 8 (omega (arith, n, ap length e, length-append left read)))

part : (s : List ℕ) (at n : ℕ) → word_at (take n (drop at s)) 0 n ≡ word_at s at n
part s at n =
    word_at_same (take n (drop at s)) s 0 at n (λ (i : ℕ) (l : i < n). ap (λ (j : ℕ). get_or (take n (drop at s)) j 0) (zero-add i) ∙ get_or-take n (drop at s) i 0 l ∙ get_or-drop at s i 0)

-- the bytes from `at` on, and the first n of them
pub length_left : (s : List ℕ) (at : ℕ) → length (take (length s - at) (drop at s)) ≡ length s - at
length_left s at = length-take-le (length s - at) (drop at s) (simp length-drop (omega arith))

pub left_part : (s : List ℕ) (at : ℕ)
    → word_at (take (length s - at) (drop at s)) 0 (length (take (length s - at) (drop at s))) ≡ word_at s at (length s - at)
left_part s at = rw length_left (part s at (length s - at))

pub first_part : (s : List ℕ) (at n : ℕ) → n ≤ length s - at
    → word_at (take n (take (length s - at) (drop at s))) 0 (length (take n (take (length s - at) (drop at s)))) ≡ word_at s at n
first_part s at n h =
    rw (take-take n (length s - at) (drop at s) h, length-take-le n (drop at s) (simp length-drop (omega arith))) (part s at n)

-- what each function here promises
pub bounded : (v : ℕ) (s : List ℕ) (at n : ℕ) → ((i : ℕ) → Fits w8 (get_or s i 0)) → v ≡ word_at s at n → (v ≡ word_at s at n) × (v < 256 ^ n)
bounded v s at n h e = (e, subst (λ (w : ℕ). w < 256 ^ n) (sym e) (word_at_lt s at n (λ i. omega (arith, h i))))
