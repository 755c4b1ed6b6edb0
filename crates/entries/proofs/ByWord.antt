-- An entry is its words: what holds of each of them is said once, over its place.
use Prim.Native.Nat.{ℕ, zero, suc, ◌+◌, ◌≤◌, ◌<◌}
use mathlib.Core.Path.{◌≡◌, refl, sym, ap, subst, ◌∙◌}
use mathlib.Core.List.{List, [], ◌∷◌}
use native.Mathlib.Omega.{arith}
use native.Mathlib.Nat.{add_comm, add-zero, not-suc-le-zero, le_of_suc-le-suc, ne_of_gt}
use native.Mathlib.Decide.{ℕ_discrete}
use lib.ListN.{length, get_or, set, take, length-set}
use lib.Seq.{get_or-set_same, get_or-set_other}
use Rattle.std.proofs.Math.Seq.{take-length}
use Rattle.std.proofs.lemmas.List.{ext_get_or}
use Rattle.entries.specs.Entry.{words_of, of_words, summed, entry_words}
use Rattle.entries.specs.declared.entry.Entry.{Entry}

-- the n numbers from place i on
abbrev pub gets : List ℕ → ℕ → ℕ → List ℕ
gets b i zero = []
gets b i (suc n) = get_or b i 0 ∷ gets b (suc i) n

gets_at : (n : ℕ) (b : List ℕ) (i k : ℕ) → k < n → get_or (gets b i n) k 0 ≡ get_or b (i + k) 0
gets_at zero b i k h = absurd (not-suc-le-zero h)
gets_at (suc n) b i zero h = ap (λ (m : ℕ). get_or b m 0) (sym (add-zero i))
gets_at (suc n) b i (suc k) h = gets_at n b (suc i) k (le_of_suc-le-suc h) ∙ ap (λ (m : ℕ). get_or b m 0) (omega arith)

gets_suc : (x : ℕ) (b : List ℕ) (i n : ℕ) → gets (x ∷ b) (suc i) n ≡ gets b i n
gets_suc x b i zero = refl
gets_suc x b i (suc n) = ap (λ (l : List ℕ). get_or b i 0 ∷ l) (gets_suc x b (suc i) n)

take_gets : (n : ℕ) (b : List ℕ) → n ≤ length b → take n b ≡ gets b 0 n
take_gets zero b h = refl
take_gets (suc n) [] h = absurd (not-suc-le-zero h)
take_gets (suc n) (x ∷ b) h = ap (λ (l : List ℕ). x ∷ l) (take_gets n b (le_of_suc-le-suc h) ∙ sym (gets_suc x b 0 n))

-- a word of the entry of some numbers
pub word_of : (ws : List ℕ) (k : ℕ) → k < entry_words → get_or (words_of (of_words ws)) k 0 ≡ get_or ws k 0
word_of ws k h = gets_at entry_words ws 0 k h ∙ ap (λ (m : ℕ). get_or ws m 0) (omega arith)

pub words_are : (ws : List ℕ) → length ws ≡ entry_words → words_of (of_words ws) ≡ ws
words_are ws h = sym (take_gets entry_words ws (omega (arith, h))) ∙ subst (λ (n : ℕ). take n ws ≡ ws) h (take-length ws)

-- two entries whose words agree
pub entry_same : (v w : Entry) → ((i : ℕ) → i < entry_words → get_or (words_of v) i 0 ≡ get_or (words_of w) i 0) → v ≡ w
entry_same v w h = ap of_words (ext_get_or 0 (words_of v) (words_of w) refl h)

-- ---- sums of words
abbrev pub sums : List ℕ → List ℕ → List ℕ
sums [] ys = []
sums (x ∷ xs) [] = []
sums (x ∷ xs) (y ∷ ys) = (x + y) ∷ sums xs ys

sums_turned : (xs ys : List ℕ) → sums xs ys ≡ sums ys xs
sums_turned [] [] = refl
sums_turned [] (y ∷ ys) = refl
sums_turned (x ∷ xs) [] = refl
sums_turned (x ∷ xs) (y ∷ ys) = ap (λ (n : ℕ). n ∷ sums xs ys) (add_comm x y) ∙ ap (λ (l : List ℕ). (y + x) ∷ l) (sums_turned xs ys)

pub sums_at : (xs ys : List ℕ) (i : ℕ) → i < length xs → i < length ys → get_or (sums xs ys) i 0 ≡ get_or xs i 0 + get_or ys i 0
sums_at [] ys i h g = absurd (not-suc-le-zero h)
sums_at (x ∷ xs) [] i h g = absurd (not-suc-le-zero g)
sums_at (x ∷ xs) (y ∷ ys) zero h g = refl
sums_at (x ∷ xs) (y ∷ ys) (suc i) h g = sums_at xs ys i (le_of_suc-le-suc h) (le_of_suc-le-suc g)

-- the same but for s and f
abbrev pub ordered : List ℕ → ℕ → ℕ → List ℕ
ordered ws s f = set (set ws 2 s) 3 f

pub summed_words : (a b : Entry) (s f : ℕ) → words_of (summed a b s f) ≡ ordered (sums (words_of a) (words_of b)) s f
summed_words a b s f = refl

pub summed_turned : (a b : Entry) (s f : ℕ) → summed a b s f ≡ summed b a s f
summed_turned a b s f = ap (λ (l : List ℕ). of_words (ordered l s f)) (sums_turned (words_of a) (words_of b))

-- an entry whose words are sums, with s and f
pub summed_is : (e a b : Entry) (s f : ℕ) → ((i : ℕ) → i < entry_words → get_or (words_of e) i 0 ≡ get_or (words_of a) i 0 + get_or (words_of b) i 0)
    → of_words (ordered (words_of e) s f) ≡ summed a b s f
summed_is e a b s f h =
    ap (λ (l : List ℕ). of_words (ordered l s f)) (ext_get_or 0 (words_of e) (sums (words_of a) (words_of b)) refl (λ i lt. h i lt ∙ sym (sums_at (words_of a) (words_of b) i lt lt)))

-- one word more of a list that becomes the sums of xs and ys from the front
pub record Summing (xs ys now : List ℕ) (i : ℕ) : Type 0 where
  pub size : length now ≡ entry_words
  pub done : (k : ℕ) → k < i → get_or now k 0 ≡ get_or xs k 0 + get_or ys k 0
  pub left : (k : ℕ) → i ≤ k → get_or now k 0 ≡ get_or xs k 0

pub summing_next : {xs ys now : List ℕ} {i : ℕ} → Summing xs ys now i → i < entry_words → Summing xs ys (set now i (get_or now i 0 + get_or ys i 0)) (i + 1)
summing_next {xs} {ys} {now} {i} s h = record { size = length-set now i _ ∙ s.size; done = λ k lt. go k (ℕ_discrete k i) lt; left = λ k le. get_or-set_other now i k _ 0 (ne_of_gt (omega (arith, le))) ∙ s.left k (omega (arith, le)) }
  where
    go : (k : ℕ) → Dec (k ≡ i) → k < i + 1 → get_or (set now i (get_or now i 0 + get_or ys i 0)) k 0 ≡ get_or xs k 0 + get_or ys k 0
    go k (yes e) lt = rw e (get_or-set_same now i _ 0 (omega (arith, s.size)) ∙ ap (λ (n : ℕ). n + get_or ys i 0) (s.left i (omega arith)))
    go k (no d) lt = get_or-set_other now i k _ 0 d ∙ s.done k (omega (arith, d))
