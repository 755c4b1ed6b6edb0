-- A little-endian number read from a list: by parts, in a longer list, and as the bytes that were written. Assumes nothing.
use Rattle.std.proofs.Common.{◌≡◌, ℕ, zero, suc, ◌+◌, ◌-◌, ◌*◌, ◌/◌, ◌%◌, ◌^◌, ◌<◌, ◌≤◌, List, [], ◌∷◌, ◌++◌, length, get_or, take, drop, sym, refl, ap, ◌∙◌, add-zero, zero-lt-suc, suc-add, pow-suc, zero-add, add-one, arith, get_or-drop, drop-cons, get_or-append-add}
use lib.Arith.{digits_div, digits_mod}
use lib.ListN.{get_or-eq_default, get_or-append}
use Rattle.numbers.specs.Words.{word_at, bytes_of}

-- ---- the same bytes give the same number

shift : (at i : ℕ) → at + 1 + i ≡ at + suc i
shift at i = omega arith

pub word_at_same : (s t : List ℕ) (a b n : ℕ) → ((i : ℕ) → i < n → get_or s (a + i) 0 ≡ get_or t (b + i) 0) → word_at s a n ≡ word_at t b n
unfolding word_at
word_at_same s t a b zero h = refl
word_at_same s t a b (suc n) h =
    let first : get_or s a 0 ≡ get_or t b 0 =
    ap (λ (j : ℕ). get_or s j 0) (sym (add-zero a)) ∙ h 0 (zero-lt-suc n) ∙ ap (λ (j : ℕ). get_or t j 0) (add-zero b) in
    let rest : word_at s (a + 1) n ≡ word_at t (b + 1) n =
    word_at_same s t (a + 1) (b + 1) n
    (λ (i : ℕ) (l : i < n). ap (λ (j : ℕ). get_or s j 0) (shift a i) ∙ h (suc i) (omega arith) ∙ ap (λ (j : ℕ). get_or t j 0) (sym (shift b i))) in
    ap (λ (x : ℕ). x + 256 * word_at s (a + 1) n) first ∙ ap (λ (x : ℕ). get_or t b 0 + 256 * x) rest

-- past the end every byte counts as 0
pub word_at_past : (s : List ℕ) (at n : ℕ) → length s ≤ at → word_at s at n ≡ 0
unfolding word_at
word_at_past s at zero h = refl
word_at_past s at (suc n) h =
    let first : get_or s at 0 ≡ 0 = get_or-eq_default s 0 h in
    omega (arith, first, word_at_past s (at + 1) n (omega arith))

-- a + b bytes are a bytes, and b bytes 256 ^ a times as high
pub word_at_split : (s : List ℕ) (at a b : ℕ) → word_at s at (a + b) ≡ word_at s at a + 256 ^ a * word_at s (at + a) b
unfolding word_at
word_at_split s at zero b = ap (word_at s at) (zero-add b) ∙ ap (λ (j : ℕ). word_at s j b) (sym (add-zero at)) ∙ sym (one (word_at s (at + 0) b))
  where
    one : (w : ℕ) → 0 + 1 * w ≡ w
    one w = omega arith
word_at_split s at (suc a) b =
    let rest : word_at s (at + 1) (a + b) ≡ word_at s (at + 1) a + 256 ^ a * word_at s (at + suc a) b =
    word_at_split s (at + 1) a b ∙ ap (λ (j : ℕ). word_at s (at + 1) a + 256 ^ a * word_at s j b) (shift at a) in
    ap (word_at s at) (suc-add a b)
    ∙ ap (λ (w : ℕ). get_or s at 0 + 256 * w) rest
    ∙ higher (get_or s at 0) (word_at s (at + 1) a) (256 ^ a) (word_at s (at + suc a) b)
    ∙ ap (λ (p : ℕ). get_or s at 0 + 256 * word_at s (at + 1) a + p * word_at s (at + suc a) b) (sym (pow-suc 256 a))
  where
    higher : (g w p x : ℕ) → g + 256 * (w + p * x) ≡ g + 256 * w + p * 256 * x
    higher g w p x = omega arith

-- ---- a number in a longer list

pub word_at-append : (pre rest : List ℕ) (k n : ℕ) → word_at (pre ++ rest) (length pre + k) n ≡ word_at rest k n
word_at-append pre rest k n =
    word_at_same (pre ++ rest) rest (length pre + k) k n
    (λ (i : ℕ) (l : i < n). ap (λ (j : ℕ). get_or (pre ++ rest) j 0) (omega arith) ∙ get_or-append-add pre rest (k + i) 0)

pub word_at-within : (pre rest : List ℕ) (at n : ℕ) → at + n ≤ length pre → word_at (pre ++ rest) at n ≡ word_at pre at n
word_at-within pre rest at n h =
    word_at_same (pre ++ rest) pre at at n (λ (i : ℕ) (l : i < n). get_or-append pre rest 0 (at + i) (omega arith))

pub word_at-drop : (s : List ℕ) (k at n : ℕ) → word_at (drop k s) at n ≡ word_at s (k + at) n
word_at-drop s k at n =
    word_at_same (drop k s) s at (k + at) n (λ (i : ℕ) (l : i < n). get_or-drop k s (at + i) 0 ∙ ap (λ (j : ℕ). get_or s j 0) (omega arith))

-- ---- the bytes of a number

pub bytes_of-length : (n v : ℕ) → length (bytes_of n v) ≡ n
unfolding bytes_of
bytes_of-length zero v = refl
bytes_of-length (suc n) v = ap suc (bytes_of-length n (v / 256))

-- a number that n bytes hold comes back
pub word_at_bytes : (n v : ℕ) (rest : List ℕ) → v < 256 ^ n → word_at (bytes_of n v ++ rest) 0 n ≡ v
unfolding word_at bytes_of
word_at_bytes zero v rest h = omega arith
word_at_bytes (suc n) v rest h =
    let high : v / 256 < 256 ^ n = omega (arith, pow-suc 256 n) in
    let more : word_at (v % 256 ∷ (bytes_of n (v / 256) ++ rest)) 1 n ≡ v / 256 =
    word_at-append (v % 256 ∷ []) (bytes_of n (v / 256) ++ rest) 0 n ∙ word_at_bytes n (v / 256) rest high in
    ap (λ (w : ℕ). v % 256 + 256 * w) more ∙ whole v
  where
    whole : (v : ℕ) → v % 256 + 256 * (v / 256) ≡ v
    whole v = omega arith

-- a field that is passed over
pub word_at_skip : (m v : ℕ) (rest : List ℕ) (k n : ℕ) → word_at (bytes_of m v ++ rest) (m + k) n ≡ word_at rest k n
word_at_skip m v rest k n =
    ap (λ (j : ℕ). word_at (bytes_of m v ++ rest) (j + k) n) (sym (bytes_of-length m v)) ∙ word_at-append (bytes_of m v) rest k n

-- ---- bytes that are read and written again

-- every element is a byte
abbrev pub Bytes : List ℕ → Type 0
Bytes s = (i : ℕ) → get_or s i 0 < 256

pub word_at_lt : (s : List ℕ) (at n : ℕ) → Bytes s → word_at s at n < 256 ^ n
unfolding word_at
word_at_lt s at zero h = omega arith
word_at_lt s at (suc n) h = omega (arith, h at, word_at_lt s (at + 1) n h, pow-suc 256 n)

pub bytes_of-word_at : (s : List ℕ) (at n : ℕ) → Bytes s → at + n ≤ length s → bytes_of n (word_at s at n) ≡ take n (drop at s)
unfolding word_at bytes_of
bytes_of-word_at s at zero h l = refl
bytes_of-word_at s at (suc n) h l =
    let b = get_or s at 0 in
    let w = word_at s (at + 1) n in
    let small : b < 256 = h at in
    let e : b + 256 * w ≡ w * 256 + b = omega arith in
    let low : (b + 256 * w) % 256 ≡ b = ap (λ (x : ℕ). x % 256) e ∙ digits_mod w small in
    let high : (b + 256 * w) / 256 ≡ w = ap (λ (x : ℕ). x / 256) e ∙ digits_div w small in
    let more : bytes_of n w ≡ take n (drop (suc at) s) = bytes_of-word_at s (at + 1) n h (omega arith) ∙ ap (λ (j : ℕ). take n (drop j s)) (add-one at) in
    let here : drop at s ≡ b ∷ drop (suc at) s = drop-cons s at 0 (omega arith) in
    ap (λ (x : ℕ). x ∷ bytes_of n ((b + 256 * w) / 256)) low
    ∙ ap (λ (x : ℕ). b ∷ bytes_of n x) high
    ∙ ap (λ (r : List ℕ). b ∷ r) more
    ∙ sym (ap (take (suc n)) here)

-- ---- a number that the end of the input cuts

pub word_at-cut : (s : List ℕ) (at n left : ℕ) → left ≤ n → length s ≤ at + left → word_at s at n ≡ word_at s at left
word_at-cut s at n left h l =
    let e : left + (n - left) ≡ n = omega arith in
    ap (word_at s at) (sym e)
    ∙ word_at_split s at left (n - left)
    ∙ ap (λ (w : ℕ). word_at s at left + 256 ^ left * w) (word_at_past s (at + left) (n - left) l)
    ∙ none (word_at s at left) (256 ^ left)
  where
    none : (w p : ℕ) → w + p * 0 ≡ w
    none w p = omega arith
