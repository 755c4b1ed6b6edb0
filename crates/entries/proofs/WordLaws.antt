-- Entries as words of a list: what is read after a store, and a list as the words of its entries.
use Prim.Native.Nat.{ℕ, zero, suc, ◌+◌, ◌*◌, ◌≤◌, ◌<◌}
use mathlib.Core.Path.{◌≡◌, refl, sym, ap, ◌∙◌}
use mathlib.Core.Logic.{◌≢◌}
use mathlib.Core.List.{List, [], ◌∷◌, ◌++◌, append_assoc}
use native.Mathlib.Omega.{arith}
use native.Mathlib.Nat.{add-zero, add-suc, suc-add, not-suc-le-zero, le_of_suc-le-suc, ne_of_lt, ne_of_gt}
use native.Mathlib.Decide.{dec_lt}
use lib.ListN.{length, get_or, take, drop, set, length-set, length-drop, take-append-drop}
use lib.Seq.{sets, paste, length-sets, get_or-set_same, get_or-set_other, get_or-drop, drop-drop, drop-set-lt, set_comm}
use Rattle.std.proofs.lemmas.List.{get_or-take, length-take-le}
use Rattle.std.proofs.lemmas.List.Edits.{sets-eq}
use Rattle.entries.specs.Entry.{words_of, of_words, entry_words}
use Rattle.entries.specs.Words.{entry_at, put_entry, words_from}
use Rattle.entries.specs.declared.entry.Entry.{Entry}
use Rattle.entries.proofs.ByWord.{word_of, words_are, entry_same}

-- ---- a run of stores, read back

pub sets_below : (vs b : List ℕ) (i j : ℕ) → j < i → get_or (sets b i vs) j 0 ≡ get_or b j 0
sets_below [] b i j h = refl
sets_below (v ∷ vs) b i j h = sets_below vs (set b i v) (suc i) j (omega arith) ∙ get_or-set_other b i j v 0 (ne_of_lt h)

pub sets_above : (vs b : List ℕ) (i j : ℕ) → i + length vs ≤ j → get_or (sets b i vs) j 0 ≡ get_or b j 0
sets_above [] b i j h = refl
sets_above (v ∷ vs) b i j h = sets_above vs (set b i v) (suc i) j (omega arith) ∙ get_or-set_other b i j v 0 (ne_of_gt (omega arith))

pub sets_in : (vs b : List ℕ) (i k : ℕ) → k < length vs → i + length vs ≤ length b → get_or (sets b i vs) (i + k) 0 ≡ get_or vs k 0
sets_in [] b i k h g = absurd (not-suc-le-zero h)
sets_in (v ∷ vs) b i zero h g = rw add-zero (sets_below vs (set b i v) (suc i) i (omega arith) ∙ get_or-set_same b i v 0 (omega arith))
sets_in (v ∷ vs) b i (suc k) h g = rw (add-suc, ← suc-add) (sets_in vs (set b i v) (suc i) k (le_of_suc-le-suc h) (rw length-set (omega arith)))

pub sets_drop : (vs b : List ℕ) (i n : ℕ) → i + length vs ≤ n → drop n (sets b i vs) ≡ drop n b
sets_drop [] b i n h = refl
sets_drop (v ∷ vs) b i n h = sets_drop vs (set b i v) (suc i) n (omega arith) ∙ drop-set-lt n b i v (omega arith)

-- one run after another
pub sets_append : (vs ws b : List ℕ) (i : ℕ) → sets b i (vs ++ ws) ≡ sets (sets b i vs) (i + length vs) ws
sets_append [] ws b i = ap (λ (n : ℕ). sets b n ws) (sym (add-zero i))
sets_append (v ∷ vs) ws b i = sets_append vs ws (set b i v) (suc i) ∙ ap (λ (n : ℕ). sets (sets (set b i v) (suc i) vs) n ws) (omega arith)

-- ---- an entry is its words

-- the word at a place below 13
word_at_lem : (b : List ℕ) (e k : ℕ) → k < entry_words → get_or (words_of (entry_at b e)) k 0 ≡ get_or b (e * entry_words + k) 0
unfolding entry_at
word_at_lem b e k h = word_of _ k h ∙ get_or-take entry_words _ k 0 h ∙ get_or-drop (e * entry_words) b k 0

-- two entries whose words agree
pub entry_ext : (b b' : List ℕ) (e e' : ℕ) → ((k : ℕ) → k < entry_words → get_or b (e * entry_words + k) 0 ≡ get_or b' (e' * entry_words + k) 0) → entry_at b e ≡ entry_at b' e'
entry_ext b b' e e' h = entry_same (entry_at b e) (entry_at b' e') (λ k g. word_at_lem b e k g ∙ h k g ∙ sym (word_at_lem b' e' k g))

-- an entry whose words are those of v
pub entry_is : (b : List ℕ) (e : ℕ) (v : Entry) → ((k : ℕ) → k < entry_words → get_or b (e * entry_words + k) 0 ≡ get_or (words_of v) k 0) → entry_at b e ≡ v
entry_is b e v h = entry_same (entry_at b e) v (λ k g. word_at_lem b e k g ∙ h k g)

-- ---- the laws of a store

pub put_sets : (b : List ℕ) (e : ℕ) (v : Entry) → put_entry b e v ≡ sets b (e * entry_words) (words_of v)
unfolding put_entry
put_sets b e v = refl

-- ---- a load and a store, word by word
pub entry_read : (b : List ℕ) (e : ℕ) (ws : List ℕ) → length ws ≡ entry_words → e * entry_words + entry_words ≤ length b → ((k : ℕ) → k < entry_words → get_or ws k 0 ≡ get_or b (e * entry_words + k) 0)
    → of_words ws ≡ entry_at b e
entry_read b e ws n room h = sym (entry_is b e (of_words ws) (λ k lt. sym (word_of ws k lt ∙ h k lt)))

pub pasted : (b : List ℕ) (e : ℕ) (v : Entry) → e * entry_words + entry_words ≤ length b → paste b (e * entry_words) (words_of v) entry_words ≡ put_entry b e v
unfolding put_entry
pasted b e v room = sym (sets-eq (words_of v) b (e * entry_words) room)

pub put_same : (b : List ℕ) (e : ℕ) (v : Entry) → e * entry_words + entry_words ≤ length b → entry_at (put_entry b e v) e ≡ v
put_same b e v h = rw put_sets (entry_is _ e v (λ k g. sets_in (words_of v) b (e * entry_words) k g h))

pub put_other : (b : List ℕ) (e x : ℕ) (v : Entry) → x ≢ e → entry_at (put_entry b e v) x ≡ entry_at b x
put_other b e x v ne = rw put_sets (entry_ext _ _ x x (λ k g. go k g (dec_lt x e)))
  where
    go : (k : ℕ) → k < entry_words → Dec (x < e) → get_or (sets b (e * entry_words) (words_of v)) (x * entry_words + k) 0 ≡ get_or b (x * entry_words + k) 0
    go k g (yes h) = sets_below (words_of v) b (e * entry_words) (x * entry_words + k) (omega arith)
    go k g (no h) = sets_above (words_of v) b (e * entry_words) (x * entry_words + k) (omega arith)

-- two stores at different entries, in either order
set_past : (ws b : List ℕ) (i j v : ℕ) → i < j → sets (set b i v) j ws ≡ set (sets b j ws) i v
set_past [] b i j v h = refl
set_past (w ∷ ws) b i j v h = ap (λ (l : List ℕ). sets l (suc j) ws) (set_comm b i j v w (ne_of_lt h)) ∙ set_past ws (set b j w) i (suc j) v (omega arith)

sets_past : (vs ws b : List ℕ) (i j : ℕ) → i + length vs ≤ j → sets (sets b i vs) j ws ≡ sets (sets b j ws) i vs
sets_past [] ws b i j h = refl
sets_past (v ∷ vs) ws b i j h = sets_past vs ws (set b i v) (suc i) j (omega arith) ∙ ap (λ (l : List ℕ). sets l (suc i) vs) (set_past ws b i j v (omega arith))

pub put_past : (b : List ℕ) (e x : ℕ) (v w : Entry) → e < x → put_entry (put_entry b x w) e v ≡ put_entry (put_entry b e v) x w
put_past b e x v w h =
    put_sets (put_entry b x w) e v
    ∙ ap (λ (l : List ℕ). sets l (e * entry_words) (words_of v)) (put_sets b x w)
    ∙ sym (sets_past (words_of v) (words_of w) b (e * entry_words) (x * entry_words) (omega arith))
    ∙ ap (λ (l : List ℕ). sets l (x * entry_words) (words_of w)) (sym (put_sets b e v))
    ∙ sym (put_sets (put_entry b e v) x w)

pub put_length : (b : List ℕ) (e : ℕ) (v : Entry) → length (put_entry b e v) ≡ length b
put_length b e v = rw put_sets (length-sets b (e * entry_words) (words_of v))

pub put_drop : (b : List ℕ) (e : ℕ) (v : Entry) (n : ℕ) → e * entry_words + entry_words ≤ n → drop n (put_entry b e v) ≡ drop n b
put_drop b e v n h = rw put_sets (sets_drop (words_of v) b (e * entry_words) n h)

-- ---- a list as the words of its entries

-- the first entry's words, and the others after them
pub first_entry : (b : List ℕ) → entry_words ≤ length b → b ≡ words_of (entry_at b 0) ++ drop entry_words b
unfolding entry_at
first_entry b h = sym (take-append-drop entry_words b) ∙ ap (λ (l : List ℕ). l ++ drop entry_words b) (sym (words_are (take entry_words b) (length-take-le entry_words b h)))

pub next_entry : (b : List ℕ) (x : ℕ) → entry_at (drop entry_words b) x ≡ entry_at b (suc x)
next_entry b x = entry_ext _ _ x (suc x) (λ k g. get_or-drop entry_words b (x * entry_words + k) 0 ∙ ap (λ (n : ℕ). get_or b n 0) (omega arith))

slide : (x i : ℕ) → x + suc i ≡ suc x + i
slide x i = omega arith

thirteen : (n : ℕ) → entry_words + n * entry_words ≡ suc n * entry_words
thirteen n = omega arith

-- a list whose first n entries are those of f
pub is_words : (f : ℕ → Entry) (n : ℕ) (b : List ℕ) (x : ℕ) → n * entry_words ≤ length b → ((i : ℕ) → i < n → entry_at b i ≡ f (x + i)) → b ≡ words_from f x n ++ drop (n * entry_words) b
unfolding words_from
is_words f zero b x h g = refl
is_words f (suc n) b x h g =
    let e0 : entry_at b 0 ≡ f x = g 0 (omega arith) ∙ ap f (add-zero x) in
    let ih : drop entry_words b ≡ words_from f (suc x) n ++ drop (n * entry_words) (drop entry_words b) = is_words f n (drop entry_words b) (suc x) (rw length-drop (omega arith)) (λ i k. next_entry b i ∙ g (suc i) (omega arith) ∙ ap f (slide x i)) in
    first_entry b (omega arith)
    ∙ ap (λ (v : Entry). words_of v ++ drop entry_words b) e0
    ∙ ap (λ (l : List ℕ). words_of (f x) ++ l) (ih ∙ ap (λ (l : List ℕ). words_from f (suc x) n ++ l) (drop-drop (n * entry_words) entry_words b ∙ ap (λ (k : ℕ). drop k b) (thirteen n)))
    ∙ sym (append_assoc (words_of (f x)) (words_from f (suc x) n) (drop (suc n * entry_words) b))

-- and what stands in it
pub words_at : (f : ℕ → Entry) (n x : ℕ) (r : List ℕ) (i : ℕ) → i < n → entry_at (words_from f x n ++ r) i ≡ f (x + i)
unfolding words_from entry_at
words_at f zero x r i h = absurd (not-suc-le-zero h)
words_at f (suc n) x r zero h = ap f (sym (add-zero x))
words_at f (suc n) x r (suc i) h =
    sym (next_entry (words_of (f x) ++ words_from f (suc x) n ++ r) i) ∙ words_at f n (suc x) r i (le_of_suc-le-suc h) ∙ ap f (sym (slide x i))

pub words_length : (f : ℕ → Entry) (n x : ℕ) → length (words_from f x n) ≡ n * entry_words
unfolding words_from
words_length f zero x = omega arith
words_length f (suc n) x = omega (arith, words_length f n (suc x))
