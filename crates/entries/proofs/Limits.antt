-- What the test of an entry's limits says, word by word, and that joining two entries within them wraps nowhere.
use Prim.Native.Nat.{ℕ, zero, suc, ◌+◌, ◌*◌, ◌≤◌, ◌<◌, suc-le-suc}
use mathlib.Core.Path.{◌≡◌, refl, sym, ap, ◌∙◌, subst}
use mathlib.Core.Logic.{◌≢◌}
use mathlib.Core.Bool.{Bool, true, false, cond, ◌&&◌, false≢true}
use mathlib.Core.List.{List, [], ◌∷◌}
use native.Mathlib.Omega.{arith}
use native.Mathlib.Nat.{add_comm, mul-le-mul, not-suc-le-zero, le_of_suc-le-suc, zero-lt-suc}
use native.Mathlib.Decide.{ℕ_discrete}
use lib.Dec.{leb, ltb, eqb, lit<, lit≤}
use lib.ListN.{length, get_or, set}
use lib.Seq.{get_or-set_other}
use borrow.Author.Tests.{leb-true, le-leb, ne_eqb}
use Rattle.rules.specs.Limits.{max_levels, max_combos_before, combo_limit, max_objects}
use Rattle.entries.specs.Entry.{none, joined, in_limits, all_le, words_of, limit_list, SumOf, entry_words}
use Rattle.entries.specs.declared.entry.Entry.{Entry}
use Rattle.rules.proofs.Laws.{and_left, and_right}
use Rattle.entries.proofs.ByWord.{sums, sums_at}

all_le_start : (t : Bool) (xs ls : List ℕ) → all_le t xs ls ≡ true → t ≡ true
all_le_start t [] ls h = h
all_le_start t (x ∷ xs) [] h = absurd (false≢true h)
all_le_start t (x ∷ xs) (l ∷ ls) h = and_left t (leb x l) (all_le_start (t && leb x l) xs ls h)

-- each word that was tested is at most its limit
all_le_lem : (t : Bool) (xs ls : List ℕ) → all_le t xs ls ≡ true → (i : ℕ) → i < length xs → get_or xs i 0 ≤ get_or ls i 0
all_le_lem t [] ls h i lt = absurd (not-suc-le-zero lt)
all_le_lem t (x ∷ xs) [] h i lt = absurd (false≢true h)
all_le_lem t (x ∷ xs) (l ∷ ls) h zero lt = leb-true x l (and_right t (leb x l) (all_le_start (t && leb x l) xs ls h))
all_le_lem t (x ∷ xs) (l ∷ ls) h (suc i) lt = all_le_lem (t && leb x l) xs ls h i (le_of_suc-le-suc lt)

all_le_of : (t : Bool) (xs ls : List ℕ) → t ≡ true → length xs ≤ length ls → ((i : ℕ) → i < length xs → get_or xs i 0 ≤ get_or ls i 0) → all_le t xs ls ≡ true
all_le_of t [] ls ht g h = ht
all_le_of t (x ∷ xs) [] ht g h = absurd (not-suc-le-zero g)
all_le_of t (x ∷ xs) (l ∷ ls) ht g h =
    all_le_of (t && leb x l) xs ls (ap (λ (y : Bool). y && leb x l) ht ∙ le-leb x l (h 0 (zero-lt-suc (length xs)))) (le_of_suc-le-suc g) (λ i k. h (suc i) (suc-le-suc k))

-- where no number is left
pub all_le_end : (t : Bool) (xs ls : List ℕ) → length xs ≡ 0 → all_le t xs ls ≡ t
all_le_end t [] ls h = refl
all_le_end t (x ∷ xs) ls h = absurd (omega (arith, h))

pub word_le : (e : Entry) → in_limits e ≡ true → (i : ℕ) → i < entry_words → get_or (words_of e) i 0 ≤ get_or limit_list i 0
unfolding in_limits
word_le e h = all_le_lem true (words_of e) limit_list h

-- what `is_unsound` and `state` compute with
pub counts_low : (e : Entry) → in_limits e ≡ true → (e.n_sliders ≤ max_objects) × (e.combos_before ≤ max_combos_before) × (e.first_no_slider ≤ 1)
counts_low e h = (word_le e h 8 (lit< tt), word_le e h 2 (lit< tt), word_le e h 3 (lit< tt))

pub within_of : (e : Entry) → ((i : ℕ) → i < entry_words → get_or (words_of e) i 0 ≤ get_or limit_list i 0) → in_limits e ≡ true
unfolding in_limits
within_of e h = all_le_of true (words_of e) limit_list refl (lit≤ tt) h

-- what holds of the word at place k, and of the others, holds of each
pub at_each : {P : ℕ → Type 0} (k : ℕ) → P k → ((i : ℕ) → i < entry_words → i ≢ k → P i) → (i : ℕ) → i < entry_words → P i
at_each {P} k here other i lt = go (ℕ_discrete i k)
  where
    go : Dec (i ≡ k) → P i
    go (yes e) = subst P (sym e) here
    go (no n) = other i lt n

abbrev all_most : ℕ → List ℕ → Bool
all_most m [] = true
all_most m (l ∷ ls) = leb l m && all_most m ls

most : (m : ℕ) (ls : List ℕ) → all_most m ls ≡ true → (i : ℕ) → get_or ls i 0 ≤ m
most m [] h i = omega arith
most m (l ∷ ls) h zero = leb-true l m (and_left (leb l m) (all_most m ls) h)
most m (l ∷ ls) h (suc i) = most m ls (and_right (leb l m) (all_most m ls) h) i

-- no limit is above that of s
limit_most : (i : ℕ) → get_or limit_list i 0 ≤ max_combos_before
limit_most = most max_combos_before limit_list refl

-- ---- the words of two neighbouring runs

module _ (a b : Entry) where
  abbrev more : ℕ → ℕ
  more i = cond (eqb i 2) (a.combo * b.object_count) 0

  -- each word but f is the sum of both, and s has the combo that the objects of b meet
  pub word_joined : (i : ℕ) → i < entry_words → i ≢ 3 → get_or (words_of (joined a b)) i 0 ≡ get_or (words_of a) i 0 + get_or (words_of b) i 0 + more i
  unfolding joined
  word_joined i h n =
      get_or-set_other (set (sums (words_of a) (words_of b)) 2 before) 3 i (joined a b).first_no_slider 0 n ∙ go (ℕ_discrete i 2)
    where
      sum : get_or (sums (words_of a) (words_of b)) i 0 ≡ get_or (words_of a) i 0 + get_or (words_of b) i 0
      sum = sums_at (words_of a) (words_of b) i h h

      before : ℕ
      before = a.combos_before + b.combos_before + a.combo * b.object_count

      go : Dec (i ≡ 2) → get_or (set (sums (words_of a) (words_of b)) 2 before) i 0 ≡ get_or (words_of a) i 0 + get_or (words_of b) i 0 + more i
      go (yes e) = rw e refl
      go (no d) = get_or-set_other (sums (words_of a) (words_of b)) 2 i before 0 d ∙ simp (ne_eqb i 2 d) (omega (arith, sum))

  more_most : (i : ℕ) → more i ≤ a.combo * b.object_count
  more_most i = go (eqb i 2)
    where
      go : (c : Bool) → cond c (a.combo * b.object_count) 0 ≤ a.combo * b.object_count
      go true = omega arith
      go false = omega arith

  -- f is that of one of them
  pub first_most : (m : ℕ) → a.first_no_slider ≤ m → b.first_no_slider ≤ m → (joined a b).first_no_slider ≤ m
  unfolding joined
  first_most m ha hb = go (ltb 0 a.object_count)
    where
      go : (c : Bool) → cond c a.first_no_slider b.first_no_slider ≤ m
      go true = ha
      go false = hb

-- ---- a sum of a few entries

pub sum_of_entry : (e : Entry) → in_limits e ≡ true → SumOf 1 e
unfolding SumOf
sum_of_entry e h = (
  λ i lt. let x = word_le e h i lt in let m = limit_most i in omega (arith, x, m),
  let k : e.combo ≤ combo_limit = word_le e h 1 (lit< tt) in omega (arith, k),
)

pub sum_of-none : SumOf 0 none
unfolding SumOf
sum_of-none = (λ i lt. most 0 (words_of none) refl i, omega arith)

pub sum_of_more : (n k : ℕ) (e : Entry) → n ≤ k → SumOf n e → SumOf k e
unfolding SumOf
sum_of_more n k e le h = (λ i lt. let x = h.0 i lt in omega (arith, x, le), let x = h.1 in omega (arith, x, le))

pub sum_of_one : (e : Entry) → in_limits e ≡ true → SumOf (max_levels + 1) e
sum_of_one e h = sum_of_more 1 (max_levels + 1) e (lit≤ tt) (sum_of_entry e h)

-- one entry more, in either order
module _ (n : ℕ) (a b : Entry) (few : n < 14) (ha : SumOf n a) (hb : in_limits b ≡ true) where
  first_low : (a.first_no_slider ≤ suc n * 2199023255552) × (b.first_no_slider ≤ suc n * 2199023255552)
  unfolding SumOf
  first_low =
      let x : a.first_no_slider ≤ n * 2199023255552 = ha.0 3 (lit< tt) in
      let y : b.first_no_slider ≤ 1 = word_le b hb 3 (lit< tt) in
      (omega (arith, x), omega (arith, y))

  ordered : (x y : Entry) → ((i : ℕ) → get_or (words_of x) i 0 + get_or (words_of y) i 0 ≡ get_or (words_of a) i 0 + get_or (words_of b) i 0)
      → x.combo * y.object_count ≤ n * combo_limit * max_objects
      → (joined x y).first_no_slider ≤ suc n * 2199023255552
      → SumOf (suc n) (joined x y)
  unfolding SumOf
  ordered x y both product first = (at_each 3 first other, combo)
    where
      other : (i : ℕ) → i < entry_words → i ≢ 3 → get_or (words_of (joined x y)) i 0 ≤ suc n * 2199023255552
      other i lt ne = omega (arith, word_joined x y i lt ne, both i, ha.0 i lt, word_le b hb i lt, limit_most i, more_most x y i, product, few)

      combo : (joined x y).combo ≤ suc n * combo_limit
      combo =
          let w : (joined x y).combo ≡ x.combo + y.combo + 0 = word_joined x y 1 (lit< tt) (omega arith) in
          let s : x.combo + y.combo ≡ a.combo + b.combo = both 1 in
          let l : b.combo ≤ combo_limit = word_le b hb 1 (lit< tt) in
          omega (arith, w, s, ha.1, l)

  pub sum_of-joined : SumOf (suc n) (joined a b)
  unfolding SumOf
  sum_of-joined = ordered a b (λ i. refl) (mul-le-mul ha.1 (word_le b hb 0 (lit< tt))) (first_most a b _ first_low.0 first_low.1)

  -- the sum's count is a factor then
  pub sum_of_led : a.object_count ≤ n * max_objects → SumOf (suc n) (joined b a)
  sum_of_led count =
      let p = mul-le-mul (word_le b hb 1 (lit< tt)) count in
      ordered b a (λ i. add_comm (get_or (words_of b) i 0) (get_or (words_of a) i 0)) (omega (arith, p)) (first_most b a _ first_low.1 first_low.0)

module _ (a b : Entry) (ha : SumOf (max_levels + 1) a) (hb : in_limits b ≡ true) where
  pub sum_fits : (i : ℕ) → i < entry_words → get_or (words_of a) i 0 + get_or (words_of b) i 0 < 18446744073709551616
  unfolding SumOf
  sum_fits i h =
      let x = ha.0 i h in
      let y = word_le b hb i h in
      let m = limit_most i in
      omega (arith, x, y, m)

  pub befores_fit : a.combos_before + b.combos_before < 18446744073709551616
  befores_fit = sum_fits 2 (lit< tt)

  pub product_fits : a.combo * b.object_count ≤ 114802688 * max_objects
  unfolding SumOf
  product_fits = mul-le-mul ha.1 (word_le b hb 0 (lit< tt))

  pub combos_fit : a.combos_before + b.combos_before + a.combo * b.object_count < 18446744073709551616
  unfolding SumOf
  combos_fit =
      let x : a.combos_before ≤ 14 * 2199023255552 = ha.0 2 (lit< tt) in
      let y : b.combos_before ≤ max_combos_before = word_le b hb 2 (lit< tt) in
      let p = product_fits in
      omega (arith, x, y, p)

  -- the same with chosen factors
  module _ (count : a.object_count ≤ (max_levels + 1) * max_objects) where
    pub chosen_product : (l : Bool) → cond l a.combo b.combo * cond l b.object_count a.object_count ≤ 114802688 * max_objects
    chosen_product true = product_fits
    chosen_product false = let p = mul-le-mul (word_le b hb 1 (lit< tt)) count in omega (arith, p)

    pub chosen_combos : (l : Bool) → a.combos_before + b.combos_before + cond l a.combo b.combo * cond l b.object_count a.object_count < 18446744073709551616
    unfolding SumOf
    chosen_combos l =
        let x : a.combos_before ≤ 14 * 2199023255552 = ha.0 2 (lit< tt) in
        let y : b.combos_before ≤ max_combos_before = word_le b hb 2 (lit< tt) in
        let p = chosen_product l in
        omega (arith, x, y, p)
