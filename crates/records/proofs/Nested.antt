-- Reading a slider's nested list from the left: each item before the tail counts as a tick or a repeat.
use Rattle.std.proofs.Common.{◌≡◌, refl, ap, ◌∙◌, ℕ, ◌+◌, ◌-◌, ◌≤◌, ◌<◌, Bool, true, false, List, [], ◌∷◌, ◌++◌, length, Option, Some, None, bit_and, bit_or, eqb, arith}
use borrow.Author.Tests.{ne_eqb}
use lib.Bits.{and_le_l, and_le_r, or_add_and, or_lt}
use Prim.Native.Nat.{zero, suc}
use Rattle.std.specs.List.{fold, sum_by}
use Rattle.std.proofs.lemmas.List.Sums.{sum_by-cons}
use Rattle.rules.specs.Refusals.{Checked, good, refused, ◌>>=◌, pick, NESTED}
use Rattle.records.specs.Objects.{Item, tick, repeat, repeats, ticks}
use Rattle.records.specs.Records.{item_of, nested_of, nested_view}
use Rattle.records.specs.declared.hit_object.Slider.{Slider}

-- ---- the loop's counters
-- how many items are odd
abbrev pub ones : List ℕ → ℕ
ones xs = sum_by (λ (b : ℕ). bit_and b 1) xs

-- the bits of the items, behind those of h
abbrev pub high : ℕ → List ℕ → ℕ
high h xs = fold bit_or h xs

or_above_l : (a b : ℕ) → a ≤ bit_or a b
or_above_l a b = omega (arith, or_add_and a b, and_le_r a b)

or_above_r : (a b : ℕ) → b ≤ bit_or a b
or_above_r a b = omega (arith, or_add_and a b, and_le_l a b)

high_grows : (h : ℕ) (xs : List ℕ) → h ≤ high h xs
high_grows h [] = omega arith
high_grows h (x ∷ xs) = omega (arith, or_above_l h x, high_grows (bit_or h x) xs)

ones-cons : (b : ℕ) (xs : List ℕ) → ones (b ∷ xs) ≡ bit_and b 1 + ones xs
ones-cons b xs = sum_by-cons (λ (b : ℕ). bit_and b 1) b xs

ones-le-length : (xs : List ℕ) → ones xs ≤ length xs
ones-le-length [] = omega arith
ones-le-length (b ∷ xs) = omega (arith, ones-cons b xs, and_le_r b 1, ones-le-length xs)

-- ---- the list against them
-- r repeats and t ticks
abbrev pub counts : ℕ → ℕ → Option Slider
counts r t = Some (record { repeats = r; ticks = t })

nested-cons : (b : ℕ) (xs : List ℕ) (tail : ℕ) → nested_of (b ∷ (xs ++ tail ∷ [])) ≡ (item_of b >>= (λ item. nested_of (xs ++ tail ∷ []) >>= (λ items. good (item ∷ items))))
unfolding nested_of
nested-cons b [] tail = refl
nested-cons b (x ∷ xs) tail = refl

tick_more : (x : Checked (List Item)) (r t : ℕ) → nested_view x ≡ counts r t → nested_view (x >>= (λ is. good (tick ∷ is))) ≡ counts r (t + 1)
unfolding ◌>>=◌ repeats ticks
tick_more (refused n) r t e = cc
tick_more (good is) r t e = grind arith

repeat_more : (x : Checked (List Item)) (r t : ℕ) → nested_view x ≡ counts r t → nested_view (x >>= (λ is. good (repeat ∷ is))) ≡ counts (r + 1) t
unfolding ◌>>=◌ repeats ticks
repeat_more (refused n) r t e = cc
repeat_more (good is) r t e = grind arith

none_more : (i : Checked Item) (x : Checked (List Item)) → nested_view x ≡ None → nested_view (i >>= (λ item. x >>= (λ items. good (item ∷ items)))) ≡ None
unfolding ◌>>=◌
none_more (refused n) x e = refl
none_more (good i) (refused n) e = refl
none_more (good i) (good is) e = cc

-- with no item above 1 before the tail, an item is its own count of repeats
counted_from : (xs : List ℕ) (h r t : ℕ) → high h xs ≤ 1 → r ≡ ones xs → r + t ≡ length xs → nested_view (nested_of (xs ++ 2 ∷ [])) ≡ counts r t
unfolding nested_of ◌>>=◌ repeats ticks
counted_from [] h r t k p q = grind arith
counted_from (zero ∷ xs) h r t k p q =
    let few = ones-le-length xs in
    let own = ones-cons 0 xs in
    ap nested_view (nested-cons 0 xs 2) ∙ tick_more (nested_of (xs ++ 2 ∷ [])) r (t - 1) (counted_from xs _ r (t - 1) k (omega arith) (omega arith)) ∙ ap (λ t. counts r t) (omega arith)
counted_from (suc zero ∷ xs) h r t k p q =
    let own = ones-cons 1 xs in
    ap nested_view (nested-cons 1 xs 2) ∙ repeat_more (nested_of (xs ++ 2 ∷ [])) (r - 1) t (counted_from xs _ (r - 1) t k (omega arith) (omega arith)) ∙ ap (λ r. counts r t) (omega arith)
counted_from (suc (suc b) ∷ xs) h r t k p q = absurd (omega (arith, or_above_r h (suc (suc b)), high_grows (bit_or h (suc (suc b))) xs))

pub counted : (xs : List ℕ) → high 0 xs ≤ 1 → nested_view (nested_of (xs ++ 2 ∷ [])) ≡ counts (ones xs) (length xs - ones xs)
counted xs k = counted_from xs 0 _ _ k refl (omega (arith, ones-le-length xs))

-- an item above 1 before the tail
item_wrong_from : (xs : List ℕ) (h tail : ℕ) → h ≤ 1 → 1 < high h xs → nested_view (nested_of (xs ++ tail ∷ [])) ≡ None
unfolding ◌>>=◌
item_wrong_from [] h tail low k = absurd (omega arith)
item_wrong_from (zero ∷ xs) h tail low k =
    ap nested_view (nested-cons 0 xs tail) ∙ none_more (item_of 0) _ (item_wrong_from xs (bit_or h 0) tail (omega (arith, or_lt 1 h 0 (omega arith) (omega arith))) k)
item_wrong_from (suc zero ∷ xs) h tail low k =
    ap nested_view (nested-cons 1 xs tail) ∙ none_more (item_of 1) _ (item_wrong_from xs (bit_or h 1) tail (omega (arith, or_lt 1 h 1 (omega arith) (omega arith))) k)
item_wrong_from (suc (suc b) ∷ xs) h tail low k =
    ap nested_view (nested-cons (suc (suc b)) xs tail) ∙ simp (ne_eqb (suc (suc b)) 0 (λ e. omega arith), ne_eqb (suc (suc b)) 1 (λ e. omega arith))

pub item_wrong : (xs : List ℕ) (tail : ℕ) → 1 < high 0 xs → nested_view (nested_of (xs ++ tail ∷ [])) ≡ None
item_wrong xs tail k = item_wrong_from xs 0 tail (omega arith) k

pub tail_wrong : (xs : List ℕ) (tail : ℕ) → (tail ≡ 2 → ⊥) → nested_view (nested_of (xs ++ tail ∷ [])) ≡ None
unfolding nested_of
tail_wrong [] tail k = simp (ne_eqb _ _ k)
tail_wrong (b ∷ xs) tail k = ap nested_view (nested-cons b xs tail) ∙ none_more (item_of b) _ (tail_wrong xs tail k)

pub no_item : (xs : List ℕ) → length xs ≡ 0 → nested_view (nested_of xs) ≡ None
unfolding nested_of
no_item [] k = refl
no_item (b ∷ xs) k = absurd (omega arith)

pub ruleset nested_lists = (counted, item_wrong, tail_wrong, no_item)

-- ---- what a slider's record makes of its list
data Nested {A : Type 0} : Checked A → Type 0 where
  nested : Nested (refused NESTED)
  fine : {a : A} → Nested (good a)

nested_bind : {A B : Type 0} (x : Checked A) (f : A → Checked B) → Nested x → ((a : A) → Nested (f a)) → Nested (x >>= f)
unfolding ◌>>=◌
nested_bind (refused n) f nested k = nested
nested_bind (good a) f fine k = k a

nested-pick : {A : Type 0} (b : Bool) {x y : Checked A} → Nested x → Nested y → Nested (pick b x y)
nested-pick true p q = p
nested-pick false p q = q

-- a wrong list is refused for its rule
refuses_nested : (l : List ℕ) → Nested (nested_of l)
unfolding nested_of
refuses_nested [] = nested
refuses_nested (b ∷ []) = nested-pick (eqb b 2) fine nested
refuses_nested (b ∷ x ∷ l) =
    nested_bind (item_of b) _ (nested-pick (eqb b 0) fine (nested-pick (eqb b 1) fine nested)) (λ i. nested_bind (nested_of (x ∷ l)) _ (refuses_nested (x ∷ l)) (λ is. fine))

pub refused_list : (l : List ℕ) → nested_view (nested_of l) ≡ None → nested_of l ≡ refused NESTED
refused_list l e = go (nested_of l) (refuses_nested l) e
  where
    go : (x : Checked (List Item)) → Nested x → nested_view x ≡ None → x ≡ refused NESTED
    go (refused m) nested e = refl
    go (good is) fine e = cc
