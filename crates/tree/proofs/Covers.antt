-- The objects under an entry of the tree: runs of places, which an edit elsewhere leaves as they are.
use Prim.Native.Nat.{ℕ, zero, suc, ◌+◌, ◌-◌, ◌*◌, ◌/◌, ◌%◌, ◌^◌, ◌≤◌, ◌<◌}
use mathlib.Core.Path.{◌≡◌, refl, sym, ap, ap₂, ◌∙◌, subst}
use mathlib.Core.Logic.{◌≢◌}
use mathlib.Core.List.{List, [], ◌∷◌, ◌++◌}
use native.Mathlib.Omega.{arith}
use native.Mathlib.Nat.{zero-mul, mul-one, add-mul, mul_assoc, pow-suc, le_trans, le_of_suc-le-suc, mul-le-mul_right, one-mul, add-sub_cancel_left, lt_of_lt_of_le, not-suc-le-zero, le-mul_of_pos_right}
use native.Mathlib.Decide.{dec_le}
use lib.Pow.{pow_pos}
use lib.ListN.{length, take, drop, set}
use lib.Seq.{take-add, drop-drop, take_all}
use borrow.Author.Tests.{le-leb, lt-leb}
use Rattle.records.specs.Objects.{Object}
use Rattle.entries.specs.Entry.{joined, entry_of}
use Rattle.entries.proofs.Runs.{entry_append}
use Rattle.tree.specs.Board.{covered, entry_in}

-- ---- the objects under an entry

module _ (c : ℕ) (os : List Object) where
  pub covered_leaf : (n x : ℕ) → c ≤ x → covered (suc n) c os x ≡ take 1 (drop (x - c) os)
  unfolding covered
  covered_leaf n x h = rw (le-leb _ _ h)

  pub covered_node : (n x : ℕ) → x < c → covered (suc n) c os x ≡ covered n c os (2 * x) ++ covered n c os (2 * x + 1)
  unfolding covered
  covered_node n x h = rw (lt-leb _ _ h)

twice : (x c : ℕ) → c ≤ x → 2 * x - 2 * c ≡ 2 * (x - c)
twice x c h = omega arith

twice_one : (x c : ℕ) → c ≤ x → 2 * x + 1 - 2 * c ≡ 2 * (x - c) + 1
twice_one x c h = omega arith

-- the entry x of level n covers a run of 2 ^ n places
pub covered-run : (os : List Object) (n c x : ℕ) → c ≤ x → x < 2 * c → covered (suc n) (c * 2 ^ n) os x ≡ take (2 ^ n) (drop ((x - c) * 2 ^ n) os)
covered-run os zero c x h g = rw (mul-one, mul-one) (covered_leaf c os 0 x h)
covered-run os (suc n) c x h g =
    let p : ℕ = 2 ^ n in
    let d : ℕ = x - c in
    let e0 : 2 ^ suc n ≡ p * 2 = pow-suc 2 n in
    let e1 : c * 2 ^ suc n ≡ 2 * c * p = ap (λ (m : ℕ). c * m) e0 ∙ omega (arith, mul_assoc c p 2, mul_assoc 2 c p) in
    let e2 : (2 * x - 2 * c) * p ≡ d * 2 ^ suc n = ap (λ (m : ℕ). m * p) (twice x c h) ∙ omega (arith, mul_assoc 2 d p, mul_assoc d p 2, ap (λ (m : ℕ). d * m) e0) in
    let e3 : (2 * x + 1 - 2 * c) * p ≡ d * 2 ^ suc n + p = ap (λ (m : ℕ). m * p) (twice_one x c h) ∙ omega (arith, add-mul (2 * d) 1 p, mul_assoc 2 d p, mul_assoc d p 2, ap (λ (m : ℕ). d * m) e0) in
    let e4 : p + p ≡ 2 ^ suc n = omega (arith, e0) in
    let below : x < 2 * c * p = lt_of_lt_of_le g (le-mul_of_pos_right (2 * c) (pow_pos n)) in
    let l = covered-run os n (2 * c) (2 * x) (omega arith) (omega arith) in
    let r = covered-run os n (2 * c) (2 * x + 1) (omega arith) (omega arith) in
    rw e1 (covered_node (2 * c * p) os (suc n) x below)
    ∙ ap₂ (λ (a b : List Object). a ++ b) (l ∙ ap (λ (m : ℕ). take p (drop m os)) e2) (r ∙ ap (λ (m : ℕ). take p (drop m os)) e3 ∙ ap (take p) (sym (drop-drop p (d * 2 ^ suc n) os)))
    ∙ sym (take-add p p (drop (d * 2 ^ suc n) os))
    ∙ ap (λ (m : ℕ). take m (drop (d * 2 ^ suc n) os)) e4

-- ---- one more level of fuel changes nothing

-- one level down: twice the entry, half the width
pub deeper : (c n x y : ℕ) → c ≤ x * 2 ^ suc n → 2 * x ≤ y → c ≤ y * 2 ^ n
deeper c n x y h g =
    let same : x * 2 ^ suc n ≡ 2 * x * 2 ^ n = ap (λ (m : ℕ). x * m) (pow-suc 2 n) ∙ omega (arith, mul_assoc x (2 ^ n) 2, mul_assoc 2 x (2 ^ n)) in
    le_trans (subst (λ (m : ℕ). c ≤ m) same h) (mul-le-mul_right {m = 2 * x} (2 ^ n) g)

pub covered_fuel : (os : List Object) (c n x : ℕ) → c ≤ x * 2 ^ n → covered (suc n) c os x ≡ covered (suc (suc n)) c os x
covered_fuel os c zero x h =
    let g : c ≤ x = simp mul-one at h in
    covered_leaf c os 0 x g ∙ sym (covered_leaf c os 1 x g)
covered_fuel os c (suc n) x h = go (λ y k. covered_fuel os c n y k) (dec_le c x)
  where
    go : ((y : ℕ) → c ≤ y * 2 ^ n → covered (suc n) c os y ≡ covered (suc (suc n)) c os y) → Dec (c ≤ x)
        → covered (suc (suc n)) c os x ≡ covered (suc (suc (suc n))) c os x
    go ih (yes g) = covered_leaf c os (suc n) x g ∙ sym (covered_leaf c os (suc (suc n)) x g)
    go ih (no g) =
        covered_node c os (suc n) x (omega arith)
        ∙ ap₂ (λ (a b : List Object). a ++ b) (ih (2 * x) (deeper c n x (2 * x) h (omega arith))) (ih (2 * x + 1) (deeper c n x (2 * x + 1) h (omega arith)))
        ∙ sym (covered_node c os (suc (suc n)) x (omega arith))

-- ---- the entries of a tree of l levels

pub entry_node : (l : ℕ) (os : List Object) (x : ℕ) → 1 ≤ x → x < 2 ^ l → entry_in l os x ≡ joined (entry_in l os (2 * x)) (entry_in l os (2 * x + 1))
unfolding entry_in
entry_node zero os x h g = absurd (not-suc-le-zero (le_trans h (le_of_suc-le-suc g)))
entry_node (suc l) os x h g =
    let all : 2 ^ suc l ≤ x * 2 ^ suc l = subst (λ (m : ℕ). m ≤ x * 2 ^ suc l) (one-mul (2 ^ suc l)) (mul-le-mul_right {m = 1} (2 ^ suc l) h) in
    let deep : (y : ℕ) → 2 * x ≤ y → 2 ^ suc l ≤ y * 2 ^ l = (λ y k. deeper (2 ^ suc l) l x y all k) in
    ap entry_of (covered_node (2 ^ suc l) os (suc l) x g
    ∙ ap₂ (λ (a b : List Object). a ++ b) (covered_fuel os (2 ^ suc l) l (2 * x) (deep (2 * x) (omega arith)))
    (covered_fuel os (2 ^ suc l) l (2 * x + 1) (deep (2 * x + 1) (omega arith))))
    ∙ entry_append (covered (suc (suc l)) (2 ^ suc l) os (2 * x)) (covered (suc (suc l)) (2 ^ suc l) os (2 * x + 1))

pub entry_top : (l : ℕ) (os : List Object) → length os ≤ 2 ^ l → entry_in l os 1 ≡ entry_of os
unfolding entry_in
entry_top l os h =
    ap entry_of (subst (λ (c : ℕ). covered (suc l) c os 1 ≡ take (2 ^ l) (drop ((1 - 1) * 2 ^ l) os)) (one-mul (2 ^ l)) (covered-run os l 1 1 (omega arith) (omega arith))
    ∙ ap (λ (m : ℕ). take (2 ^ l) (drop m os)) (zero-mul (2 ^ l))
    ∙ take_all (2 ^ l) os h)

pub one_set : (os : List Object) (p : ℕ) (o : Object) → p < length os → take 1 (drop p (set os p o)) ≡ o ∷ []
one_set [] p o h = absurd (not-suc-le-zero h)
one_set (y ∷ os) zero o h = refl
one_set (y ∷ os) (suc p) o h = one_set os p o (le_of_suc-le-suc h)

one-set_other : (os : List Object) (p i : ℕ) (o : Object) → i ≢ p → take 1 (drop i (set os p o)) ≡ take 1 (drop i os)
one-set_other [] p i o h = refl
one-set_other (y ∷ os) zero zero o h = absurd (h refl)
one-set_other (y ∷ os) zero (suc i) o h = refl
one-set_other (y ∷ os) (suc p) zero o h = refl
one-set_other (y ∷ os) (suc p) (suc i) o h = one-set_other os p i o (λ e. h (ap suc e))

-- the changed place's own entry
pub entry_leaf : (l : ℕ) (os : List Object) (p : ℕ) (o : Object) → p < length os → entry_in l (set os p o) (2 ^ l + p) ≡ entry_of (o ∷ [])
unfolding entry_in
entry_leaf l os p o h =
    ap entry_of (covered_leaf (2 ^ l) (set os p o) l (2 ^ l + p) (omega arith)
    ∙ ap (λ (m : ℕ). take 1 (drop m (set os p o))) (add-sub_cancel_left (2 ^ l) p)
    ∙ one_set os p o h)

-- ---- the way from a place to the top

abbrev pub Off : ℕ → ℕ → ℕ → Type 0
Off zero x e = x ≢ e
Off (suc n) x e = (x ≢ e) × Off n x (e / 2)

abbrev pub Top : ℕ → ℕ → Type 0
Top zero e = e ≡ 1
Top (suc n) e = Top n (e / 2)

pub top_of : (l p : ℕ) → p < 2 ^ l → Top l (2 ^ l + p)
top_of zero p h = omega arith
top_of (suc l) p h = subst (Top l) (half l p) (top_of l (p / 2) (omega (arith, pow-suc 2 l)))
  where
    half : (l p : ℕ) → 2 ^ l + p / 2 ≡ (2 ^ suc l + p) / 2
    half l p = omega (arith, pow-suc 2 l)

pub top_two : (n e : ℕ) → Top (suc n) e → 2 ≤ e
top_two zero e t = omega arith
top_two (suc n) e t = let h = top_two n (e / 2) t in omega arith

pub off_self : (n x e : ℕ) → Off n x e → x ≢ e
off_self zero x e h = h
off_self (suc n) x e h = h.0

-- entry 0 is off every way
pub off_zero : (n e : ℕ) → Top n e → Off n 0 e
off_zero zero e t = omega arith
off_zero (suc n) e t = let h = top_two n e t in (omega (arith, h), off_zero n (e / 2) t)

-- where an entry is off the way, so are the two below it
pub off_below : (n x e : ℕ) → Top n e → 1 ≤ x → Off n x e → Off n (2 * x) e × Off n (2 * x + 1) e
off_below zero x e t h off = (omega arith, omega arith)
off_below (suc n) x e t h off =
    let ne : x ≢ e / 2 = off_self n x (e / 2) off.1 in
    let r = off_below n x (e / 2) t h off.1 in
    ((omega arith, r.0), (omega arith, r.1))

-- an entry off the way covers what it did
pub covered_off : (os : List Object) (l p : ℕ) (o : Object) → Top l (2 ^ l + p) → (n x : ℕ) → 1 ≤ x → Off l x (2 ^ l + p) → covered n (2 ^ l) (set os p o) x ≡ covered n (2 ^ l) os x
unfolding covered
covered_off os l p o t zero x h off = refl
covered_off os l p o t (suc n) x h off = go (λ y k f. covered_off os l p o t n y k f) (dec_le (2 ^ l) x)
  where
    go : ((y : ℕ) → 1 ≤ y → Off l y (2 ^ l + p) → covered n (2 ^ l) (set os p o) y ≡ covered n (2 ^ l) os y) → Dec (2 ^ l ≤ x) → covered (suc n) (2 ^ l) (set os p o) x ≡ covered (suc n) (2 ^ l) os x
    go ih (yes g) =
        let ne : x ≢ 2 ^ l + p = off_self l x (2 ^ l + p) off in
        covered_leaf (2 ^ l) (set os p o) n x g ∙ one-set_other os p (x - 2 ^ l) o (omega arith) ∙ sym (covered_leaf (2 ^ l) os n x g)
    go ih (no g) =
        let k = off_below l x (2 ^ l + p) t h off in
        covered_node (2 ^ l) (set os p o) n x (omega arith)
        ∙ ap₂ (λ (a b : List Object). a ++ b) (ih (2 * x) (omega arith) k.0) (ih (2 * x + 1) (omega arith) k.1)
        ∙ sym (covered_node (2 ^ l) os n x (omega arith))

pub entry_off : (l : ℕ) (os : List Object) (p : ℕ) (o : Object) (x : ℕ) → p < 2 ^ l → 1 ≤ x → Off l x (2 ^ l + p) → entry_in l (set os p o) x ≡ entry_in l os x
unfolding entry_in
entry_off l os p o x g h off = ap entry_of (covered_off os l p o (top_of l p g) (suc l) x h off)

pub even : (x : ℕ) → x % 2 ≡ 0 → 2 * (x / 2) ≡ x
even x h = omega arith

pub odd : (x : ℕ) → (x % 2 ≡ 0 → ⊥) → 2 * (x / 2) + 1 ≡ x
odd x h = omega arith
