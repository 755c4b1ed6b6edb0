-- A climb from a place changes only the entries that cover it, at most 14, on any words: it stores just on the way from there to the top.
use Prim.Native.Nat.{ℕ, zero, suc, ◌+◌, ◌-◌, ◌*◌, ◌/◌, ◌%◌, ◌^◌, ◌≤◌, ◌<◌}
use mathlib.Core.Path.{◌≡◌, refl, sym, ap, ◌∙◌, subst}
use mathlib.Core.List.{List, [], ◌∷◌, ◌++◌, append_assoc}
use native.Mathlib.Omega.{arith}
use native.Mathlib.Nat.{div-one, div-div-eq-div-mul, mul_comm, mul-one, pow-suc}
use native.Mathlib.Decide.{ℕ_discrete}
use lib.ListN.{length, take, drop, set}
use Rattle.entries.specs.Entry.{place_words}
use Rattle.rules.specs.Refusals.{good}
use Rattle.records.specs.Objects.{Object}
use Rattle.entries.specs.Words.{entry_at}
use Rattle.entries.specs.declared.entry.Entry.{Entry}
use Rattle.tree.specs.Size.{levels_of, cap_of}
use Rattle.tree.specs.Board.{covered, Covers, own, left, right}
use Rattle.tree.specs.Put.{climbed}
use Rattle.tree.proofs.Levels.{levels_most}
use Rattle.tree.proofs.Covers.{deeper, covered_leaf, covered_node, one_set, Off, Top, top_of, top_two, off_self, off_below, even, odd}
use Rattle.tree.proofs.Kept.{climb_keeps}

-- ---- the way from a place to the top is what covers the place
module _ (l p : ℕ) (in_p : p < 2 ^ l) where
  pub covers_on : (x : ℕ) → Covers (2 ^ l) x p → Off l x (2 ^ l + p) → ⊥
  covers_on x (own e) off = off_self l x (2 ^ l + p) off e
  covers_on x (left h g c) off = covers_on (2 * x) c (off_below l x (2 ^ l + p) (top_of l p in_p) h off).0
  covers_on x (right h g c) off = covers_on (2 * x + 1) c (off_below l x (2 ^ l + p) (top_of l p in_p) h off).1

  covers_above : (e : ℕ) → 2 ≤ e → e < 2 * 2 ^ l → Covers (2 ^ l) e p → Covers (2 ^ l) (e / 2) p
  covers_above e h g c = go (ℕ_discrete (e % 2) 0)
    where
      go : Dec (e % 2 ≡ 0) → Covers (2 ^ l) (e / 2) p
      go (yes d) = left {e = e / 2} (omega arith) (omega arith) (subst (λ (y : ℕ). Covers (2 ^ l) y p) (sym (even e d)) c)
      go (no d) = right {e = e / 2} (omega arith) (omega arith) (subst (λ (y : ℕ). Covers (2 ^ l) y p) (sym (odd e d)) c)

  -- what is not off the way from e, which covers p, covers p
  up_from : (n e : ℕ) → Top n e → e < 2 * 2 ^ l → Covers (2 ^ l) e p → (x : ℕ) → (Covers (2 ^ l) x p → ⊥) → Off n x e
  up_from zero e t g c x h = λ q. h (subst (λ (y : ℕ). Covers (2 ^ l) y p) (sym q) c)
  up_from (suc n) e t g c x h = (
    λ q. h (subst (λ (y : ℕ). Covers (2 ^ l) y p) (sym q) c),
    up_from n (e / 2) t (omega arith) (covers_above e (top_two n e t) g c) x h,
  )

  pub off_unless : (x : ℕ) → (Covers (2 ^ l) x p → ⊥) → Off l x (2 ^ l + p)
  off_unless = up_from l (2 ^ l + p) (top_of l p in_p) (omega (arith, in_p)) (own refl)

-- an entry on the way is the place's own, halved up to n times
halved : (n e x : ℕ) → (Off n x e → ⊥) → (k : ℕ) × (k ≤ n) × (x ≡ e / 2 ^ k)
halved zero e x h = go (ℕ_discrete x e)
  where
    go : Dec (x ≡ e) → (k : ℕ) × (k ≤ 0) × (x ≡ e / 2 ^ k)
    go (yes q) = (0, omega arith, q ∙ sym (div-one e))
    go (no q) = absurd (h q)
halved (suc n) e x h = go (λ off. halved n (e / 2) x off) (ℕ_discrete x e)
  where
    go : ((Off n x (e / 2) → ⊥) → (k : ℕ) × (k ≤ n) × (x ≡ e / 2 / 2 ^ k)) → Dec (x ≡ e) → (k : ℕ) × (k ≤ suc n) × (x ≡ e / 2 ^ k)
    go ih (yes q) = (0, omega arith, q ∙ sym (div-one e))
    go ih (no q) =
        let r = ih (λ off. h (q, off)) in
        let twice : 2 * 2 ^ r.0 ≡ 2 ^ suc r.0 = mul_comm 2 (2 ^ r.0) ∙ sym (pow-suc 2 r.0) in
        (suc r.0, omega (arith, r.1), r.2 ∙ div-div-eq-div-mul e 2 (2 ^ r.0) ∙ ap (λ (m : ℕ). e / m) twice)

-- ---- an entry covers a place just where the object put there is among those that it covers
module _ (os : List Object) (p : ℕ) (o : Object) where
  abbrev pub Among : List Object → Type 0
  Among ps = (xs : List Object) × (ys : List Object) × (ps ≡ xs ++ o ∷ ys)

  among_left : (ps qs : List Object) → Among ps → Among (ps ++ qs)
  among_left ps qs (xs, ys, e) = (xs, ys ++ qs, ap (λ (rs : List Object). rs ++ qs) e ∙ append_assoc xs (o ∷ ys) qs)

  among_right : (ps qs : List Object) → Among qs → Among (ps ++ qs)
  among_right ps qs (xs, ys, e) = (ps ++ xs, ys, ap (λ (rs : List Object). ps ++ rs) e ∙ sym (append_assoc ps xs (o ∷ ys)))

  pub covered_with : p < length os → (c m x : ℕ) → c ≤ x * 2 ^ m → Covers c x p → Among (covered (suc m) c (set os p o) x)
  covered_with in_p c m x h (own e) =
      let at : x - c ≡ p = omega (arith, e) in
      ([], [], covered_leaf c (set os p o) m x (omega (arith, e)) ∙ ap (λ (i : ℕ). take 1 (drop i (set os p o))) at ∙ one_set os p o in_p)
  covered_with in_p c zero x h (left k g r) = let n : c ≤ x = simp mul-one at h in absurd (omega (arith, n, g))
  covered_with in_p c (suc m) x h (left k g r) =
      let a = covered (suc m) c (set os p o) (2 * x) in
      let b = covered (suc m) c (set os p o) (2 * x + 1) in
      subst Among (sym (covered_node c (set os p o) (suc m) x g)) (among_left a b (covered_with in_p c m (2 * x) (deeper c m x (2 * x) h (omega arith)) r))
  covered_with in_p c zero x h (right k g r) = let n : c ≤ x = simp mul-one at h in absurd (omega (arith, n, g))
  covered_with in_p c (suc m) x h (right k g r) =
      let a = covered (suc m) c (set os p o) (2 * x) in
      let b = covered (suc m) c (set os p o) (2 * x + 1) in
      subst Among (sym (covered_node c (set os p o) (suc m) x g))
      (among_right a b (covered_with in_p c m (2 * x + 1) (deeper c m x (2 * x + 1) h (omega arith)) r))

-- ---- an edit at place p of a board of n objects
pub record OthersKept (n p : ℕ) (b b' : List ℕ) : Type 0 where
  pub size : length b' ≡ length b
  pub others : (x : ℕ) → (Covers (cap_of n) x p → ⊥) → entry_at b' x ≡ entry_at b x
  pub behind : drop (place_words * cap_of n) b' ≡ drop (place_words * cap_of n) b

pub only_covering : (n p : ℕ) (b b' : List ℕ) (v : Entry) → p < cap_of n → climbed (levels_of n) b (cap_of n + p) v ≡ good b' → OthersKept n p b b'
only_covering n p b b' v in_p h =
    let k = climb_keeps (levels_of n) b (cap_of n + p) v b' h in
    record {
      size = k.size;
      others = λ x not. k.others x (off_unless (levels_of n) p in_p x not);
      behind = k.behind (place_words * cap_of n) (omega (arith, in_p));
    }

-- at most 14 entries cover a place
pub few_cover : (n p x : ℕ) → p < cap_of n → Covers (cap_of n) x p → (k : ℕ) × (k < 14) × (x ≡ (cap_of n + p) / 2 ^ k)
few_cover n p x in_p c =
    let r = halved (levels_of n) (cap_of n + p) x (covers_on (levels_of n) p in_p x c) in
    let m = levels_most n in
    (r.0, omega (arith, r.1, m), r.2)
