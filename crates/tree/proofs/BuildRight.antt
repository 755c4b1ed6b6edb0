-- A build leaves the board of its objects: the places' own entries stand, and each entry above is joined from two that stand already.
-- Assumes nothing.
use Prim.Native.Nat.{ℕ, zero, suc, ◌+◌, ◌-◌, ◌*◌, ◌^◌, ◌≤◌, ◌<◌}
use mathlib.Core.Path.{◌≡◌, refl, sym, ap, ap₂, ◌∙◌, subst}
use mathlib.Core.Bool.{true}
use mathlib.Core.List.{List, [], ◌∷◌, ◌++◌}
use native.Mathlib.Omega.{arith}
use native.Mathlib.Nat.{add-zero, zero-add, add-sub_cancel_left, not-suc-le-zero, le_of_suc-le-suc}
use native.Mathlib.Decide.{ℕ_discrete, dec_lt}
use lib.Pow.{pow_pos}
use lib.ListN.{length, take, drop, drop_of_length-le}
use Rattle.rules.specs.Limits.{max_objects}
use Rattle.records.specs.Objects.{Object}
use Rattle.entries.specs.Entry.{none, joined, entry_of, in_limits, entry_words, place_words}
use Rattle.entries.specs.Words.{entry_at, put_entry, words_from}
use Rattle.entries.specs.declared.entry.Entry.{Entry}
use Rattle.entries.proofs.Runs.{entry_none}
use Rattle.entries.proofs.WordLaws.{put_same, put_other, put_length, put_drop, is_words}
use Rattle.tree.specs.Size.{levels_of, cap_of}
use Rattle.tree.specs.Board.{entry_in, board_entry, board_of}
use Rattle.tree.specs.Build.{laid, cleared, emptied, halves_of, raised, Raises, filled}
use Rattle.tree.proofs.Levels.{levels_hold}
use Rattle.tree.proofs.Covers.{covered_leaf, entry_node, entry_top}
use Rattle.tree.proofs.Within.{all_in}

-- ---- what stays
-- b' is b but for the entries from lo to below hi
pub record Kept (lo hi : ℕ) (b b' : List ℕ) : Type 0 where
  pub size : length b' ≡ length b
  pub rest : (n : ℕ) → hi * entry_words ≤ n → drop n b' ≡ drop n b
  pub before : (x : ℕ) → x < lo → entry_at b' x ≡ entry_at b x
  pub behind : (x : ℕ) → hi ≤ x → entry_at b' x ≡ entry_at b x

-- with no entry written
kept_same : (e : ℕ) (b : List ℕ) → Kept e (e + 0) b b
kept_same e b = record { size = refl; rest = λ n h. refl; before = λ x h. refl; behind = λ x h. refl }

kept_put : (b : List ℕ) (e : ℕ) (v : Entry) → Kept e (suc e) b (put_entry b e v)
kept_put b e v = record {
  size = put_length b e v;
  rest = λ n h. put_drop b e v n (omega arith);
  before = λ x h. put_other b e x v (omega arith);
  behind = λ x h. put_other b e x v (omega arith);
}

kept_both : {lo hi i j m n : ℕ} {a b c : List ℕ} → Kept i j a b → Kept m n b c → (lo ≤ i) × (lo ≤ m) × (j ≤ hi) × (n ≤ hi) → Kept lo hi a c
kept_both p q within = record {
  size = q.size ∙ p.size;
  rest = λ k h. q.rest k (omega arith) ∙ p.rest k (omega arith);
  before = λ x h. q.before x (omega arith) ∙ p.before x (omega arith);
  behind = λ x h. q.behind x (omega arith) ∙ p.behind x (omega arith);
}

-- ---- the own entries
pub laid_kept : (e : ℕ) (os : List Object) (b : List ℕ) → Kept e (e + length os) b (laid e os b)
unfolding laid
laid_kept e [] b = kept_same e b
laid_kept e (o ∷ os) b = kept_both (kept_put b e (entry_of (o ∷ []))) (laid_kept (suc e) os (put_entry b e (entry_of (o ∷ [])))) (omega arith)

pub laid-length : (e : ℕ) (os : List Object) (b : List ℕ) → length (laid e os b) ≡ length b
laid-length e os b = (laid_kept e os b).size

pub laid_none : (e : ℕ) (b : List ℕ) → laid e [] b ≡ b
unfolding laid
laid_none e b = refl

-- one object more
pub laid_snoc : (e : ℕ) (os : List Object) (o : Object) (b : List ℕ)
    → laid e (os ++ (o ∷ [])) b ≡ put_entry (laid e os b) (e + length os) (entry_of (o ∷ []))
unfolding laid
laid_snoc e [] o b = ap (λ (n : ℕ). put_entry b n (entry_of (o ∷ []))) (sym (add-zero e))
laid_snoc e (x ∷ os) o b =
    let next : suc e + length os ≡ e + suc (length os) = omega arith in
    let b' = put_entry b e (entry_of (x ∷ [])) in
    laid_snoc (suc e) os o b' ∙ ap (λ (n : ℕ). put_entry (laid (suc e) os b') n (entry_of (o ∷ []))) next

laid-at : (e : ℕ) (os : List Object) (b : List ℕ) (i : ℕ) → i < length os → (e + length os) * entry_words ≤ length b
    → entry_at (laid e os b) (e + i) ≡ entry_of (take 1 (drop i os))
unfolding laid
laid-at e [] b i h room = absurd (not-suc-le-zero h)
laid-at e (o ∷ os) b zero h room =
    let own = entry_of (o ∷ []) in
    let b' = put_entry b e own in
    ap (entry_at (laid (suc e) os b')) (add-zero e) ∙ (laid_kept (suc e) os b').before e (omega arith) ∙ put_same b e own (omega arith)
laid-at e (o ∷ os) b (suc i) h room =
    let next : e + suc i ≡ suc e + i = omega arith in
    let own = entry_of (o ∷ []) in
    let b' = put_entry b e own in
    ap (entry_at (laid (suc e) os b')) next ∙ laid-at (suc e) os b' i (le_of_suc-le-suc h) (omega (arith, put_length b e own))

-- ---- zero entries
cleared_kept : (e n : ℕ) (b : List ℕ) → Kept e (e + n) b (cleared e n b)
unfolding cleared
cleared_kept e zero b = kept_same e b
cleared_kept e (suc n) b = kept_both (cleared_kept e n b) (kept_put (cleared e n b) (e + n) none) (omega arith)

cleared_at : (e n : ℕ) (b : List ℕ) (i : ℕ) → i < n → (e + n) * entry_words ≤ length b → entry_at (cleared e n b) (e + i) ≡ none
unfolding cleared
cleared_at e zero b i h room = absurd (not-suc-le-zero h)
cleared_at e (suc n) b i h room = go (cleared_at e n b i) (ℕ_discrete i n)
  where
    go : (i < n → (e + n) * entry_words ≤ length b → entry_at (cleared e n b) (e + i) ≡ none) → Dec (i ≡ n)
        → entry_at (put_entry (cleared e n b) (e + n) none) (e + i) ≡ none
    go ih (yes same) =
        ap (λ (j : ℕ). entry_at (put_entry (cleared e n b) (e + n) none) (e + j)) same
        ∙ put_same (cleared e n b) (e + n) none (omega (arith, (cleared_kept e n b).size))
    go ih (no d) = put_other (cleared e n b) (e + n) (e + i) none (omega arith) ∙ ih (omega arith) (omega arith)

-- ---- the entries of the places: own ones, then zero
beyond : (os : List Object) (i : ℕ) → length os ≤ i → entry_of (take 1 (drop i os)) ≡ none
beyond os i h = ap (λ (w : List Object). entry_of (take 1 w)) (drop_of_length-le os h) ∙ entry_none

module _ (c : ℕ) (os : List Object) (b : List ℕ) (some : 1 ≤ c) (few : length os ≤ c) (room : c * place_words ≤ length b) where
  abbrev own : List ℕ
  own = put_entry (laid c os b) 0 none

  own_kept : Kept 0 (c + length os) b own
  own_kept = kept_both (laid_kept c os b) (kept_put (laid c os b) 0 none) (omega arith)

  empty_kept : Kept (c + length os) (c + length os + (c - length os)) own (emptied c (length os) (laid c os b))
  empty_kept = cleared_kept (c + length os) (c - length os) own

  places_kept : Kept 0 (2 * c) b (emptied c (length os) (laid c os b))
  places_kept = kept_both own_kept empty_kept (omega arith)

  zeroth : entry_at (emptied c (length os) (laid c os b)) 0 ≡ none
  zeroth = empty_kept.before 0 (omega arith) ∙ put_same (laid c os b) 0 none (omega (arith, laid-length c os b))

  place_at : (i : ℕ) → i < c → entry_at (emptied c (length os) (laid c os b)) (c + i) ≡ entry_of (take 1 (drop i os))
  place_at i h = go (dec_lt i (length os))
    where
      go : Dec (i < length os) → entry_at (emptied c (length os) (laid c os b)) (c + i) ≡ entry_of (take 1 (drop i os))
      go (yes g) =
          empty_kept.before (c + i) (omega arith)
          ∙ put_other (laid c os b) 0 (c + i) none (omega arith)
          ∙ laid-at c os b i g (omega arith)
      go (no g) =
          let at : c + i ≡ c + length os + (i - length os) = omega arith in
          ap (entry_at (emptied c (length os) (laid c os b))) at
          ∙ cleared_at (c + length os) (c - length os) own (i - length os) (omega arith) (omega (arith, own_kept.size))
          ∙ sym (beyond os i (omega arith))

-- ---- the entries above
raised_kept : (n : ℕ) (b : List ℕ) → Kept 1 (1 + n) b (raised n b)
unfolding raised
raised_kept zero b = kept_same 1 b
raised_kept (suc n) b =
    let v = halves_of b (suc n) in
    kept_both (kept_put b (suc n) v) (raised_kept n (put_entry b (suc n) v)) (omega arith)

module _ (l : ℕ) (os : List Object) (top : in_limits (entry_in l os 1) ≡ true) where
  -- the entries behind n are those of the tree
  abbrev Behind : ℕ → List ℕ → Type 0
  Behind n b = (x : ℕ) → n < x → x < 2 * 2 ^ l → entry_at b x ≡ entry_in l os x

  put_behind : (n : ℕ) (b : List ℕ) (v : Entry) → suc n < 2 ^ l → 2 ^ l * place_words ≤ length b → v ≡ entry_in l os (suc n) → Behind (suc n) b
      → Behind n (put_entry b (suc n) v)
  put_behind n b v h room is stands x k g = go (ℕ_discrete x (suc n))
    where
      go : Dec (x ≡ suc n) → entry_at (put_entry b (suc n) v) x ≡ entry_in l os x
      go (yes e) = ap (entry_at (put_entry b (suc n) v)) e ∙ put_same b (suc n) v (omega arith) ∙ is ∙ sym (ap (entry_in l os) e)
      go (no e) = put_other b (suc n) x v e ∙ stands x (omega arith) g

  raise_right : (n : ℕ) (b : List ℕ) → n < 2 ^ l → 2 ^ l * place_words ≤ length b → Behind n b → Raises n b × Behind 0 (raised n b)
  unfolding raised Raises
  raise_right zero b h room stands = (tt, stands)
  raise_right (suc n) b h room stands =
      let x : ℕ = suc n * 2 in
      let v = halves_of b (suc n) in
      let left : entry_at b x ≡ entry_in l os x = stands x (omega arith) (omega arith) in
      let right : entry_at b (x + 1) ≡ entry_in l os (x + 1) = stands (x + 1) (omega arith) (omega arith) in
      let twice : x ≡ 2 * suc n = omega arith in
      let is : v ≡ entry_in l os (suc n) =
      ap₂ joined left right
      ∙ ap (λ (y : ℕ). joined (entry_in l os y) (entry_in l os (y + 1))) twice
      ∙ sym (entry_node l os (suc n) (omega arith) h) in
      let room' : 2 ^ l * place_words ≤ length (put_entry b (suc n) v) = omega (arith, put_length b (suc n) v) in
      let up = raise_right n (put_entry b (suc n) v) (omega arith) room' (put_behind n b v h room is stands) in
      let left_in = ap in_limits left ∙ all_in l os top x (omega arith) (omega arith) in
      let right-in = ap in_limits right ∙ all_in l os top (x + 1) (omega arith) (omega arith) in
      ((left_in, right-in, up.0), up.1)

-- the entry of a place
entry_place : (l : ℕ) (os : List Object) (i : ℕ) → entry_in l os (2 ^ l + i) ≡ entry_of (take 1 (drop i os))
unfolding entry_in
entry_place l os i =
    ap entry_of (covered_leaf (2 ^ l) os l (2 ^ l + i) (omega arith) ∙ ap (λ (m : ℕ). take 1 (drop m os)) (add-sub_cancel_left (2 ^ l) i))

-- ---- the whole build
module _ (os : List Object) (b : List ℕ) (fits : in_limits (entry_of os) ≡ true) (few : length os ≤ max_objects)
    (room : place_words * cap_of (length os) ≤ length b) where
  abbrev l : ℕ
  l = levels_of (length os)

  abbrev c : ℕ
  c = cap_of (length os)

  hold : length os ≤ c
  hold = levels_hold (length os) few

  some : 1 ≤ c
  some = pow_pos l

  abbrev start : List ℕ
  start = emptied c (length os) (laid c os b)

  start_kept : Kept 0 (2 * c) b start
  start_kept = places_kept c os b some hold (omega arith)

  ends : Raises (c - 1) start × ((x : ℕ) → 0 < x → x < 2 * c → entry_at (raised (c - 1) start) x ≡ entry_in l os x)
  ends =
      raise_right l os (ap in_limits (entry_top l os hold) ∙ fits) (c - 1) start (omega (arith, some)) (omega (arith, start_kept.size)) places
    where
      places : (x : ℕ) → c - 1 < x → x < 2 * c → entry_at start x ≡ entry_in l os x
      places x h g =
          let at : c + (x - c) ≡ x = omega (arith, some) in
          subst (λ (y : ℕ). entry_at start y ≡ entry_in l os y) at
          (place_at c os b some hold (omega arith) (x - c) (omega (arith, some)) ∙ sym (entry_place l os (x - c)))

  -- what is read for the entries above is within its limits, as `fill` requires
  pub fills : Raises (cap_of (length os) - 1) (emptied (cap_of (length os)) (length os) (laid (cap_of (length os)) os b))
  fills = ends.0

  end_kept : Kept 0 (2 * c) b (raised (c - 1) start)
  end_kept = kept_both start_kept (raised_kept (c - 1) start) (omega (arith, some))

  entries_right : (x : ℕ) → x < 2 * c → entry_at (raised (c - 1) start) x ≡ board_entry os x
  unfolding board_entry
  entries_right zero h = (raised_kept (c - 1) start).before 0 (omega arith) ∙ zeroth c os b some hold (omega arith)
  entries_right (suc x) h = ends.1 (suc x) (omega arith) h

  pub build_right : filled (cap_of (length os)) (length os) (laid (cap_of (length os)) os b) ≡ board_of os ++ drop (place_words * cap_of (length os)) b
  unfolding filled board_of
  build_right =
      let r = raised (c - 1) start in
      let words : 2 * c * entry_words ≡ place_words * c = omega arith in
      is_words (board_entry os) (2 * c) r 0 (omega (arith, end_kept.size)) (λ x h. entries_right x h ∙ ap (board_entry os) (sym (zero-add x)))
      ∙ ap (λ (w : List ℕ). words_from (board_entry os) 0 (2 * c) ++ w) (ap (λ (k : ℕ). drop k r) words ∙ end_kept.rest (place_words * c) (omega arith))
