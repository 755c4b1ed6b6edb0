-- The board of a map within the limits: a climb from a place leaves the board of the map with the object put in, or is refused with 7 where that
-- map's bonus is too high, and a read finds the entry of the first objects. Assumes nothing.
use Prim.Native.Nat.{ℕ, zero, suc, ◌+◌, ◌*◌, ◌^◌, ◌≤◌, ◌<◌}
use mathlib.Core.Path.{◌≡◌, refl, sym, ap, ap₂, ◌∙◌, subst}
use mathlib.Core.Logic.{◌⊎◌, inl, inr}
use mathlib.Core.Bool.{true, cond}
use mathlib.Core.List.{List, [], ◌∷◌, ◌++◌}
use native.Mathlib.Omega.{arith}
use native.Mathlib.Nat.{le_trans, zero-add, not-suc-le-zero}
use lib.Dec.{ltb}
use lib.ListN.{length, take, set, length-set, length-append}
use lib.Pow.{pow_pos}
use lib.Seq.{drop_at}
use borrow.Author.Tests.{lt-ltb, le-ltb}
use Rattle.rules.specs.Limits.{max_objects, max_bonus}
use Rattle.rules.specs.Refusals.{good, refused, BONUS}
use Rattle.records.specs.Objects.{Object, kind_bonus, bonus}
use Rattle.encoding.specs.Limits.{Each, none, one, ObjectWithin}
use Rattle.entries.specs.Entry.{none as noEntry, entry_of, in_limits, place_words, entry_words}
use Rattle.entries.specs.Words.{entry_at, words_from}
use Rattle.entries.specs.declared.entry.Entry.{Entry}
use Rattle.entries.proofs.Accepted.{bonus-total, object_bonus, entry_within}
use Rattle.entries.proofs.WordLaws.{is_words, words_at, words_length}
use Rattle.tree.specs.Size.{levels_of, cap_of}
use Rattle.tree.specs.Board.{entry_in, board_entry, board_of}
use Rattle.tree.specs.First.{walked}
use Rattle.tree.specs.Limited.{without_legacy}
use Rattle.tree.specs.Put.{climbed}
use Rattle.tree.proofs.Levels.{levels_hold}
use Rattle.tree.proofs.Light.{entry_light}
use Rattle.tree.proofs.Covers.{entry_top, entry_leaf, entry_off, top_of, off_zero, Off}
use Rattle.tree.proofs.Within.{all_in}
use Rattle.tree.proofs.Honest.{climbs, After, Climbs, high, done}
use Rattle.tree.proofs.FirstRight.{walk_right}

-- ---- the words of a board
board_entry_lem : (os : List Object) (n x : ℕ) → length os ≡ n → 1 ≤ x → board_entry os x ≡ entry_in (levels_of n) os x
unfolding board_entry
board_entry_lem os n zero e h = absurd (not-suc-le-zero h)
board_entry_lem os n (suc x) e h = rw e

pub board_length : (os : List Object) (r : List ℕ) → length (board_of os ++ r) ≡ place_words * cap_of (length os) + length r
unfolding board_of
board_length os r =
    let w = words_length (board_entry os) (2 * cap_of (length os)) 0 in
    let e = length-append (board_of os) r in
    omega (arith, e, w)

board_at : (os : List Object) (r : List ℕ) (x : ℕ) → x < 2 * cap_of (length os) → entry_at (board_of os ++ r) x ≡ board_entry os x
unfolding board_of
board_at os r x h = words_at (board_entry os) (2 * cap_of (length os)) 0 r x h ∙ ap (board_entry os) (zero-add x)

-- ---- the objects with one put in
pub each_set : {P : Object → Type 0} {os : List Object} (p : ℕ) (o : Object) → Each P os → P o → Each P (set os p o)
each_set p o none h = none
each_set zero o (one x xs) h = one h xs
each_set (suc p) o (one x xs) h = one x (each_set p o xs h)

bonus-set : (os : List Object) (p : ℕ) (o : Object) → bonus (set os p o) ≤ bonus os + kind_bonus o.kind
unfolding bonus
bonus-set [] p o = omega arith
bonus-set (x ∷ os) zero o = omega arith
bonus-set (x ∷ os) (suc p) o = let h = bonus-set os p o in omega (arith, h)

legacy_is : (os : List Object) → (entry_of os).legacy_bonus_score ≡ bonus os
unfolding entry_of
legacy_is os = bonus-total os

module _ (os : List Object) (r : List ℕ) (w : Each ObjectWithin os) (few : length os ≤ max_objects) (low : bonus os ≤ max_bonus) where
  abbrev l : ℕ
  l = levels_of (length os)

  abbrev b : List ℕ
  b = board_of os ++ r

  held : length os ≤ 2 ^ l
  held = levels_hold (length os) few

  honest : (x : ℕ) → (1 ≤ x) × (x < 2 * 2 ^ l) → entry_at b x ≡ entry_in l os x
  honest x i = board_at os r x i.1 ∙ board_entry_lem os (length os) x refl i.0

  ok : in_limits (entry_of os) ≡ true
  ok = entry_within os w few low

  top : in_limits (entry_in l os 1) ≡ true
  top = ap in_limits (entry_top l os held) ∙ ok

  module _ (p : ℕ) (o : Object) (within : ObjectWithin o) (in_p : p < length os) where
    in_places : p < 2 ^ l
    in_places = le_trans in_p held

    room : 2 * 2 ^ l * entry_words ≤ length b
    room = let e = board_length os r in omega (arith, e)

    same_length : length (set os p o) ≡ length os
    same_length = length-set os p o

    top_is : entry_in l (set os p o) 1 ≡ entry_of (set os p o)
    top_is = entry_top l (set os p o) (subst (λ (n : ℕ). n ≤ 2 ^ l) (sym same_length) held)

    light_top : in_limits (without_legacy (entry_in l (set os p o) 1)) ≡ true
    light_top =
        let more = bonus-set os p o in
        let most = object_bonus o.kind within.kind in
        ap (λ (e : Entry). in_limits (without_legacy e)) top_is
        ∙ entry_light (set os p o) (each_set p o w within) (subst (λ (n : ℕ). n ≤ max_objects) (sym same_length) few) (omega (arith, more, most, low))

    -- the words that a climb leaves are the board of the map with o at p
    left_is : (b' : List ℕ) → After l os p o in_places b l (2 ^ l + p) b' → b' ≡ board_of (set os p o) ++ r
    unfolding board_of board_entry
    left_is b' a =
        is_words (board_entry (set os p o)) (2 * 2 ^ l) b' 0 (omega (arith, room, a.kept.size))
        (λ x h. ap (λ (y : ℕ). entry_at b' y) (sym (zero-add x)) ∙ go (0 + x) (rw zero-add h))
        ∙ ap₂ (λ (m : ℕ) (v : List ℕ). words_from (board_entry (set os p o)) 0 (2 * cap_of m) ++ v) (sym same_length)
        (a.kept.behind (2 * 2 ^ l * entry_words) (omega (arith, in_places)) ∙ drop_at (board_of os) r (2 * 2 ^ l * entry_words) (words_length (board_entry os) (2 * 2 ^ l) 0))
      where
        go : (x : ℕ) → x < 2 * 2 ^ l → entry_at b' x ≡ board_entry (set os p o) x
        go zero h = a.kept.others 0 (off_zero l (2 ^ l + p) (top_of l p in_places)) ∙ board_at os r 0 h
        go (suc x) h = pick (a.new (suc x) (omega arith, h)) ∙ sym (board_entry_lem (set os p o) (length os) (suc x) same_length (omega arith))
          where
            pick : (entry_at b' (suc x) ≡ entry_in l (set os p o) (suc x)) ⊎ Off l (suc x) (2 ^ l + p) → entry_at b' (suc x) ≡ entry_in l (set os p o) (suc x)
            pick (inl e) = e
            pick (inr off) =
                a.kept.others (suc x) off ∙ honest (suc x) (omega arith, h) ∙ sym (entry_off l os p o (suc x) in_places (omega arith) off)

    leaf_low : (entry_in l (set os p o) (2 ^ l + p)).legacy_bonus_score ≤ max_bonus
    unfolding bonus
    leaf_low =
        let most = object_bonus o.kind within.kind in
        let is = ap (λ (e : Entry). e.legacy_bonus_score) (entry_leaf l os p o in_p) ∙ legacy_is (o ∷ []) in
        omega (arith, is, most)

    top_legacy : (entry_in l (set os p o) 1).legacy_bonus_score ≡ bonus (set os p o)
    top_legacy = ap (λ (e : Entry). e.legacy_bonus_score) top_is ∙ legacy_is (set os p o)

    finished : Climbs l os p o in_places b l (2 ^ l + p) (entry_of (o ∷ []))
        → climbed l b (2 ^ l + p) (entry_of (o ∷ [])) ≡ cond (ltb max_bonus (bonus (set os p o))) (refused BONUS) (good (board_of (set os p o) ++ r))
    finished (high q up) = simp (lt-ltb max_bonus (bonus (set os p o)) (omega (arith, up, top_legacy))) q
    finished (done b' q ends a) = simp (le-ltb max_bonus (bonus (set os p o)) (omega (arith, ends, top_legacy))) (q ∙ ap good (left_is b' a))

    climb_right : climbed l b (2 ^ l + p) (entry_of (o ∷ [])) ≡ cond (ltb max_bonus (bonus (set os p o))) (refused BONUS) (good (board_of (set os p o) ++ r))
    climb_right =
        finished (climbs l os p o in_places b honest room top light_top l (2 ^ l + p) (entry_of (o ∷ [])) (top_of l p in_places)
        (omega (arith, pow_pos l), omega (arith, in_places)) (λ two x le off. off) (sym (entry_leaf l os p o in_p)) leaf_low)

-- ---- what the board's calls use
pub change : (os : List Object) (r : List ℕ) (p : ℕ) (o : Object) → Each ObjectWithin os → length os ≤ max_objects → bonus os ≤ max_bonus → ObjectWithin o
    → p < length os
    → climbed (levels_of (length os)) (board_of os ++ r) (cap_of (length os) + p) (entry_of (o ∷ []))
    ≡ cond (ltb max_bonus (bonus (set os p o))) (refused BONUS) (good (board_of (set os p o) ++ r))
change os r p o w few low within in_p = climb_right os r w few low p o within in_p

pub first_right : (os : List Object) (r : List ℕ) → Each ObjectWithin os → length os ≤ max_objects → bonus os ≤ max_bonus → (p : ℕ) → p ≤ length os
    → walked (levels_of (length os) + 1) (board_of os ++ r) 1 p noEntry ≡ good (entry_of (take p os))
first_right os r w few low p h =
    walk_right (levels_of (length os)) os (board_of os ++ r) (ok os r w few low) (honest os r w few low)
    (λ y i. all_in (levels_of (length os)) os (top os r w few low) y i.0 i.1) p (le_trans h (held os r w few low))
