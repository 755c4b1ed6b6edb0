-- Limits go down the tree: where the top entry of a map is within them, every entry is.
use Prim.Native.Nat.{ℕ, ◌+◌, ◌*◌, ◌/◌, ◌%◌, ◌^◌, ◌≤◌, ◌<◌}
use mathlib.Core.Path.{◌≡◌, sym, ap, ◌∙◌, subst}
use mathlib.Core.Logic.{◌≢◌}
use mathlib.Core.Bool.{true}
use mathlib.Core.List.{List}
use native.Mathlib.Omega.{arith}
use native.Mathlib.Nat.{le_trans, not-suc-le-zero}
use native.Mathlib.Decide.{ℕ_discrete}
use lib.Arith.{bin_ind}
use lib.ListN.{get_or}
use Rattle.records.specs.Objects.{Object}
use Rattle.entries.specs.Entry.{joined, entry_of, words_of, in_limits, entry_words}
use Rattle.entries.specs.declared.entry.Entry.{Entry}
use Rattle.entries.proofs.Accepted.{entry_first}
use Rattle.entries.proofs.Limits.{word_le, within_of, at_each, word_joined}
use Rattle.tree.specs.Board.{entry_in}
use Rattle.tree.specs.Limited.{without_legacy}
use Rattle.tree.proofs.Covers.{entry_node, even, odd}
use Rattle.tree.proofs.Light.{light_joined}

-- every word of a joined entry but f is at least that of each half
module _ (a b : Entry) where
  abbrev Below : Entry → ℕ → Type 0
  Below v i = get_or (words_of v) i 0 ≤ get_or (words_of (joined a b)) i 0

  both : (i : ℕ) → i < entry_words → i ≢ 3 → Below a i × Below b i
  both i h n = let e = word_joined a b i h n in (omega (arith, e), omega (arith, e))

  part_in : (v : Entry) → ((i : ℕ) → i < entry_words → i ≢ 3 → Below v i) → v.first_no_slider ≤ 1 → in_limits (joined a b) ≡ true → in_limits v ≡ true
  part_in v below f h = within_of v (at_each 3 f (λ i lt n. le_trans (below i lt n) (word_le (joined a b) h i lt)))

  pub parts_in : a.first_no_slider ≤ 1 → b.first_no_slider ≤ 1 → in_limits (joined a b) ≡ true → (in_limits a ≡ true) × (in_limits b ≡ true)
  parts_in fa fb h = (part_in a (λ i l n. (both i l n).0) fa h, part_in b (λ i l n. (both i l n).1) fb h)

-- what holds of the top entry, and with an entry of its halves, holds of every entry
module _ (P : Entry → Type 0) (parts : (xs ys : List Object) → P (joined (entry_of xs) (entry_of ys)) → P (entry_of xs) × P (entry_of ys)) where
  pub downward : (l : ℕ) (os : List Object) → P (entry_in l os 1) → (x : ℕ) → 1 ≤ x → x < 2 * 2 ^ l → P (entry_in l os x)
  unfolding entry_in
  downward l os top = bin_ind (λ x. 1 ≤ x → x < 2 * 2 ^ l → P (entry_in l os x)) (λ h g. absurd (not-suc-le-zero h)) step
    where
      step : (x : ℕ) → (1 ≤ x / 2 → x / 2 < 2 * 2 ^ l → P (entry_in l os (x / 2))) → 1 ≤ x → x < 2 * 2 ^ l → P (entry_in l os x)
      step x ih h g = go (ℕ_discrete x 1) (ℕ_discrete (x % 2) 0)
        where
          halves : x ≢ 1 → P (entry_in l os (2 * (x / 2))) × P (entry_in l os (2 * (x / 2) + 1))
          halves ne = parts _ _ (subst P (entry_node l os (x / 2) (omega arith) (omega arith)) (ih (omega arith) (omega arith)))

          go : Dec (x ≡ 1) → Dec (x % 2 ≡ 0) → P (entry_in l os x)
          go (yes e) d = subst (λ (y : ℕ). P (entry_in l os y)) (sym e) top
          go (no e) (yes d) = subst (λ (y : ℕ). P (entry_in l os y)) (even x d) (halves e).0
          go (no e) (no d) = subst (λ (y : ℕ). P (entry_in l os y)) (odd x d) (halves e).1

module _ (l : ℕ) (os : List Object) where
  pub all_in : in_limits (entry_in l os 1) ≡ true → (x : ℕ) → 1 ≤ x → x < 2 * 2 ^ l → in_limits (entry_in l os x) ≡ true
  all_in = downward (λ e. in_limits e ≡ true) (λ xs ys. parts_in (entry_of xs) (entry_of ys) (entry_first xs) (entry_first ys)) l os

  pub all_light : in_limits (without_legacy (entry_in l os 1)) ≡ true → (x : ℕ) → 1 ≤ x → x < 2 * 2 ^ l → in_limits (without_legacy (entry_in l os x)) ≡ true
  all_light = downward (λ e. in_limits (without_legacy e) ≡ true) parts l os
    where
      parts : (xs ys : List Object) → in_limits (without_legacy (joined (entry_of xs) (entry_of ys))) ≡ true
          → (in_limits (without_legacy (entry_of xs)) ≡ true) × (in_limits (without_legacy (entry_of ys)) ≡ true)
      parts xs ys h =
          parts_in (without_legacy (entry_of xs)) (without_legacy (entry_of ys)) (entry_first xs) (entry_first ys)
          (ap in_limits (sym (light_joined (entry_of xs) (entry_of ys))) ∙ h)

  -- the legacy bonus of an entry is at most that of the top
  pub legacy_top : (x : ℕ) → 1 ≤ x → x < 2 * 2 ^ l → (entry_in l os x).legacy_bonus_score ≤ (entry_in l os 1).legacy_bonus_score
  legacy_top = downward (λ e. e.legacy_bonus_score ≤ (entry_in l os 1).legacy_bonus_score) parts l os (omega arith)
    where
      parts : (xs ys : List Object) → (joined (entry_of xs) (entry_of ys)).legacy_bonus_score ≤ (entry_in l os 1).legacy_bonus_score
          → ((entry_of xs).legacy_bonus_score ≤ (entry_in l os 1).legacy_bonus_score)
          × ((entry_of ys).legacy_bonus_score ≤ (entry_in l os 1).legacy_bonus_score)
      parts xs ys h =
          let node = both (entry_of xs) (entry_of ys) 5 (omega arith) (omega arith) in
          (le_trans node.0 h, le_trans node.1 h)
