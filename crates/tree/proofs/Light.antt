-- The words of an entry but the legacy bonus: within the limits where all words are, and for a map with one object changed.
use Prim.Native.Nat.{ℕ, ◌+◌, ◌≤◌, ◌<◌}
use mathlib.Core.Path.{◌≡◌, refl, sym, subst}
use mathlib.Core.Logic.{◌≢◌}
use mathlib.Core.Bool.{true}
use mathlib.Core.List.{List}
use native.Mathlib.Omega.{arith}
use lib.ListN.{length, get_or}
use lib.Seq.{get_or-set_other}
use Rattle.rules.specs.Limits.{max_bonus, max_objects}
use Rattle.records.specs.Objects.{Object, bonus}
use Rattle.encoding.specs.Limits.{Each, ObjectWithin}
use Rattle.entries.specs.Entry.{joined, entry_of, words_of, limit_list, in_limits, entry_words}
use Rattle.entries.specs.declared.entry.Entry.{Entry}
use Rattle.entries.proofs.Accepted.{words_within}
use Rattle.entries.proofs.Limits.{word_le, within_of, at_each}
use Rattle.tree.specs.Limited.{without_legacy}

-- the words but the legacy bonus stay
other_word : (e : Entry) (i : ℕ) → i ≢ 5 → get_or (words_of (without_legacy e)) i 0 ≡ get_or (words_of e) i 0
other_word e i n = get_or-set_other (words_of e) 5 i 0 0 n

light_words : (e : Entry) → ((i : ℕ) → i < entry_words → i ≢ 5 → get_or (words_of e) i 0 ≤ get_or limit_list i 0) → in_limits (without_legacy e) ≡ true
light_words e h =
    within_of (without_legacy e) (at_each 5 (omega arith) (λ i lt n. subst (λ (w : ℕ). w ≤ get_or limit_list i 0) (sym (other_word e i n)) (h i lt n)))

pub light_of : (e : Entry) → in_limits e ≡ true → in_limits (without_legacy e) ≡ true
light_of e h = light_words e (λ i lt n. word_le e h i lt)

-- an entry whose legacy bonus is within its limit too
pub legacy_in : (e : Entry) → in_limits (without_legacy e) ≡ true → e.legacy_bonus_score ≤ max_bonus → in_limits e ≡ true
legacy_in e h low =
    within_of e (at_each 5 low (λ i lt n. subst (λ (w : ℕ). w ≤ get_or limit_list i 0) (other_word e i n) (word_le (without_legacy e) h i lt)))

pub light_joined : (a b : Entry) → without_legacy (joined a b) ≡ joined (without_legacy a) (without_legacy b)
unfolding joined
light_joined a b = refl

-- a map's bonus, and one more object's
pub entry_light : (os : List Object) → Each ObjectWithin os → length os ≤ max_objects → bonus os ≤ max_bonus + 62965100
    → in_limits (without_legacy (entry_of os)) ≡ true
entry_light os w few low = light_words (entry_of os) (words_within os w few low)
