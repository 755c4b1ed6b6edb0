-- The steps of `climbed`, as the code takes them.
use Rattle.rules.specs.declared.refusal.Rule.{Rule}
use Prim.Native.Nat.{ℕ, zero, suc, ◌-◌, ◌/◌, ◌%◌, ◌≤◌}
use mathlib.Core.Path.{◌≡◌, refl, sym, ap}
use mathlib.Core.Bool.{true, cond}
use mathlib.Core.List.{List}
use native.Mathlib.Omega.{arith}
use native.Mathlib.Decide.{ℕ_discrete}
use native.Mathlib.Numerals.{sub-one}
use borrow.Author.Tests.{eq-eqb, ne_eqb, le-ltb}
use lib.Dec.{eqb, lit<}
use Rattle.std.specs.Result.{result_and, result_unwrap_or}
use Rattle.rules.specs.Limits.{max_bonus}
use Rattle.rules.specs.Refusals.{Checked, good, refused, ◌>>=◌, ◌>>◌, refuse◌when◌}
use Rattle.entries.specs.Entry.{joined, in_limits, checked}
use Rattle.entries.specs.Words.{entry_at, put_entry}
use Rattle.entries.specs.declared.entry.Entry.{Entry}
use Rattle.tree.specs.Limited.{without_legacy, limited}
use Rattle.tree.specs.Put.{beside_of, above_of, climbed}
use Rattle.rules.proofs.Laws.{never}
use Rattle.rules.proofs.Steps.{bind_good, bind_refused, when_true, when_false}
use Rattle.entries.proofs.Limits.{word_le}
use Rattle.tree.proofs.Light.{light_of}

-- the pair of e and the entry beside it
pub beside_pair : (e : ℕ) → beside_of e / 2 ≡ e / 2
beside_pair e = go (ℕ_discrete (e % 2) 0)
  where
    go : Dec (e % 2 ≡ 0) → beside_of e / 2 ≡ e / 2
    go (yes h) = simp (eq-eqb _ _ h) (omega arith)
    go (no h) = simp (ne_eqb _ _ h) (omega arith)

-- ---- an entry within all limits passes
pub limited_low : (e : Entry) → in_limits (without_legacy e) ≡ true → e.legacy_bonus_score ≤ max_bonus → limited e ≡ good e
unfolding limited ◌>>◌ refuse◌when◌
limited_low e h l = simp (h, le-ltb _ _ l)

pub limited-in_limits : (e : Entry) → in_limits e ≡ true → limited e ≡ good e
limited-in_limits e h = limited_low e (light_of e h) (word_le e h 5 (lit< tt))

pub above_is : (e : ℕ) (v w u : Entry) → in_limits w ≡ true → cond (eqb (e % 2) 0) (joined v w) (joined w v) ≡ u → above_of e v w ≡ limited u
unfolding above_of checked ◌>>=◌ ◌>>◌ refuse◌when◌
above_is e v w u h q = simp h (ap limited q)

-- ---- the steps of a climb
pub at_top : (n : ℕ) (b : List ℕ) (e : ℕ) (v : Entry) → n ≡ 0 → climbed n b e v ≡ good (put_entry b e v)
unfolding climbed
at_top n b e v h = rw h

pub one_level : (n : ℕ) (b : List ℕ) (e : ℕ) (v w : Entry) (x : Checked Entry) → w ≡ entry_at b (beside_of e) → above_of e v w ≡ x
    → climbed (suc n) b e v ≡ (x >>= (λ u. (climbed n b (e / 2) u >>= (λ written. good (put_entry written e v)))))
unfolding climbed
one_level n b e v w x is q = rw (← is, q)

-- the same as the code has it
pub one_up : (n : ℕ) (b : List ℕ) (e : ℕ) (v : Entry) → (n ≡ 0 → ⊥) → climbed n b e v ≡ (above_of e v (entry_at b (beside_of e)) >>= (λ u. (climbed (n - 1) b (e / 2) u >>= (λ written. good (put_entry written e v)))))
unfolding climbed
one_up zero b e v h = absurd (h refl)
one_up (suc n) b e v h = simp sub-one

-- ---- what a call says of its climb
pub told_put : (x : Checked (List ℕ)) (b written : List ℕ) → good (tt {0}) ≡ result_and x (good (tt {0})) → written ≡ result_unwrap_or x b → x ≡ good written
told_put (refused n) b written e h = never (cc)
told_put (good l) b written e h = ap good (sym h)

pub told_stop : (x : Checked (List ℕ)) (n : Rule) → refused n ≡ result_and x (good (tt {0})) → x ≡ refused n
told_stop (refused m) n e = cc
told_stop (good l) n e = never (cc)

pub ruleset climbing = (at_top, one_up, told_put, told_stop, beside_pair, bind_good, bind_refused, when_true, when_false)
