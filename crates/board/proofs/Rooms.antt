-- What the measuring of the lent slices answers, and what it leaves known.
use Prim.Native.Nat.{ℕ, ◌*◌, ◌≤◌}
use mathlib.Core.Path.{◌≡◌, refl, sym, ap}
use mathlib.Core.Bool.{Bool, true, false}
use mathlib.Core.List.{List}
use borrow.Author.Tests.{le-ltb, ltb-false}
use lib.Dec.{ltb}
use lib.Ieee.{Float}
use lib.ListN.{length}
use Rattle.rules.specs.declared.refusal.Rule.{Rule}
use Rattle.rules.specs.Limits.{max_objects}
use Rattle.entries.specs.Entry.{place_words}
use Rattle.rules.specs.Refusals.{Checked, good, refused, ◌>>◌, refuse◌when◌, COUNT, ROOM}
use Rattle.rules.proofs.Laws.{never}
use Rattle.tree.specs.Size.{levels_of, cap_of}
use Rattle.board.specs.Place.{room_for, room_of, Holds}

module _ (b : List ℕ) (ts : List Float) (n : ℕ) where
  pub roomy : n ≤ max_objects → place_words * cap_of n ≤ length b → n ≤ length ts → room_for b ts n ≡ good tt
  unfolding room_for ◌>>◌ refuse◌when◌
  roomy few words h = simp (le-ltb _ _ few, le-ltb _ _ words, le-ltb _ _ h)

  -- where nothing is refused there is room
  pub record Measured : Type 0 where
    pub few : n ≤ max_objects
    pub words : place_words * cap_of n ≤ length b
    pub numbers : n ≤ length ts

  pub measured : (u : Unit {0}) → room_for b ts n ≡ good u → Measured
  unfolding room_for ◌>>◌ refuse◌when◌
  measured u e = go (ltb max_objects n) refl (ltb (length b) (place_words * cap_of n)) refl (ltb (length ts) n) refl e
    where
      go : (x : Bool) → ltb max_objects n ≡ x → (y : Bool) → ltb (length b) (place_words * cap_of n) ≡ y → (z : Bool) → ltb (length ts) n ≡ z
          → ((refuse COUNT when x) >> ((refuse ROOM when y) >> (refuse ROOM when z))) ≡ good u → Measured
      go true p y q z r e = never (cc)
      go false p true q z r e = never (cc)
      go false p false q true r e = never (cc)
      go false p false q false r e = record { few = ltb-false _ _ p; words = ltb-false _ _ q; numbers = ltb-false _ _ r }

  -- what the code was told
  pub told_refused : (k : Rule) → refused k ≡ room_of n (room_for b ts n) → room_for b ts n ≡ refused k
  unfolding ◌>>◌
  told_refused k e = go (room_for b ts n) e
    where
      go : (x : Checked (Unit {0})) → refused k ≡ room_of n x → x ≡ refused k
      go (refused m) e = let s : k ≡ m = cc in ap refused (sym s)
      go (good u) e = never (cc)

  pub told_is : (size : ℕ) → good size ≡ room_of n (room_for b ts n) → (room_for b ts n ≡ good tt) × Holds size n b ts
  unfolding ◌>>◌
  told_is size e = go (room_for b ts n) refl e
    where
      go : (x : Checked (Unit {0})) → room_for b ts n ≡ x → good size ≡ room_of n x → (room_for b ts n ≡ good tt) × Holds size n b ts
      go (refused m) q e = never (cc)
      go (good u) q e =
          let s : size ≡ levels_of n = cc in
          let m = measured u q in
          (q, record { levels = s; few = m.few; words = m.words; numbers = m.numbers })
