-- What the last check of a read leaves: k is at least 2 × sliders, and s + f at least q.
use Prim.Native.Nat.{◌+◌, ◌*◌, ◌≤◌}
use mathlib.Core.Path.{◌≡◌, refl, sym, ap}
use mathlib.Core.Bool.{Bool, true, false, ◌||◌}
use native.Mathlib.Omega.{arith}
use borrow.Author.Tests.{ltb-false, le-ltb}
use lib.Dec.{ltb}
use Rattle.rules.specs.Limits.{max_objects}
use Rattle.simulator.specs.Limits.{Bounded, Counted}
use Rattle.entries.specs.Entry.{in_limits}
use Rattle.entries.specs.Scores.{unsound, state_in, counts_in}
use Rattle.entries.specs.declared.entry.Entry.{Entry}
use Rattle.rules.proofs.Laws.{never}
use Rattle.entries.proofs.Limits.{word_le}

pub neither : (a b : Bool) → (a || b) ≡ false → (a ≡ false) × (b ≡ false)
neither true b e = never (cc)
neither false b e = (refl, e)

pub sound : (e : Entry) → unsound e ≡ false → (2 * e.n_sliders ≤ e.combo) × (e.object_count ≤ e.combos_before + e.first_no_slider)
unfolding unsound
sound e h =
    let k = neither (ltb e.combo (2 * e.n_sliders)) (ltb (e.combos_before + e.first_no_slider) e.object_count) h in
    (ltb-false e.combo (2 * e.n_sliders) k.0, ltb-false (e.combos_before + e.first_no_slider) e.object_count k.1)

-- where k is high enough, s decides
pub by_before : (e : Entry) → 2 * e.n_sliders ≤ e.combo → ltb (e.combos_before + e.first_no_slider) e.object_count ≡ unsound e
unfolding unsound
by_before e h = sym (ap (λ (t : Bool). t || ltb (e.combos_before + e.first_no_slider) e.object_count) (le-ltb e.combo (2 * e.n_sliders) h))

-- ---- what the limits of an entry say of its values
pub state_bounded : (e : Entry) → in_limits e ≡ true → Bounded (state_in e)
state_bounded e h =
    let combo = word_le e h 1 (omega arith) in
    let before = word_le e h 2 (omega arith) in
    let first = word_le e h 3 (omega arith) in
    record { combo = combo; points = omega (arith, before, first) }

pub counts_bounded : (e : Entry) → in_limits e ≡ true → Counted max_objects (counts_in e)
counts_bounded e h =
    let spun = word_le e h 12 (omega arith) in
    record {
      objects = word_le e h 0 (omega arith);
      circles = word_le e h 7 (omega arith);
      sliders = word_le e h 8 (omega arith);
      spinners = word_le e h 9 (omega arith);
      repeats = word_le e h 10 (omega arith);
      ticks = word_le e h 11 (omega arith);
      spun = omega (arith, spun);
    }
