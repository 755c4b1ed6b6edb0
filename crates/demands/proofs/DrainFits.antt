-- The drain of an accepted map in the Rust's type: no sum of its milliseconds leaves 32 bits, since each time is within 8,000,000 either way and there are at
-- most 128 breaks. Assumes nothing.
use mathlib.Core.Bool.{Bool, true, false}
use mathlib.Core.List.{List, [], ◌∷◌}
use mathlib.Core.Path.{◌≡◌, refl, sym, subst}
use Prim.Native.Nat.{ℕ, zero, suc, ◌*◌, ◌^◌, ◌≤◌, ◌<◌}
use native.Mathlib.Nat.{not-suc-le-zero, le_of_suc-le-suc}
use native.Mathlib.Omega.{arith}
use lib.Dec.{T, lit≤}
use lib.Ieee.{Float, of_bits, of_int, round, neg, le, lt}
use lib.IntN.{pos, ◌+ℤ◌, ◌-ℤ◌}
use lib.ListN.{length, take, length-take}
use lib.Signed.{mag}
use Rattle.numbers.specs.Floats.{whole}
use Rattle.numbers.specs.Rounding.{round_ties_even_i32}
use Rattle.numbers.proofs.rounding.Bounded.{round_bounded}
use Rattle.rules.specs.Refusals.{pick}
use Rattle.records.specs.Fields.{time_limit}
use Rattle.records.specs.Objects.{Object}
use Rattle.records.specs.declared.beatmap.BreakPeriod.{BreakPeriod}
use Rattle.map_file.specs.File.{Map}
use Rattle.encoding.specs.Limits.{Each, none, one, IsTime, BreakWithin, ObjectWithin, MapWithin}
use Rattle.ruleset.specs.Drain.{length_of, breaks_length, start_of, last_place}
use Rattle.ruleset.proofs.Signs.{mag_add, mag_sub}
use Rattle.demands.specs.Calls.{AcceptedMap}
use Rattle.demands.proofs.Maps.{accepted_is_within}

-- with the start of the last passed object: the breaks' lengths, summed up to any of them, and what is left of the whole length without them
pub record DrainFits (m : Map) (last : Float) : Type 0 where
  pub breaks : (n : ℕ) → mag (breaks_length last (take n m.breaks)) < 2 ^ 31
  pub without_breaks : mag (length_of (start_of m.objects 0) last -ℤ breaks_length last m.breaks) < 2 ^ 31

limit_is : time_limit ≡ whole 8000000
unfolding of_bits of_int round
limit_is = refl

time-most : (x : Float) → IsTime x → mag (round_ties_even_i32 x) ≤ 8000000
time-most x h =
    round_bounded x 8000000 (lit≤ tt) (subst (λ (l : Float). T (le (neg l) x)) limit_is (subst T (sym h.above) tt))
    (subst (λ (l : Float). T (le x l)) limit_is (subst T (sym h.below) tt))

length_most : (a b : Float) → IsTime a → IsTime b → mag (length_of a b) ≤ 16000003
length_most a b h k = omega (arith, mag_sub (round_ties_even_i32 b) (round_ties_even_i32 a), time-most a h, time-most b k)

breaks-most : (last : Float) (bs : List BreakPeriod) → Each BreakWithin bs → mag (breaks_length last bs) ≤ 16000005 * length bs
unfolding breaks_length
breaks-most last [] none = omega arith
breaks-most last (b ∷ bs) (one w ws) = go (lt b.end_time last) (breaks-most last bs ws)
  where
    go : (x : Bool) → mag (breaks_length last bs) ≤ 16000005 * length bs
        → mag (pick x (length_of b.start_time b.end_time +ℤ breaks_length last bs) (pos 0)) ≤ 16000005 * suc (length bs)
    go false h = omega arith
    go true h =
        let sum = mag_add (length_of b.start_time b.end_time) (breaks_length last bs) in
        omega (arith, sum, h, length_most b.start_time b.end_time w.start w.end)

first_within : (n : ℕ) {bs : List BreakPeriod} → Each BreakWithin bs → Each BreakWithin (take n bs)
first_within zero w = none
first_within (suc n) none = none
first_within (suc n) (one w ws) = one w (first_within n ws)

start_within : {os : List Object} → Each ObjectWithin os → (i : ℕ) → i < length os → IsTime (start_of os i)
start_within none i h = absurd (not-suc-le-zero h)
start_within (one w ws) zero h = w.start
start_within (one w ws) (suc i) h = start_within ws i (le_of_suc-le-suc h)

pub drain_fits : (m : Map) (p : ℕ) → AcceptedMap m → 1 ≤ length m.objects → DrainFits m (start_of m.objects (last_place (length m.objects) p))
drain_fits m p a some =
    let w : MapWithin m = accepted_is_within m a in
    let last = start_of m.objects (last_place (length m.objects) p) in
    let ends : IsTime last = start_within w.objects (last_place (length m.objects) p) (omega (arith, some)) in
    let all = length_most (start_of m.objects 0) last (start_within w.objects 0 some) ends in
    let left = mag_sub (length_of (start_of m.objects 0) last) (breaks_length last m.breaks) in
    record {
      breaks = λ n. omega (arith, breaks-most last (take n m.breaks) (first_within n w.breaks), length-take n m.breaks, w.few_breaks);
      without_breaks = omega (arith, left, all, breaks-most last m.breaks w.breaks, w.few_breaks);
    }
