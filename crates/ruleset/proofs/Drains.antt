-- The drain of an accepted map is a number of few digits, so that its multiplier is 0 to 7. Assumes nothing.
use Rattle.std.proofs.Common.{ℕ, zero, suc, ◌*◌, ◌^◌, ◌<◌, ◌≤◌, min, Bool, true, false, List, [], ◌∷◌, length, take, pos, ◌+ℤ◌, ◌-ℤ◌, neg_ℤ, arith, length-take}
use lib.Signed.{mag}
use lib.Ieee.{Float, nan, inf, fin, up, down, lt}
use lib.Ieee.Nearest.{closest}
use Rattle.rules.specs.Limits.{max_breaks}
use Rattle.numbers.specs.Rounding.{saturated, round_ties_even_i32}
use Rattle.rules.specs.Refusals.{pick}
use Rattle.records.specs.Objects.{Object}
use Rattle.map_file.specs.File.{Map}
use Rattle.records.specs.declared.beatmap.BreakPeriod.{BreakPeriod}
use Rattle.encoding.specs.Limits.{MapWithin}
use Rattle.ruleset.specs.Drain.{length_of, breaks_length, start_of, last_place, drain_at}
use Rattle.ruleset.specs.Stars.{multiplier_at}
use Rattle.ruleset.proofs.Signs.{mag_add, mag_sub, mag_quot}
use Rattle.ruleset.proofs.Stars.{seven, settings_in_lem}

saturated_small : (s : Bool) (n : ℕ) → mag (saturated s n) ≤ 2 ^ 31
saturated_small false n = omega arith
saturated_small true n = go (min n (2 ^ 31)) (omega arith)
  where
    go : (k : ℕ) → k ≤ 2 ^ 31 → mag (neg_ℤ (pos k)) ≤ 2 ^ 31
    go zero h = omega arith
    go (suc k) h = omega (arith, h)

rounded_small : (x : Float) → mag (round_ties_even_i32 x) ≤ 2 ^ 31
unfolding round_ties_even_i32
rounded_small nan = omega arith
rounded_small (inf s) = saturated_small s (2 ^ 31)
rounded_small (fin s m e) = saturated_small s (closest (m * up e) (down e))

length_small : (a b : Float) → mag (length_of a b) ≤ 2 ^ 33
length_small a b = omega (arith, mag_sub (round_ties_even_i32 b) (round_ties_even_i32 a), rounded_small a, rounded_small b)

breaks_small : (last : Float) (bs : List BreakPeriod) → mag (breaks_length last bs) ≤ 2 ^ 34 * length bs
unfolding breaks_length
breaks_small last [] = omega arith
breaks_small last (b ∷ bs) = go (lt b.end_time last) (breaks_small last bs)
  where
    go : (x : Bool) → mag (breaks_length last bs) ≤ 2 ^ 34 * length bs
        → mag (pick x (length_of b.start_time b.end_time +ℤ breaks_length last bs) (pos 0)) ≤ 2 ^ 34 * suc (length bs)
    go false h = omega arith
    go true h =
        let sum = mag_add (length_of b.start_time b.end_time) (breaks_length last bs) in
        omega (arith, sum, h, length_small b.start_time b.end_time)

drain_small : (bs : List BreakPeriod) (os : List Object) (p : ℕ) → length bs ≤ max_breaks → mag (drain_at bs os p) < 2 ^ 53
unfolding drain_at
drain_small bs [] p h = omega arith
drain_small bs (o ∷ os) p h =
    let last = start_of (o ∷ os) (last_place (length (o ∷ os)) p) in
    let all = length_of o.start last in
    let breaks = breaks_length last bs in
    omega (arith, mag_quot (all -ℤ breaks), mag_sub all breaks, length_small o.start last, breaks_small last bs, h)

pub multiplier_most : (m : Map) (p : ℕ) → MapWithin m → multiplier_at m p ≤ 7
unfolding multiplier_at
multiplier_most m p w =
    let few = length-take p m.objects in
    seven m.settings (length (take p m.objects)) (drain_at m.breaks m.objects p) (settings_in_lem m.settings w.settings)
    (omega (arith, few, w.few_objects)) (drain_small m.breaks m.objects p w.few_breaks)
