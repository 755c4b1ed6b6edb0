-- The entry of an accepted map's objects is within the limits; with one object changed, the legacy bonus alone can leave them. Assumes nothing.
use Prim.Native.Nat.{ℕ, zero, suc, ◌+◌, ◌*◌, ◌≤◌, ◌<◌}
use mathlib.Core.Path.{◌≡◌, refl, sym, subst}
use mathlib.Core.Logic.{◌≢◌}
use mathlib.Core.Bool.{Bool, true, false, cond}
use mathlib.Core.List.{List, [], ◌∷◌}
use native.Mathlib.Omega.{arith}
use native.Mathlib.Nat.{mul-le-mul, mul-le-mul_left}
use lib.Dec.{T}
use lib.Ieee.{Float, of_bits, of_int}
use lib.ListN.{length, get_or}
use Rattle.rules.specs.Limits.{max_gain, max_objects, max_bonus, combo_limit, max_combos_before}
use Rattle.numbers.specs.Floats.{whole}
use Rattle.numbers.proofs.Bounds.{Upto, of_tests}
use Rattle.spinner.specs.HalfSpins.{total_half_spins, required_half_spins}
use Rattle.spinner.specs.Bonus.{is_large, is_small, half_spin_points, legacy_of, standardised_of}
use Rattle.records.specs.Objects.{Object, Kind, circle, slider, spinner, kind_bonus, bonus}
use Rattle.encoding.specs.Limits.{Each, none, one, IsDuration, KindWithin, ObjectWithin}
use Rattle.simulator.specs.Combo.{gain, gain_before, combos_before_of, first_no_slider_of}
use Rattle.simulator.proofs.Bonus.{legacy_hour, nested_hour}
use Rattle.simulator.proofs.Sums.{items_count}
use Rattle.entries.specs.Entry.{accuracy_gain, standardised_gain, is_circle, is_slider, is_spinner, repeats_in, ticks_in, spinner_score_in, total, entry_of, words_of, limit_list, in_limits, entry_words}
use Rattle.entries.proofs.Limits.{within_of, at_each}

-- ---- sums over objects
total-most : (v : Kind → ℕ) (c : ℕ) (os : List Object) → Each ObjectWithin os → ((k : Kind) → KindWithin k → v k ≤ c) → total v os ≤ c * length os
unfolding total
total-most v c [] none h = omega arith
total-most v c (o ∷ os) (one w ws) h =
    let first = h o.kind w.kind in
    let rest = total-most v c os ws h in
    omega (arith, first, rest)

-- m of one sum against n of another, and c for each object
total_against : (m n c : ℕ) (v w : Kind → ℕ) (os : List Object) → Each ObjectWithin os → ((k : Kind) → KindWithin k → m * v k ≤ n * w k + c)
    → m * total v os ≤ n * total w os + c * length os
unfolding total
total_against m n c v w [] none h = omega arith
total_against m n c v w (o ∷ os) (one x xs) h =
    let first = h o.kind x.kind in
    let rest = total_against m n c v w os xs h in
    omega (arith, first, rest)

-- ---- what one object adds
gain-most : (k : Kind) → KindWithin k → gain k ≤ max_gain
gain-most circle h = omega arith
gain-most (slider is) h = omega (arith, h)
gain-most (spinner d) h = omega arith

accuracy_most : (k : Kind) → KindWithin k → accuracy_gain k ≤ 30330
accuracy_most circle h = omega arith
accuracy_most (slider is) h = let n = items_count is in omega (arith, h, n)
accuracy_most (spinner d) h = omega arith

circle-most : (k : Kind) → KindWithin k → is_circle k ≤ 1
circle-most circle h = omega arith
circle-most (slider is) h = omega arith
circle-most (spinner d) h = omega arith

slider-most : (k : Kind) → KindWithin k → is_slider k ≤ 1
slider-most circle h = omega arith
slider-most (slider is) h = omega arith
slider-most (spinner d) h = omega arith

spinner-most : (k : Kind) → KindWithin k → is_spinner k ≤ 1
spinner-most circle h = omega arith
spinner-most (slider is) h = omega arith
spinner-most (spinner d) h = omega arith

repeats-most : (k : Kind) → KindWithin k → repeats_in k ≤ max_gain
repeats-most circle h = omega arith
repeats-most (slider is) h = let n = items_count is in omega (arith, h, n)
repeats-most (spinner d) h = omega arith

ticks-most : (k : Kind) → KindWithin k → ticks_in k ≤ max_gain
ticks-most circle h = omega arith
ticks-most (slider is) h = let n = items_count is in omega (arith, h, n)
ticks-most (spinner d) h = omega arith

-- the standardised bonus of a spinner is at most a tenth of its legacy bonus, the nested score not much above two thirds
walked_below : (b i : ℕ) → 10 * half_spin_points 50 10 b i ≤ half_spin_points 1100 100 b i
unfolding half_spin_points
walked_below b zero = omega arith
walked_below b (suc i) = step (is_large b i) (is_small i) (half_spin_points 50 10 b i) (half_spin_points 1100 100 b i) (walked_below b i)
  where
    step : (x y : Bool) (u v : ℕ) → 10 * u ≤ v → 10 * (u + cond x 50 (cond y 10 0)) ≤ v + cond x 1100 (cond y 100 0)
    step true y u v h = omega arith
    step false true u v h = omega arith
    step false false u v h = omega arith

standardised_below : (k : Kind) → KindWithin k → 10 * standardised_gain k ≤ 1 * kind_bonus k + 0
unfolding legacy_of standardised_of
standardised_below circle h = omega arith
standardised_below (slider is) h = omega arith
standardised_below (spinner d) h = let w = walked_below (required_half_spins d + 3) (suc (total_half_spins d)) in omega (arith, w)

duration_upto : (d : Float) → IsDuration d → Upto d (whole 3600000)
unfolding of_bits of_int
duration_upto d h = of_tests d (whole 3600000) tt (subst T (sym h.above) tt) (subst T (sym h.below) tt)

spinner_below : (k : Kind) → KindWithin k → 3 * spinner_score_in k ≤ 2 * kind_bonus k + 400
spinner_below circle h = omega arith
spinner_below (slider is) h = omega arith
spinner_below (spinner d) h = nested_hour d (duration_upto d h)

pub object_bonus : (k : Kind) → KindWithin k → kind_bonus k ≤ 62965100
object_bonus circle h = omega arith
object_bonus (slider is) h = omega arith
object_bonus (spinner d) h = legacy_hour d (duration_upto d h)

-- ---- s and f
before_below : (k : Kind) → gain_before k ≤ gain k
before_below circle = omega arith
before_below (slider is) = omega arith
before_below (spinner d) = omega arith

before_most : (c : ℕ) (os : List Object) → combos_before_of c os ≤ (c + total gain os) * length os
unfolding total
before_most c [] = omega arith
before_most c (o ∷ os) =
    step (gain_before o.kind) (gain o.kind) (total gain os) (combos_before_of (c + gain o.kind) os) (length os) (before_below o.kind) (before_most (c + gain o.kind) os)
  where
    step : (b g t x n : ℕ) → b ≤ g → x ≤ (c + g + t) * n → c + b + x ≤ (c + (g + t)) * suc n
    step b g t x n h k =
        let e : c + g + t ≡ c + (g + t) = omega arith in
        let m : x ≤ (c + (g + t)) * n = rw e at k in
        omega (arith, h, m)

first_most : (os : List Object) → first_no_slider_of os ≤ 1
first_most [] = omega arith
first_most (o ∷ os) = kind_most o.kind
  where
    kind_most : (k : Kind) → first_no_slider_of (record { start = o.start; kind = k } ∷ os) ≤ 1
    kind_most circle = omega arith
    kind_most (slider is) = omega arith
    kind_most (spinner d) = omega arith

pub entry_first : (os : List Object) → (entry_of os).first_no_slider ≤ 1
unfolding entry_of
entry_first os = first_most os

pub bonus-total : (os : List Object) → total kind_bonus os ≡ bonus os
unfolding total bonus
bonus-total [] = refl
bonus-total (o ∷ os) = let e = bonus-total os in omega (arith, e)

-- every word but the legacy bonus, for a map's bonus and one more object's
pub words_within : (os : List Object) → Each ObjectWithin os → length os ≤ max_objects → bonus os ≤ max_bonus + 62965100
    → (i : ℕ) → i < entry_words → i ≢ 5 → get_or (words_of (entry_of os)) i 0 ≤ get_or limit_list i 0
unfolding entry_of
words_within os w few low =
    let many : (c : ℕ) → c * length os ≤ c * max_objects = (λ c. mul-le-mul_left c few) in
    let legacy : total kind_bonus os ≤ max_bonus + 62965100 = (let e = bonus-total os in omega (arith, e, low)) in
    let combo : total gain os ≤ combo_limit = (let t = total-most gain max_gain os w gain-most in omega (arith, t, many max_gain)) in
    let before : combos_before_of 0 os ≤ max_combos_before =
    (let b = before_most 0 os in let z : 0 + total gain os ≡ total gain os = omega arith in let d = rw z at b in let p = mul-le-mul combo few in omega (arith, d, p)) in
    let first = first_most os in
    let accuracy : total accuracy_gain os ≤ max_bonus = (let t = total-most accuracy_gain 30330 os w accuracy_most in omega (arith, t, many 30330)) in
    let standardised : total standardised_gain os ≤ max_bonus =
    (let t = total_against 10 1 0 standardised_gain kind_bonus os w standardised_below in omega (arith, t, legacy)) in
    let circles : total is_circle os ≤ max_objects = (let t = total-most is_circle 1 os w circle-most in omega (arith, t, few)) in
    let sliders : total is_slider os ≤ max_objects = (let t = total-most is_slider 1 os w slider-most in omega (arith, t, few)) in
    let spinners : total is_spinner os ≤ max_objects = (let t = total-most is_spinner 1 os w spinner-most in omega (arith, t, few)) in
    let repeated : total repeats_in os ≤ combo_limit = (let t = total-most repeats_in max_gain os w repeats-most in omega (arith, t, many max_gain)) in
    let ticked : total ticks_in os ≤ combo_limit = (let t = total-most ticks_in max_gain os w ticks-most in omega (arith, t, many max_gain)) in
    let spun : total spinner_score_in os ≤ max_bonus =
    (let t = total_against 3 2 400 spinner_score_in kind_bonus os w spinner_below in omega (arith, t, legacy, few)) in
    places few combo before first accuracy standardised circles sliders spinners repeated ticked spun
  where
    places : length os ≤ max_objects → total gain os ≤ combo_limit → combos_before_of 0 os ≤ max_combos_before → first_no_slider_of os ≤ 1 → total accuracy_gain os ≤ max_bonus
        → total standardised_gain os ≤ max_bonus → total is_circle os ≤ max_objects → total is_slider os ≤ max_objects → total is_spinner os ≤ max_objects
        → total repeats_in os ≤ combo_limit → total ticks_in os ≤ combo_limit → total spinner_score_in os ≤ max_bonus
        → (i : ℕ) → i < entry_words → i ≢ 5 → get_or (words_of (entry_of os)) i 0 ≤ get_or limit_list i 0
    places a b c d e g h j k l m n zero lt ne = a
    places a b c d e g h j k l m n (suc zero) lt ne = b
    places a b c d e g h j k l m n (suc (suc zero)) lt ne = c
    places a b c d e g h j k l m n (suc (suc (suc zero))) lt ne = d
    places a b c d e g h j k l m n (suc (suc (suc (suc zero)))) lt ne = e
    places a b c d e g h j k l m n (suc (suc (suc (suc (suc zero))))) lt ne = absurd (ne refl)
    places a b c d e g h j k l m n (suc (suc (suc (suc (suc (suc zero)))))) lt ne = g
    places a b c d e g h j k l m n (suc (suc (suc (suc (suc (suc (suc zero))))))) lt ne = h
    places a b c d e g h j k l m n (suc (suc (suc (suc (suc (suc (suc (suc zero)))))))) lt ne = j
    places a b c d e g h j k l m n (suc (suc (suc (suc (suc (suc (suc (suc (suc zero))))))))) lt ne = k
    places a b c d e g h j k l m n (suc (suc (suc (suc (suc (suc (suc (suc (suc (suc zero)))))))))) lt ne = l
    places a b c d e g h j k l m n (suc (suc (suc (suc (suc (suc (suc (suc (suc (suc (suc zero))))))))))) lt ne = m
    places a b c d e g h j k l m n (suc (suc (suc (suc (suc (suc (suc (suc (suc (suc (suc (suc zero)))))))))))) lt ne = n
    places a b c d e g h j k l m n (suc (suc (suc (suc (suc (suc (suc (suc (suc (suc (suc (suc (suc i))))))))))))) lt ne = absurd (omega (arith, lt))

pub entry_within : (os : List Object) → Each ObjectWithin os → length os ≤ max_objects → bonus os ≤ max_bonus → in_limits (entry_of os) ≡ true
unfolding entry_of
entry_within os w few low =
    let legacy : total kind_bonus os ≤ max_bonus = (let e = bonus-total os in omega (arith, e, low)) in
    within_of (entry_of os) (at_each 5 legacy (words_within os w few (omega (arith, low))))
