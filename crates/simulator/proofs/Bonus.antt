-- How much a spinner gives: at most 1,100 and 50 for each half spin, and never less legacy bonus than nested score. Assumes nothing.
use mathlib.Core.Path.{◌≡◌, sym, ap, ◌∙◌}
use Prim.Native.Nat.{ℕ, zero, suc, ◌+◌, ◌-◌, ◌*◌, ◌/◌, ◌%◌, ◌^◌, ◌≤◌, min}
use native.Mathlib.Nat.{le_trans, le_of_eq}
use native.Mathlib.Omega.{arith}
use mathlib.Core.Bool.{Bool, true, false, cond}
use lib.Dec.{T, eqb, eqb→eq, lit≤}
use lib.IntN.{ℤ, pos}
use lib.Ieee.{Float, nan, inf, fin, mul, div, of_int, to_unsigned, binary64}
use lib.Ieee.Casts.{to_unsigned-lt}
use Rattle.numbers.specs.Floats.{whole, ◌⊗◌, ◌⊘◌}
use Rattle.numbers.proofs.Bounds.{plain, Upto, mul_upto, mul_plain, div_upto, of_itself, upto_trans, cut_mono}
use Rattle.numbers.proofs.Wholes.{whole_mul, whole-cut, cut_least}
use Rattle.spinner.specs.HalfSpins.{seconds, total_half_spins, required_half_spins}
use Rattle.spinner.specs.Bonus.{legacy_of, standardised_of, large_count, small_count}
use Rattle.spinner.proofs.Walks.{walked_is, points_most}
use Rattle.simulator.specs.Nested.{spins_score, spinner_score_of}

-- T fits an i32
total_lt : (d : Float) → suc (total_half_spins d) ≤ 2 ^ 31
unfolding total_half_spins
total_lt d = to_unsigned-lt 31 _

most : (large n : ℕ) → n ≤ 2 ^ 31 → large * n ≤ large * 2 ^ 31
most large n h = native.Mathlib.Nat.mul-le-mul_left large h

pub legacy_most : (d : Float) → legacy_of d ≤ 1100 * 2 ^ 31
unfolding legacy_of
legacy_most d = le_trans (points_most 1100 100 (required_half_spins d + 3) (suc (total_half_spins d)) (omega arith)) (most 1100 (suc (total_half_spins d)) (total_lt d))

pub standardised_most : (d : Float) → standardised_of d ≤ 50 * 2 ^ 31
unfolding standardised_of
standardised_most d =
    le_trans (points_most 50 10 (required_half_spins d + 3) (suc (total_half_spins d)) (omega arith)) (most 50 (suc (total_half_spins d)) (total_lt d))

-- "Nested spinner score of a map is at most its legacy bonus": for each spinner
nested_count_lem : (t b : ℕ) → 100 * (t / 2) + 1000 * ((t - b) / 2 - t / 2 / 2) ≤ 1100 * large_count b t + 100 * small_count b t
nested_count_lem t b = go (eqb (b % 2) 0) (eqb→eq (b % 2) 0)
  where
    go : (x : Bool) → (T x → b % 2 ≡ 0) → 100 * (t / 2) + 1000 * ((t - b) / 2 - t / 2 / 2) ≤ 1100 * ((t - b) / 2) + 100 * cond x (min t b / 2) (t / 2)
    go true h = let e : b % 2 ≡ 0 = h tt in omega arith
    go false h = omega arith

pub nested_legacy : (d : Float) → spinner_score_of d ≤ legacy_of d
unfolding spinner_score_of legacy_of
nested_legacy d =
    le_trans (nested_count_lem (total_half_spins d) (required_half_spins d + 3)) (le_of_eq (sym (walked_is 1100 100 (required_half_spins d + 3) (total_half_spins d))))

-- ---- a spinner of at most an hour
abbrev rate : Float
rate = whole 477 ⊘ whole 60

-- T, of s seconds
abbrev total_in : Float → Float
total_in s = s ⊗ rate ⊗ whole 2

module _ (s : Float) (h : Upto s (whole 3600)) where
  rate_upto : Upto (s ⊗ rate) (whole 3600 ⊗ rate)
  unfolding mul div of_int
  rate_upto = mul_upto binary64 s rate (whole 3600) rate tt tt h (of_itself rate tt) tt

  total_upto : Upto (total_in s) (total_in (whole 3600))
  unfolding mul div of_int
  total_upto = mul_upto binary64 (s ⊗ rate) (whole 2) (whole 3600 ⊗ rate) (whole 2) tt tt rate_upto (of_itself (whole 2) tt) tt

  required_upto : Upto (s ⊗ whole 3) (whole 3600 ⊗ whole 3)
  unfolding mul of_int
  required_upto = mul_upto binary64 s (whole 3) (whole 3600) (whole 3) tt tt h (of_itself (whole 3) tt) tt

  required_most : to_unsigned 31 (s ⊗ whole 3) ≤ 10800
  unfolding mul of_int to_unsigned
  required_most = cut_mono 31 (s ⊗ whole 3) (whole 3600 ⊗ whole 3) tt required_upto

  -- R as a float is at most s × the rate, so twice R is at most what T is cut from
  plain_half : T (plain s) → 2 * to_unsigned 31 (s ⊗ whole 3) ≤ to_unsigned 31 (total_in s)
  unfolding div of_int
  plain_half p =
      let r = to_unsigned 31 (s ⊗ whole 3) in
      let few = required_most in
      let y = mul_plain binary64 s rate p tt rate_upto.is in
      let t = mul_plain binary64 (s ⊗ rate) (whole 2) y tt total_upto.is in
      let below = mul_upto binary64 s (whole 3) s rate p tt (of_itself s p) (record { is = tt; at_most = lit≤ tt }) y in
      let least = upto_trans (whole r) (s ⊗ whole 3) (s ⊗ rate) (cut_least 31 (s ⊗ whole 3) required_upto.is (omega (arith, few))) below in
      let twice = mul_upto binary64 (whole r) (whole 2) (s ⊗ rate) (whole 2) y tt least (of_itself (whole 2) tt) t in
      let exact : whole r ⊗ whole 2 ≡ whole (r * 2) = whole_mul r 2 (omega (arith, few)) (lit≤ tt) in
      let same : to_unsigned 31 (whole r ⊗ whole 2) ≡ r * 2 = ap (to_unsigned 31) exact ∙ whole-cut 31 (r * 2) (omega (arith, few)) (omega (arith, few)) in
      let most = cut_mono 31 (whole r ⊗ whole 2) (total_in s) t twice in
      omega (arith, same, most)

-- -0 seconds
no_seconds : (e : ℤ) → to_unsigned 31 (fin true 0 e ⊗ whole 3) ≤ 0
unfolding mul of_int to_unsigned
no_seconds e =
    let zeros : Upto (fin true 0 e) (whole 0) = record { is = tt; at_most = omega arith } in
    cut_mono 31 (fin true 0 e ⊗ whole 3) (whole 0 ⊗ whole 3) tt (mul_upto binary64 (fin true 0 e) (whole 3) (whole 0) (whole 3) tt tt zeros (of_itself (whole 3) tt) tt)

-- s, of a duration
hour : (d : Float) → Upto d (whole 3600000) → Upto (seconds d) (whole 3600)
unfolding div of_int
hour d h = div_upto binary64 d (whole 3600000) 124 (pos 3) tt h tt

pub total_hour : (d : Float) → Upto d (whole 3600000) → total_half_spins d ≤ 57240
unfolding total_half_spins mul div of_int to_unsigned
total_hour d h = cut_mono 31 (total_in (seconds d)) (total_in (whole 3600)) tt (total_upto (seconds d) (hour d h))

-- R is at most half of T
pub required_half : (d : Float) → Upto d (whole 3600000) → 2 * required_half_spins d ≤ total_half_spins d
unfolding total_half_spins required_half_spins
required_half d h = go (seconds d) (hour d h)
  where
    go : (s : Float) → Upto s (whole 3600) → 2 * to_unsigned 31 (s ⊗ whole 3) ≤ to_unsigned 31 (total_in s)
    go nan k = absurd k.is
    go (inf t) k = absurd k.is
    go (fin true zero e) k = let z = no_seconds e in omega (arith, z)
    go (fin true (suc m) e) k = absurd k.is
    go (fin false m e) k = plain_half (fin false m e) k tt

pub legacy_hour : (d : Float) → Upto d (whole 3600000) → legacy_of d ≤ 62965100
unfolding legacy_of
legacy_hour d h =
    let w = points_most 1100 100 (required_half_spins d + 3) (suc (total_half_spins d)) (omega arith) in
    let t = total_hour d h in
    omega (arith, w, t)

-- so the nested score is well below the legacy bonus
nested_thirds : (t r : ℕ) → 2 * r ≤ t → 3 * spins_score t r ≤ 2 * (1100 * large_count (r + 3) t + 100 * small_count (r + 3) t) + 400
nested_thirds t r h = go (eqb ((r + 3) % 2) 0) (eqb→eq ((r + 3) % 2) 0)
  where
    go : (x : Bool) → (T x → (r + 3) % 2 ≡ 0)
        → 3 * (100 * (t / 2) + 1000 * ((t - (r + 3)) / 2 - t / 2 / 2)) ≤ 2 * (1100 * ((t - (r + 3)) / 2) + 100 * cond x (min t (r + 3) / 2) (t / 2)) + 400
    go true k = let e : (r + 3) % 2 ≡ 0 = k tt in omega arith
    go false k = omega arith

pub nested_hour : (d : Float) → Upto d (whole 3600000) → 3 * spinner_score_of d ≤ 2 * legacy_of d + 400
unfolding spinner_score_of legacy_of
nested_hour d h =
    let n = nested_thirds (total_half_spins d) (required_half_spins d) (required_half d h) in
    let w = walked_is 1100 100 (required_half_spins d + 3) (total_half_spins d) in
    omega (arith, n, w)
