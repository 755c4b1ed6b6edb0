-- "These products are exact; no cast saturates", for every accepted map: the Rust's float products and sums are the whole numbers of the definitions, and
-- none leaves its type.
use mathlib.Core.List.{List, [], ◌∷◌}
use mathlib.Core.Bool.{true}
use mathlib.Core.Path.{◌≡◌, refl, ap, ◌∙◌}
use Prim.Native.Nat.{ℕ, zero, suc, ◌+◌, ◌-◌, ◌*◌, ◌/◌, ◌^◌, ◌≤◌, ◌<◌}
use native.Mathlib.Nat.{mul-le-mul, lt_of_le_of_lt}
use native.Mathlib.Omega.{arith}
use borrow.Author.Tests.{eq-eqb, ne_eqb}
use lib.Dec.{lit<}
use lib.Ieee.{to_unsigned, neg}
use lib.ListN.{take, get_or, length-take}
use Rattle.numbers.specs.Floats.{whole, ◌⊗◌}
use Rattle.numbers.proofs.Wholes.{whole-cut}
use Rattle.rules.specs.Limits.{max_objects, max_bonus, combo_limit}
use Rattle.records.specs.Objects.{Object, bonus}
use Rattle.map_file.specs.File.{Map}
use Rattle.encoding.specs.Limits.{MapWithin}
use Rattle.ruleset.specs.Stars.{multiplier_at}
use Rattle.ruleset.proofs.Drains.{multiplier_most}
use Rattle.simulator.specs.Walk.{State, fresh, after, combo_points}
use Rattle.simulator.specs.Nested.{no_object, counted_all}
use Rattle.simulator.specs.Attributes.{score_attributes_at, score_attributes_of, legacy_attributes_of, difficulty_attributes_of}
use Rattle.simulator.specs.View.{times}
use Rattle.simulator.specs.declared.attributes.ScoreAttributes.{ScoreAttributes}
use Rattle.simulator.specs.declared.legacy_score.NestedScorePerObject.{NestedScorePerObject}
use Rattle.simulator.proofs.Exact.{combo_exact, rust_spinner_score, spinner_exact}
use Rattle.simulator.proofs.Few.{each_take, each_few, passed-within}
use Rattle.simulator.proofs.Walks.{after-times, fresh-times}
use Rattle.miss_calc.specs.ScoreBased.{combo_product_of}
use Rattle.entries.specs.Entry.{entry_words, entry_of, in_limits, limit_list, words_of}
use Rattle.entries.proofs.Limits.{word_le}
use Rattle.entries.proofs.Accepted.{entry_within}
use Rattle.entries.proofs.Scores.{state_is, counts_are}
use Rattle.demands.specs.Calls.{AcceptedMap}
use Rattle.demands.proofs.Maps.{accepted_is_within}

-- ---- the first p objects of a map keep its limits
bonus_first : (p : ℕ) (os : List Object) → bonus (take p os) ≤ bonus os
unfolding bonus
bonus_first zero os = omega arith
bonus_first (suc p) [] = omega arith
bonus_first (suc p) (o ∷ os) = let h = bonus_first p os in omega (arith, h)

-- ---- document 02, §3: "(max combo - 2) × max combo as an exact whole number, then as a float"
-- below 2 ^ 53, so that the float is that number; at combo 1 it is -1
pub record ProductExact (combo : ℕ) : Type 0 where
  pub below : (combo - 2) * combo < 2 ^ 53
  pub exact : 2 ≤ combo → to_unsigned 53 (combo_product_of combo) ≡ (combo - 2) * combo
  pub of_one : combo ≡ 1 → combo_product_of combo ≡ neg (whole 1)

pub product_exact : (combo : ℕ) → combo ≤ combo_limit → ProductExact combo
unfolding combo_product_of
product_exact combo h =
    let less : combo - 2 ≤ 8200190 = omega (arith, h) in
    let most : (combo - 2) * combo < 2 ^ 53 = lt_of_le_of_lt (mul-le-mul less h) (lit< tt) in
    record {
      below = most;
      exact = λ (some : 2 ≤ combo). rw (ne_eqb combo 1 (λ e. omega (arith, some, e))) (whole-cut 53 ((combo - 2) * combo) (omega (arith, most)) most);
      of_one = λ (one : combo ≡ 1). rw (eq-eqb combo 1 one) refl;
    }

-- ---- the combo that they reach
pub combo_most : (m : Map) (p : ℕ) → MapWithin m → (score_attributes_at m p).difficulty.max_combo ≤ combo_limit
unfolding score_attributes_at score_attributes_of difficulty_attributes_of
combo_most m p w =
    let os = take p m.objects in
    let sums = passed-within p max_objects m.objects w.few_objects (omega arith) (each_few m.objects w.objects) in
    let same : after (multiplier_at m p) fresh os ≡ times (multiplier_at m p) (after 1 fresh os) =
    ap (λ (st : State). after (multiplier_at m p) st os) (fresh-times (multiplier_at m p)) ∙ after-times (multiplier_at m p) fresh os in
    let combo = ap (λ (st : State). st.combo) same in
    omega (arith, combo, sums.combo)

-- the sums of the source in their types: accuracy, bonus sums and the combo in 31 bits (the combo is cast to i32), the combo points, an i64, such that
-- their float is exact, and the counts that the source adds up in 32 bits
pub record SumsFit (a : ScoreAttributes) : Type 0 where
  pub accuracy : a.legacy.accuracy_score < 2 ^ 31
  pub combo_points_fit : a.legacy.combo_score < 2 ^ 53
  pub legacy : a.legacy.bonus_score.0 < 2 ^ 31
  pub standardised : a.standardised_bonus_score.0 < 2 ^ 31
  pub max_combo_fits : a.difficulty.max_combo ≤ combo_limit
  pub counts : a.difficulty.n_sliders + a.difficulty.n_repeats + a.difficulty.n_ticks < 2 ^ 31

module _ (m : Map) (p : ℕ) (a : AcceptedMap m) where
  abbrev os : List Object
  os = take p m.objects

  w : MapWithin m
  w = accepted_is_within m a

  -- ---- combo points
  max_combo_fits : (score_attributes_at m p).legacy.max_combo ≤ combo_limit
  unfolding score_attributes_at score_attributes_of legacy_attributes_of difficulty_attributes_of
  max_combo_fits = combo_most m p w

  -- `(factor * multiplier) as i32` of a 300 at any combo that the passed objects reach
  pub combo_points_exact : (c : ℕ) → c ≤ (score_attributes_at m p).legacy.max_combo
      → to_unsigned 31 (whole (c - 1) ⊗ whole (300 / 25) ⊗ whole (multiplier_at m p)) ≡ combo_points (multiplier_at m p) c 300
  combo_points_exact c h = let most = max_combo_fits in combo_exact (multiplier_at m p) c (omega (arith, h, most)) (multiplier_most m p w)

  -- ---- every sum in its type: their entry's words are within document 01's limits
  inside : in_limits (entry_of os) ≡ true
  inside =
      let more = bonus_first p m.objects in
      let count = length-take p m.objects in
      entry_within os (each_take p w.objects) (omega (arith, count, w.few_objects)) (omega (arith, more, w.low_bonus))

  -- the state at multiplier 1
  passed : State
  passed = after 1 fresh os

  points_most : passed.combo_score * multiplier_at m p < 2 ^ 53
  unfolding passed
  points_most =
      let sums = passed-within p max_objects m.objects w.few_objects (omega arith) (each_few m.objects w.objects) in
      lt_of_le_of_lt (mul-le-mul sums.points (multiplier_most m p w)) (lit< tt)

  pub sums_fit : SumsFit (score_attributes_at m p)
  unfolding score_attributes_at score_attributes_of legacy_attributes_of difficulty_attributes_of passed
  sums_fit =
      let same : after (multiplier_at m p) fresh os ≡ times (multiplier_at m p) (after 1 fresh os) =
      ap (λ (st : State). after (multiplier_at m p) st os) (fresh-times (multiplier_at m p)) ∙ after-times (multiplier_at m p) fresh os in
      let state = state_is os in
      let counts = counts_are os in
      let word : (i : ℕ) → i < entry_words → get_or (words_of (entry_of os)) i 0 ≤ get_or limit_list i 0 = word_le (entry_of os) inside in
      let points = points_most in
      record {
        accuracy = omega (arith, ap (λ (st : State). st.accuracy_score) same, ap (λ (st : State). st.accuracy_score) state, word 4 (lit< tt));
        combo_points_fit = omega (arith, ap (λ (st : State). st.combo_score) same, points);
        legacy = omega (arith, ap (λ (st : State). st.legacy_bonus_score.0) same, ap (λ (st : State). st.legacy_bonus_score.0) state, word 5 (lit< tt));
        standardised = omega (arith, ap (λ (st : State). st.standardised_bonus_score.0) same, ap (λ (st : State). st.standardised_bonus_score.0) state, word 6 (lit< tt));
        max_combo_fits = combo_most m p w;
        counts = omega (arith, ap (λ (c : NestedScorePerObject). c.n_sliders) counts, ap (λ (c : NestedScorePerObject). c.n_repeats) counts, ap (λ (c : NestedScorePerObject). c.amount_of_small_ticks) counts, word 8 (lit< tt), word 10 (lit< tt), word 11 (lit< tt));
      }

  -- ---- the spinners' nested score, which the Rust sums in f64
  spun : (counted_all no_object os).spinner_score ≤ max_bonus
  spun =
      let word : (entry_of os).spinner_score ≤ max_bonus = word_le (entry_of os) inside 12 (lit< tt) in
      let same : (entry_of os).spinner_score ≡ (counted_all no_object os).spinner_score = ap (λ (c : NestedScorePerObject). c.spinner_score) (counts_are os) in
      omega (arith, word, same)

  pub spinner_score_exact : rust_spinner_score (whole 0) os ≡ whole (counted_all no_object os).spinner_score
  spinner_score_exact = let most = spun in spinner_exact no_object os (omega (arith, most))
