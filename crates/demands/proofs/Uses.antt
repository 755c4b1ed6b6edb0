-- The theorems of Demands in use: what follows from them in a step or two, by their statements alone, so that a weaker one would not give it. The claim
-- over lists is used in ListUse. Assumes nothing.
use Rattle.std.specs.Prelude.{Option, Some, None}
use mathlib.Core.Bool.{true, false}
use mathlib.Core.List.{List, [], ◌∷◌}
use mathlib.Core.Logic.{◌≢◌}
use mathlib.Core.Path.{◌≡◌, refl, sym, ap, ◌∙◌, subst}
use Prim.Native.Nat.{ℕ, ◌+◌, ◌*◌, ◌-◌, ◌/◌, ◌^◌, ◌≤◌, ◌<◌}
use native.Mathlib.Nat.{le-div_iff_mul-le}
use native.Mathlib.Omega.{arith}
use borrow.Author.Tests.{ne_eqb}
use lib.Dec.{eqb, lit<}
use lib.Ieee.{Float, nan, neg, le, to_unsigned, of_int, mul, div}
use lib.IntN.{◌-ℤ◌}
use lib.ListN.{length, take, drop, get_or}
use lib.Signed.{mag}
use lib.Pow.{pow_mono, pow_pos}
use Rattle.numbers.specs.Floats.{whole, ◌⊗◌}
use Rattle.numbers.proofs.Wholes.{whole-cut}
use Rattle.numbers.proofs.words.Laws.{Bytes}
use Rattle.spinner.specs.HalfSpins.{total_half_spins, required_half_spins}
use Rattle.spinner.specs.Bonus.{sums_before, legacy_of, standardised_of}
use Rattle.rules.specs.Refusals.{Checked, good, refused, INPUT, BOARD, HEAT, OrRefusal, refusal_at, at_0, number_of}
use Rattle.rules.specs.declared.refusal.Rule.{Rule}
use Rattle.play_state.specs.declared.Play.{Play}
use Rattle.records.specs.Objects.{Object}
use Rattle.records.specs.declared.beatmap.Settings.{Settings}
use Rattle.map_file.specs.File.{Map, file_of}
use Rattle.encoding.specs.Encoding.{object_bytes, map_file}
use Rattle.encoding.specs.Limits.{MapWithin, HitsWithin, PlaySized}
use Rattle.encoding.proofs.RoundTrip.{bare}
use Rattle.ruleset.specs.Drain.{length_of, breaks_length, start_of, last_place, drain_at}
use Rattle.ruleset.specs.Stars.{multiplier_at}
use Rattle.ruleset.proofs.Signs.{mag_quot}
use Rattle.simulator.specs.Nested.{no_object, counted_all}
use Rattle.simulator.specs.Walk.{combo_points}
use Rattle.simulator.specs.Attributes.{score_attributes_at}
use Rattle.simulator.specs.declared.attributes.OsuDifficultyAttributes.{OsuDifficultyAttributes}
use Rattle.simulator.proofs.Exact.{rust_spinner_score}
use Rattle.play_reader.specs.View.{answer_of, simulated_of}
use Rattle.miss_calc.specs.Counts.{total_hits}
use Rattle.miss_calc.specs.ScoreBased.{combo_product_of}
use Rattle.estimates.specs.Effective.{estimates_of}
use Rattle.slider_breaks.specs.Given.{BreaksScore, with_breaks}
use Rattle.slider_breaks.specs.declared.calculator.SliderFactors.{SliderFactors}
use Rattle.slider_breaks.proofs.Range.{BreaksInRange}
use Rattle.scoring.specs.Scores.{Scores, scores_of, map_score_of, given_play_of, listed_play_of}
use Rattle.entries.specs.Entry.{place_words}
use Rattle.entries.specs.Words.{entry_at}
use Rattle.tree.specs.Board.{Covers, own, left, right}
use Rattle.tree.specs.Size.{cap_of}
use Rattle.board.specs.Place.{written_left}
use Rattle.board.specs.Read.{read_of}
use Rattle.board.specs.Edit.{object_in, edit_of}
use Rattle.board_build.specs.Build.{built}
use Rattle.listing.specs.Listing.{input_text, listed_of}
use Rattle.host.specs.Status.{status_left}
use Rattle.host.specs.Map.{map_info_of}
use Rattle.host.specs.Play.{play_in}
use Rattle.host.specs.Answer.{map_answer_of, given_answer_of, single_of, listed_answer_of}
use Rattle.host.specs.Breaks.{breaks_answer_of}
use Rattle.host.specs.declared.play.HostPlay.{HostPlay}
use Rattle.host.specs.declared.answer.PlayAnswer.{PlayAnswer}
use Rattle.heat.specs.Heat.{heat_of}
use Rattle.demands.specs.Calls.{is_accepted, AcceptedMap, changed, times_of, map_in, lent_for, lent_by, Call, edit, read, read_breaks, edits, reads, reads_breaks, answer, lent_after, map_after_all, lent_after_all, MayStand}
use Rattle.board.proofs.Numbers.{Numbered, value, number}
use Rattle.demands.proofs.Refusals.{BreaksNumbered, scored, numbered}
use Rattle.demands.proofs.Files.{scored_plays}
use Rattle.demands.proofs.Boards.{Leads}
use Rattle.demands.proofs.DrainFits.{DrainFits}
use Rattle.demands.proofs.Demands.{every_listing_fits, refused_by_a_rule, refused_edit_by_a_rule, refused_read_by_a_rule, refused_play_breaks_by_a_rule, refused_read_breaks_by_a_rule, never_10, accepted_keeps_the_rules, keeping_the_rules_is_accepted, no_number_only_when_the_rules_are_kept, no_number_when_the_rules_are_kept, every_combo_product_is_exact, every_score_combo_product_is_exact, every_sum_fits_its_type, every_drain_fits_its_type, every_half_spin_by_counts, every_spinner_by_counts, values_are_the_definition's, effective_misses_in_range, slider_breaks_in_range, every_list_of_calls, every_spinner_sum_is_exact, accepted_maps_are_within, accepted_map_gets_no_number, every_accepted_map_is_built, maps_within_are_accepted, left_by_every_list, changed_map_accepted, one_edit_leads, edit_touches_only, never_13_edit, never_13_read, never_13_read_breaks}

-- ---- Demand 1
-- no listing is cut
abbrev has_room : Option ℕ → ℕ
has_room (Some n) = 1
has_room None = 0

never_cut : (s : List ℕ) → listed_of (input_text s) 262144 ≢ None
never_cut s e = omega (arith, ap has_room (sym (every_listing_fits s) ∙ e))

-- 0 is a host's number of a good call
no_file_gets_0 : (s : List ℕ) (n : Rule) (at : ℕ) → scores_of (file_of s) ≡ refused (refusal_at n at) → number_of n ≢ 0
no_file_gets_0 s n at e z = omega (arith, (refused_by_a_rule s n at e).0, z)

-- nor 10, which was the highest of a file's once
no_file_gets_10 : (s : List ℕ) (n : Rule) (at : ℕ) → scores_of (file_of s) ≡ refused (refusal_at n at) → number_of n ≢ 10
no_file_gets_10 s n at e z = omega (arith, (refused_by_a_rule s n at e).1, z)

-- the number of a refusal, and 1 for a value
abbrev told : {A : Type 0} → Checked A → ℕ
told (good a) = 1
told (refused n) = number_of n

not_0 : {A : Type 0} (x : Checked A) → Numbered x → (n : Rule) → x ≡ refused n → number_of n ≢ 0
not_0 (good a) value n e z = omega (arith, ap told e, z)
not_0 (refused k) (number h) n e z = omega (arith, h.least, ap told e, z)

no_edit_gets_0 : (b : List ℕ) (ts : List Float) (n place : ℕ) (r : List ℕ) (k : Rule) → edit_of b ts n place r ≡ refused k → number_of k ≢ 0
no_edit_gets_0 b ts n place r = not_0 (edit_of b ts n place r) (refused_edit_by_a_rule b ts n place r)

no_read_gets_0 : (b : List ℕ) (ts : List Float) (n : ℕ) (s : Settings) (br : List Float) (p : Play) (k : Rule) → read_of b ts n s br p ≡ refused k → number_of k ≢ 0
no_read_gets_0 b ts n s br p = not_0 (read_of b ts n s br p) (refused_read_by_a_rule b ts n s br p)

-- with factors neither 1, which is the program's own, nor 15, which would be a heat's
abbrev breaks_number : OrRefusal BreaksScore → ℕ
breaks_number (good s) = 2
breaks_number (refused r) = number_of r.rule

between : (x : OrRefusal BreaksScore) → BreaksNumbered x → (2 ≤ breaks_number x) × (breaks_number x ≤ 14)
between (good s) scored = (omega arith, omega arith)
between (refused r) (numbered h) = (h.least, h.most)

no_play_with_factors_gets_1 : (s : List ℕ) (p : Play) (f : SliderFactors) (at : ℕ) → with_breaks p f (given_play_of p (scores_of (file_of s))) ≢ refused (refusal_at INPUT at)
no_play_with_factors_gets_1 s p f at e = omega (arith, (between _ (refused_play_breaks_by_a_rule s p f)).0, ap breaks_number e)

no_read_with_factors_gets_15 : (b : List ℕ) (ts : List Float) (n : ℕ) (s : Settings) (br : List Float) (p : Play) (f : SliderFactors) (at : ℕ)
    → with_breaks p f (at_0 (read_of b ts n s br p)) ≢ refused (refusal_at HEAT at)
no_read_with_factors_gets_15 b ts n s br p f at e = omega (arith, (between _ (refused_read_breaks_by_a_rule b ts n s br p f)).1, ap breaks_number e)

-- a host that still tests for 10 never finds it: in no answer of a call on a file, ..
module _ (s : List ℕ) (p : HostPlay) (f : SliderFactors) where
  abbrev x : OrRefusal Scores
  x = scores_of (file_of s)

  no_10_of_a_file : (i at passed : ℕ)
      → ((n : Rule) → x ≡ refused (refusal_at n at) → number_of n ≢ 10)
      × ((n : Rule) → simulated_of (file_of s) passed ≡ refused (refusal_at n at) → number_of n ≢ 10)
      × (eqb (map_info_of (answer_of (file_of s))).status 10 ≡ false)
      × (eqb (map_answer_of (map_score_of x)).status 10 ≡ false)
      × (eqb (single_of x p).status 10 ≡ false)
      × (eqb (listed_answer_of (listed_play_of i x)).status 10 ≡ false)
      × (eqb (breaks_answer_of (with_breaks (play_in p) f (given_play_of (play_in p) x))).status 10 ≡ false)
  no_10_of_a_file i at passed = (
    λ n. never_10.file s n at,
    λ n. never_10.simulate s passed n at,
    ne_eqb _ 10 (never_10.read_map s),
    ne_eqb _ 10 (never_10.score_map s),
    ne_eqb _ 10 (never_10.score_play s p),
    ne_eqb _ 10 (never_10.score_play_at s i),
    ne_eqb _ 10 (never_10.score_play_breaks s p f),
  )

  -- .. of a heat and of the plays in it, whose first outcome is written over one with 10, ..
  no_10_of_a_heat : (os : List PlayAnswer) → (eqb (heat_of x (p ∷ []) os).0.status 10 ≡ false)
      × ((heat_of x (p ∷ []) os).0.status ≡ 0 → (o : PlayAnswer) → eqb (get_or (heat_of x (p ∷ []) os).1 0 o).status 10 ≡ false)
  no_10_of_a_heat os = (ne_eqb _ 10 (never_10.heat s (p ∷ []) os), λ done o. ne_eqb _ 10 (never_10.outcome s (p ∷ []) os done 0 p o (lit< tt)))

  -- .. nor on any board
  no_10_on_a_board : (b : List ℕ) (ts : List Float) (n place : ℕ) (r : List ℕ) (settings : Settings) (br : List Float)
      → (eqb (status_left (built x b ts)).0.status 10 ≡ false)
      × (eqb (status_left (written_left (edit_of b ts n place r) b ts)).0.status 10 ≡ false)
      × (eqb (given_answer_of (at_0 (read_of b ts n settings br (play_in p)))).status 10 ≡ false)
      × (eqb (breaks_answer_of (with_breaks (play_in p) f (at_0 (read_of b ts n settings br (play_in p))))).status 10 ≡ false)
  no_10_on_a_board b ts n place r settings br = (
    ne_eqb _ 10 (never_10.build s b ts),
    ne_eqb _ 10 (never_10.edit b ts n place r),
    ne_eqb _ 10 (never_10.read b ts n settings br p),
    ne_eqb _ 10 (never_10.read_breaks b ts n settings br p f),
  )

-- the map of an accepted file, without the file's plays, has a file that is accepted
map_alone : (s : List ℕ) (sc : Scores) → scores_of (file_of s) ≡ good sc → scores_of (file_of (map_file sc.map)) ≡ good (record { map = sc.map; plays = [] })
map_alone s sc e = keeping_the_rules_is_accepted sc.map (accepted_keeps_the_rules s sc e)

-- the scores of an accepted file are those of the map and the plays that its bytes are written from
scores_of_its_bytes : (s : List ℕ) (b : Bytes s) (sc : Scores) (e : scores_of (file_of s) ≡ good sc)
    → ◌≡◌ {A = OrRefusal Scores} (good sc) (good (record { map = (no_number_only_when_the_rules_are_kept s b sc e).map; plays = scored_plays (no_number_only_when_the_rules_are_kept s b sc e).map (no_number_only_when_the_rules_are_kept s b sc e).plays }))
scores_of_its_bytes s b sc e = sym e ∙ no_number_when_the_rules_are_kept s (no_number_only_when_the_rules_are_kept s b sc e)

-- ---- Demand 2
-- a file without plays has no score of a play
no_play_no_score : (s : List ℕ) (sc : Scores) (e : scores_of (file_of s) ≡ good sc) → (values_are_the_definition's s sc e).file.plays ≡ [] → sc.plays ≡ []
unfolding bare
no_play_no_score s sc e none =
    let v = values_are_the_definition's s sc e in
    v.plays ∙ ap (λ (l : List (ℕ × Play)). scored_plays v.file.map (bare l)) none

-- a play without a judgement, which has no miss either, is estimated none
nothing_judged : (p : Play) (a : OsuDifficultyAttributes) → HitsWithin p.hitresults → total_hits p.hitresults ≡ 0
    → (le (whole 0) (estimates_of p a).effective ≡ true) × (le (estimates_of p a).effective (whole 0) ≡ true)
nothing_judged p a w e =
    let range = effective_misses_in_range p a w in
    let none : p.hitresults.misses ≡ 0 = omega (arith, e) in (
      subst (λ (n : ℕ). le (whole n) (estimates_of p a).effective ≡ true) none range.above,
      subst (λ (n : ℕ). le (estimates_of p a).effective (whole n) ≡ true) e range.below,
    )

-- a play without a 100 is told of no slider break
no_100_no_break : (s : List ℕ) (p : Play) (f : SliderFactors) (b : BreaksScore) → with_breaks p f (given_play_of p (scores_of (file_of s))) ≡ good b
    → p.hitresults.n100 ≡ 0 → (le (whole 0) b.slider_breaks.aim ≡ true) × (le b.slider_breaks.aim (whole 0) ≡ true) × (le (whole 0) b.slider_breaks.speed ≡ true) × (le b.slider_breaks.speed (whole 0) ≡ true)
no_100_no_break s p f b e none =
    let range = slider_breaks_in_range s p f b e in
    let most : (x : Float) → le x (whole p.hitresults.n100) ≡ true → le x (whole 0) ≡ true = λ x. subst (λ (n : ℕ). le x (whole n) ≡ true) none in
    (range.aim.above, most _ range.aim.below, range.speed.above, most _ range.speed.below)

-- two accepted maps whose spinners count the same have the same sum in the Rust
same_spinner_sum : (m m' : Map) (p : ℕ) → AcceptedMap m → AcceptedMap m'
    → (counted_all no_object (take p m.objects)).spinner_score ≡ (counted_all no_object (take p m'.objects)).spinner_score
    → rust_spinner_score (whole 0) (take p m.objects) ≡ rust_spinner_score (whole 0) (take p m'.objects)
same_spinner_sum m m' p a a' e = every_spinner_sum_is_exact m p a ∙ ap whole e ∙ sym (every_spinner_sum_is_exact m' p a')

-- the product of the last hit of the longest combo
last_product : (m : Map) (p : ℕ) → AcceptedMap m
    → to_unsigned 31 (whole ((score_attributes_at m p).legacy.max_combo - 1) ⊗ whole (300 / 25) ⊗ whole (multiplier_at m p))
    ≡ combo_points (multiplier_at m p) (score_attributes_at m p).legacy.max_combo 300
last_product m p a = every_combo_product_is_exact m p a (score_attributes_at m p).legacy.max_combo (omega arith)

-- the float keeps the product of every accepted map's max combo
longest_product : (m : Map) (p : ℕ) → AcceptedMap m → 2 ≤ (score_attributes_at m p).difficulty.max_combo
    → to_unsigned 53 (combo_product_of (score_attributes_at m p).difficulty.max_combo)
    ≡ ((score_attributes_at m p).difficulty.max_combo - 2) * (score_attributes_at m p).difficulty.max_combo
longest_product m p a some = (every_score_combo_product_is_exact _ (every_sum_fits_its_type m p a).max_combo_fits).exact some

largest_product : to_unsigned 53 (combo_product_of 8200192) ≡ 67243132436480
largest_product = (every_score_combo_product_is_exact 8200192 (omega arith)).exact (omega arith)

-- with the limit written out; and one circle has -1
no_larger_product : (combo : ℕ) → combo ≤ 8200192 → (combo - 2) * combo < 2 ^ 53
no_larger_product combo h = (every_score_combo_product_is_exact combo h).below

product_of_one : combo_product_of 1 ≡ neg (whole 1)
product_of_one = (every_score_combo_product_is_exact 1 (omega arith)).of_one refl

-- an i32 holds accuracy and both bonus sums of an accepted map, and their total of three has 33 bits
totals_fit : (m : Map) (p : ℕ) → AcceptedMap m
    → (score_attributes_at m p).legacy.accuracy_score + (score_attributes_at m p).legacy.bonus_score.0 + (score_attributes_at m p).standardised_bonus_score.0 < 2 ^ 33
totals_fit m p a = let fit = every_sum_fits_its_type m p a in omega (arith, fit.accuracy, fit.legacy, fit.standardised)

-- the float of its combo points is exact, and the counts that the accuracy of origin 2 adds up have 32 bits
points_kept : (m : Map) (p : ℕ) → AcceptedMap m
    → (to_unsigned 53 (whole (score_attributes_at m p).legacy.combo_score) ≡ (score_attributes_at m p).legacy.combo_score)
    × ((score_attributes_at m p).difficulty.n_sliders + (score_attributes_at m p).difficulty.n_repeats + (score_attributes_at m p).difficulty.n_ticks < 2 ^ 32)
points_kept m p a =
    let fit = every_sum_fits_its_type m p a in
    (whole-cut 53 _ (omega (arith, fit.combo_points_fit)) fit.combo_points_fit, omega (arith, fit.counts))

-- so an i32 holds the drain, and what its first two breaks take off
drain_kept : (m : Map) (p : ℕ) → AcceptedMap m → 1 ≤ length m.objects
    → (mag (drain_at m.breaks m.objects p) ≤ 2 ^ 31) × (mag (breaks_length (start_of m.objects (last_place (length m.objects) p)) (take 2 m.breaks)) < 2 ^ 31)
unfolding drain_at
drain_kept m p a some = (go m.objects fit.without_breaks, fit.breaks 2)
  where
    fit : DrainFits m (start_of m.objects (last_place (length m.objects) p))
    fit = every_drain_fits_its_type m p a some

    go : (os : List Object)
        → mag (length_of (start_of os 0) (start_of os (last_place (length os) p)) -ℤ breaks_length (start_of os (last_place (length os) p)) m.breaks) < 2 ^ 31
        → mag (drain_at m.breaks os p) ≤ 2 ^ 31
    go [] h = omega arith
    go (o ∷ os) h = omega (arith, h, mag_quot (length_of (start_of (o ∷ os) 0) (start_of (o ∷ os) (last_place (length (o ∷ os)) p)) -ℤ breaks_length (start_of (o ∷ os) (last_place (length (o ∷ os)) p)) m.breaks))

-- the points of an hour, and those behind its half spin 20,000, with none of its half spins gone through
hour_points : (legacy_of (whole 3600000) ≡ 28401800) × (standardised_of (whole 3600000) ≡ 1447100)
unfolding total_half_spins required_half_spins of_int mul div to_unsigned
hour_points = ((every_spinner_by_counts (whole 3600000)).legacy, (every_spinner_by_counts (whole 3600000)).standardised)

within_the_hour : ((sums_before 10803 20001).legacy.0 ≡ 6057800) × ((sums_before 10803 20001).standardised.0 ≡ 329900)
within_the_hour = ((every_half_spin_by_counts 10803 20000).legacy, (every_half_spin_by_counts 10803 20000).standardised)

-- ---- Demand 3
-- the file of an accepted map is scored as that map
accepted_is_scored : (m : Map) → AcceptedMap m → scores_of (file_of (map_file m)) ≡ good (record { map = m; plays = [] })
accepted_is_scored m a = keeping_the_rules_is_accepted m (accepted_maps_are_within m a)

-- what an edit goes by is true of every map within the limits
within_gets_none : (m : Map) → MapWithin m → is_accepted m ≡ true
within_gets_none m w = accepted_map_gets_no_number m (maps_within_are_accepted m w)

-- every map within the limits has its board
within_is_built : (m : Map) → MapWithin m → (b : List ℕ) (ts : List Float) → place_words * cap_of (length m.objects) ≤ length b → length m.objects ≤ length ts
    → (built (scores_of (file_of (map_file m))) b ts).0 ≡ good tt
within_is_built m w b ts room starts = ap (λ z. z.0) (every_accepted_map_is_built m (maps_within_are_accepted m w) b ts room starts)

-- an edit of a board that was just built leads to the board of the changed map, with what lay beyond the built one
edit_of-built : (m : Map) (place : ℕ) (o : Object) (b : List ℕ) (ts : List Float) → AcceptedMap m → place_words * cap_of (length m.objects) ≤ length b
    → length m.objects ≤ length ts → place < length m.objects → AcceptedMap (changed m place o)
    → (answer (edit (length m.objects) place (object_bytes o)) (lent_by (map_file m) b ts) ≡ edits (good tt))
    × (lent_after (edit (length m.objects) place (object_bytes o)) (lent_by (map_file m) b ts)
    ≡ lent_for (changed m place o) (drop (place_words * cap_of (length m.objects)) b) (drop (length m.objects) ts))
edit_of-built m place o b ts a room starts h a' =
    let call = edit (length m.objects) place (object_bytes o) in
    let words = drop (place_words * cap_of (length m.objects)) b in
    let numbers = drop (length m.objects) ts in
    let first : lent_by (map_file m) b ts ≡ lent_for m words numbers =
    ap (λ (z : OrRefusal (Unit {0}) × List ℕ × List Float). record { board = z.1; starts = z.2 }) (every_accepted_map_is_built m a b ts room starts) in
    let leads = one_edit_leads m place o words numbers a h a' in
    (ap (answer call) first ∙ leads.done, ap (lent_after call) first ∙ leads.there)

-- an edit that the claim lets succeed leads to the board of the changed map
accepted_edit_leads : (m : Map) (place : ℕ) (r : List ℕ) (o : Object) (words : List ℕ) (numbers : List Float) → AcceptedMap m → place < length m.objects
    → object_in r ≡ good o → is_accepted (changed m place o) ≡ true → Leads m place o words numbers
accepted_edit_leads m place r o words numbers a h e t = one_edit_leads m place o words numbers a h (changed_map_accepted m a place r o e t)

-- behind every list, no call with the arguments of the map that it left gets 13
no_13_edit : (s : List ℕ) (b : List ℕ) (ts : List Float) (cs : List Call) (place : ℕ) (r : List ℕ)
    → (built (scores_of (file_of s)) b ts).0 ≡ good tt
    → MayStand cs (map_in (file_of s)) (lent_by s b ts)
    → answer (edit (length (map_after_all cs (map_in (file_of s))).objects) place r) (lent_after_all cs (lent_by s b ts)) ≢ edits (refused (refusal_at BOARD 0))
no_13_edit s b ts cs place r d h e =
    let left = left_by_every_list s b ts cs d h in
    let m = map_after_all cs (map_in (file_of s)) in
    never_13_edit m _ _ place r left.0 (sym (ap (λ l. answer (edit (length m.objects) place r) l) left.1) ∙ e)

no_13_read : (s : List ℕ) (b : List ℕ) (ts : List Float) (cs : List Call) (p : Play)
    → (built (scores_of (file_of s)) b ts).0 ≡ good tt
    → MayStand cs (map_in (file_of s)) (lent_by s b ts)
    → answer (read (length (map_after_all cs (map_in (file_of s))).objects) (map_after_all cs (map_in (file_of s))).settings (times_of (map_after_all cs (map_in (file_of s))).breaks) p) (lent_after_all cs (lent_by s b ts))
    ≢ reads (refused (refusal_at BOARD 0))
no_13_read s b ts cs p d h e =
    let left = left_by_every_list s b ts cs d h in
    let m = map_after_all cs (map_in (file_of s)) in
    never_13_read m _ _ p left.0 (sym (ap (λ l. answer (read (length m.objects) m.settings (times_of m.breaks) p) l) left.1) ∙ e)

no_13_read_breaks : (s : List ℕ) (b : List ℕ) (ts : List Float) (cs : List Call) (p : Play) (f : SliderFactors)
    → (built (scores_of (file_of s)) b ts).0 ≡ good tt
    → MayStand cs (map_in (file_of s)) (lent_by s b ts)
    → answer (read_breaks (length (map_after_all cs (map_in (file_of s))).objects) (map_after_all cs (map_in (file_of s))).settings (times_of (map_after_all cs (map_in (file_of s))).breaks) p f) (lent_after_all cs (lent_by s b ts))
    ≢ reads_breaks (refused (refusal_at BOARD 0))
no_13_read_breaks s b ts cs p f d h e =
    let left = left_by_every_list s b ts cs d h in
    let m = map_after_all cs (map_in (file_of s)) in
    never_13_read_breaks m _ _ p f left.0 (sym (ap (λ l. answer (read_breaks (length m.objects) m.settings (times_of m.breaks) p f) l) left.1) ∙ e)

-- the slider breaks that a read of a built board gives are in their range too: the claim says that it gives what the file's call gives
read_breaks_in_range : (s : List ℕ) (b : List ℕ) (ts : List Float) (p : Play) (f : SliderFactors) (x : BreaksScore) → (built (scores_of (file_of s)) b ts).0 ≡ good tt
    → PlaySized p
    → answer (read_breaks (length (map_in (file_of s)).objects) (map_in (file_of s)).settings (times_of (map_in (file_of s)).breaks) p f) (lent_by s b ts) ≡ reads_breaks (good x)
    → BreaksInRange x.slider_breaks p.hitresults.n100
read_breaks_in_range s b ts p f x d sized e =
    let m = map_in (file_of s) in
    let call = read_breaks (length m.objects) m.settings (times_of m.breaks) p f in
    let told = ((every_list_of_calls s b ts (call ∷ []) d (tt, tt)).0 refl refl refl sized).as_called in
    slider_breaks_in_range (map_file m) p f x (breaks-told (sym told ∙ e))
  where
    breaks-told : {u v : OrRefusal BreaksScore} → reads_breaks u ≡ reads_breaks v → u ≡ v
    breaks-told q = cc

-- entry 0, which covers no place, and the words behind the board are as they were
no_covers_0 : (c p : ℕ) → 1 ≤ c → Covers c 0 p → ⊥
no_covers_0 c p h (own e) = omega (arith, h, e)
no_covers_0 c p h (left k g r) = omega (arith, k)
no_covers_0 c p h (right k g r) = omega (arith, k)

entry_0_kept : (b : List ℕ) (ts : List Float) (n place : ℕ) (r : List ℕ) (w : List ℕ × List Float) → edit_of b ts n place r ≡ good w
    → (entry_at w.0 0 ≡ entry_at b 0) × (length w.0 ≡ length b) × (drop (place_words * cap_of n) w.0 ≡ drop (place_words * cap_of n) b)
entry_0_kept b ts n place r w e =
    let t = edit_touches_only b ts n place r w e in
    (t.words.others 0 (no_covers_0 (cap_of n) place (omega (arith, t.inside))), t.words.size, t.words.behind)

-- on the largest board the 14th entry on the way up is the top: one more would be entry 0
top_is_last : (b : List ℕ) (ts : List Float) (n place : ℕ) (r : List ℕ) (w : List ℕ × List Float) → edit_of b ts n place r ≡ good w → cap_of n ≡ 2 ^ 13
    → (x : ℕ) → Covers (cap_of n) x place → 1 ≤ x
top_is_last b ts n place r w e full x h =
    let way = (edit_touches_only b ts n place r w e).covering x h in
    let least : 2 ^ way.0 ≤ 2 ^ 13 = pow_mono {j = 13} (omega (arith, way.1)) in
    subst (λ (y : ℕ). 1 ≤ y) (sym way.2) ((le-div_iff_mul-le (pow_pos way.0)).1 (omega (arith, least, full)))

-- an edit of the first object leaves the second one's start time
second_start : (b : List ℕ) (ts : List Float) (n : ℕ) (r : List ℕ) (w : List ℕ × List Float) → edit_of b ts n 0 r ≡ good w → get_or w.1 1 nan ≡ get_or ts 1 nan
second_start b ts n r w e = (edit_touches_only b ts n 0 r w e).starts 1 (λ h. omega (arith, h))
