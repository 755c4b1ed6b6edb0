-- A read of the board of a map within the limits gives the scoring call's answer: the entries give the sums of the passed objects, the start table
-- their starts.
use Prim.Native.Nat.{ℕ, zero, suc, ◌-◌, ◌*◌, ◌%◌, ◌≤◌, ◌<◌, min}
use mathlib.Core.Path.{◌≡◌, refl, sym, ap, ◌∙◌}
use mathlib.Core.Bool.{Bool, true, false}
use mathlib.Core.List.{List, [], ◌∷◌, ◌++◌}
use native.Mathlib.Omega.{arith}
use native.Mathlib.Nat.{not-suc-le-zero, le_of_suc-le-suc}
use borrow.Author.Tests.{ne_eqb}
use lib.Dec.{eqb, eqb-suc-zero}
use lib.Ieee.{Float, nan}
use lib.ListN.{length, take, get_or, length-append, length-map}
use Rattle.rules.specs.Refusals.{good, ◌>>◌, refuse◌when◌, PLAY_FIELD}
use Rattle.records.specs.Objects.{Object}
use Rattle.map_file.specs.File.{Map}
use Rattle.records.specs.declared.beatmap.BreakPeriod.{BreakPeriod}
use Rattle.records.specs.declared.beatmap.Settings.{Settings}
use Rattle.play_state.specs.declared.Play.{Play}
use Rattle.encoding.specs.Limits.{IsTime, IsSetting, Each, none, one, SettingsWithin, BreakWithin, ObjectWithin, MapWithin}
use Rattle.ruleset.specs.Drain.{drain_of, breaks_length, breaks_of, start_of, drain_at}
use Rattle.ruleset.specs.Stars.{multiplier_of, multiplier_at}
use Rattle.simulator.specs.Walk.{State, fresh, after}
use Rattle.simulator.specs.Nested.{no_object, counted_all}
use Rattle.simulator.specs.Attributes.{score_attributes_of, score_attributes_at}
use Rattle.simulator.specs.View.{times}
use Rattle.simulator.specs.declared.attributes.ScoreAttributes.{ScoreAttributes}
use Rattle.simulator.proofs.Walks.{after-times, fresh-times}
use Rattle.map_reader.proofs.Passed.{attributes_passed}
use Rattle.play_score.specs.PlayRules.{mods_bad, play_score, given_score}
use Rattle.entries.specs.Entry.{entry_of}
use Rattle.entries.proofs.Scores.{state_is, counts_are}
use Rattle.tree.specs.Board.{board_of, starts_of}
use Rattle.tree.proofs.Changed.{first_right, board_length}
use Rattle.board.specs.Place.{room_for}
use Rattle.board.specs.Search.{time_bad, starts_in, found_of}
use Rattle.board.specs.Read.{setting_bad, settings_bad, times_bad, arguments_bad, drain_from, attributes_from, read_of}
use Rattle.board.specs.declared.search.Starts.{Starts}
use Rattle.board.specs.declared.search.Found.{Found}
use Rattle.board.proofs.Binds.{when_true, when_false}
use Rattle.board.proofs.Rooms.{roomy}
use Rattle.board.proofs.Searches.{finds}
use Rattle.board.proofs.Readings.{bad_mods, reads, found, same_attributes}
use Rattle.demands.specs.Calls.{times_of}
use Rattle.demands.proofs.SoundWords.{sound_words}

-- ---- the arguments
time_good : (x : Float) → IsTime x → time_bad x ≡ false
time_good x h = simp (h.above, h.below)

setting_good : (x : Float) → IsSetting x → setting_bad x ≡ false
setting_good x h = simp (h.above, h.below)

settings_good : (s : Settings) → SettingsWithin s → settings_bad s ≡ false
unfolding settings_bad
settings_good s h = simp (setting_good s.hp h.hp, setting_good s.od h.od, setting_good s.cs h.cs)

times_good : (bs : List BreakPeriod) → Each BreakWithin bs → times_bad (times_of bs) ≡ false
unfolding times_bad times_of
times_good [] none = refl
times_good (b ∷ bs) (one w ws) = simp (time_good b.start_time w.start, time_good b.end_time w.end) (times_good bs ws)

times-length : (bs : List BreakPeriod) → length (times_of bs) ≡ 2 * length bs
unfolding times_of
times-length [] = refl
times-length (b ∷ bs) = let e = times-length bs in omega (arith, e)

times_even : (bs : List BreakPeriod) → eqb (length (times_of bs) % 2) 1 ≡ false
times_even bs = ne_eqb (length (times_of bs) % 2) 1 (λ e. let k = times-length bs in omega (arith, e, k))

breaks_back : (bs : List BreakPeriod) → breaks_of (times_of bs) ≡ bs
unfolding breaks_of times_of
breaks_back [] = refl
breaks_back (b ∷ bs) = ap (λ (l : List BreakPeriod). b ∷ l) (breaks_back bs)

-- ---- the starts
start_at : (os : List Object) (numbers : List Float) (i : ℕ) → i < length os → get_or (starts_of os ++ numbers) i nan ≡ start_of os i
start_at [] numbers i h = absurd (not-suc-le-zero h)
start_at (o ∷ os) numbers zero h = refl
start_at (o ∷ os) numbers (suc i) h = start_at os numbers i (le_of_suc-le-suc h)

start_good : {os : List Object} → Each ObjectWithin os → (i : ℕ) → i < length os → time_bad (start_of os i) ≡ false
start_good none i h = absurd (not-suc-le-zero h)
start_good (one {a = o} w ws) zero h = time_good o.start w.start
start_good (one w ws) (suc i) h = start_good ws i (le_of_suc-le-suc h)

-- those that a read of the first p objects takes
abbrev starts_at : List Object → ℕ → Starts
starts_at os p = record { first = start_of os 0; last = start_of os (p - 1) }

starts_found_lem : (os : List Object) (numbers : List Float) (p : ℕ) → Each ObjectWithin os → p ≤ length os
    → starts_in (starts_of os ++ numbers) (length os) p ≡ good (starts_at os p)
unfolding starts_in ◌>>◌ refuse◌when◌
starts_found_lem [] numbers p w h = refl
starts_found_lem (o ∷ os) numbers p w h =
    let in_p : p - 1 < suc (length os) = omega (arith, h) in
    let first = start_good w 0 (omega arith) in
    let last = start_good w (p - 1) in_p in
    simp (eqb-suc-zero (length os), start_at (o ∷ os) numbers (p - 1) in_p, first, last)

drain_is : (bs : List BreakPeriod) (os : List Object) (p : ℕ) → p ≤ length os → drain_from (starts_at os p) (times_of bs) (length os) ≡ drain_at bs os p
unfolding drain_from drain_at
drain_is bs [] p h = refl
drain_is bs (o ∷ os) p h =
    let all : p ≡ min p (suc (length os)) = omega (arith, h) in
    rw (eqb-suc-zero (length os))
    (ap (λ (l : List BreakPeriod). drain_of o.start (start_of (o ∷ os) (p - 1)) (breaks_length (start_of (o ∷ os) (p - 1)) l)) (breaks_back bs)
    ∙ ap (λ (n : ℕ). drain_of o.start (start_of (o ∷ os) (n - 1)) (breaks_length (start_of (o ∷ os) (n - 1)) bs)) all)

-- ---- the attributes of the first p objects
abbrev found_at : List Object → ℕ → Found
found_at os p = record { sum = entry_of (take p os); starts = starts_at os p }

attributes_right : (m : Map) (p : ℕ) → p ≤ length m.objects
    → attributes_from (found_at m.objects p) m.settings (times_of m.breaks) (length m.objects) ≡ score_attributes_at m p
unfolding attributes_from score_attributes_at multiplier_at entry_of
attributes_right m p h =
    let os = take p m.objects in
    let k = multiplier_at m p in
    let multiplier = ap (multiplier_of m.settings (length os)) (drain_is m.breaks m.objects p h) in
    let walked : times k (after 1 fresh os) ≡ after k fresh os = sym (ap (λ (st : State). after k st os) (fresh-times k) ∙ after-times k fresh os) in
    same_attributes (state_is os) (counts_are os) multiplier ∙ ap (λ (st : State). score_attributes_of st (counted_all no_object os) k) walked

-- ---- the read
module _ (m : Map) (words : List ℕ) (numbers : List Float) (p : Play) (w : MapWithin m) where
  abbrev n : ℕ
  n = length m.objects

  abbrev b : List ℕ
  b = board_of m.objects ++ words

  abbrev ts : List Float
  ts = starts_of m.objects ++ numbers

  abbrev br : List Float
  br = times_of m.breaks

  abbrev a : ScoreAttributes
  a = score_attributes_at m p.passed_objects

  abbrev passed : ℕ
  passed = min p.passed_objects n

  few : length br ≤ 256
  few = let e = times-length m.breaks in omega (arith, e, w.few_breaks)

  room : room_for b ts n ≡ good tt
  room =
      let e = board_length m.objects words in
      let starts = length-append (starts_of m.objects) numbers in
      let own = length-map m.objects (λ (o : Object). o.start) in
      roomy b ts n w.few_objects (omega (arith, e)) (omega (arith, starts, own))

  arguments : arguments_bad m.settings br ≡ false
  unfolding arguments_bad
  arguments = simp (settings_good m.settings w.settings, times_good m.breaks w.breaks, times_even m.breaks)

  in_passed : passed ≤ n
  in_passed = omega arith

  finds_passed : found_of b ts n passed ≡ good (found_at m.objects passed)
  finds_passed =
      finds b ts n passed (entry_of (take passed m.objects))
      (first_right m.objects words w.objects w.few_objects w.low_bonus passed in_passed)
      (starts_at m.objects passed)
      (starts_found_lem m.objects numbers passed w.objects in_passed)
      (sound_words (take passed m.objects))

  attributes : attributes_from (found_at m.objects passed) m.settings br n ≡ a
  attributes =
      let same : min passed n ≡ min p.passed_objects n = omega arith in
      attributes_right m passed in_passed ∙ attributes_passed m passed p.passed_objects same

  right : read_of b ts n m.settings br p ≡ given_score p a
  unfolding given_score
  right = go (mods_bad p.mods) refl
    where
      go : (t : Bool) → mods_bad p.mods ≡ t → read_of b ts n m.settings br p ≡ given_score p a
      go true e = bad_mods b ts n m.settings br p few room arguments e ∙ sym (when_true PLAY_FIELD (mods_bad p.mods) (play_score p a) e)
      go false e =
          reads b ts n m.settings br p few room arguments e
          ∙ found b ts n m.settings br p (found_at m.objects passed) finds_passed
          ∙ ap (play_score p) attributes
          ∙ sym (when_false PLAY_FIELD (mods_bad p.mods) (play_score p a) e)

pub read_right : (m : Map) (words : List ℕ) (numbers : List Float) (p : Play) → MapWithin m
    → read_of (board_of m.objects ++ words) (starts_of m.objects ++ numbers) (length m.objects) m.settings (times_of m.breaks) p
    ≡ given_score p (score_attributes_at m p.passed_objects)
read_right = right
