-- What a host may rely on, from the one equation of a heat: which heats are refused and with what number, what a refused one leaves, and what each outcome
-- is. Assumes nothing.
use Prim.Native.Nat.{ℕ, ◌≤◌, ◌<◌, ◌-◌}
use native.Mathlib.Omega.{arith}
use mathlib.Core.Path.{◌≡◌, refl, ap, ◌∙◌}
use mathlib.Core.Bool.{Bool, true, false, ◌||◌}
use mathlib.Core.List.{List, map, ◌++◌}
use lib.ListN.{length, drop, get_or}
use lib.Dec.{ltb}
use borrow.Author.Tests.{lt-ltb, le-ltb}
use Rattle.std.proofs.lemmas.List.{length-map, get_or-map, get_or_append_left, get_or-append_right, get_or-drop}
use Rattle.rules.specs.Refusals.{Checked, refused, good, ◌>>=◌, ◌>>◌, refuse◌when◌, OrRefusal, refusal_at, at_0, number_of}
use Rattle.rules.specs.declared.refusal.Rule.{Rule}
use Rattle.rules.proofs.Numbers.{number_above_0}
use Rattle.rules.specs.Limits.{max_plays}
use Rattle.map_file.specs.File.{file_of}
use Rattle.simulator.specs.Attributes.{score_attributes_at}
use Rattle.simulator.specs.declared.attributes.ScoreAttributes.{ScoreAttributes}
use Rattle.play_score.specs.PlayRules.{given_score}
use Rattle.play_score.specs.declared.PlayScore.{PlayScore}
use Rattle.scoring.specs.Scores.{Scores, scores_of}
use Rattle.scoring.proofs.Rules.{IsRule, refusal_rule}
use Rattle.host.specs.Play.{play_in}
use Rattle.host.specs.Answer.{given_answer_of, single_of}
use Rattle.host.specs.declared.answer.PlayAnswer.{PlayAnswer}
use Rattle.host.specs.declared.play.HostPlay.{HostPlay}
use Rattle.host.specs.declared.status.Status.{Status}
use Rattle.heat.specs.Heat.{counts_bad, start_of, heat_status_of, outcomes_of, heat_of}
use Rattle.heat.proofs.Loop.{begun_by, Fits, fits}

-- ---- a list's images in front of what is left of another
front_at : {A B : Type 0} (f : A → B) (ps : List A) (os : List B) (i : ℕ) (d : A) (e : B) → i < length ps → get_or (map f ps ++ os) i e ≡ f (get_or ps i d)
front_at f ps os i d e l = get_or_append_left (map f ps) os e i (rw length-map l) ∙ get_or-map f ps i d e l

front_beyond : {A B : Type 0} (f : A → B) (ps : List A) (os : List B) (i : ℕ) (e : B) → length ps ≤ i → get_or (map f ps ++ drop (length ps) os) i e ≡ get_or os i e
front_beyond f ps os i e l =
    get_or-append_right (map f ps) (drop (length ps) os) (length ps) i e (length-map ps f) l
    ∙ get_or-drop (length ps) os (i - length ps) e ∙ ap (λ (k : ℕ). get_or os k e) (omega (arith, l))

-- ---- the status of a heat: none, a rule of the file, or 15
pub data HeatNumber : ℕ → Type 0 where
  none : HeatNumber 0
  of_file : (n : Rule) → IsRule n → HeatNumber (number_of n)
  of_counts : HeatNumber 15

at_zero : (x : Checked PlayScore) → (given_answer_of (at_0 x)).offset ≡ 0
at_zero (refused number) = refl
at_zero (good score) = refl

module _ (s : List ℕ) (ps : List HostPlay) (os : List PlayAnswer) where
  abbrev x : OrRefusal Scores
  x = scores_of (file_of s)

  abbrev begun : OrRefusal ScoreAttributes
  begun = start_of x (length ps) (length os)

  abbrev left : Status × List PlayAnswer
  left = heat_of x ps os

  pub heat_numbers : HeatNumber left.0.status
  unfolding heat_of ◌>>=◌ ◌>>◌ refuse◌when◌
  heat_numbers = go x refl
    where
      by : (all : ScoreAttributes) (b : Bool) → HeatNumber (heat_status_of (begun_by b all)).status
      by all true = of_counts
      by all false = none

      go : (y : OrRefusal Scores) → x ≡ y → HeatNumber (heat_status_of (start_of y (length ps) (length os))).status
      go (refused r) e = of_file r.rule (refusal_rule s r.rule r.offset e)
      go (good v) e = by _ (counts_bad (length ps) (length os))

  -- "a refused call changes no lent memory"
  pub refused_heat_writes_nothing : 1 ≤ left.0.status → left.1 ≡ os
  unfolding heat_of
  refused_heat_writes_nothing h = go begun h
    where
      go : (t : OrRefusal ScoreAttributes) → 1 ≤ (heat_status_of t).status → outcomes_of t x ps os ≡ os
      go (good all) h = absurd (omega (arith, h))
      go (refused r) h = refl

  -- an input that breaks a rule gets its number: the file's, at its offset, whatever the plays are
  pub refused_file_refuses_the_heat : (n : Rule) (at : ℕ) → x ≡ refused (refusal_at n at) → left.0 ≡ record { status = number_of n; offset = at }
  unfolding heat_of ◌>>=◌
  refused_file_refuses_the_heat n at e = ap (λ (y : OrRefusal Scores). heat_status_of (start_of y (length ps) (length os))) e

  -- and one that breaks none gets none
  pub heat_within_is_good : (v : Scores) → x ≡ good v → length ps ≤ 64 → length ps ≤ length os → left.0 ≡ record { status = 0; offset = 0 }
  unfolding heat_of ◌>>=◌ ◌>>◌ refuse◌when◌
  heat_within_is_good v e few room =
      ap (λ (y : OrRefusal Scores). heat_status_of (start_of y (length ps) (length os))) e ∙ simp (le-ltb max_plays (length ps) few, le-ltb (length os) (length ps) room)

  -- "15: more than 64 plays, or fewer outcomes than plays", with offset 0
  pub more_than_64_plays_get_15 : (v : Scores) → x ≡ good v → 64 < length ps → left.0 ≡ record { status = 15; offset = 0 }
  unfolding heat_of ◌>>=◌ ◌>>◌ refuse◌when◌
  more_than_64_plays_get_15 v e many =
      ap (λ (y : OrRefusal Scores). heat_status_of (start_of y (length ps) (length os))) e ∙ simp (lt-ltb max_plays (length ps) many)

  pub fewer_outcomes_get_15 : (v : Scores) → x ≡ good v → length os < length ps → left.0 ≡ record { status = 15; offset = 0 }
  unfolding heat_of ◌>>=◌ ◌>>◌ refuse◌when◌
  fewer_outcomes_get_15 v e few =
      ap (λ (y : OrRefusal Scores). heat_status_of (start_of y (length ps) (length os))) e ∙ by _ (ltb max_plays (length ps)) (ltb (length os) (length ps)) (lt-ltb (length os) (length ps) few)
    where
      by : (all : ScoreAttributes) (b c : Bool) → c ≡ true → heat_status_of (begun_by (b || c) all) ≡ record { status = 15; offset = 0 }
      by all true c e = refl
      by all false c e = ap (λ (d : Bool). heat_status_of (begun_by d all)) e

  module _ (done : left.0.status ≡ 0) where
    -- no other heat is good
    pub good_heat_fits : (length ps ≤ 64) × (length ps ≤ length os)
    unfolding heat_of
    good_heat_fits = go begun done (fits x (length ps) (length os))
      where
        go : (t : OrRefusal ScoreAttributes) → (heat_status_of t).status ≡ 0 → Fits t (length ps) (length os) → (length ps ≤ max_plays) × (length ps ≤ length os)
        go (good all) e f = f tt
        go (refused r) e f = absurd (omega (arith, number_above_0 r.rule, e))

    left_is : left.1 ≡ map (single_of x) ps ++ drop (length ps) os
    unfolding heat_of
    left_is = go begun done
      where
        go : (t : OrRefusal ScoreAttributes) → (heat_status_of t).status ≡ 0 → outcomes_of t x ps os ≡ map (single_of x) ps ++ drop (length ps) os
        go (good all) e = refl
        go (refused r) e = absurd (omega (arith, number_above_0 r.rule, e))

    -- "for each play what a single call without factors gives, its refusal included": whatever became of the plays before it
    pub each_play_as_alone : (i : ℕ) (p : HostPlay) (o : PlayAnswer) → i < length ps → get_or left.1 i o ≡ single_of x (get_or ps i p)
    each_play_as_alone i p o l = ap (λ (l : List PlayAnswer). get_or l i o) left_is ∙ front_at (single_of x) ps (drop (length ps) os) i p o l

    -- "with offset 0"
    pub each_outcome_at_zero : (i : ℕ) (p : HostPlay) (o : PlayAnswer) → i < length ps → (get_or left.1 i o).offset ≡ 0
    unfolding heat_of single_of ◌>>=◌
    each_outcome_at_zero i p o l = ap (λ (a : PlayAnswer). a.offset) (each_play_as_alone i p o l) ∙ go x refl done
      where
        go : (y : OrRefusal Scores) → x ≡ y → (heat_status_of (start_of y (length ps) (length os))).status ≡ 0 → (single_of y (get_or ps i p)).offset ≡ 0
        go (refused r) e d = absurd (omega (arith, number_above_0 r.rule, d))
        go (good v) e d = at_zero (given_score (play_in (get_or ps i p)) (score_attributes_at v.map (play_in (get_or ps i p)).passed_objects))

    -- "outcomes beyond the last play stay"
    pub outcomes_beyond_stay : (i : ℕ) (o : PlayAnswer) → length ps ≤ i → get_or left.1 i o ≡ get_or os i o
    outcomes_beyond_stay i o l = ap (λ (l : List PlayAnswer). get_or l i o) left_is ∙ front_beyond (single_of x) ps os i o l
