-- A heat's loop is right: each play that is due is there and has an outcome, its answer is the single call's, and the answers over the outcomes are
-- what a heat leaves. Assumes nothing.
use mathlib.Core.Path.{◌≡◌, refl, sym, ◌∙◌, ap, ap₂, subst}
use Prim.Native.Nat.{ℕ, ◌+◌, ◌≤◌, ◌<◌}
use native.Mathlib.Omega.{arith}
use native.Mathlib.Nat.{zero-add, le_antisymm}
use mathlib.Core.Bool.{Bool, true, false, ◌||◌}
use mathlib.Core.List.{List, map, ◌++◌}
use lib.ListN.{length, take, drop, set, get_or}
use lib.Seq.{take_all}
use lib.Dec.{ltb}
use borrow.Author.Tests.{ltb-false}
use Rattle.rules.specs.Limits.{max_plays}
use Rattle.rules.specs.Refusals.{pick, HEAT, OrRefusal, good, refused, ◌>>=◌, ◌>>◌, refuse◌when◌, refusal_at, at_0}
use Rattle.rules.specs.declared.refusal.Refusal.{Refusal}
use Rattle.records.specs.Objects.{Object}
use Rattle.map_file.specs.File.{File, Map, Result, accepted, refused_at}
use Rattle.simulator.specs.Attributes.{score_attributes_of, score_attributes_at}
use Rattle.simulator.specs.Nested.{no_object, counted_all}
use Rattle.simulator.specs.declared.attributes.ScoreAttributes.{ScoreAttributes}
use Rattle.simulator.proofs.Few.{count_is}
use Rattle.map_reader.proofs.Passed.{attributes_passed}
use Rattle.play_score.specs.PlayRules.{given_score}
use Rattle.scoring.specs.Scores.{Scores, play_scores, scores_of, map_score_of}
use Rattle.play_score.specs.declared.PlayScore.{PlayScore}
use Rattle.host.specs.Answer.{given_answer_of, single_of}
use Rattle.host.specs.Play.{play_in}
use Rattle.host.specs.declared.answer.PlayAnswer.{PlayAnswer}
use Rattle.host.specs.declared.play.HostPlay.{HostPlay}
use Rattle.host.specs.declared.status.Status.{Status}
use Rattle.heat.specs.Heat.{counts_bad, start_of, heat_status_of, due_of, passed_of, one_of, outcomes_of, heat_of}
use Rattle.heat.proofs.Front.{front_more}

-- ---- a heat that is not refused has at most 64 plays, and an outcome for each
abbrev pub IsReady : OrRefusal ScoreAttributes → Type 0
IsReady (good all) = Unit
IsReady (refused r) = ⊥

abbrev pub Fits : OrRefusal ScoreAttributes → ℕ → ℕ → Type 0
Fits s plays outcomes = IsReady s → (plays ≤ max_plays) × (plays ≤ outcomes)

-- the start on a good file
abbrev pub begun_by : Bool → ScoreAttributes → OrRefusal ScoreAttributes
begun_by bad all = at_0 ((refuse HEAT when bad) >> good all)

pub fits : (x : OrRefusal Scores) (n k : ℕ) → Fits (start_of x n k) n k
unfolding ◌>>=◌ ◌>>◌ refuse◌when◌
fits x n k = by (map_score_of x)
  where
    go : (all : ScoreAttributes) (b c : Bool) → ltb max_plays n ≡ b → ltb k n ≡ c → Fits (begun_by (b || c) all) n k
    go all true c p q d = absurd d
    go all false true p q d = absurd d
    go all false false p q d = (ltb-false max_plays n p, ltb-false k n q)

    by : (m : OrRefusal ScoreAttributes) → Fits (m >>= begun_by (counts_bad n k)) n k
    by (good all) d = go all (ltb max_plays n) (ltb k n) refl refl d
    by (refused r) d = absurd d

-- ---- a play's answer
all_objects : (m : Map) → (score_attributes_at m (length m.objects)).object_count ≡ length m.objects
unfolding score_attributes_at score_attributes_of
all_objects m = ap (λ (os : List Object). (counted_all no_object os).object_count) (take_all (length m.objects) m.objects (omega arith)) ∙ count_is no_object m.objects ∙ zero-add (length m.objects)

-- a play that passed as many objects as there are, or more, has the attributes of all
passed_is : (f : File) (p : ℕ) → passed_of (accepted f) (score_attributes_at f.map (length f.map.objects)) p ≡ good (score_attributes_at f.map p)
passed_is f p = go (ltb p all.object_count) refl
  where
    n : ℕ
    n = length f.map.objects

    all : ScoreAttributes
    all = score_attributes_at f.map n

    go : (b : Bool) → ltb p all.object_count ≡ b → pick {A = OrRefusal ScoreAttributes} b (good (score_attributes_at f.map p)) (good all) ≡ good (score_attributes_at f.map p)
    go true e = refl
    go false e =
        let most : n ≤ p = rw (all_objects f.map) at (ltb-false p all.object_count e) in
        ap good (attributes_passed f.map n p (omega (arith, most)))

-- where a play is due the file's plays are all good, and its answer is what the single call gives
module _ (n k i : ℕ) (p : HostPlay) where
  abbrev Due : OrRefusal Scores → Type 0
  Due x = i < due_of (start_of x n k) n

  abbrev Same : Result → OrRefusal Scores → Type 0
  Same f x = one_of f (start_of x n k) p ≡ single_of x p

  refused_none : (r : Refusal) (y : OrRefusal (List PlayScore)) → Due (y >> refused r) → ⊥
  unfolding ◌>>=◌ ◌>>◌
  refused_none r (refused q) d = omega (arith, d)
  refused_none r (good ss) d = omega (arith, d)

  one_is : (f : Result) → Due (scores_of f) → Same f (scores_of f)
  unfolding single_of ◌>>=◌ ◌>>◌ refuse◌when◌
  one_is (refused_at number offset f) d = absurd (refused_none (refusal_at number offset) (play_scores f.map f.plays) d)
  one_is (accepted f) d = go (play_scores f.map f.plays) d
    where
      all : ScoreAttributes
      all = score_attributes_at f.map (length f.map.objects)

      scored : List PlayScore → Scores
      scored ss = record { map = f.map; plays = ss }

      by : (ss : List PlayScore) (b : Bool) → i < due_of (begun_by b all) n → one_of (accepted f) (begun_by b all) p ≡ single_of (good (scored ss)) p
      by ss true d = absurd (omega (arith, d))
      by ss false d = ap (λ (m : OrRefusal ScoreAttributes). given_answer_of (m >>= λ a. at_0 (given_score (play_in p) a))) (passed_is f (play_in p).passed_objects)

      go : (y : OrRefusal (List PlayScore)) → Due (y >>= λ ss. good (scored ss)) → Same (accepted f) (y >>= λ ss. good (scored ss))
      go (refused r) d = absurd (omega (arith, d))
      go (good ss) d = by ss (counts_bad n k) d

-- ---- the loop, on the lists that it is lent
-- the outcomes behind the first i plays
pub outcomes_after : OrRefusal Scores → List HostPlay → List PlayAnswer → ℕ → List PlayAnswer
outcomes_after x ps os i = map (single_of x) (take i ps) ++ drop i os

pub none_yet : (x : OrRefusal Scores) (ps : List HostPlay) (os : List PlayAnswer) → os ≡ outcomes_after x ps os 0
unfolding outcomes_after
none_yet x ps os = refl

-- from a start that is the heat's, with d plays that are due
module _ (f : Result) (ps : List HostPlay) (os : List PlayAnswer) (s : OrRefusal ScoreAttributes) (is : s ≡ start_of (scores_of f) (length ps) (length os))
    (d : ℕ) (due : d ≡ due_of s (length ps)) where
  abbrev x : OrRefusal Scores
  x = scores_of f

  room : Fits s (length ps) (length os)
  room = subst (λ (t : OrRefusal ScoreAttributes). Fits t (length ps) (length os)) (sym is) (fits x (length ps) (length os))

  -- each play that is due is there, and has an outcome
  pub due_fits : (d ≤ max_plays) × (d ≤ length ps) × (d ≤ length os)
  due_fits = go s due room
    where
      go : (t : OrRefusal ScoreAttributes) → d ≡ due_of t (length ps) → Fits t (length ps) (length os) → (d ≤ max_plays) × (d ≤ length ps) × (d ≤ length os)
      go (good all) e f =
          let fit = f tt in
          (omega (arith, e, fit.0), omega (arith, e), omega (arith, e, fit.1))
      go (refused r) e f = (omega (arith, e), omega (arith, e), omega (arith, e))

  -- a turn: the next play's answer in its outcome
  pub one_more : (i : ℕ) (p : HostPlay) (now : List PlayAnswer) (answer : PlayAnswer) → i < d → now ≡ outcomes_after x ps os i
      → answer ≡ one_of f s (get_or ps i p) → set now i answer ≡ outcomes_after x ps os (i + 1)
  unfolding outcomes_after
  one_more i p now answer l e a =
      let play : HostPlay = get_or ps i p in
      let within : i < due_of (start_of x (length ps) (length os)) (length ps) = subst (λ (t : OrRefusal ScoreAttributes). i < due_of t (length ps)) is (rw due at l) in
      let single : answer ≡ single_of x play = a ∙ ap (λ (t : OrRefusal ScoreAttributes). one_of f t play) is ∙ one_is (length ps) (length os) i play f within in
      ap (λ (y : PlayAnswer). set now i y) single ∙ ap (λ (y : List PlayAnswer). set y i (single_of x play)) e
      ∙ front_more (single_of x) p i ps os (omega (arith, l, due_fits)) (omega (arith, l, due_fits))

  -- behind the last play that is due the outcomes are those that a heat leaves
  pub all_done : (i : ℕ) (now : List PlayAnswer) (status : Status) → i ≤ d → d ≤ i → now ≡ outcomes_after x ps os i → status ≡ heat_status_of s
      → (status, now) ≡ heat_of x ps os
  unfolding outcomes_after heat_of
  all_done i now status most least a b =
      let last : i ≡ due_of s (length ps) = le_antisymm most least ∙ due in
      ap₂ (λ (t : Status) (y : List PlayAnswer). (t, y)) (b ∙ ap heat_status_of is)
      (a ∙ ap (λ (k : ℕ). map (single_of x) (take k ps) ++ drop k os) last ∙ left s ∙ ap (λ (t : OrRefusal ScoreAttributes). outcomes_of t x ps os) is)
    where
      left : (t : OrRefusal ScoreAttributes) → map (single_of x) (take (due_of t (length ps)) ps) ++ drop (due_of t (length ps)) os ≡ outcomes_of t x ps os
      left (good all) = ap (λ (t : List HostPlay). map (single_of x) t ++ drop (length ps) os) (take_all (length ps) ps (omega arith))
      left (refused r) = refl
