-- Document 02, §3: "it is shown that 10 no longer occurs". No rule has that number, and each call answers with the number of a rule, or with that of a
-- good call. Assumes nothing.
use mathlib.Core.List.{List}
use mathlib.Core.Logic.{◌≢◌}
use mathlib.Core.Path.{◌≡◌, refl, sym, ap, ◌∙◌}
use Prim.Native.Nat.{ℕ, ◌<◌}
use native.Mathlib.Omega.{arith}
use Rattle.std.specs.Prelude.{Option, Some, None}
use lib.Ieee.{Float}
use lib.ListN.{length, get_or}
use Rattle.rules.specs.Refusals.{OrRefusal, good, refused, refusal_at, at_0, number_of}
use Rattle.rules.specs.declared.refusal.Refusal.{Refusal}
use Rattle.rules.specs.declared.refusal.Rule.{Rule}
use Rattle.rules.specs.declared.refusal.Rule.TheVariants as rule
use Rattle.records.specs.declared.beatmap.Settings.{Settings}
use Rattle.map_file.specs.File.{file_of}
use Rattle.map_file.specs.declared.file.Reader.{Reader}
use Rattle.simulator.specs.declared.attributes.ScoreAttributes.{ScoreAttributes}
use Rattle.play_reader.specs.View.{answer_of, simulated_of}
use Rattle.play_score.specs.declared.PlayScore.{PlayScore}
use Rattle.slider_breaks.specs.Given.{BreaksScore, with_breaks}
use Rattle.slider_breaks.specs.declared.calculator.SliderFactors.{SliderFactors}
use Rattle.scoring.specs.Scores.{scores_of, map_score_of, given_play_of, listed_play_of}
use Rattle.board.specs.Place.{written_left}
use Rattle.board.specs.Edit.{edit_of}
use Rattle.board.specs.Read.{read_of}
use Rattle.board_build.specs.Build.{built}
use Rattle.host.specs.Status.{status_left}
use Rattle.host.specs.Map.{map_info_of}
use Rattle.host.specs.Play.{play_in}
use Rattle.host.specs.Answer.{map_answer_of, given_answer_of, single_of, listed_answer_of}
use Rattle.host.specs.Breaks.{breaks_answer_of}
use Rattle.host.specs.declared.play.HostPlay.{HostPlay}
use Rattle.host.specs.declared.answer.PlayAnswer.{PlayAnswer}
use Rattle.heat.specs.Heat.{start_of, heat_status_of, heat_of}
use Rattle.heat.proofs.Heats.{each_play_as_alone}

-- of each call, on any input and any lent memory: what a host is told, by the definitions of the calls' contracts
pub record Never10 : Type 0 where
  -- by every call that checks a file with its plays; the listing's line is that of this number
  pub file : (s : List ℕ) (n : Rule) (at : ℕ) → scores_of (file_of s) ≡ refused (refusal_at n at) → number_of n ≢ 10
  pub read_map : (s : List ℕ) → (map_info_of (answer_of (file_of s))).status ≢ 10
  pub simulate : (s : List ℕ) (p : ℕ) (n : Rule) (at : ℕ) → simulated_of (file_of s) p ≡ refused (refusal_at n at) → number_of n ≢ 10
  pub score_map : (s : List ℕ) → (map_answer_of (map_score_of (scores_of (file_of s)))).status ≢ 10
  pub score_play : (s : List ℕ) (p : HostPlay) → (single_of (scores_of (file_of s)) p).status ≢ 10
  pub score_play_at : (s : List ℕ) (i : ℕ) → (listed_answer_of (listed_play_of i (scores_of (file_of s)))).status ≢ 10
  pub score_play_breaks : (s : List ℕ) (p : HostPlay) (f : SliderFactors)
      → (breaks_answer_of (with_breaks (play_in p) f (given_play_of (play_in p) (scores_of (file_of s))))).status ≢ 10
  pub heat : (s : List ℕ) (ps : List HostPlay) (os : List PlayAnswer) → (heat_of (scores_of (file_of s)) ps os).0.status ≢ 10
  -- an outcome that a heat writes; any other is as it was lent
  pub outcome : (s : List ℕ) (ps : List HostPlay) (os : List PlayAnswer) → (heat_of (scores_of (file_of s)) ps os).0.status ≡ 0
      → (i : ℕ) (p : HostPlay) (o : PlayAnswer) → i < length ps → (get_or (heat_of (scores_of (file_of s)) ps os).1 i o).status ≢ 10
  pub build : (s : List ℕ) (b : List ℕ) (ts : List Float) → (status_left (built (scores_of (file_of s)) b ts)).0.status ≢ 10
  pub edit : (b : List ℕ) (ts : List Float) (n place : ℕ) (r : List ℕ) → (status_left (written_left (edit_of b ts n place r) b ts)).0.status ≢ 10
  pub read : (b : List ℕ) (ts : List Float) (n : ℕ) (s : Settings) (br : List Float) (p : HostPlay)
      → (given_answer_of (at_0 (read_of b ts n s br (play_in p)))).status ≢ 10
  pub read_breaks : (b : List ℕ) (ts : List Float) (n : ℕ) (s : Settings) (br : List Float) (p : HostPlay) (f : SliderFactors)
      → (breaks_answer_of (with_breaks (play_in p) f (at_0 (read_of b ts n s br (play_in p))))).status ≢ 10

rule_not_10 : (n : Rule) → number_of n ≢ 10
rule_not_10 rule.Input = λ e. omega (arith, e)
rule_not_10 n = λ e. omega (arith, e)

-- ---- what a host is told of an answer: a good one has another status, and a refused one that of its rule
not_10 : {A : Type 0} (status : OrRefusal A → ℕ) → ((a : A) → status (good a) ≢ 10) → ((r : Refusal) → status (refused r) ≡ number_of r.rule)
    → (x : OrRefusal A) → status x ≢ 10
not_10 status of_good of_refused (good a) = of_good a
not_10 status of_good of_refused (refused r) = λ e. rule_not_10 r.rule (sym (of_refused r) ∙ e)

info_not_10 : (x : OrRefusal Reader) → (map_info_of x).status ≢ 10
info_not_10 = not_10 (λ x. (map_info_of x).status) (λ reader e. omega (arith, e)) (λ r. refl)

map_not_10 : (x : OrRefusal ScoreAttributes) → (map_answer_of x).status ≢ 10
map_not_10 = not_10 (λ x. (map_answer_of x).status) (λ a e. omega (arith, e)) (λ r. refl)

given_not_10 : (x : OrRefusal PlayScore) → (given_answer_of x).status ≢ 10
given_not_10 = not_10 (λ x. (given_answer_of x).status) (λ s e. omega (arith, e)) (λ r. refl)

single_not_10 : (s : List ℕ) (p : HostPlay) → (single_of (scores_of (file_of s)) p).status ≢ 10
unfolding single_of
single_not_10 s p = given_not_10 (given_play_of (play_in p) (scores_of (file_of s)))

listed_not_10 : (x : OrRefusal (Option PlayScore)) → (listed_answer_of x).status ≢ 10
listed_not_10 (good (Some s)) = λ e. omega (arith, e)
listed_not_10 (good None) = λ e. omega (arith, e)
listed_not_10 (refused r) = rule_not_10 r.rule

breaks_not_10 : (x : OrRefusal BreaksScore) → (breaks_answer_of x).status ≢ 10
breaks_not_10 = not_10 (λ x. (breaks_answer_of x).status) (λ s e. omega (arith, e)) (λ r. refl)

start_not_10 : (x : OrRefusal ScoreAttributes) → (heat_status_of x).status ≢ 10
start_not_10 = not_10 (λ x. (heat_status_of x).status) (λ all e. omega (arith, e)) (λ r. refl)

heat_not_10 : (s : List ℕ) (ps : List HostPlay) (os : List PlayAnswer) → (heat_of (scores_of (file_of s)) ps os).0.status ≢ 10
unfolding heat_of
heat_not_10 s ps os = start_not_10 (start_of (scores_of (file_of s)) (length ps) (length os))

left_not_10 : (x : OrRefusal (Unit {0})) (b : List ℕ) (ts : List Float) → (status_left (x, b, ts)).0.status ≢ 10
left_not_10 x b ts = not_10 (λ y. (status_left (y, b, ts)).0.status) (λ u e. omega (arith, e)) (λ r. refl) x

pub ten_is_gone : Never10
ten_is_gone = record {
  file = λ s n at e. rule_not_10 n;
  read_map = λ s. info_not_10 (answer_of (file_of s));
  simulate = λ s p n at e. rule_not_10 n;
  score_map = λ s. map_not_10 (map_score_of (scores_of (file_of s)));
  score_play = single_not_10;
  score_play_at = λ s i. listed_not_10 (listed_play_of i (scores_of (file_of s)));
  score_play_breaks = λ s p f. breaks_not_10 (with_breaks (play_in p) f (given_play_of (play_in p) (scores_of (file_of s))));
  heat = heat_not_10;
  outcome = λ s ps os done i p o l e.
      single_not_10 s (get_or ps i p) (sym (ap (λ (a : PlayAnswer). a.status) (each_play_as_alone s ps os done i p o l)) ∙ e);
  build = λ s b ts. (let z = built (scores_of (file_of s)) b ts in left_not_10 z.0 z.1 z.2);
  edit = λ b ts n place r. (let z = written_left (edit_of b ts n place r) b ts in left_not_10 z.0 z.1 z.2);
  read = λ b ts n s br p. given_not_10 (at_0 (read_of b ts n s br (play_in p)));
  read_breaks = λ b ts n s br p f. breaks_not_10 (with_breaks (play_in p) f (at_0 (read_of b ts n s br (play_in p))));
}
