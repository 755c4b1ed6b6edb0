-- The values of a map and of a play as a host gets them: an enum as a number, its fields flat. "Where an answer is an enum, a definition sets out
-- this paper's number and values for each of its cases."
use Rattle.rules.specs.Refusals.{OrRefusal, good, refused, number_of}
use Rattle.rules.specs.declared.refusal.Refusal.{Refusal}
use Rattle.std.specs.Prelude.{ℕ, cond, unwrap_or, is_some, Option, Some, None}
use Rattle.numbers.specs.Floats.{whole}
use Rattle.simulator.specs.declared.attributes.ScoreAttributes.{ScoreAttributes}
use Rattle.estimates.specs.declared.calculator.Estimates.{Estimates}
use Rattle.play_score.specs.declared.PlayScore.{PlayScore}
use Rattle.scoring.specs.Scores.{Scores, given_play_of}
use Rattle.host.specs.Play.{play_in}
use Rattle.host.specs.declared.play.HostPlay.{HostPlay}
use Rattle.host.specs.declared.answer.HostAttributes.{HostAttributes}
use Rattle.host.specs.declared.answer.HostEstimates.{HostEstimates}
use Rattle.host.specs.declared.answer.MapAnswer.{MapAnswer}
use Rattle.host.specs.declared.answer.PlayAnswer.{PlayAnswer}

-- all score attributes, from the three structs that the engine keeps them in
abbrev pub host_attributes : ScoreAttributes → HostAttributes
host_attributes a = record {
  object_count = a.object_count;
  multiplier = a.multiplier;
  accuracy_score = a.legacy.accuracy_score;
  combo_score = a.legacy.combo_score;
  legacy_bonus_score = a.legacy.bonus_score.0;
  standardised_bonus_score = a.standardised_bonus_score.0;
  bonus_score_ratio = a.legacy.bonus_score_ratio;
  nested_score_per_object = a.difficulty.nested_score_per_object;
  max_combo = a.difficulty.max_combo;
  n_circles = a.difficulty.n_circles;
  n_sliders = a.difficulty.n_sliders;
  n_spinners = a.difficulty.n_spinners;
  n_repeats = a.difficulty.n_repeats;
  n_ticks = a.difficulty.n_ticks;
}

-- those of a refusal
abbrev pub no_attributes : HostAttributes
no_attributes = record {
  object_count = 0;
  multiplier = 0;
  accuracy_score = 0;
  combo_score = 0;
  legacy_bonus_score = 0;
  standardised_bonus_score = 0;
  bonus_score_ratio = whole 0;
  nested_score_per_object = whole 0;
  max_combo = 0;
  n_circles = 0;
  n_sliders = 0;
  n_spinners = 0;
  n_repeats = 0;
  n_ticks = 0;
}

-- accuracy and the three estimates of the misses
abbrev pub host_estimates : Estimates → HostEstimates
host_estimates e = record {
  accuracy = e.accuracy;
  combo_based = e.combo_based;
  score_based = unwrap_or e.score_based (whole 0);
  effective = e.effective;
  has_score_based = cond (is_some e.score_based) 1 0;
}

-- those of a refusal
abbrev pub no_estimates : HostEstimates
no_estimates = record { accuracy = whole 0; combo_based = whole 0; score_based = whole 0; effective = whole 0; has_score_based = 0 }

-- a map's attributes, or the number of the refusal and its offset, with every value 0
abbrev pub map_answer_of : OrRefusal ScoreAttributes → MapAnswer
map_answer_of (good a) = record { status = 0; offset = 0; attributes = host_attributes a }
map_answer_of (refused r) = record { status = number_of r.rule; offset = r.offset; attributes = no_attributes }

-- a play's attributes and estimates
abbrev pub play_answer_in : PlayScore → PlayAnswer
play_answer_in s = record { status = 0; offset = 0; attributes = host_attributes s.attributes; estimates = host_estimates s.estimates }

-- none, beside a status
abbrev pub play_answer_without : ℕ → ℕ → PlayAnswer
play_answer_without status offset = record { status = status; offset = offset; attributes = no_attributes; estimates = no_estimates }

-- of a play that is refused
abbrev pub play_answer_refused : Refusal → PlayAnswer
play_answer_refused r = play_answer_without (number_of r.rule) r.offset

-- of a play that is given beside a file or a board
abbrev pub given_answer_of : OrRefusal PlayScore → PlayAnswer
given_answer_of (good s) = play_answer_in s
given_answer_of (refused r) = play_answer_refused r

-- "a single call without factors" (02, §2): a play that is given beside a file
unfoldable pub single_of : OrRefusal Scores → HostPlay → PlayAnswer
single_of x p = given_answer_of (given_play_of (play_in p) x)

-- of a play in a file: 255, which is no number of document 01, where the file is accepted and has no play at the index
abbrev pub listed_answer_of : OrRefusal (Option PlayScore) → PlayAnswer
listed_answer_of (good (Some s)) = play_answer_in s
listed_answer_of (good None) = play_answer_without 255 0
listed_answer_of (refused r) = play_answer_refused r
