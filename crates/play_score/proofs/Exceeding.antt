-- A play is refused on its map exactly if it exceeds it, with 9, and has its score else.
use mathlib.Core.Path.{◌≡◌}
use mathlib.Core.Bool.{true, false}
use Rattle.rules.specs.Refusals.{◌>>=◌, ◌>>◌, refuse◌when◌, PLAY_EXCEEDS, good, refused}
use Rattle.play_state.specs.declared.Play.{Play}
use Rattle.simulator.specs.declared.attributes.ScoreAttributes.{ScoreAttributes}
use Rattle.estimates.specs.Effective.{estimates_of}
use Rattle.play_score.specs.PlayRules.{exceeds, play_score}
use Rattle.play_score.specs.declared.PlayScore.{PlayScore}

module _ (q : Play) (a : ScoreAttributes) where
  abbrev pub score_of : PlayScore
  score_of = record { attributes = a; estimates = estimates_of q a.difficulty }

  pub exceeds_refused : exceeds q a ≡ true → refused PLAY_EXCEEDS ≡ (play_score q a)
  unfolding play_score ◌>>=◌ ◌>>◌ refuse◌when◌
  exceeds_refused e = rw e

  pub exceeds_not : exceeds q a ≡ false → good score_of ≡ (play_score q a)
  unfolding play_score ◌>>=◌ ◌>>◌ refuse◌when◌
  exceeds_not e = rw e
