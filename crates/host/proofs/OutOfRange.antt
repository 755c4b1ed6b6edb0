-- A play that is out of range is refused with 8, where each call checks 8: what the comment of `play_from` says of the flags 0xffff.
use Rattle.std.specs.Prelude.{Option, Some, None}
use Prim.Native.Nat.{ℕ, ◌<◌}
use native.Mathlib.Omega.{arith}
use mathlib.Core.Path.{◌≡◌, refl, ap}
use mathlib.Core.Bool.{true}
use mathlib.Core.List.{List}
use borrow.Author.Tests.{eq-eqb, ne_eqb}
use lib.Dec.{ltb}
use lib.Ieee.{Float}
use lib.ListN.{length}
use Rattle.rules.specs.Refusals.{Checked, refused, ◌>>◌, refuse◌when◌, refusal_at, at_0, RANGE, COUNT, PLAY_FIELD}
use Rattle.play_state.specs.Play.{origin_of, flags_bad}
use Rattle.play_state.specs.declared.OsuScoreOrigin.{OsuScoreOrigin}
use Rattle.records.specs.declared.beatmap.Settings.{Settings}
use Rattle.simulator.specs.declared.attributes.ScoreAttributes.{ScoreAttributes}
use Rattle.play_score.specs.PlayRules.{mods_bad, given_score}
use Rattle.play_score.specs.declared.PlayScore.{PlayScore}
use Rattle.slider_breaks.specs.Given.{with_breaks}
use Rattle.slider_breaks.specs.declared.calculator.SliderFactors.{SliderFactors}
use Rattle.board.specs.Place.{room_for}
use Rattle.board.specs.Read.{arguments_bad, read_of}
use Rattle.host.specs.Play.{play_from, play_in}
use Rattle.host.specs.declared.play.HostPlay.{HostPlay}

module _ (p : HostPlay) where
  bad_score : (o : Option OsuScoreOrigin) → mods_bad (play_from p o None).mods ≡ true
  unfolding mods_bad flags_bad
  bad_score (Some o) = refl
  bad_score None = refl

  -- an origin above 2
  pub origin_out : 2 < p.origin → mods_bad (play_in p).mods ≡ true
  unfolding mods_bad flags_bad
  origin_out h = simp (
    ne_eqb p.origin 0 (λ e. omega (arith, h, e)),
    ne_eqb p.origin 1 (λ e. omega (arith, h, e)),
    ne_eqb p.origin 2 (λ e. omega (arith, h, e)),
  )

  -- a mark of a score above 1
  pub mark_out : 1 < p.has_score → mods_bad (play_in p).mods ≡ true
  mark_out h = simp (
    ne_eqb p.has_score 1 (λ e. omega (arith, h, e)),
    ne_eqb p.has_score 0 (λ e. omega (arith, h, e)),
  ) (bad_score (origin_of p.origin))

  -- a score with a mark of 0
  pub score_out : p.has_score ≡ 0 → 0 < p.score → mods_bad (play_in p).mods ≡ true
  score_out none h = simp (
    ne_eqb p.has_score 1 (λ e. omega (arith, none, e)),
    eq-eqb p.has_score 0 none,
    ne_eqb p.score 0 (λ e. omega (arith, h, e)),
  ) (bad_score (origin_of p.origin))

  module _ (bad : mods_bad (play_in p).mods ≡ true) where
    -- a play given beside an accepted file
    pub given_refused : (a : ScoreAttributes) → given_score (play_in p) a ≡ refused PLAY_FIELD
    unfolding given_score ◌>>◌ refuse◌when◌
    given_refused a = simp bad

    -- with factors too, whatever they are
    pub breaks_refused : (f : SliderFactors) (a : ScoreAttributes) → with_breaks (play_in p) f (at_0 (given_score (play_in p) a)) ≡ refused (refusal_at PLAY_FIELD 0)
    breaks_refused f a = ap (λ (x : Checked PlayScore). with_breaks (play_in p) f (at_0 x)) (given_refused a)

    -- a play on a board: 6, 11 and 4 come first
    pub read_refused : (b : List ℕ) (ts : List Float) (n : ℕ) (s : Settings) (br : List Float) → read_of b ts n s br (play_in p) ≡ (refuse COUNT when ltb 256 (length br) >> room_for b ts n >> refuse RANGE when arguments_bad s br >> refused PLAY_FIELD)
    unfolding read_of ◌>>◌ refuse◌when◌
    read_refused b ts n s br = simp bad
