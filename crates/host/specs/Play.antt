-- A play as a host gives it. Its origin, its mark of a score and its score are read as those of a play's record are (`origin_of` and `score_of` of
-- `records`): an origin above 2, a mark above 1 and a score that is not 0 with a mark of 0 are out of range.
use Rattle.std.specs.Prelude.{ℕ, Option, Some, None}
use Rattle.play_state.specs.Play.{origin_of, score_of}
use Rattle.play_state.specs.declared.OsuScoreOrigin.{OsuScoreOrigin}
use Rattle.play_state.specs.declared.OsuScoreOrigin.TheVariants.{Stable}
use Rattle.play_state.specs.declared.Play.{Play}
use Rattle.host.specs.declared.play.HostPlay.{HostPlay}

-- the fields as they are, with an origin, a score and flags
abbrev pub play_with : HostPlay → OsuScoreOrigin → Option ℕ → ℕ → Play
play_with p o s flags = record {
  passed_objects = p.passed_objects;
  max_combo = p.max_combo;
  hitresults = record {
    large_tick_hits = p.large_tick_hits;
    small_tick_hits = p.small_tick_hits;
    slider_end_hits = p.slider_end_hits;
    n300 = p.n300;
    n100 = p.n100;
    n50 = p.n50;
    misses = p.misses;
  };
  origin = o;
  legacy_total_score = s;
  mods = record { flags = flags; clock_rate = p.clock_rate };
}

-- "8: a play field is out of range". A field that an enum cannot hold leaves the play with flags 0xffff, which every call refuses with 8, in the
-- place where it checks 8: after 6, 11 and 4 of a read, after the whole file of `pjp_score_play` (proofs/OutOfRange)
abbrev pub bad_play : HostPlay → Play
bad_play p = play_with p Stable None 0xffff

-- any other play is taken as it is
abbrev pub play_from : HostPlay → Option OsuScoreOrigin → Option (Option ℕ) → Play
play_from p (Some o) (Some s) = play_with p o s p.flags
play_from p (Some o) None = bad_play p
play_from p None s = bad_play p

-- a host's play, by its origin, mark and score as a play's record would have them
abbrev pub play_in : HostPlay → Play
play_in p = play_from p (origin_of p.origin) (score_of p.has_score p.score)
