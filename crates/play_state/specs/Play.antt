-- Document 01, "Records of the map file": the fields of a play.
use Rattle.std.specs.Option.{ok_or}
use Rattle.std.specs.Prelude.{ℕ, ◌^◌, ◌/◌, ◌%◌, Bool, not, List, eqb, Option, Some, None}
use Rattle.numbers.specs.Words.{word_at}
use Rattle.rules.specs.Refusals.{Checked, pick, PLAY_FIELD}
use Rattle.play_state.specs.declared.GameMod.{GameMod}
use Rattle.play_state.specs.declared.GameMod.TheVariants.{NoFail, Easy, Hidden, HardRock, Flashlight, SpunOut, Relax, Autopilot, ScoreV2}
use Rattle.play_state.specs.declared.OsuHitResults.{OsuHitResults}
use Rattle.play_state.specs.declared.OsuScoreOrigin.{OsuScoreOrigin}
use Rattle.play_state.specs.declared.OsuScoreOrigin.TheVariants.{Stable, WithSliderAcc, WithoutSliderAcc}

-- "origin u8 (0 Stable, 1 WithSliderAcc, 2 WithoutSliderAcc)"
abbrev pub origin_of : ℕ → Option OsuScoreOrigin
origin_of b = pick (eqb b 0) (Some Stable) (pick (eqb b 1) (Some WithSliderAcc) (pick (eqb b 2) (Some WithoutSliderAcc) None))

-- "score present u8 (0 or 1); score u32 (0 if absent)"
abbrev pub score_of : ℕ → ℕ → Option (Option ℕ)
score_of present n = pick (eqb present 1) (Some (Some n)) (pick (eqb present 0) (pick (eqb n 0) (Some None) None) None)

-- "Flag bits, from the lowest: nf, ez, hd, hr, fl, so, rx, ap, sv2"
abbrev pub place_of : GameMod → ℕ
place_of NoFail = 0
place_of Easy = 1
place_of Hidden = 2
place_of HardRock = 3
place_of Flashlight = 4
place_of SpunOut = 5
place_of Relax = 6
place_of Autopilot = 7
place_of ScoreV2 = 8

-- the bit at a place
unfoldable pub flag_at : ℕ → ℕ → Bool
flag_at place flags = eqb (flags / 2 ^ place % 2) 1

-- "higher bits are 0"
unfoldable pub flags_bad : ℕ → Bool
flags_bad flags = not (eqb (flags / 2 ^ 9) 0)

-- "n300, n100, n50, misses u16; large tick, small tick and slider end hits u32"
unfoldable pub hitresults_of : List ℕ → OsuHitResults
hitresults_of r = record {
  n300 = word_at r 8 2;
  n100 = word_at r 10 2;
  n50 = word_at r 12 2;
  misses = word_at r 14 2;
  large_tick_hits = word_at r 16 4;
  small_tick_hits = word_at r 20 4;
  slider_end_hits = word_at r 24 4;
}

-- "8: a play field is out of range"
abbrev pub played : {A : Type 0} → Option A → Checked A
played x = ok_or x PLAY_FIELD
