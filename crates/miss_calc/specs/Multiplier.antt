-- `get_legacy_score_multiplier`: what the modifiers make of a score.
use Rattle.std.specs.Prelude.{Bool, cond, ◌||◌, Float}
use Rattle.std.specs.Float.Ieee.{lt}
use Rattle.numbers.specs.Floats.{whole, part, ◌⊗◌}
use Rattle.play_state.specs.Play.{place_of, flag_at}
use Rattle.play_state.specs.declared.GameMod.{GameMod}
use Rattle.play_state.specs.declared.GameMod.TheVariants.{NoFail, Easy, Hidden, HardRock, Flashlight, SpunOut, Relax, Autopilot, ScoreV2}
use Rattle.play_state.specs.declared.GameMods.{GameMods}

-- a factor that counts where a modifier is on
unfoldable pub times_if : Float → Bool → Float → Float
times_if m on f = cond on (m ⊗ f) m

abbrev pub is_on : GameMods → GameMod → Bool
is_on g m = flag_at (place_of m) g.flags

-- nf, ez, a slow clock, hd, hr, a fast clock, fl, so, then rx or ap; sv2 changes three of them
unfoldable pub score_multiplier_of : GameMods → Float
score_multiplier_of g =
    let nf = times_if (whole 1) (is_on g NoFail) (cond (is_on g ScoreV2) (whole 1) (part 1 2)) in
    let ez = times_if nf (is_on g Easy) (part 1 2) in
    let slow = times_if ez (lt g.clock_rate (whole 1)) (part 3 10) in
    let hd = times_if slow (is_on g Hidden) (part 106 100) in
    let hr = times_if hd (is_on g HardRock) (cond (is_on g ScoreV2) (part 11 10) (part 106 100)) in
    let fast = times_if hr (lt (whole 1) g.clock_rate) (cond (is_on g ScoreV2) (part 12 10) (part 112 100)) in
    let fl = times_if fast (is_on g Flashlight) (part 112 100) in
    let so = times_if fl (is_on g SpunOut) (part 9 10) in
    times_if so (is_on g Relax || is_on g Autopilot) (whole 0)
