-- The steps of a read: each refusal in its turn, then the play on what the search found.
use Prim.Native.Nat.{ℕ, ◌%◌, ◌≤◌, min, ◌*◌}
use mathlib.Core.Path.{◌≡◌, refl, ap, ◌∙◌}
use mathlib.Core.Bool.{Bool, true, false, ◌||◌}
use mathlib.Core.List.{List}
use borrow.Author.Tests.{le-ltb, not-false}
use lib.Dec.{eqb, ltb}
use lib.Ieee.{Float}
use lib.ListN.{length}
use Rattle.rules.specs.Limits.{max_breaks}
use Rattle.rules.specs.Refusals.{Checked, good, refused, ◌>>=◌, ◌>>◌, refuse◌when◌, COUNT, PLAY_FIELD, RANGE}
use Rattle.records.specs.declared.beatmap.Settings.{Settings}
use Rattle.play_state.specs.declared.Play.{Play}
use Rattle.entries.proofs.Sound.{neither}
use Rattle.ruleset.specs.Stars.{SettingsIn}
use Rattle.simulator.specs.Attributes.{score_attributes_of}
use Rattle.simulator.specs.View.{times}
use Rattle.simulator.specs.Walk.{State}
use Rattle.simulator.specs.declared.legacy_score.NestedScorePerObject.{NestedScorePerObject}
use Rattle.play_score.specs.PlayRules.{mods_bad, play_score}
use Rattle.play_score.specs.declared.PlayScore.{PlayScore}
use Rattle.board.specs.Place.{room_for, room_of}
use Rattle.board.specs.Search.{found_of}
use Rattle.board.specs.Read.{setting_bad, settings_bad, times_bad, arguments_bad, attributes_from, score_from, read_of}
use Rattle.board.specs.declared.search.Found.{Found}
use Rattle.board.proofs.Binds.{bind_good, then_good, when_true, when_false}

-- arguments that pass are settings in their range
pub settings_pass : (s : Settings) (br : List Float) → arguments_bad s br ≡ false → SettingsIn s
unfolding arguments_bad settings_bad
settings_pass s br e =
    let a = (neither (settings_bad s || times_bad br) (eqb (length br % 2) 1) e).0 in
    let b = neither (setting_bad s.hp || setting_bad s.od) (setting_bad s.cs) (neither (settings_bad s) (times_bad br) a).0 in
    let c = neither (setting_bad s.hp) (setting_bad s.od) b.0 in
    record { hp = not-false _ c.0; od = not-false _ c.1; cs = not-false _ b.1 }

module _ (b : List ℕ) (ts : List Float) (n : ℕ) (s : Settings) (br : List Float) (p : Play) where
  -- behind the room
  abbrev behind : Checked PlayScore
  behind = do
    refuse RANGE when arguments_bad s br
    refuse PLAY_FIELD when mods_bad p.mods
    score_from b ts n s br p

  -- the steps with the size that the code is told
  pub by_size : read_of b ts n s br p ≡ ((refuse COUNT when ltb (2 * max_breaks) (length br)) >> (room_of n (room_for b ts n) >>= (λ _. behind)))
  unfolding read_of ◌>>=◌ ◌>>◌ refuse◌when◌
  by_size = go (ltb (2 * max_breaks) (length br)) (room_for b ts n)
    where
      go : (t : Bool) (x : Checked (Unit {0})) → ((refuse COUNT when t) >> (x >> behind)) ≡ ((refuse COUNT when t) >> (room_of n x >>= (λ _. behind)))
      go true x = refl
      go false (refused k) = refl
      go false (good u) = refl

  pub found : (f : Found) → found_of b ts n (min p.passed_objects n) ≡ good f → score_from b ts n s br p ≡ play_score p (attributes_from f s br n)
  unfolding score_from
  found f e = bind_good (found_of b ts n (min p.passed_objects n)) _ f e

  module _ (few : length br ≤ 2 * max_breaks) where
    module _ (room : room_for b ts n ≡ good tt) where
      module _ (arguments : arguments_bad s br ≡ false) where
        pub bad_mods : mods_bad p.mods ≡ true → read_of b ts n s br p ≡ refused PLAY_FIELD
        unfolding read_of
        bad_mods h =
            when_false COUNT _ _ (le-ltb (2 * max_breaks) (length br) few)
            ∙ then_good (room_for b ts n) _ tt room
            ∙ when_false RANGE (arguments_bad s br) _ arguments
            ∙ when_true PLAY_FIELD (mods_bad p.mods) _ h

        pub reads : mods_bad p.mods ≡ false → read_of b ts n s br p ≡ score_from b ts n s br p
        unfolding read_of
        reads h =
            when_false COUNT _ _ (le-ltb (2 * max_breaks) (length br) few)
            ∙ then_good (room_for b ts n) _ tt room
            ∙ when_false RANGE (arguments_bad s br) _ arguments
            ∙ when_false PLAY_FIELD (mods_bad p.mods) _ h

-- ---- the attributes of equal sums
pub same_attributes : {st st' : State} {c c' : NestedScorePerObject} {m m' : ℕ} → st ≡ st' → c ≡ c' → m ≡ m'
    → score_attributes_of (times m st) c m ≡ score_attributes_of (times m' st') c' m'
same_attributes {st = st} {st' = st'} {c = c} {c' = c'} {m = m} {m' = m'} p q r =
    ap (λ (x : State). score_attributes_of (times m x) c m) p
    ∙ ap (λ (x : NestedScorePerObject). score_attributes_of (times m st') x m) q
    ∙ ap (λ (x : ℕ). score_attributes_of (times x st') c' x) r
