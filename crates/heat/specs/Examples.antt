-- Document 02, §2, computed: what heats leave on the map of document 01's worked example. Limits and numbers stand as document 02 writes them.
use Rattle.std.specs.Prelude.{ℕ, ◌≡◌, refl, List, [], ◌∷◌, ◌++◌, map, replicate, Float}
use Rattle.std.specs.Float.{binary32, binary64}
use Rattle.std.specs.Float.Ieee.{of_bits, lt, le, eq}
use Rattle.rules.specs.Refusals.{◌>>=◌, ◌>>◌, refuse◌when◌, OrRefusal, good, refused, refusal_at, RANGE}
use Rattle.records.specs.Objects.{circle, slider, tick, repeat}
use Rattle.play_state.specs.Play.{flags_bad}
use Rattle.simulator.specs.Attributes.{difficulty_attributes_of, score_attributes_of, score_attributes_at}
use Rattle.simulator.specs.Hits.{hits_of}
use Rattle.simulator.specs.Nested.{counted, counted_all}
use Rattle.simulator.specs.Walk.{walk, after}
use Rattle.play_score.specs.PlayRules.{mods_bad, exceeds, hits_exceed, play_score, given_score}
use Rattle.scoring.specs.Scores.{Scores}
use Rattle.host.specs.Answer.{play_answer_without, single_of}
use Rattle.host.specs.declared.answer.PlayAnswer.{PlayAnswer}
use Rattle.host.specs.declared.play.HostPlay.{HostPlay}
use Rattle.heat.specs.Heat.{heat_of}

abbrev five : Float
five = of_bits binary32 0x40a0_0000

-- settings 5; a circle, a slider with tick, repeat and tick, and a circle: combo 1, 6 and 7
abbrev file : OrRefusal Scores
file = good record {
  map = record {
    settings = record { hp = five; od = five; cs = five };
    breaks = [];
    objects = record { start = of_bits binary64 0; kind = circle }
        ∷ record { start = of_bits binary64 0x40b3_8800_0000_0000; kind = slider (tick ∷ repeat ∷ tick ∷ []) }
        ∷ record { start = of_bits binary64 0x40c3_8800_0000_0000; kind = circle }
        ∷ [];
  };
  plays = [];
}

-- passed objects, 300s and origin; combo 0, no score, no flag, rate 1
abbrev play : ℕ → ℕ → ℕ → HostPlay
play passed n300 origin = record {
  clock_rate = of_bits binary64 0x3ff0_0000_0000_0000;
  max_combo = 0;
  large_tick_hits = 0;
  small_tick_hits = 0;
  slider_end_hits = 0;
  score = 0;
  passed_objects = passed;
  n300 = n300;
  n100 = 0;
  n50 = 0;
  misses = 0;
  flags = 0;
  origin = origin;
  has_score = 0;
}

-- an outcome as it is before the call, by its offset; 99 is no number of a rule
abbrev old : ℕ → PlayAnswer
old n = play_answer_without 99 n

-- of an answer: status, offset, objects and max combo
abbrev Told : Type 0
Told = ℕ × ℕ × ℕ × ℕ

abbrev told : PlayAnswer → Told
told a = (a.status, a.offset, a.attributes.object_count, a.attributes.max_combo)

-- the status of the call and its offset, and the outcomes that it leaves
abbrev Left : Type 0
Left = (ℕ × ℕ) × List Told

abbrev heat : OrRefusal Scores → List HostPlay → List PlayAnswer → Left
heat x plays outcomes = let r = heat_of x plays outcomes in ((r.0.status, r.0.offset), map told r.1)

abbrev Row : Type 0
Row = OrRefusal Scores × List HostPlay × List PlayAnswer × Left

heats : List Row
heats =
    -- "for each play what a single call without factors gives, its refusal included, with offset 0; outcomes beyond the last play stay": the second
    -- has four 300s on three objects, and the third an origin above 2; the fourth passed two of three objects, the fifth more than there are
    (
      file,
      play 3 3 0 ∷ play 3 4 0 ∷ play 3 3 3 ∷ play 2 2 0 ∷ play 9 3 0 ∷ [],
      old 1 ∷ old 2 ∷ old 3 ∷ old 4 ∷ old 5 ∷ old 6 ∷ old 7 ∷ [],
      ((0, 0), (0, 0, 3, 7) ∷ (9, 0, 0, 0) ∷ (8, 0, 0, 0) ∷ (0, 0, 2, 6) ∷ (0, 0, 3, 7) ∷ (99, 6, 0, 0) ∷ (99, 7, 0, 0) ∷ []),
    )
    -- a heat of no plays is good, and writes nothing
    ∷ (file, [], old 1 ∷ [], ((0, 0), (99, 1, 0, 0) ∷ []))
    ∷ (file, [], [], ((0, 0), []))
    -- "15: more than 64 plays": 64, and 65
    ∷ (file, replicate 64 (play 3 3 0), replicate 65 (old 1), ((0, 0), replicate 64 (0, 0, 3, 7) ++ (99, 1, 0, 0) ∷ []))
    ∷ (file, replicate 65 (play 3 3 0), replicate 65 (old 1), ((15, 0), replicate 65 (99, 1, 0, 0)))
    -- "or fewer outcomes than plays"
    ∷ (file, replicate 2 (play 3 3 0), old 1 ∷ [], ((15, 0), (99, 1, 0, 0) ∷ []))
    ∷ (file, replicate 1 (play 3 3 0), [], ((15, 0), []))
    -- ".. before any play", of which the first would be refused
    ∷ (file, replicate 2 (play 3 4 0), old 1 ∷ [], ((15, 0), (99, 1, 0, 0) ∷ []))
    -- "after the map": a file's refusal keeps its offset, with a good list of plays and with one of 65
    ∷ (refused (refusal_at RANGE 14), replicate 1 (play 3 3 0), old 1 ∷ [], ((4, 14), (99, 1, 0, 0) ∷ []))
    ∷ (refused (refusal_at RANGE 14), replicate 65 (play 3 3 0), old 1 ∷ [], ((4, 14), (99, 1, 0, 0) ∷ []))
    ∷ []

heats_left : map (λ (r : Row). heat r.0 r.1 r.2) heats ≡ map (λ (r : Row). r.3) heats
unfolding heats heat_of single_of given_score mods_bad flags_bad play_score exceeds hits_exceed score_attributes_at score_attributes_of difficulty_attributes_of after walk hits_of counted_all counted ◌>>=◌ ◌>>◌ refuse◌when◌ of_bits lt le eq
heats_left = refl
