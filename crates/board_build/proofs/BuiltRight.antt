-- A build answers as its definition does: a file's refusal, no room for the map's objects, or their board and start table. Assumes nothing.
use Prim.Native.Nat.{ℕ, ◌-◌, ◌*◌, ◌^◌, ◌≤◌}
use mathlib.Core.Path.{◌≡◌, sym, ap, ap₂, ◌∙◌, subst}
use mathlib.Core.Bool.{true}
use mathlib.Core.List.{List, ◌++◌}
use native.Mathlib.Omega.{arith}
use lib.Ieee.{Float}
use lib.ListN.{length, drop}
use lib.Pow.{pow_pos}
use Rattle.rules.specs.declared.refusal.Rule.{Rule}
use Rattle.rules.specs.Limits.{max_objects}
use Rattle.encoding.specs.Limits.{MapWithin}
use Rattle.records.specs.Objects.{Object}
use Rattle.map_file.specs.File.{Map as MapData, file_of}
use Rattle.rules.specs.Refusals.{Checked, good, refused, ◌>>◌, OrRefusal, refusal_at}
use Rattle.simulator.specs.declared.attributes.ScoreAttributes.{ScoreAttributes}
use Rattle.map_reader.specs.Map.{MapIs}
use Rattle.map_reader.specs.declared.map.Map.{Map}
use Rattle.scoring.specs.Scores.{Scores, scores_of}
use Rattle.scoring.specs.View.{PlaysOf, are}
use Rattle.scoring.proofs.Answers.{NoNumber, no_number, values_within}
use Rattle.entries.specs.Entry.{entry_of, in_limits, place_words}
use Rattle.entries.proofs.Accepted.{entry_within}
use Rattle.tree.specs.Size.{levels_of, cap_of}
use Rattle.tree.specs.Board.{board_of, starts_of}
use Rattle.tree.specs.Build.{laid, emptied, Raises, filled}
use Rattle.tree.proofs.Levels.{levels_hold}
use Rattle.tree.proofs.BuildRight.{laid-length, fills, build_right}
use Rattle.board.specs.Place.{room_for, room_of, Holds, written_left}
use Rattle.board_build.specs.Build.{build_of, built}
use Rattle.board_build.specs.Laying.{Lays, objects_of, objects_laid}
use Rattle.board.proofs.Rooms as rooms

-- as many passed objects as u64 holds: all of a map
abbrev pub every_object : ℕ
every_object = 18446744073709551615

-- ---- the words, for any numbers that are the places and the objects
module _ (os : List Object) (b : List ℕ) (fits : in_limits (entry_of os) ≡ true) (few : length os ≤ max_objects) (room : place_words * cap_of (length os) ≤ length b)
    {c n : ℕ} {w : List ℕ} (cap : c ≡ cap_of (length os)) (count : n ≡ length os) (words : w ≡ laid (cap_of (length os)) os b) where
  raises_at : Raises (c - 1) (emptied c n w)
  raises_at = rw (cap, count, words) (fills os b fits few room)

  filled_at : filled c n w ≡ board_of os ++ drop (place_words * cap_of (length os)) b
  filled_at = rw (cap, count, words) (build_right os b fits few room)

-- ---- a file
-- that gets no number, and its map
record FileGood (s : List ℕ) (m : Map) : Type 0 where
  scores : Scores
  is : scores_of (file_of s) ≡ good scores
  map : MapIs s every_object m
  same : scores.map ≡ map.file.map

file_good : {s : List ℕ} {m : Map} {a : ScoreAttributes} → PlaysOf s every_object (good (m, a)) → FileGood s m
file_good (are k x e same attributes) = record { scores = x; is = e; map = k; same = same }

module _ (s : List ℕ) (b : List ℕ) (ts : List Float) where
  module _ {m : Map} {a : ScoreAttributes} (e : PlaysOf s every_object (good (m, a))) where
    abbrev k : FileGood s m
    k = file_good e

    abbrev os : List Object
    os = k.scores.map.objects

    limits : MapWithin k.scores.map
    limits = values_within s k.scores k.is

    count_is : m.objects ≡ length os
    count_is = k.map.objects ∙ ap (λ (n : MapData). length n.objects) (sym k.same)

    -- the answer is that on the map's objects
    on_objects : {x : Checked (List ℕ × List Float)} → build_of os b ts ≡ x → written_left x b ts ≡ built (scores_of (file_of s)) b ts
    on_objects q =
        sym (ap (λ (x : Checked (List ℕ × List Float)). written_left x b ts) q) ∙ sym (ap (λ (x : OrRefusal Scores). built x b ts) k.is)

    -- no room
    pub no_room : (n : Rule) → refused n ≡ room_of m.objects (room_for b ts m.objects)
        → (refused (refusal_at n 0), b, ts) ≡ built (scores_of (file_of s)) b ts
    unfolding build_of ◌>>◌
    no_room n q =
        let there = subst (λ (m : ℕ). refused n ≡ room_of m (room_for b ts m)) count_is q in
        let stopped : build_of os b ts ≡ refused n = rw (rooms.told_refused b ts (length os) n there) in
        on_objects stopped

    module _ (size c : ℕ) (shifted : c ≡ 2 ^ size) (q : good size ≡ room_of m.objects (room_for b ts m.objects)) where
      there : good size ≡ room_of (length os) (room_for b ts (length os))
      there = subst (λ (n : ℕ). good size ≡ room_of n (room_for b ts n)) count_is q

      holds : Holds size (length os) b ts
      holds = (rooms.told_is b ts (length os) size there).1

      read : NoNumber s k.scores
      read = no_number s k.scores k.is

      cap : c ≡ cap_of (length os)
      cap = shifted ∙ ap (λ (l : ℕ). 2 ^ l) holds.levels

      places : length os ≤ cap_of (length os)
      places = levels_hold (length os) holds.few

      pub build_lays : Lays c s m b ts
      build_lays =
          let n = count_is in
          record {
            file = read.file;
            read = read.read;
            p = every_object;
            map = k.map;
            places = omega (arith, n, places, cap);
            words = omega (arith, holds.words, cap);
            numbers = omega (arith, n, holds.numbers);
          }

      objects_are : objects_of (file_of s) ≡ os
      objects_are = ap objects_of read.read ∙ ap (λ (n : MapData). n.objects) (sym read.map)

      fits : in_limits (entry_of os) ≡ true
      fits = entry_within os limits.objects limits.few_objects limits.low_bonus

      module _ (b' : List ℕ) (ts' : List Float) (r : (b', ts') ≡ objects_laid c (file_of s) b ts) where
        words_are : b' ≡ laid (cap_of (length os)) os b
        words_are = ap (λ (x : List ℕ × List Float). x.0) r ∙ ap₂ (λ (c : ℕ) (l : List Object). laid c l b) cap objects_are

        starts_are : ts' ≡ starts_of os ++ drop (length os) ts
        starts_are =
            ap (λ (x : List ℕ × List Float). x.1) r ∙ ap (λ (l : List Object). starts_of l ++ drop (length l) ts) objects_are

        -- what is laid can be filled
        pub build_fills : (1 ≤ c) × (m.objects ≤ c) × (c * place_words ≤ length b')
            × Raises (c - 1) (emptied c m.objects b')
        build_fills =
            let some : 1 ≤ cap_of (length os) = pow_pos (levels_of (length os)) in
            let long = ap length words_are ∙ laid-length (cap_of (length os)) os b in (
              omega (arith, some, cap),
              omega (arith, count_is, places, cap),
              omega (arith, long, holds.words, cap),
              raises_at os b fits holds.few holds.words cap count_is words_are,
            )

        -- the board and the start table
        pub build_done : (b'' : List ℕ) → b'' ≡ filled c m.objects b'
            → ((good tt), b'', ts') ≡ built (scores_of (file_of s)) b ts
        unfolding build_of ◌>>◌
        build_done b'' v =
            let board = v ∙ filled_at os b fits holds.few holds.words cap count_is words_are in
            let given : build_of os b ts ≡ good (board_of os ++ drop (place_words * cap_of (length os)) b, starts_of os ++ drop (length os) ts) =
            rw (rooms.told_is b ts (length os) size there).0 in
            rw (board, starts_are) (on_objects given)
