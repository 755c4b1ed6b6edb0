-- An edit of the board of an accepted map with its count: the changed map's board and start table where that map is accepted, and else the right
-- refusal with both as they were.
use Prim.Native.Nat.{ℕ, zero, suc, ◌+◌, ◌≤◌, ◌<◌}
use mathlib.Core.Path.{◌≡◌, refl, sym, ap, ◌∙◌}
use mathlib.Core.Bool.{Bool, true, false, not, cond}
use mathlib.Core.List.{List, [], ◌∷◌, ◌++◌}
use native.Mathlib.Nat.{not-suc-le-zero, le_of_suc-le-suc}
use native.Mathlib.Omega.{arith}
use native.Mathlib.Decide.{dec_lt}
use borrow.Author.Tests.{lt-ltb, le-ltb}
use lib.Dec.{ltb}
use lib.Ieee.{Float}
use lib.ListN.{length, set, length-append, length-map}
use Rattle.rules.specs.Limits.{max_bonus}
use Rattle.rules.specs.Refusals.{Checked, good, refused, ◌>>=◌, ◌>>◌, refuse◌when◌, OrRefusal, refusal_at, at_0, BONUS, PLACE}
use Rattle.rules.specs.declared.refusal.Rule.{Rule}
use Rattle.records.specs.Objects.{Object, bonus}
use Rattle.map_file.specs.File.{Map}
use Rattle.encoding.specs.Limits.{ObjectWithin, MapWithin}
use Rattle.entries.specs.Entry.{entry_of}
use Rattle.tree.specs.Size.{levels_of, cap_of}
use Rattle.tree.specs.Put.{climbed}
use Rattle.tree.specs.Board.{board_of, starts_of}
use Rattle.tree.proofs.Changed.{change, board_length}
use Rattle.board.specs.Place.{room_for, put_place, written_left}
use Rattle.board.specs.Edit.{object_in, edit_of}
use Rattle.board.proofs.Rooms as rooms
use Rattle.board.proofs.Edits as edits
use Rattle.demands.specs.Calls.{is_accepted, changed, put_if_accepted, edit_answer}
use Rattle.demands.proofs.Maps.{by_bonus}

-- what an edit is told, by whether its place is below the count, and by its record
abbrev pub edit_told : Map → ℕ → Bool → Checked Object → OrRefusal (Unit {0})
edit_told m place below x = at_0 do
  refuse PLACE when not below
  o ← x
  refuse BONUS when not (is_accepted (changed m place o))

-- one start changed
starts-set : (os : List Object) (numbers : List Float) (place : ℕ) (o : Object) → place < length os
    → set (starts_of os ++ numbers) place o.start ≡ starts_of (set os place o) ++ numbers
starts-set [] numbers place o h = absurd (not-suc-le-zero h)
starts-set (x ∷ os) numbers zero o h = refl
starts-set (x ∷ os) numbers (suc place) o h = ap (λ (l : List Float). x.start ∷ l) (starts-set os numbers place o (le_of_suc-le-suc h))

module _ (m : Map) (w : MapWithin m) (words : List ℕ) (numbers : List Float) where
  abbrev os : List Object
  os = m.objects

  abbrev b : List ℕ
  b = board_of os ++ words

  abbrev ts : List Float
  ts = starts_of os ++ numbers

  -- both slices are long enough
  pub room : room_for b ts (length os) ≡ good tt
  room =
      let long = board_length os words in
      let count = length-append (starts_of os) numbers in
      let same = length-map os (λ (o : Object). o.start) in
      rooms.roomy b ts (length os) w.few_objects (omega (arith, long)) (omega (arith, count, same))

  -- the answer and both slices at last
  abbrev Left : OrRefusal (Unit {0}) → Map → OrRefusal (Unit {0}) × List ℕ × List Float
  Left a x = (a, board_of x.objects ++ words, starts_of x.objects ++ numbers)

  module _ (place : ℕ) (r : List ℕ) where
    abbrev left : Checked (List ℕ × List Float) → OrRefusal (Unit {0}) × List ℕ × List Float
    left x = written_left x b ts

    pub edit_past : length os ≤ place → left (edit_of b ts (length os) place r) ≡ Left (refused (refusal_at PLACE 0)) m
    edit_past h = ap left (edits.past b ts (length os) place r room h)

    module _ (inside : place < length os) where
      bad : (k : Rule) → object_in r ≡ refused k → left (edit_of b ts (length os) place r) ≡ Left (edit_told m place true (refused k)) (put_if_accepted m place (refused k))
      unfolding ◌>>=◌ ◌>>◌ refuse◌when◌
      bad k e = ap left (edits.bad_record b ts (length os) place r room inside k e)

      -- a record that is just one object
      put : (o : Object) → ObjectWithin o → object_in r ≡ good o
          → left (edit_of b ts (length os) place r) ≡ Left (edit_told m place true (good o)) (put_if_accepted m place (good o))
      unfolding put_place ◌>>=◌ ◌>>◌ refuse◌when◌
      put o v e =
          ap left (edits.puts b ts (length os) place r room inside o e)
          ∙ go (ltb max_bonus (bonus (set os place o))) (change os words place o w.objects w.few_objects w.low_bonus v inside) (by_bonus m w place o v)
        where
          stored : Checked (List ℕ) → OrRefusal (Unit {0}) × List ℕ × List Float
          stored x = left (x >>= (λ l. good (l, set ts place o.start)))

          by : Bool → OrRefusal (Unit {0}) × List ℕ × List Float
          by t = Left (at_0 (refuse BONUS when not t)) (cond t (changed m place o) m)

          go : (t : Bool) → climbed (levels_of (length os)) b (cap_of (length os) + place) (entry_of (o ∷ [])) ≡ cond t (refused BONUS) (good (board_of (set os place o) ++ words))
              → is_accepted (changed m place o) ≡ not t
              → stored (climbed (levels_of (length os)) b (cap_of (length os) + place) (entry_of (o ∷ []))) ≡ by (is_accepted (changed m place o))
          go true c a = ap stored c ∙ ap by (sym a)
          go false c a =
              ap stored c
              ∙ ap (λ (l : List Float). (good tt, board_of (set os place o) ++ words, l)) (starts-set os numbers place o inside)
              ∙ ap by (sym a)

      by_record : left (edit_of b ts (length os) place r) ≡ Left (edit_told m place true (object_in r)) (put_if_accepted m place (object_in r))
      by_record = go (object_in r) refl
        where
          go : (x : Checked Object) → object_in r ≡ x → left (edit_of b ts (length os) place r) ≡ Left (edit_told m place true x) (put_if_accepted m place x)
          go (refused k) e = bad k e
          go (good o) e = put o (edits.alone_within r o e) e

    pub edit_right : left (edit_of b ts (length os) place r) ≡ Left (edit_answer m place r) (cond (ltb place (length os)) (put_if_accepted m place (object_in r)) m)
    unfolding ◌>>◌ refuse◌when◌
    edit_right = go (dec_lt place (length os))
      where
        by : Bool → OrRefusal (Unit {0}) × List ℕ × List Float
        by t = Left (edit_told m place t (object_in r)) (cond t (put_if_accepted m place (object_in r)) m)

        go : Dec (place < length os) → left (edit_of b ts (length os) place r) ≡ by (ltb place (length os))
        go (yes h) = by_record h ∙ ap by (sym (lt-ltb place (length os) h))
        go (no h) = edit_past (omega (arith, h)) ∙ ap by (sym (le-ltb place (length os) (omega (arith, h))))
