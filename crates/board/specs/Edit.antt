-- Document 01, "What a caller gets": "Other calls on a board check 6, 11 and 12 first, then their arguments (an edit its record as above, without
-- 7 ..), then 13 and 7 entry by entry as read".
use Rattle.std.specs.Prelude.{ℕ, List, [], ◌∷◌, eqb, leb, ltb, Float, length}
use Rattle.rules.specs.Limits.{mark_size}
use Rattle.numbers.specs.Words.{word_at}
use Rattle.rules.specs.Refusals.{Checked, good, refused, ◌>>=◌, ◌>>◌, refuse◌when◌, CUT, MARK, PLACE}
use Rattle.records.specs.Fields.{cut}
use Rattle.records.specs.Objects.{Object, object_view}
use Rattle.records.specs.Records.{Content, header, break, object, play, object_of}
use Rattle.records.specs.declared.hit_object.HitObject.{HitObject}
use Rattle.entries.specs.Entry.{entry_of}
use Rattle.tree.specs.Size.{levels_of}
use Rattle.board.specs.Place.{room_for, put_place}

-- the record of an object holds no other content
abbrev pub object_only : Content → Checked Object
object_only (header s) = refused MARK
object_only (break b) = refused MARK
object_only (object o) = good o
object_only (play p) = refused MARK

-- an edit's record: "the input is empty" is 3, then "mark cut (2), mark (3), .. fixed part cut (2), fixed fields .., nested list cut (2), nested
-- list (5)"; "in an edit also, checked last, if bytes follow the object's record"
unfoldable pub object_in : List ℕ → Checked Object
object_in r = do
  refuse MARK when eqb (length r) 0
  refuse CUT when cut r mark_size
  found ← object_of r (word_at r 0 2)
  o ← object_only found.0
  refuse MARK when ltb found.1 (length r)
  good o

-- what the code keeps of it
abbrev pub alone_of : Checked Object → Checked HitObject
alone_of x = do
  o ← x
  good (object_view o)

-- "12: an edited place is not below the object count"
unfoldable pub edit_of : List ℕ → List Float → ℕ → ℕ → List ℕ → Checked (List ℕ × List Float)
edit_of b ts n place r = do
  room_for b ts n
  refuse PLACE when leb n place
  o ← object_in r
  put_place (levels_of n) place (entry_of (o ∷ [])) o.start b ts
