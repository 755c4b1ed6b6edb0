-- Document 01, "What a caller gets" and "The board": "A build checks its map file, then 11"; "A build writes both", the map's board and its start
-- table; "Lent numbers beyond 26 × C words or the object count stay".
use Rattle.std.specs.Prelude.{ℕ, ◌*◌, List, ◌++◌, Float, length, drop}
use Rattle.entries.specs.Entry.{place_words}
use Rattle.rules.specs.Refusals.{Checked, good, ◌>>◌, OrRefusal, refused}
use Rattle.records.specs.Objects.{Object}
use Rattle.scoring.specs.Scores.{Scores}
use Rattle.tree.specs.Size.{cap_of}
use Rattle.tree.specs.Board.{board_of, starts_of}
use Rattle.board.specs.Place.{room_for, written_left}

-- objects on any words and starts
unfoldable pub build_of : List Object → List ℕ → List Float → Checked (List ℕ × List Float)
build_of os b ts = do
  room_for b ts (length os)
  good (board_of os ++ drop (place_words * cap_of (length os)) b, starts_of os ++ drop (length os) ts)

-- a file that is refused, its plays' refusals included, keeps its number and offset
abbrev pub built : OrRefusal Scores → List ℕ → List Float → OrRefusal (Unit {0}) × List ℕ × List Float
built (refused r) b ts = (refused r, b, ts)
built (good s) b ts = written_left (build_of s.map.objects b ts) b ts
