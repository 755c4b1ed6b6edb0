-- Document 01, "Records of the map file" and "What a caller gets": the order of the records, and the checks of one record.
use Rattle.std.specs.Prelude.{ℕ, ◌+◌, Bool, false, not, ◌&&◌, List, Option, None, Some, is_none, eqb, leb, ltb}
use Rattle.rules.specs.Limits.{max_objects, max_breaks, max_bonus, mark_size}
use Rattle.numbers.specs.Words.{word_at}
use Rattle.rules.specs.Refusals.{good, ◌>>=◌, ◌>>◌, refuse◌when◌, pick, CUT, MARK, COUNT, BONUS}
use Rattle.records.specs.Fields.{cut}
use Rattle.records.specs.Objects.{kind_bonus}
use Rattle.records.specs.Marks.{MH, BR, CI, SL, SP, PL}
use Rattle.records.specs.Records.{Content, header, break, object, play, FoundRecord, header_of, break_of, play_of, object_of}
use Rattle.records.specs.declared.mark.Mark.{Mark}
use Rattle.records.specs.declared.mark.Mark.TheVariants as mark
use Rattle.map_file.specs.declared.file.Counts.{Counts}
use Rattle.map_file.specs.declared.file.Rank.{Rank}
use Rattle.map_file.specs.declared.file.Rank.TheVariants as rank

-- ---- the places of the records in their order; an unknown mark, or no record, has none
abbrev pub no_rank : Option Rank
no_rank = None

abbrev pub header_rank : Option Rank
header_rank = Some rank.Header

abbrev pub break_rank : Option Rank
break_rank = Some rank.Break

abbrev pub object_rank : Option Rank
object_rank = Some rank.Object

abbrev pub play_rank : Option Rank
play_rank = Some rank.Play

-- no record has it: behind it nothing is in order
abbrev pub beyond_rank : Option Rank
beyond_rank = Some rank.Beyond

-- each by its number
abbrev pub place : Option Rank → ℕ
place None = 0
place (Some rank.Header) = 1
place (Some rank.Break) = 2
place (Some rank.Object) = 3
place (Some rank.Play) = 4
place (Some rank.Beyond) = 5

-- the place of a mark
abbrev pub rank_by : Mark → Rank
rank_by mark.Header = rank.Header
rank_by mark.Break = rank.Break
rank_by mark.Circle = rank.Object
rank_by mark.Slider = rank.Object
rank_by mark.Spinner = rank.Object
rank_by mark.Play = rank.Play

abbrev pub rank_of : ℕ → Option Rank
rank_of mark =
    pick (eqb mark MH) header_rank
    (pick (eqb mark BR) break_rank
    (pick (eqb mark CI) object_rank (pick (eqb mark SL) object_rank (pick (eqb mark SP) object_rank (pick (eqb mark PL) play_rank no_rank)))))

-- the header stands before, and no record of a later place
abbrev pub follows : Option Rank → Option Rank → Bool
follows last rank = ltb (place no_rank) (place last) && leb (place last) (place rank)

-- "The order is MH once, any BR, any objects, any PL": after a record of place `last`
abbrev pub in_order : Option Rank → Option Rank → Bool
in_order last None = false
in_order last (Some rank.Header) = is_none last
in_order last (Some rank.Break) = follows last break_rank
in_order last (Some rank.Object) = follows last object_rank
in_order last (Some rank.Play) = follows last play_rank
in_order last (Some rank.Beyond) = follows last beyond_rank

-- "6: a 129th break, an 8,193rd object"
abbrev pub is_full : Counts → Option Rank → Bool
is_full c None = false
is_full c (Some rank.Header) = false
is_full c (Some rank.Break) = leb max_breaks c.breaks
is_full c (Some rank.Object) = leb max_objects c.objects
is_full c (Some rank.Play) = false
is_full c (Some rank.Beyond) = false

-- "7: the legacy bonus of all objects is above 2,147,483,647"
abbrev pub over_bonus : Counts → ℕ → Bool
over_bonus c more = ltb max_bonus (c.bonus + more)

abbrev pub content_bonus : Content → ℕ
content_bonus (header s) = 0
content_bonus (break b) = 0
content_bonus (object o) = kind_bonus o.kind
content_bonus (play p) = 0

unfoldable pub body_of : List ℕ → ℕ → FoundRecord
body_of r mark = pick (eqb mark MH) (header_of r) (pick (eqb mark BR) (break_of r) (pick (eqb mark PL) (play_of r) (object_of r mark)))

-- "The checks of one record run: mark cut (2), mark (3), record count (6), ..., bonus so far (7)"
unfoldable pub record_of : List ℕ → Counts → FoundRecord
record_of r c = do
  refuse CUT when cut r mark_size
  refuse MARK when not (in_order c.last (rank_of (word_at r 0 2)))
  refuse COUNT when is_full c (rank_of (word_at r 0 2))
  found ← body_of r (word_at r 0 2)
  refuse BONUS when over_bonus c (content_bonus found.0)
  good found
