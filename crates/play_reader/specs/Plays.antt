-- Document 01, "Records of the map file": "any PL" behind the objects. What the code reads of them, and what that says of the file.
use Rattle.std.specs.Prelude.{ℕ, ◌≤◌, ◌<◌, ◌≡◌, List, length}
use Rattle.rules.specs.Refusals.{good, refused, ◌>>=◌, MARK, Checked, OrRefusal, refusal_at}
use Rattle.rules.specs.declared.refusal.Rule.{Rule}
use Rattle.play_state.specs.declared.Play.{Play}
use Rattle.records.specs.Marks.{mark_in}
use Rattle.records.specs.declared.mark.Mark.{Mark}
use Rattle.records.specs.declared.mark.Mark.TheVariants as mark
use Rattle.records.specs.Records.{Content, play, FoundRecord, play_of}
use Rattle.map_file.specs.Order.{play_rank}
use Rattle.map_file.specs.File.{File, refused_at, file_of}
use Rattle.map_file.proofs.Reading.{Chain}
use Rattle.map_reader.specs.Map.{MapIs}
use Rattle.map_reader.specs.declared.map.Map.{Map}

-- the record of a play; no other can stand behind a play
abbrev pub play_marked : List ℕ → Mark → FoundRecord
play_marked r mark.Play = play_of r
play_marked r other = refused MARK

unfoldable pub play_record : List ℕ → FoundRecord
play_record r = mark_in r >>= play_marked r

-- behind the map only plays are in order
abbrev pub play_with : Content → Checked Play
play_with (play p) = good p
play_with other = refused MARK

abbrev pub play_in : List ℕ → Checked Play
play_in r = play_record r >>= (λ found. play_with found.0)

-- where a reader of plays stands: at the map's end, or behind a play
pub data Place (map f : File) : Type 0 where
  first : f ≡ map → Place map f
  later : f.last ≡ play_rank → map.at < f.at → Place map f

-- f is what was read of the file when the map and some plays behind it were
pub record Reached {s : List ℕ} {p : ℕ} {m : Map} (k : MapIs s p m) (f : File) : Type 0 where
  pub chain : Chain s f
  pub map : f.map ≡ k.file.map
  pub place : Place k.file f

-- the map of a file that is read to its end, or the file's refusal
pub data MapFileOf (s : List ℕ) (p : ℕ) : OrRefusal Map → Type 0 where
  all : {m : Map} (k : MapIs s p m) (f : File) → Reached k f → length s ≤ f.at → MapFileOf s p (good m)
  refuses : {n : Rule} {at : ℕ} {f : File} → file_of s ≡ refused_at n at f → MapFileOf s p (refused (refusal_at n at))
