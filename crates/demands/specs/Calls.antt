-- Document 01, "Lists of calls": demand 3, "a single claim about the whole list, and not one for each call". Each definition cites its sentence; the
-- read with factors is that of document 02, §1.
use Rattle.std.specs.Prelude.{ℕ, ◌*◌, ◌≡◌, ◌⊎◌, Bool, true, false, cond, not, ◌&&◌, List, [], ◌∷◌, ◌++◌, eqb, ltb, Float, length, drop, set}
use Rattle.entries.specs.Entry.{place_words}
use Rattle.rules.specs.Refusals.{Checked, OrRefusal, good, refused, ◌>>=◌, ◌>>◌, refuse◌when◌, refusal_at, at_0, INPUT, BONUS, PLACE}
use Rattle.records.specs.Objects.{Object}
use Rattle.map_file.specs.File.{Map, File, Result, accepted, refused_at, file_of}
use Rattle.records.specs.declared.beatmap.BreakPeriod.{BreakPeriod}
use Rattle.records.specs.declared.beatmap.Settings.{Settings}
use Rattle.play_state.specs.declared.Play.{Play}
use Rattle.encoding.specs.Encoding.{map_file, play_bytes}
use Rattle.encoding.specs.Limits.{PlaySized}
use Rattle.simulator.specs.Attributes.{score_attributes_at}
use Rattle.play_score.specs.PlayRules.{given_score}
use Rattle.scoring.specs.Scores.{Scores, scores_of, given_play_of}
use Rattle.play_score.specs.declared.PlayScore.{PlayScore}
use Rattle.slider_breaks.specs.Given.{BreaksScore, with_breaks}
use Rattle.slider_breaks.specs.declared.calculator.SliderFactors.{SliderFactors}
use Rattle.tree.specs.Size.{cap_of}
use Rattle.tree.specs.Board.{board_of, starts_of}
use Rattle.board.specs.Place.{written_left}
use Rattle.board_build.specs.Build.{built}
use Rattle.board.specs.Edit.{object_in, edit_of}
use Rattle.board.specs.Read.{read_of}

-- ---- maps
-- "A map is settings, breaks and objects, accepted if its file without plays gets no number from the library"
abbrev pub gets_none : Result → Bool
gets_none (accepted f) = true
gets_none (refused_at n at f) = false

unfoldable pub is_accepted : Map → Bool
is_accepted m = gets_none (file_of (map_file m))

-- .. and is read as that map. A map as a value may hold what no file holds, such as a setting that is no float of 32 bits; its file is then that of
-- another map (proofs/OddMap)
pub record AcceptedMap (m : Map) : Type 0 where
  pub file : File
  pub read : file_of (map_file m) ≡ accepted file
  pub back : file.map ≡ m

-- the map with another object at a place
abbrev pub changed : Map → ℕ → Object → Map
changed m place o = record { settings = m.settings; breaks = m.breaks; objects = set m.objects place o }

-- breaks as numbers: start, end, start, end
unfoldable pub times_of : List BreakPeriod → List Float
times_of [] = []
times_of (b ∷ bs) = b.start_time ∷ b.end_time ∷ times_of bs

-- the map of a file
abbrev pub map_in : Result → Map
map_in (accepted f) = f.map
map_in (refused_at n at f) = f.map

-- ---- what is lent
pub record Lent : Type 0 where
  pub board : List ℕ
  pub starts : List Float

-- "A map's board is the 2C entries above, each worked out from the objects it covers alone; its start table holds the starts of all its objects in
-- order, bit for bit": both, with what lies beyond them
abbrev pub lent_for : Map → List ℕ → List Float → Lent
lent_for m words numbers = record { board = board_of m.objects ++ words; starts = starts_of m.objects ++ numbers }

-- ---- calls
-- "The list .. holds edits and reads"
pub data Call : Type 0 where
  -- object count, place, record
  edit : ℕ → ℕ → List ℕ → Call
  -- object count, settings, breaks, play
  read : ℕ → Settings → List Float → Play → Call
  -- the same with factors
  read_breaks : ℕ → Settings → List Float → Play → SliderFactors → Call

pub data CallAnswer : Type 0 where
  edits : OrRefusal (Unit {0}) → CallAnswer
  reads : OrRefusal PlayScore → CallAnswer
  reads_breaks : OrRefusal BreaksScore → CallAnswer

-- ---- what the calls do to any lent memory: their contracts
unfoldable pub answer : Call → Lent → CallAnswer
answer (edit n place r) l = edits (written_left (edit_of l.board l.starts n place r) l.board l.starts).0
answer (read n s br p) l = reads (at_0 (read_of l.board l.starts n s br p))
answer (read_breaks n s br p f) l = reads_breaks (with_breaks p f (at_0 (read_of l.board l.starts n s br p)))

-- "Each call gets the board and start table as the last one left them"
unfoldable pub lent_after : Call → Lent → Lent
lent_after (edit n place r) l = record {
  board = (written_left (edit_of l.board l.starts n place r) l.board l.starts).1;
  starts = (written_left (edit_of l.board l.starts n place r) l.board l.starts).2;
}
lent_after (read n s br p) l = l
lent_after (read_breaks n s br p f) l = l

-- ---- what they do to a map
-- ".. puts that object there if the map so changed is accepted"
abbrev pub put_if_accepted : Map → ℕ → Checked Object → Map
put_if_accepted m place (refused n) = m
put_if_accepted m place (good o) = cond (is_accepted (changed m place o)) (changed m place o) m

-- "An edit with the map's object count, a place below it, and bytes that are just one object record, puts that object there ..; every other edit
-- .., like a read, leaves the map"
unfoldable pub map_after : Call → Map → Map
map_after (edit n place r) m = cond (eqb n (length m.objects) && ltb place n) (put_if_accepted m place (object_in r)) m
map_after (read n s br p) m = m
map_after (read_breaks n s br p f) m = m

-- ---- what a whole list does: "the map as the list left it"
abbrev pub map_after_all : List Call → Map → Map
map_after_all [] m = m
map_after_all (c ∷ cs) m = map_after_all cs (map_after c m)

abbrev pub lent_after_all : List Call → Lent → Lent
lent_after_all [] l = l
lent_after_all (c ∷ cs) l = lent_after_all cs (lent_after c l)

-- ---- the right answers
-- "every other edit is refused": with 12, with the number of its record's first wrong, or with 7
abbrev pub edit_answer : Map → ℕ → List ℕ → OrRefusal (Unit {0})
edit_answer m place r = at_0 do
  refuse PLACE when not (ltb place (length m.objects))
  o ← object_in r
  refuse BONUS when not (is_accepted (changed m place o))

-- the play of a file with one play
abbrev pub only_play : List PlayScore → OrRefusal PlayScore
only_play [] = refused (refusal_at INPUT 0)
only_play (s ∷ ss) = good s

abbrev pub from_file : OrRefusal Scores → OrRefusal PlayScore
from_file (refused r) = refused (refusal_at r.rule 0)
from_file (good s) = only_play s.plays

-- "A read with the map's count, settings and breaks gets 8, 9 .. exactly when its play, put after the map in the file, gets that same number; its
-- values are all score attributes and estimates of demand 2": as a file's with just that play, and as the scoring call's of a play on the map. (Document
-- 02, §3 took 10 away.)
pub record ReadAnswer (m : Map) (p : Play) (a : CallAnswer) : Type 0 where
  pub as_in_file : a ≡ reads (from_file (scores_of (file_of (map_file m ++ play_bytes p))))
  pub as_scored : a ≡ reads (at_0 (given_score p (score_attributes_at m p.passed_objects)))

-- a read with factors gives what the call with factors gives on the map's file, 14 included, and what a file with just that play gives, with factors
pub record ReadBreaksAnswer (m : Map) (p : Play) (f : SliderFactors) (a : CallAnswer) : Type 0 where
  pub as_in_file : a ≡ reads_breaks (with_breaks p f (from_file (scores_of (file_of (map_file m ++ play_bytes p)))))
  pub as_called : a ≡ reads_breaks (with_breaks p f (given_play_of p (scores_of (file_of (map_file m)))))

-- ---- the claim
-- "An edit with an object count other than the map's may stand in the list only where it is refused; a read may be given a count, settings or
-- breaks other than the map's"
abbrev pub IsRefused : CallAnswer → Type 0
IsRefused (edits (good tt)) = ⊥
IsRefused (edits (refused r)) = Unit {0}
IsRefused (reads a) = Unit {0}
IsRefused (reads_breaks a) = Unit {0}

abbrev pub Stands : Call → Map → Lent → Type 0
Stands (edit n place r) m l = (n ≡ length m.objects) ⊎ IsRefused (answer (edit n place r) l)
Stands (read n s br p) m l = Unit {0}
Stands (read_breaks n s br p f) m l = Unit {0}

abbrev pub MayStand : List Call → Map → Lent → Type 0
MayStand [] m l = Unit {0}
MayStand (c ∷ cs) m l = Stands c m l × MayStand cs (map_after c m) (lent_after c l)

-- what a call answers. A read's play is a struct, whose fields have the widths of its record; ".. and then the claim is only that it changes
-- nothing": `lent_after` of a read
abbrev pub Answers : Call → Map → Lent → Type 0
Answers (edit n place r) m l = n ≡ length m.objects → answer (edit n place r) l ≡ edits (edit_answer m place r)
Answers (read n s br p) m l =
    n ≡ length m.objects → s ≡ m.settings → br ≡ times_of m.breaks → PlaySized p → ReadAnswer m p (answer (read n s br p) l)
Answers (read_breaks n s br p f) m l =
    n ≡ length m.objects → s ≡ m.settings → br ≡ times_of m.breaks → PlaySized p → ReadBreaksAnswer m p f (answer (read_breaks n s br p f) l)

-- every call answers right on the map as the calls before it left it, and at last the board and the start table are those of the map as the list
-- left it, with what lay beyond them as it was
abbrev pub Right : List ℕ → List Float → List Call → Map → Lent → Type 0
Right words numbers [] m l = AcceptedMap m × (l ≡ lent_for m words numbers)
Right words numbers (c ∷ cs) m l = Answers c m l × Right words numbers cs (map_after c m) (lent_after c l)

-- what a build leaves
abbrev pub lent_by : List ℕ → List ℕ → List Float → Lent
lent_by s b ts = record { board = (built (scores_of (file_of s)) b ts).1; starts = (built (scores_of (file_of s)) b ts).2 }

-- "The list follows an accepted build ..": the whole claim, for every file, lent memory and list. "The map is at first the built one."
abbrev pub Claim : Type 0
Claim =
    (s : List ℕ) (b : List ℕ) (ts : List Float) (cs : List Call)
    → (built (scores_of (file_of s)) b ts).0 ≡ good tt
    → MayStand cs (map_in (file_of s)) (lent_by s b ts)
    → Right (drop (place_words * cap_of (length (map_in (file_of s)).objects)) b) (drop (length (map_in (file_of s)).objects) ts) cs (map_in (file_of s)) (lent_by s b ts)
