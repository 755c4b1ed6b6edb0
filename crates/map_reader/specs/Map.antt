-- What the code reads of a file's map, and what that says of the file.
use Rattle.std.specs.Prelude.{ℕ, zero, suc, ◌+◌, ◌*◌, ◌-◌, ◌≤◌, ◌<◌, min, ◌≡◌, Bool, true, false, ◌&&◌, List, [], ◌∷◌, ◌++◌, Some, eqb, ltb, leb, Float, length, take, drop, is_ok}
use Rattle.std.specs.Float.{binary64}
use Rattle.std.specs.Float.Ieee.{of_bits}
use Rattle.numbers.specs.Floats.{whole}
use Rattle.numbers.specs.Words.{word_at}
use Rattle.rules.specs.Limits.{max_objects, max_breaks, header_size, break_size, circle_size}
use Rattle.rules.specs.Refusals.{good, refused, ◌>>=◌, pick, MARK, Checked, OrRefusal, refusal_at, at_offset}
use Rattle.rules.specs.declared.refusal.Rule.{Rule}
use Rattle.records.specs.Marks.{BR, PL}
use Rattle.records.specs.Objects.{Object}
use Rattle.records.specs.Records.{Content, header, object, FoundRecord, break_of, object_of}
use Rattle.records.specs.declared.beatmap.Settings.{Settings}
use Rattle.records.specs.declared.beatmap.BreakCount.{BreakCount}
use Rattle.map_file.specs.Order.{no_rank, object_rank, place, record_of}
use Rattle.map_file.specs.File.{File, refused_at, file_of}
use Rattle.map_file.specs.View.{fresh_of}
use Rattle.map_file.specs.declared.file.Rank.{Rank}
use Rattle.map_file.specs.declared.file.Rank.TheVariants as rank
use Rattle.map_file.specs.declared.file.Reader.{Reader}
use Rattle.map_file.proofs.Reading.{Chain}
use Rattle.ruleset.specs.Drain.{start_of}
use Rattle.simulator.specs.Walk.{fresh, after}
use Rattle.simulator.specs.Nested.{no_object, counted_all}
use Rattle.map_reader.specs.Objects.{objects_at, stepped, bonus_of, ran_of}
use Rattle.map_reader.specs.declared.objects.Objects.{Objects}
use Rattle.map_reader.specs.declared.map.Map.{Map}

-- ---- what the code reads, in its order
-- the objects begin behind the header and the breaks
abbrev pub objects_from : ℕ → ℕ
objects_from breaks = header_size + breaks * break_size

-- the header is the only first record in order
abbrev pub head_with : Content → Checked Settings
head_with (header t) = good t
head_with other = refused MARK

-- "or the input is empty"
unfoldable pub head_in : List ℕ → Checked Settings
head_in s = pick (eqb (length s) 0) (refused MARK) (record_of s fresh_of.counts >>= (λ found. head_with found.0))

unfoldable pub is_break : List ℕ → Bool
is_break r = eqb (word_at r 0 2) BR && is_ok (break_of r)

-- the breaks behind `count` others, n at most
unfoldable pub breaks_after : ℕ → List ℕ → ℕ → ℕ
breaks_after zero s count = count
breaks_after (suc n) s count = elim (is_break (drop (objects_from count) s)) [
  | true ↦ breaks_after n s (count + 1)
  | false ↦ count
]

abbrev pub breaks_count : List ℕ → ℕ
breaks_count s = breaks_after max_breaks s 0

abbrev pub first_start_of : List ℕ → ℕ → ℕ → Float
first_start_of s breaks objects = pick (eqb objects 0) (whole 0) (of_bits binary64 (word_at s (objects_from breaks + 2) 8))

-- the place in the order of a map's last record
abbrev pub rank_behind : ℕ → ℕ → Rank
rank_behind breaks objects = pick (ltb 0 objects) rank.Object (pick (ltb 0 breaks) rank.Break rank.Header)

abbrev pub reader_behind : Settings → ℕ → Objects → Reader
reader_behind t breaks x = record {
  at = x.at;
  settings = t;
  counts = record {
    last = Some (rank_behind breaks x.nested.object_count);
    breaks = breaks;
    objects = x.nested.object_count;
    bonus = bonus_of x;
  };
}

-- behind a map stand its plays or nothing, else a record that is refused
unfoldable pub end_in : List ℕ → Reader → Checked (Unit {0})
end_in s reader = pick (leb (length s) reader.at) (good tt)
    (pick (eqb (word_at (drop reader.at s) 0 2) PL) (good tt) (record_of (drop reader.at s) reader.counts >>= (λ found. good tt)))

abbrev pub map_at : List ℕ → Settings → BreakCount → Objects → Objects → Map
map_at s t breaks passed all = record {
  end = all.at;
  settings = t;
  breaks = breaks;
  objects = all.nested.object_count;
  first_start = first_start_of s breaks.count all.nested.object_count;
  passed = passed;
}

abbrev pub map_to : List ℕ → Settings → BreakCount → Objects → Objects → OrRefusal Map
map_to s t breaks passed all = at_offset all.at (end_in s (reader_behind t breaks.count all)) >>= (λ ended. good (map_at s t breaks passed all))

abbrev pub rest_of : List ℕ → Settings → BreakCount → Objects → OrRefusal Map
rest_of s t breaks passed = ran_of true (max_objects - passed.nested.object_count) s passed >>= map_to s t breaks passed

abbrev pub objects_of : List ℕ → Settings → BreakCount → ℕ → OrRefusal Map
objects_of s t breaks p = ran_of true (min p max_objects) s (objects_at (objects_from breaks.count)) >>= rest_of s t breaks

-- ---- what that says of the file
-- the state behind some objects
pub record StateOf (os : List Object) (x : Objects) : Type 0 where
  pub score : x.score ≡ after 1 fresh os
  pub nested : x.nested ≡ counted_all no_object os
  pub last : x.last_start ≡ start_of os (length os - 1)

pub data RanTo (os : List Object) : OrRefusal Objects → Type 0 where
  to : {x : Objects} → StateOf os x → RanTo os (good x)

-- behind a map stands a play's mark or nothing
pub data Behind (s : List ℕ) (at : ℕ) : Type 0 where
  nothing : length s ≤ at → Behind s at
  plays : at < length s → word_at (drop at s) 0 2 ≡ PL → Behind s at

-- the object behind n others: where it stands and what is read there
pub record NextIs (s : List ℕ) (from : Objects) (os : List Object) (n : ℕ) : Type 0 where
  pub x : Objects
  pub here : good x ≡ ran_of true n s from
  pub inside : x.at + circle_size ≤ length s
  pub o : Object
  pub size : ℕ
  pub found : object_of (drop x.at s) (word_at (drop x.at s) 0 2) ≡ good (object o, size)
  pub next : good (stepped true x o size) ≡ ran_of true (n + 1) s from
  pub more : take (n + 1) os ≡ take n os ++ (o ∷ [])

-- m is the map of the file, with the state behind its first p objects. `states` is for a caller that reads on from a state that it kept, `nexts` for one that reads the objects again.
pub record MapIs (s : List ℕ) (p : ℕ) (m : Map) : Type 0 where
  pub file : File
  pub chain : Chain s file
  pub begun : place no_rank < place file.last
  pub no_play : place file.last ≤ place object_rank
  pub behind : Behind s file.at
  pub end : m.end ≡ file.at
  pub settings : m.settings ≡ file.map.settings
  pub breaks : m.breaks.count ≡ length file.map.breaks
  pub objects : m.objects ≡ length file.map.objects
  pub first : m.first_start ≡ start_of file.map.objects 0
  pub passed : StateOf (take p file.map.objects) m.passed
  pub states : (n : ℕ) → n ≤ max_objects → RanTo (take n file.map.objects) (ran_of true n s (objects_at (objects_from m.breaks.count)))
  pub nexts : (n : ℕ) → n < length file.map.objects → NextIs s (objects_at (objects_from m.breaks.count)) file.map.objects n

-- the map of a file, or the refusal of the file, with no play before it
pub data MapReadOf (s : List ℕ) (p : ℕ) : OrRefusal Map → Type 0 where
  is : {m : Map} → MapIs s p m → MapReadOf s p (good m)
  refuses : {n : Rule} {at : ℕ} {f : File} → file_of s ≡ refused_at n at f → f.plays ≡ [] → MapReadOf s p (refused (refusal_at n at))
