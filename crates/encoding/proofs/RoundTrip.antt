-- The file of every map within the limits, with plays within theirs behind it, is read back as that map and those plays: each record is found
-- in its turn, and what was read grows by it.
use Rattle.rules.specs.declared.refusal.Rule.{Rule}
use mathlib.Core.Path.{◌≡◌, refl, sym, ap, ap₂, ◌∙◌, subst}
use mathlib.Core.Bool.{true, false}
use mathlib.Core.List.{List, [], ◌∷◌, ◌++◌, append_assoc, append-nil}
use Prim.Native.Nat.{ℕ, suc, ◌+◌, ◌≤◌, ◌<◌}
use native.Mathlib.Omega.{arith}
use Rattle.std.specs.Prelude.{Option}
use borrow.Author.Tests.{lt-ltb, le-ltb, lt-leb, le-leb}
use lib.Dec.{lit<}
use lib.ListN.{length, drop, length-append, length-drop}
use lib.Seq.{drop-drop, drop_at}
use Rattle.rules.specs.Limits.{max_bonus, max_breaks, max_objects}
use Rattle.numbers.specs.Words.{word_at}
use Rattle.rules.specs.Refusals.{good, refused, ◌>>=◌, ◌>>◌, refuse◌when◌, BONUS}
use Rattle.records.specs.Marks.{MH, BR, CI, SL, SP, PL}
use Rattle.records.specs.Objects.{circle, slider, spinner, Kind, Object, bonus, kind_bonus}
use Rattle.records.specs.Records.{Content, header, break, object, play, object_of, play_of}
use Rattle.map_file.specs.Order.{break_rank, object_rank, play_rank, place, rank_of, follows, in_order, is_full, content_bonus, body_of, record_of}
use Rattle.map_file.specs.File.{Map, File, accepted, refused_at, counts_of, with_record, nothing_read, file_of}
use Rattle.encoding.specs.Limits.{Each, one, SettingsWithin, BreakWithin, KindWithin, ObjectWithin, MapWithin, PlayWithin}
use Rattle.encoding.specs.Encoding.{fields_of, header_fields, break_fields, circle_fields, slider_fields, spinner_fields, play_fields, nested_bytes, kind_bytes, header_bytes, break_bytes, object_bytes, play_bytes, each, map_file}
use Rattle.records.specs.declared.beatmap.Settings.{Settings}
use Rattle.records.specs.declared.beatmap.BreakPeriod.{BreakPeriod}
use Rattle.play_state.specs.declared.Play.{Play}
use Rattle.map_file.specs.declared.file.Counts.{Counts}
use Rattle.map_file.specs.declared.file.Rank.{Rank}
use Rattle.encoding.proofs.FieldBytes.{fields_length, mark_back}
use Rattle.encoding.proofs.RecordsBack.{header_back, break_back, circle_back, slider_back, spinner_back, play_back, nested_length}
use Rattle.map_file.proofs.Ranks.{placed_some}
use Rattle.map_file.proofs.Reading.{On, on_start, on_step, on_stop, on_end, with_at, length_snoc, bonus_snoc}

-- ---- one record: found where the order, the counts and the bonus admit it
record_good : (r : List ℕ) (c : Counts) (m : ℕ) (x : Content) (n : ℕ) → 2 ≤ length r → word_at r 0 2 ≡ m
    → in_order c.last (rank_of m) ≡ true → is_full c (rank_of m) ≡ false → body_of r m ≡ good (x, n) → c.bonus + content_bonus x ≤ max_bonus
    → record_of r c ≡ good (x, n)
unfolding record_of ◌>>=◌ ◌>>◌ refuse◌when◌
record_good r c m x n two mark order room body low = simp (le-ltb _ _ two, mark, order, room, body, le-ltb _ _ low)

two_bytes : (b rest : List ℕ) → 2 ≤ length b → 2 ≤ length (b ++ rest)
two_bytes b rest h = let e = length-append b rest in omega (arith, e)

-- ---- a file with the rest of the input behind it
pub record Run (s : List ℕ) (f : File) (rest : List ℕ) : Type 0 where
  pub on : On s f
  pub left : drop f.at s ≡ rest

run_step : (s : List ℕ) (f : File) (b rest : List ℕ) (x : Content) (n : ℕ) → Run s f (b ++ rest) → length b ≡ n → 0 < n
    → record_of (b ++ rest) (counts_of f) ≡ good (x, n) → Run s (with_record f (x, n)) rest
run_step s f b rest x n run long some found =
    let here = length-drop f.at s in
    let all = ap length run.left ∙ length-append b rest in
    let before : f.at < length s = omega (arith, here, all, long, some) in
    let found' : record_of (drop f.at s) (counts_of f) ≡ good (x, n) = ap (λ (l : List ℕ). record_of l (counts_of f)) run.left ∙ found in
    record {
      on = on_step s f (x, n) run.on before found';
      left = ap (λ (k : ℕ). drop k s) (with_at f (x, n)) ∙ sym (drop-drop n f.at s) ∙ ap (drop n) run.left ∙ drop_at b rest n long;
    }

-- ---- a list of records of one kind
module _ {A : Type 0} (bytes : A → List ℕ) (content : A → Content) (size : A → ℕ) (long : (a : A) → (length (bytes a) ≡ size a) × (0 < size a)) where
  -- what was read, with the records of a list
  unfoldable pub with_all : File → List A → File
  with_all f [] = f
  with_all f (a ∷ l) = with_all (with_record f (content a, size a)) l

  pub run_all : (P : File → List A → Type 0)
      → ((f : File) (a : A) (l : List A) (rest : List ℕ) → P f (a ∷ l) → (record_of (bytes a ++ rest) (counts_of f) ≡ good (content a, size a)) × P (with_record f (content a, size a)) l)
      → (s : List ℕ) (l : List A) (f : File) (rest : List ℕ) → P f l → Run s f (each bytes l ++ rest) → Run s (with_all f l) rest × P (with_all f l) []
  unfolding each with_all
  run_all P step s [] f rest p run = (run, p)
  run_all P step s (a ∷ l) f rest p run =
      let run' : Run s f (bytes a ++ (each bytes l ++ rest)) = rw append_assoc at run in
      let k = step f a l (each bytes l ++ rest) p in
      run_all P step s l (with_record f (content a, size a)) rest k.1 (run_step s f (bytes a) (each bytes l ++ rest) (content a) (size a) run' (long a).0 (long a).1 k.0)

-- ---- the header
header_long : (h : Settings) → length (header_bytes h) ≡ 14
unfolding header_bytes
header_long h = fields_length (header_fields h)

header_found : (h : Settings) (rest : List ℕ) → SettingsWithin h → record_of (header_bytes h ++ rest) (counts_of nothing_read) ≡ good (header h, 14)
unfolding header_bytes body_of counts_of bonus
header_found h rest w =
    let long : length (header_bytes h) ≡ 14 = header_long h in
    record_good (header_bytes h ++ rest) (counts_of nothing_read) MH (header h) 14 (two_bytes (header_bytes h) rest (omega (arith, long))) (mark_back MH _ rest (lit< tt)) refl refl (header_back h rest w) (omega arith)

run-header : (s : List ℕ) (h : Settings) (rest : List ℕ) → SettingsWithin h → s ≡ header_bytes h ++ rest → Run s (with_record nothing_read (header h, 14)) rest
run-header s h rest w e =
    run_step s nothing_read (header_bytes h) rest (header h) 14 (record { on = on_start s; left = e }) (header_long h) (omega arith) (header_found h rest w)

-- the order and the counts of a record that may follow
follows_lem : (last rank : Option Rank) → 0 < place last → place last ≤ place rank → follows last rank ≡ true
follows_lem last rank a b = simp (lt-ltb 0 (place last) a, le-leb (place last) (place rank) b)

-- what the rest of a file asks of what was read
pub record Ready (f : File) (rank : Option Rank) : Type 0 where
  pub begun : 0 < place f.last
  pub early : place f.last ≤ place rank
  pub low : bonus f.map.objects ≤ max_bonus

-- ---- breaks
break_long : (b : BreakPeriod) → (length (break_bytes b) ≡ 18) × (0 < 18)
unfolding break_bytes
break_long b = (fields_length (break_fields b), lit< tt)

record BreaksNext (f : File) (l : List BreakPeriod) : Type 0 where
  ready : Ready f break_rank
  room : length f.map.breaks + length l ≤ max_breaks
  within : Each BreakWithin l

break_found : (f : File) (b : BreakPeriod) (rest : List ℕ) → Ready f break_rank → length f.map.breaks < max_breaks → BreakWithin b → record_of (break_bytes b ++ rest) (counts_of f) ≡ good (break b, 18)
unfolding break_bytes body_of counts_of
break_found f b rest r room w =
    let long : length (break_bytes b) ≡ 18 = (break_long b).0 in
    record_good (break_bytes b ++ rest) (counts_of f) BR (break b) 18 (two_bytes (break_bytes b) rest (omega (arith, long))) (mark_back BR _ rest (lit< tt))
    (follows_lem f.last break_rank r.begun r.early) (lt-leb max_breaks (length f.map.breaks) room) (break_back b rest w) (let h = r.low in omega (arith, h))

breaks_step : (f : File) (b : BreakPeriod) (l : List BreakPeriod) (rest : List ℕ) → BreaksNext f (b ∷ l)
    → (record_of (break_bytes b ++ rest) (counts_of f) ≡ good (break b, 18)) × BreaksNext (with_record f (break b, 18)) l
unfolding with_record
breaks_step f b l rest p = go p.within
  where
    few : length f.map.breaks + suc (length l) ≤ max_breaks
    few = p.room

    go : Each BreakWithin (b ∷ l) → (record_of (break_bytes b ++ rest) (counts_of f) ≡ good (break b, 18)) × BreaksNext (with_record f (break b, 18)) l
    go (one w ws) =
        let more = length_snoc f.map.breaks b in (
          break_found f b rest p.ready (omega (arith, few)) w,
          record {
            ready = record { begun = lit< tt; early = omega arith; low = p.ready.low };
            room = omega (arith, few, more);
            within = ws;
          },
        )

-- ---- objects
abbrev kind_size : Kind → ℕ
kind_size circle = 10
kind_size (slider is) = 12 + (length is + 1)
kind_size (spinner d) = 18

abbrev object_size : Object → ℕ
object_size o = kind_size o.kind

object_long : (o : Object) → (length (object_bytes o) ≡ object_size o) × (0 < object_size o)
unfolding object_bytes
object_long o = go o.kind
  where
    go : (k : Kind) → (length (kind_bytes o.start k) ≡ kind_size k) × (0 < kind_size k)
    go circle = (fields_length (circle_fields o.start), lit< tt)
    go (slider is) =
        let fixed : length (fields_of (slider_fields o.start (length is + 1))) ≡ 12 = fields_length (slider_fields o.start (length is + 1)) in
        let all = length-append (fields_of (slider_fields o.start (length is + 1))) (nested_bytes is) in
        let list = nested_length is in
        (omega (arith, fixed, all, list), omega arith)
    go (spinner d) = (fields_length (spinner_fields o.start d), lit< tt)

object_two : (o : Object) → 2 ≤ length (object_bytes o)
object_two o = let long = object_long o in let h = at_least o.kind in omega (arith, long.0, h)
  where
    at_least : (k : Kind) → 2 ≤ kind_size k
    at_least circle = omega arith
    at_least (slider is) = omega arith
    at_least (spinner d) = omega arith

-- a kind's mark stands for an object, and its bytes are read back
record Marked (o : Object) (rest : List ℕ) : Type 0 where
  mark : ℕ
  there : word_at (object_bytes o ++ rest) 0 2 ≡ mark
  rank : rank_of mark ≡ object_rank
  body : body_of (object_bytes o ++ rest) mark ≡ object_of (object_bytes o ++ rest) mark
  back : object_of (object_bytes o ++ rest) mark ≡ good (object o, object_size o)

marked : (o : Object) (rest : List ℕ) → ObjectWithin o → Marked o rest
unfolding object_bytes body_of object_of
marked o rest w = go o.kind refl w.kind
  where
    go : (k : Kind) → o.kind ≡ k → KindWithin k → Marked o rest
    go circle e kw = record {
      mark = CI;
      there = rw e (mark_back CI _ rest (lit< tt));
      rank = refl;
      body = refl;
      back = rw e (circle_back o.start rest w.start);
    }
    go (slider is) e kw = record {
      mark = SL;
      there = rw (e, append_assoc) (mark_back SL _ (nested_bytes is ++ rest) (lit< tt));
      rank = refl;
      body = refl;
      back = rw e (slider_back o.start is rest w.start kw);
    }
    go (spinner d) e kw = record {
      mark = SP;
      there = rw e (mark_back SP _ rest (lit< tt));
      rank = refl;
      body = refl;
      back = rw e (spinner_back o.start d rest w.start kw);
    }

-- an object's record by itself, as an edit lends it
pub object_back : (o : Object) (rest : List ℕ) → ObjectWithin o
    → object_of (object_bytes o ++ rest) (word_at (object_bytes o ++ rest) 0 2) ≡ good (object o, length (object_bytes o))
object_back o rest w =
    let k = marked o rest w in
    ap (object_of (object_bytes o ++ rest)) k.there ∙ k.back ∙ ap (λ (n : ℕ). good (object o, n)) (sym (object_long o).0)

object_found : (f : File) (o : Object) (rest : List ℕ) → Ready f object_rank → length f.map.objects < max_objects → bonus f.map.objects + kind_bonus o.kind ≤ max_bonus → ObjectWithin o
    → record_of (object_bytes o ++ rest) (counts_of f) ≡ good (object o, object_size o)
unfolding counts_of
object_found f o rest r room low w =
    let k = marked o rest w in
    record_good (object_bytes o ++ rest) (counts_of f) k.mark (object o) (object_size o) (two_bytes (object_bytes o) rest (object_two o)) k.there
    (rw k.rank (follows_lem f.last object_rank r.begun r.early)) (rw k.rank (lt-leb max_objects (length f.map.objects) room))
    (k.body ∙ k.back) low

record ObjectsNext (f : File) (l : List Object) : Type 0 where
  ready : Ready f object_rank
  room : length f.map.objects + length l ≤ max_objects
  low : bonus f.map.objects + bonus l ≤ max_bonus
  within : Each ObjectWithin l

objects_step : (f : File) (o : Object) (l : List Object) (rest : List ℕ) → ObjectsNext f (o ∷ l)
    → (record_of (object_bytes o ++ rest) (counts_of f) ≡ good (object o, object_size o)) × ObjectsNext (with_record f (object o, object_size o)) l
unfolding with_record bonus
objects_step f o l rest p = go p.within
  where
    few : length f.map.objects + suc (length l) ≤ max_objects
    few = p.room

    go : Each ObjectWithin (o ∷ l) → (record_of (object_bytes o ++ rest) (counts_of f) ≡ good (object o, object_size o)) × ObjectsNext (with_record f (object o, object_size o)) l
    go (one w ws) =
        let more = length_snoc f.map.objects o in
        let sum = bonus_snoc f.map.objects o in
        let low : bonus f.map.objects + (kind_bonus o.kind + bonus l) ≤ max_bonus = p.low in (
          object_found f o rest p.ready (omega (arith, few)) (omega (arith, low)) w,
          record {
            ready = record { begun = lit< tt; early = omega arith; low = omega (arith, sum, low) };
            room = omega (arith, few, more);
            low = omega (arith, sum, low);
            within = ws;
          },
        )

-- ---- plays
play_long : (p : Play) → (length (play_bytes p) ≡ 44) × (0 < 44)
unfolding play_bytes
play_long p = (fields_length (play_fields p), lit< tt)

record PlaysNext (f : File) (l : List Play) : Type 0 where
  ready : Ready f play_rank
  within : Each PlayWithin l

play-two : (p : Play) (rest : List ℕ) → 2 ≤ length (play_bytes p ++ rest)
play-two p rest = let long = (play_long p).0 in two_bytes (play_bytes p) rest (omega (arith, long))

play_mark : (p : Play) (rest : List ℕ) → word_at (play_bytes p ++ rest) 0 2 ≡ PL
unfolding play_bytes
play_mark p rest = mark_back PL _ rest (lit< tt)

play_found : (f : File) (p : Play) (rest : List ℕ) → Ready f play_rank → play_of (play_bytes p ++ rest) ≡ good (play p, 44)
    → record_of (play_bytes p ++ rest) (counts_of f) ≡ good (play p, 44)
unfolding body_of counts_of
play_found f p rest r e =
    record_good (play_bytes p ++ rest) (counts_of f) PL (play p) 44 (play-two p rest) (play_mark p rest)
    (follows_lem f.last play_rank r.begun r.early) refl e (let h = r.low in omega (arith, h))

plays_step : (f : File) (p : Play) (l : List Play) (rest : List ℕ) → PlaysNext f (p ∷ l)
    → (record_of (play_bytes p ++ rest) (counts_of f) ≡ good (play p, 44)) × PlaysNext (with_record f (play p, 44)) l
unfolding with_record
plays_step f p l rest n = go n.within
  where
    go : Each PlayWithin (p ∷ l) → (record_of (play_bytes p ++ rest) (counts_of f) ≡ good (play p, 44)) × PlaysNext (with_record f (play p, 44)) l
    go (one w ws) = (
      play_found f p rest n.ready (play_back p rest w),
      record { ready = record { begun = lit< tt; early = omega arith; low = n.ready.low }; within = ws },
    )

-- ---- what was read after a list
abbrev with_breaks_lem : File → List BreakPeriod → File
with_breaks_lem = with_all break_bytes break (λ _. 18) break_long

abbrev with_objects_lem : File → List Object → File
with_objects_lem = with_all object_bytes object object_size object_long

abbrev with_plays : File → List Play → File
with_plays = with_all play_bytes play (λ _. 44) play_long

breaks_read : (l : List BreakPeriod) (f : File)
    → ((with_breaks_lem f l).map ≡ record { settings = f.map.settings; breaks = f.map.breaks ++ l; objects = f.map.objects }) × ((with_breaks_lem f l).plays ≡ f.plays)
unfolding with_all with_record
breaks_read [] f = (rw append-nil, refl)
breaks_read (b ∷ l) f = let e = breaks_read l (with_record f (break b, 18)) in (e.0 ∙ rw append_assoc, e.1)

objects_read : (l : List Object) (f : File)
    → ((with_objects_lem f l).map ≡ record { settings = f.map.settings; breaks = f.map.breaks; objects = f.map.objects ++ l }) × ((with_objects_lem f l).plays ≡ f.plays)
unfolding with_all with_record
objects_read [] f = (rw append-nil, refl)
objects_read (o ∷ l) f = let e = objects_read l (with_record f (object o, object_size o)) in (e.0 ∙ rw append_assoc, e.1)

-- the plays without their offsets
unfoldable pub bare : List (ℕ × Play) → List Play
bare [] = []
bare (p ∷ l) = p.1 ∷ bare l

bare_append : (a b : List (ℕ × Play)) → bare (a ++ b) ≡ bare a ++ bare b
unfolding bare
bare_append [] b = refl
bare_append (p ∷ a) b = ap (λ (l : List Play). p.1 ∷ l) (bare_append a b)

plays_read : (l : List Play) (f : File) → ((with_plays f l).map ≡ f.map) × (bare (with_plays f l).plays ≡ bare f.plays ++ l)
unfolding with_all with_record bare
plays_read [] f = (refl, sym (append-nil (bare f.plays)))
plays_read (p ∷ l) f =
    let e = plays_read l (with_record f (play p, 44)) in
    (e.0, e.1 ∙ ap (λ (a : List Play). a ++ l) (bare_append f.plays ((f.at, p) ∷ [])) ∙ append_assoc (bare f.plays) (p ∷ []) l)

-- ---- the parts of the file, and what each asks
laid : (m : Map) (rest : List ℕ) → map_file m ++ rest ≡ header_bytes m.settings ++ (each break_bytes m.breaks ++ (each object_bytes m.objects ++ rest))
unfolding map_file
laid m rest = simp append_assoc

breaks_next : (m : Map) → MapWithin m → BreaksNext (with_record nothing_read (header m.settings, 14)) m.breaks
unfolding with_record bonus
breaks_next m w = record { ready = record { begun = lit< tt; early = omega arith; low = omega arith }; room = (let h = w.few_breaks in omega (arith, h)); within = w.breaks }

objects_next : (m : Map) → MapWithin m → (f : File) → f.map ≡ record { settings = m.settings; breaks = m.breaks; objects = [] } → Ready f break_rank → ObjectsNext f m.objects
unfolding bonus
objects_next m w f e r =
    let none_read : length f.map.objects ≡ 0 = ap (λ k. length k.objects) e in
    let no_bonus_lem : bonus f.map.objects ≡ 0 = ap (λ k. bonus k.objects) e in
    let few = w.few_objects in
    let low = w.low_bonus in
    let early = r.early in
    record {
      ready = record { begun = r.begun; early = omega (arith, early); low = r.low };
      room = omega (arith, none_read, few);
      low = omega (arith, no_bonus_lem, low);
      within = w.objects;
    }

-- plays may follow objects
ready_on : (f : File) → Ready f object_rank → Ready f play_rank
ready_on f r = let early = r.early in record { begun = r.begun; early = omega (arith, early); low = r.low }

plays_next : (f : File) (ps : List Play) → Ready f object_rank → Each PlayWithin ps → PlaysNext f ps
plays_next f ps r w = record { ready = ready_on f r; within = w }

last-run : {s : List ℕ} {f : File} {rest : List ℕ} → Run s f rest → Run s f (rest ++ [])
last-run {rest = rest} run = record { on = run.on; left = run.left ∙ sym (append-nil rest) }

after-header : (m : Map) → let k = (with_record nothing_read (header m.settings, 14)).map in
    ◌≡◌ {A = Map} (record { settings = k.settings; breaks = k.breaks ++ m.breaks; objects = k.objects }) (record { settings = m.settings; breaks = m.breaks; objects = [] })
unfolding with_record
after-header m = refl

header-plays : (m : Map) → (with_record nothing_read (header m.settings, 14)).plays ≡ []
unfolding with_record
header-plays m = refl

-- at the end of the input
whole : (s : List ℕ) (f : File) → Run s f [] → Ready f play_rank → file_of s ≡ accepted f
whole s f run r =
    let here = length-drop f.at s in
    let nothing : length (drop f.at s) ≡ 0 = ap length run.left in
    on_end s f run.on (omega (arith, here, nothing)) ∙ simp (placed_some f.last r.begun)

-- ---- the map's file, with anything behind it
pub record MapRun (m : Map) (rest : List ℕ) : Type 0 where
  pub file : File
  pub run : Run (map_file m ++ rest) file rest
  pub ready : Ready file object_rank
  pub map_back : file.map ≡ m
  pub no_plays : file.plays ≡ []

pub run-map : (m : Map) (rest : List ℕ) → MapWithin m → MapRun m rest
run-map m rest w =
    let s = map_file m ++ rest in
    let f₁ = with_record nothing_read (header m.settings, 14) in
    let f₂ = with_breaks_lem f₁ m.breaks in
    let read₂ = breaks_read m.breaks f₁ in
    let read₃ = objects_read m.objects f₂ in
    let run₁ = run-header s m.settings (each break_bytes m.breaks ++ (each object_bytes m.objects ++ rest)) w.settings (laid m rest) in
    let run₂ = run_all break_bytes break (λ _. 18) break_long BreaksNext breaks_step s m.breaks f₁ (each object_bytes m.objects ++ rest) (breaks_next m w) run₁ in
    let run₃ = run_all object_bytes object object_size object_long ObjectsNext objects_step s m.objects f₂ rest (objects_next m w f₂ (read₂.0 ∙ after-header m) run₂.1.ready) run₂.0 in
    record {
      file = with_objects_lem f₂ m.objects;
      run = run₃.0;
      ready = run₃.1.ready;
      map_back = read₃.0 ∙ ap (λ (k : Map). record { settings = k.settings; breaks = k.breaks; objects = k.objects ++ m.objects }) (read₂.0 ∙ after-header m);
      no_plays = read₃.1 ∙ read₂.1 ∙ header-plays m;
    }

-- ---- the round trip
pub record ReadBack (m : Map) (ps : List Play) (s : List ℕ) : Type 0 where
  pub file : File
  pub read : file_of s ≡ accepted file
  pub map_back : file.map ≡ m
  pub plays_back : bare file.plays ≡ ps

pub round_trip : (m : Map) (ps : List Play) → MapWithin m → Each PlayWithin ps → ReadBack m ps (map_file m ++ each play_bytes ps)
unfolding bare
round_trip m ps w pw =
    let s = map_file m ++ each play_bytes ps in
    let k = run-map m (each play_bytes ps) w in
    let last = run_all play_bytes play (λ _. 44) play_long PlaysNext plays_step s ps k.file [] (plays_next k.file ps k.ready pw) (last-run k.run) in
    let read = plays_read ps k.file in
    record {
      file = with_plays k.file ps;
      read = whole s (with_plays k.file ps) last.0 last.1.ready;
      map_back = read.0 ∙ k.map_back;
      plays_back = read.1 ∙ ap (λ (l : List (ℕ × Play)). bare l ++ ps) k.no_plays;
    }

-- ---- what stands first behind the map
-- the map's records end where its file does
map_end : (m : Map) (rest : List ℕ) (k : MapRun m rest) → 0 < length rest
    → (k.file.at < length (map_file m ++ rest)) × (k.file.at ≡ length (map_file m))
map_end m rest k some =
    let here = length-drop k.file.at (map_file m ++ rest) in
    let left = ap length k.run.left in
    let all = length-append (map_file m) rest in
    (omega (arith, here, left, some), omega (arith, here, left, all, some))

pub record RefusedBehind (m : Map) (n : Rule) (s : List ℕ) : Type 0 where
  pub file : File
  pub read : file_of s ≡ refused_at n (length (map_file m)) file
  pub map_back : file.map ≡ m
  pub no_plays : file.plays ≡ []

refused_behind : (m : Map) (rest : List ℕ) (n : Rule) → MapWithin m → 0 < length rest
    → ((f : File) → Ready f object_rank → f.map ≡ m → record_of rest (counts_of f) ≡ refused n)
    → RefusedBehind m n (map_file m ++ rest)
refused_behind m rest n w some bad =
    let s = map_file m ++ rest in
    let k = run-map m rest w in
    let f = k.file in
    let end = map_end m rest k some in
    let found = ap (λ (l : List ℕ). record_of l (counts_of f)) k.run.left ∙ bad f k.ready k.map_back in
    record {
      file = f;
      read = on_stop s f n k.run.on end.0 found ∙ ap (λ (at : ℕ). refused_at n at f) end.1;
      map_back = k.map_back;
      no_plays = k.no_plays;
    }

-- ---- number 7: a spinner that takes the bonus above its limit is refused at its own offset, whatever stands behind it
record_over : (r : List ℕ) (c : Counts) (m : ℕ) (x : Content) (n : ℕ) → 2 ≤ length r → word_at r 0 2 ≡ m
    → in_order c.last (rank_of m) ≡ true → is_full c (rank_of m) ≡ false → body_of r m ≡ good (x, n) → max_bonus < c.bonus + content_bonus x
    → record_of r c ≡ refused BONUS
unfolding record_of ◌>>=◌ ◌>>◌ refuse◌when◌
record_over r c m x n two mark order room body high = simp (le-ltb _ _ two, mark, order, room, body, lt-ltb _ _ high)

object_over : (f : File) (o : Object) (rest : List ℕ) → Ready f object_rank → length f.map.objects < max_objects → max_bonus < bonus f.map.objects + kind_bonus o.kind → ObjectWithin o
    → record_of (object_bytes o ++ rest) (counts_of f) ≡ refused BONUS
unfolding counts_of
object_over f o rest r room high w =
    let k = marked o rest w in
    record_over (object_bytes o ++ rest) (counts_of f) k.mark (object o) (object_size o) (two_bytes (object_bytes o) rest (object_two o)) k.there
    (rw k.rank (follows_lem f.last object_rank r.begun r.early)) (rw k.rank (lt-leb max_objects (length f.map.objects) room))
    (k.body ∙ k.back) high

pub over_bonus_lem : (m : Map) (o : Object) (rest : List ℕ) → MapWithin m → ObjectWithin o → length m.objects < max_objects → max_bonus < bonus m.objects + kind_bonus o.kind
    → RefusedBehind m BONUS (map_file m ++ (object_bytes o ++ rest))
over_bonus_lem m o rest w v room high =
    let two = two_bytes (object_bytes o) rest (object_two o) in
    refused_behind m (object_bytes o ++ rest) BONUS w (omega (arith, two)) (λ f r e.
    object_over f o rest r
    (subst (λ (n : Map). length n.objects < max_objects) (sym e) room)
    (subst (λ (n : Map). max_bonus < bonus n.objects + kind_bonus o.kind) (sym e) high) v)

-- ---- a play that is put after the map: refused for a field of its own at its own offset, or the file's only play
record_refused : (r : List ℕ) (c : Counts) (m : ℕ) (n : Rule) → 2 ≤ length r → word_at r 0 2 ≡ m
    → in_order c.last (rank_of m) ≡ true → is_full c (rank_of m) ≡ false → body_of r m ≡ refused n
    → record_of r c ≡ refused n
unfolding record_of ◌>>=◌ ◌>>◌ refuse◌when◌
record_refused r c m n two mark order room body = simp (le-ltb _ _ two, mark, order, room, body)

play_refused : (f : File) (p : Play) (rest : List ℕ) (n : Rule) → Ready f play_rank → play_of (play_bytes p ++ rest) ≡ refused n
    → record_of (play_bytes p ++ rest) (counts_of f) ≡ refused n
unfolding body_of counts_of
play_refused f p rest n r e =
    record_refused (play_bytes p ++ rest) (counts_of f) PL n (play-two p rest) (play_mark p rest)
    (follows_lem f.last play_rank r.begun r.early) refl e

pub refused_play : (m : Map) (p : Play) (rest : List ℕ) (n : Rule) → MapWithin m → play_of (play_bytes p ++ rest) ≡ refused n
    → RefusedBehind m n (map_file m ++ (play_bytes p ++ rest))
refused_play m p rest n w e =
    let two = play-two p rest in
    refused_behind m (play_bytes p ++ rest) n w (omega (arith, two)) (λ f r _. play_refused f p rest n (ready_on f r) e)

pub record PlayBehind (m : Map) (p : Play) (s : List ℕ) : Type 0 where
  pub file : File
  pub read : file_of s ≡ accepted file
  pub map_back : file.map ≡ m
  pub plays_back : file.plays ≡ (length (map_file m), p) ∷ []

pub last-play : (m : Map) (p : Play) → MapWithin m → play_of (play_bytes p ++ []) ≡ good (play p, 44)
    → PlayBehind m p (map_file m ++ (play_bytes p ++ []))
unfolding with_record
last-play m p w e =
    let rest = play_bytes p ++ [] in
    let s = map_file m ++ rest in
    let k = run-map m rest w in
    let f = k.file in
    let two = play-two p [] in
    let end = map_end m rest k (omega (arith, two)) in
    let next = run_step s f (play_bytes p) [] (play p) 44 k.run (play_long p).0 (play_long p).1 (play_found f p [] (ready_on f k.ready) e) in
    record {
      file = with_record f (play p, 44);
      read = whole s (with_record f (play p, 44)) next (record { begun = lit< tt; early = omega arith; low = k.ready.low });
      map_back = k.map_back;
      plays_back = ap₂ (λ (l : List (ℕ × Play)) (at : ℕ). l ++ ((at, p) ∷ [])) k.no_plays end.1;
    }
