-- What the code read is the map of the file: behind the header and the breaks all objects in one run, then a play, nothing, or a refused record.
use Rattle.rules.specs.declared.refusal.Rule.{Rule}
use mathlib.Core.Path.{◌≡◌, refl, sym, ap, ◌∙◌, subst}
use mathlib.Core.Bool.{Bool, true, false}
use mathlib.Core.List.{List, [], ◌∷◌, ◌++◌}
use Prim.Native.Nat.{ℕ, suc, ◌≤◌, ◌<◌, min}
use native.Mathlib.Omega.{arith}
use borrow.Author.Tests.{lt-ltb, eqb-true, eqb-false, leb-true, leb-false, ne_eqb}
use lib.Dec.{eqb, leb}
use lib.Ieee.{binary64, of_bits}
use lib.ListN.{length, take, drop}
use lib.Seq.{take_all}
use Rattle.numbers.specs.Words.{word_at}
use Rattle.numbers.proofs.words.Laws.{word_at-drop}
use Rattle.rules.specs.Limits.{max_objects}
use Rattle.rules.specs.Refusals.{good, refused, ◌>>=◌, pick, Checked, OrRefusal, refusal_at, at_offset}
use Rattle.rules.proofs.All.{All, all_out}
use Rattle.std.specs.Prelude.{Option, None, Some}
use Rattle.records.specs.Marks.{PL}
use Rattle.records.specs.Objects.{Object}
use Rattle.records.specs.Records.{Content, header, break, object, play, FoundRecord, content_view}
use Rattle.records.specs.declared.beatmap.Settings.{Settings}
use Rattle.records.specs.declared.beatmap.BreakCount.{BreakCount}
use Rattle.map_file.specs.Order.{break_rank, object_rank, place}
use Rattle.map_file.specs.File.{File, counts_of, with_record, refused_at, file_of}
use Rattle.map_file.specs.View.{Fits, view}
use Rattle.map_file.specs.declared.file.Rank.{Rank}
use Rattle.map_file.specs.declared.file.Rank.TheVariants as rank
use Rattle.map_file.specs.declared.file.Reader.{Reader}
use Rattle.rules.proofs.Laws.{never}
use Rattle.map_file.proofs.Reading.{Chain, start, longer, chain_on, chain_plays, on_stop, found_at, found_ordered, length_snoc}
use Rattle.map_file.proofs.Room.{record_fits}
use Rattle.ruleset.specs.Drain.{start_of}
use Rattle.ruleset.proofs.FileBreaks.{Placed, record_placed}
use Rattle.map_reader.specs.Objects.{objects_at, ran_of}
use Rattle.map_reader.specs.Map.{objects_from, head_in, breaks_count, first_start_of, rank_behind, reader_behind, end_in, map_at, map_to, rest_of, objects_of, StateOf, RanTo, to as ran_to, Behind, nothing, plays, MapIs, MapReadOf, is, refuses}
use Rattle.map_reader.specs.declared.objects.Objects.{Objects}
use Rattle.map_reader.proofs.Running.{count_of, next_stops}
use Rattle.map_reader.proofs.Records.{found_play}
use Rattle.map_reader.proofs.Files.{chain_limits, state_count, state_bonus, state_none, Keeps, NoBreak, keeps_stops, Ends, full, stopped, Follows, RanFile, to, over, keeps_ran, objects_ran}
use Rattle.map_reader.proofs.Runs.{reads_on, ran_states, ran_nexts}
use Rattle.map_reader.proofs.Breaks.{BreaksEnd, breaks_place, head_reads, head_refuses}

-- ---- the place in the order of a map's last record
pub chain_no_objects : (s : List ℕ) (f : File) → Chain s f → place f.last ≤ 2 → f.map.objects ≡ []
unfolding with_record
chain_no_objects s f start h = refl
chain_no_objects s f (longer {f = g} {r = (header t, n)} c b e) h = chain_no_objects s g c (omega (arith, found_ordered s g (header t, n) e))
chain_no_objects s f (longer {f = g} {r = (break x, n)} c b e) h = chain_no_objects s g c (omega (arith, found_ordered s g (break x, n) e))
chain_no_objects s f (longer {f = g} {r = (object o, n)} c b e) h = absurd (omega (arith, h))
chain_no_objects s f (longer {f = g} {r = (play p, n)} c b e) h = absurd (omega (arith, h))

chain_no_breaks : (s : List ℕ) (f : File) → Chain s f → place f.last ≤ 1 → f.map.breaks ≡ []
unfolding with_record
chain_no_breaks s f start h = refl
chain_no_breaks s f (longer {f = g} {r = (header t, n)} c b e) h = chain_no_breaks s g c (omega (arith, found_ordered s g (header t, n) e))
chain_no_breaks s f (longer {f = g} {r = (break x, n)} c b e) h = absurd (omega (arith, h))
chain_no_breaks s f (longer {f = g} {r = (object o, n)} c b e) h = absurd (omega (arith, h))
chain_no_breaks s f (longer {f = g} {r = (play p, n)} c b e) h = absurd (omega (arith, h))

chain_objects : (s : List ℕ) (f : File) → Chain s f → f.last ≡ object_rank → 0 < length f.map.objects
unfolding with_record
chain_objects s f start h = never (cc)
chain_objects s f (longer {f = g} {r = (header t, n)} c b e) h = never (cc)
chain_objects s f (longer {f = g} {r = (break x, n)} c b e) h = never (cc)
chain_objects s f (longer {f = g} {r = (object o, n)} c b e) h = let m = length_snoc g.map.objects o in omega (arith, m)
chain_objects s f (longer {f = g} {r = (play p, n)} c b e) h = never (cc)

chain_breaks : (s : List ℕ) (f : File) → Chain s f → f.last ≡ break_rank → 0 < length f.map.breaks
unfolding with_record
chain_breaks s f start h = never (cc)
chain_breaks s f (longer {f = g} {r = (header t, n)} c b e) h = never (cc)
chain_breaks s f (longer {f = g} {r = (break x, n)} c b e) h = let m = length_snoc g.map.breaks x in omega (arith, m)
chain_breaks s f (longer {f = g} {r = (object o, n)} c b e) h = never (cc)
chain_breaks s f (longer {f = g} {r = (play p, n)} c b e) h = never (cc)

pub chain_rank : (s : List ℕ) (f : File) → Chain s f → 0 < place f.last → place f.last ≤ 3 → Some (rank_behind (length f.map.breaks) (length f.map.objects)) ≡ f.last
chain_rank s f c b h = go f.last refl b h
  where
    go : (r : Option Rank) → f.last ≡ r → 0 < place r → place r ≤ 3 → Some (rank_behind (length f.map.breaks) (length f.map.objects)) ≡ f.last
    go None e b h = absurd (omega (arith, b))
    go (Some rank.Header) e b h =
        let z = ap place e in
        rw (chain_no_objects s f c (omega (arith, z)), chain_no_breaks s f c (omega (arith, z))) (sym e)
    go (Some rank.Break) e b h =
        let z = ap place e in
        rw (chain_no_objects s f c (omega (arith, z)), lt-ltb 0 (length f.map.breaks) (chain_breaks s f c e)) (sym e)
    go (Some rank.Object) e b h = rw (lt-ltb 0 (length f.map.objects) (chain_objects s f c e)) (sym e)
    go (Some rank.Play) e b h = absurd (omega (arith, h))
    go (Some rank.Beyond) e b h = absurd (omega (arith, h))

-- ---- what stands behind all objects
data StopAt (s : List ℕ) (g : File) : Checked (Unit {0}) → Type 0 where
  ends : Behind s g.at → StopAt s g (good tt)
  stops : {n : Rule} → file_of s ≡ refused_at n g.at g → StopAt s g (refused n)

module _ {s : List ℕ} {g : File} {all : Objects} (k : Keeps s g all) (free : NoBreak s g) (done : Ends s max_objects all) where
  no_record : (x : Content) (n : ℕ) → found_at s g ≡ good (x, n) → (word_at (drop g.at s) 0 2 ≡ PL → ⊥) → ⊥
  unfolding counts_of
  no_record (header t) n e h =
      let p = all_out (subst (All (λ f. Placed (drop g.at s) (counts_of g).last f.0 f.1)) e (record_placed (drop g.at s) (counts_of g))) in
      let none = ap place p.0 in
      omega (arith, none, k.begun)
  no_record (break b) n e h = free b n e
  no_record (object o) n e h = go done
    where
      go : Ends s max_objects all → ⊥
      go (full q) =
          let fits = all_out (subst (All (λ f. Fits (counts_of g) (content_view f.0))) e (record_fits (drop g.at s) (counts_of g))) in
          let c = state_count k.state in
          omega (arith, fits.0, c, q)
      go (stopped m q) = keeps_stops k (next_stops true s all q) o n e
  no_record (play p) n e h = h (found_play (drop g.at s) (counts_of g) (play p, n) e refl)

  stop_at : StopAt s g (end_in s (view g))
  unfolding end_in view ◌>>=◌
  stop_at = by_end (leb (length s) g.at) refl
    where
      by_found : g.at < length s → (word_at (drop g.at s) 0 2 ≡ PL → ⊥) → (x : FoundRecord) → found_at s g ≡ x → StopAt s g (x >>= (λ r. good tt))
      by_found h m (refused n) e = stops (on_stop s g n (chain_on s g k.chain) h e)
      by_found h m (good f) e = absurd (no_record f.0 f.1 e m)

      by_mark : g.at < length s → (b : Bool) → eqb (word_at (drop g.at s) 0 2) PL ≡ b → StopAt s g (pick b (good tt) (found_at s g >>= (λ r. good tt)))
      by_mark h true e = ends (plays h (eqb-true _ PL e))
      by_mark h false e = by_found h (eqb-false _ PL e) (found_at s g) refl

      by_end : (b : Bool) → leb (length s) g.at ≡ b → StopAt s g (pick b (good tt) (pick (eqb (word_at (drop g.at s) 0 2) PL) (good tt) (found_at s g >>= (λ r. good tt))))
      by_end true e = ends (nothing (leb-true _ _ e))
      by_end false e = by_mark (leb-false _ _ e) (eqb (word_at (drop g.at s) 0 2) PL) refl

  view_is : (t : Settings) (count : ℕ) → g.map.settings ≡ t → length g.map.breaks ≡ count → reader_behind t count all ≡ view g
  unfolding view counts_of
  view_is t count p q =
      let last = chain_rank s g k.chain k.begun k.no_play in
      let c = state_count k.state in
      let b = state_bonus k.state in
      rw (sym p, sym q, c, b, k.at, last)

-- ---- the whole map
module _ {s : List ℕ} {t : Settings} (breaks : BreakCount) (k : BreaksEnd s t breaks.count) (p : ℕ) where
  abbrev from : Objects
  from = objects_at (objects_from breaks.count)

  abbrev f : File
  f = k.file

  keeps_start : Keeps s f from
  keeps_start = record {
    chain = k.at.chain;
    begun = k.at.begun;
    no_play = let e = k.at.early in omega (arith, e);
    at = sym (breaks_place k.at);
    state = subst (λ (l : List Object). StateOf l from) (sym k.at.objects) (state_none (objects_from breaks.count));
  }

  -- of all objects and the state behind some of them
  module _ (all : Objects) (g : File) (e : good all ≡ ran_of true max_objects s from) (kg : Keeps s g all) (w : Follows s f g from (objects_ran max_objects s from))
      (passed : Objects) (e' : good passed ≡ ran_of true (min p max_objects) s from) where
    abbrev os : List Object
    os = g.map.objects

    few : length os ≤ max_objects
    few = (chain_limits s g kg.chain kg.begun).few_objects

    states : (n : ℕ) → n ≤ max_objects → RanTo (take n os) (ran_of true n s from)
    states = ran_states s f from keeps_start k.at.objects all g e w

    passed_is : StateOf (take p os) passed
    passed_is = subst (λ (l : List Object). StateOf l passed) (cut p) (out (subst (RanTo (take (min p max_objects) os)) (sym e') (states (min p max_objects) (omega arith))))
      where
        out : {l : List Object} {x : Objects} → RanTo l (good x) → StateOf l x
        out (ran_to h) = h

        cut : (p : ℕ) → take (min p max_objects) os ≡ take p os
        cut p = go (leb p max_objects) refl
          where
            go : (b : Bool) → leb p max_objects ≡ b → take (min p max_objects) os ≡ take p os
            go true q = let h = leb-true p max_objects q in let m : min p max_objects ≡ p = omega (arith, h) in ap (λ (n : ℕ). take n os) m
            go false q =
                let h = leb-false p max_objects q in
                let l = few in
                let m : min p max_objects ≡ max_objects = omega (arith, h) in
                ap (λ (n : ℕ). take n os) m ∙ take_all max_objects os l ∙ sym (take_all p os (omega (arith, l, h)))

    taken : os ≡ objects_ran max_objects s from
    taken = w.objects ∙ ap (λ (l : List Object). l ++ objects_ran max_objects s from) k.at.objects

    first_is : first_start_of s breaks.count (count_of all) ≡ start_of os 0
    first_is = go os refl
      where
        size : count_of all ≡ length os
        size = state_count kg.state

        go : (l : List Object) → os ≡ l → first_start_of s breaks.count (count_of all) ≡ start_of os 0
        go [] q = rw (size ∙ ap length q, q)
        go (o ∷ l) q =
            let n : count_of all ≡ suc (length l) = size ∙ ap length q in
            let more : 0 < length (objects_ran max_objects s from) = (let z = ap length (sym taken ∙ q) in omega (arith, z)) in
            rw (ne_eqb (count_of all) 0 (λ z. (omega (arith, n, z)))) (sym (ap (λ (i : List Object). start_of i 0) taken ∙ w.first more ∙ ap (of_bits binary64) (word_at-drop s (objects_from breaks.count) 2 8)))

    map_is : Behind s g.at → MapIs s p (map_at s t breaks passed all)
    map_is h = record {
      file = g;
      chain = kg.chain;
      begun = kg.begun;
      no_play = kg.no_play;
      behind = h;
      end = kg.at;
      settings = sym (w.settings ∙ k.at.settings);
      breaks = sym (ap length w.breaks ∙ k.at.breaks);
      objects = state_count kg.state;
      first = first_is;
      passed = passed_is;
      states = states;
      nexts = λ n h. ran_nexts s f from keeps_start k.at.objects all g e w n h few;
    }

    map_to_lem : (x : Checked (Unit {0})) → StopAt s g x → MapReadOf s p (at_offset all.at x >>= (λ ended. good (map_at s t breaks passed all)))
    unfolding ◌>>=◌
    map_to_lem (good tt) (ends h) = is (map_is h)
    map_to_lem (refused n) (stops q) = refuses (q ∙ ap (λ (m : ℕ). refused_at n m g) (sym kg.at)) (chain_plays s g kg.chain kg.no_play)

    stopped_is : (done : Ends s max_objects all) → MapReadOf s p (map_to s t breaks passed all)
    stopped_is done =
        let free = w.no_break k.no_break in
        let v = view_is kg free done t breaks.count (w.settings ∙ k.at.settings) (ap length w.breaks ∙ k.at.breaks) in
        map_to_lem (end_in s (reader_behind t breaks.count all)) (subst (λ (r : Reader). StopAt s g (end_in s r)) (sym v) (stop_at kg free done))

  -- all objects behind those that are passed
  read_all : (passed : Objects) → good passed ≡ ran_of true (min p max_objects) s from → (r : OrRefusal Objects) → r ≡ ran_of true max_objects s from → RanFile s f from max_objects r
      → MapReadOf s p (r >>= map_to s t breaks passed)
  unfolding ◌>>=◌
  read_all passed e (refused r) q (over g h n) = refuses h n
  read_all passed e (good all) q (to g kg w done) = stopped_is all g q kg w passed e done

  pub objects_read : MapReadOf s p (objects_of s t breaks p)
  unfolding ◌>>=◌
  objects_read = go (ran_of true (min p max_objects) s from) refl (keeps_ran (min p max_objects) s f from keeps_start (omega arith))
    where
      go : (r : OrRefusal Objects) → ran_of true (min p max_objects) s from ≡ r → RanFile s f from (min p max_objects) r → MapReadOf s p (r >>= rest_of s t breaks)
      go (refused r) e (over g h n) = refuses h n
      go (good y) e (to g kg w done) =
          let on = reads_on s f from keeps_start k.at.objects (min p max_objects) y (omega arith) (sym e) done in
          subst (λ (r : OrRefusal Objects). MapReadOf s p (r >>= map_to s t breaks y)) (sym on) (read_all y (sym e) (ran_of true max_objects s from) refl (keeps_ran max_objects s f from keeps_start (omega arith)))

pub read_is : (s : List ℕ) (t : Settings) (b : BreakCount) (p : ℕ) → good t ≡ head_in s → b.count ≡ breaks_count s → MapReadOf s p (objects_of s t b p)
read_is s t b p e n = objects_read b (subst (BreaksEnd s t) (sym n) (head_reads s t e)) p

pub read_refused : (s : List ℕ) (n : Rule) (p : ℕ) → refused n ≡ head_in s → MapReadOf s p (refused (refusal_at n 0))
read_refused s n p e = refuses (head_refuses s n e) refl
