-- A pass over the objects of a map keeps, of both slices, what the objects so far have laid; at its end these are all objects.
use Prim.Native.Nat.{ℕ, ◌+◌, ◌≤◌, ◌<◌}
use mathlib.Core.Path.{◌≡◌, refl, sym, ap, ap₂, ◌∙◌, subst}
use mathlib.Core.Bool.{true}
use mathlib.Core.List.{List, [], ◌∷◌, ◌++◌}
use native.Mathlib.Omega.{arith}
use native.Mathlib.Nat.{not-suc-le-zero, le_of_suc-le-suc}
use lib.Ieee.{Float}
use lib.ListN.{length, take, drop, set, length-append, length-map, length-take, length-drop}
use lib.Seq.{take_all}
use Rattle.numbers.specs.Words.{word_at}
use Rattle.rules.specs.Limits.{circle_size}
use Rattle.rules.specs.Refusals.{good}
use Rattle.rules.proofs.All.{All, all_out}
use Rattle.records.specs.Objects.{Object, kind_view, object_view}
use Rattle.records.specs.Records.{object, FoundRecord, object_of, record_read}
use Rattle.records.specs.declared.record.Record.TheVariants as record_case
use Rattle.map_file.specs.File.{Map as MapData, file_of}
use Rattle.map_file.proofs.Sizes.{Sized, object_sized}
use Rattle.map_reader.specs.Objects.{objects_at, stepped, ran_of}
use Rattle.map_reader.specs.Map.{objects_from, NextIs}
use Rattle.map_reader.specs.declared.objects.Objects.{Objects}
use Rattle.map_reader.specs.declared.map.Map.{Map}
use Rattle.play_reader.proofs.Playing.{map_same}
use Rattle.simulator.proofs.Few.{FewIn, object_few}
use Rattle.entries.specs.Entry.{own_entry}
use Rattle.entries.specs.Words.{put_entry}
use Rattle.entries.specs.declared.entry.Entry.{Entry}
use Rattle.entries.proofs.Runs.{entry_own}
use Rattle.tree.specs.Board.{starts_of}
use Rattle.tree.specs.Build.{laid}
use Rattle.tree.proofs.BuildRight.{laid_none, laid_snoc, laid-length}
use Rattle.board_build.specs.Laying.{record_laid, LaysRead, read_laid, Lays, objects_of, objects_laid}

-- ---- the start table
-- the starts of the first objects, the rest as it was
abbrev begun : List Object → List Float → List Float
begun os ts = starts_of os ++ drop (length os) ts

begun_length : (os : List Object) (ts : List Float) → length os ≤ length ts → length (begun os ts) ≡ length ts
begun_length os ts h =
    let whole = length-append (starts_of os) (drop (length os) ts) in
    let first = length-map os (λ (o : Object). o.start) in
    let rest = length-drop (length os) ts in
    omega (arith, whole, first, rest)

-- one start more
begun_snoc : (os : List Object) (o : Object) (ts : List Float) → length os < length ts
    → set (begun os ts) (length os) o.start ≡ begun (os ++ (o ∷ [])) ts
begun_snoc [] o [] h = absurd (not-suc-le-zero h)
begun_snoc [] o (t ∷ ts) h = refl
begun_snoc (x ∷ os) o [] h = absurd (not-suc-le-zero h)
begun_snoc (x ∷ os) o (t ∷ ts) h = ap (λ (l : List Float). x.start ∷ l) (begun_snoc os o ts (le_of_suc-le-suc h))

both : {b b' : List ℕ} {ts ts' : List Float} → b ≡ b' → ts ≡ ts' → ◌≡◌ {A = List ℕ × List Float} (b, ts) (b', ts')
both p q = λ i. (p i, q i)

-- ---- what the loop keeps: both slices with what the first `place` objects have laid, and the state behind these
pub record SoFar (s : List ℕ) (m : Map) (cap : ℕ) (b₀ : List ℕ) (ts₀ : List Float) (at place : ℕ) (b : List ℕ) (ts : List Float) : Type 0 where
  pub lays : Lays cap s m b₀ ts₀
  pub low : place ≤ m.objects
  pub x : Objects
  pub here : good x ≡ ran_of true place s (objects_at (objects_from m.breaks.count))
  pub at_is : at ≡ x.at
  pub words : b ≡ laid cap (take place lays.map.file.map.objects) b₀
  pub starts : ts ≡ begun (take place lays.map.file.map.objects) ts₀

pub laying_start : {s : List ℕ} {m : Map} {cap : ℕ} {b : List ℕ} {ts : List Float} → Lays cap s m b ts → (at : ℕ) → at ≡ objects_from m.breaks.count → SoFar s m cap b ts at 0 b ts
unfolding ran_of
laying_start {m = m} {cap = cap} {b = b} h at e =
    record { lays = h; low = omega arith; x = objects_at (objects_from m.breaks.count); here = refl; at_is = e; words = sym (laid_none cap b); starts = refl }

module _ {s : List ℕ} {m : Map} {cap : ℕ} {b₀ : List ℕ} {ts₀ : List Float} {at place : ℕ} {b : List ℕ} {ts : List Float} (k : SoFar s m cap b₀ ts₀ at place b ts) where
  abbrev h : Lays cap s m b₀ ts₀
  h = k.lays

  abbrev os : List Object
  os = h.map.file.map.objects

  count : m.objects ≡ length os
  count = h.map.objects

  done : length (take place os) ≡ place
  done = let e = length-take place os in let l = k.low in let c = count in omega (arith, e, l, c)

  -- both slices are as long as they were
  pub same_words : length b ≡ length b₀
  same_words = ap length k.words ∙ laid-length cap (take place os) b₀

  pub same_numbers : length ts ≡ length ts₀
  same_numbers = let d = done in let l = k.low in let n = h.numbers in ap length k.starts ∙ begun_length (take place os) ts₀ (omega (arith, d, l, n))

  -- ---- one object
  module _ (lt : place < m.objects) where
    abbrev next : NextIs s (objects_at (objects_from m.breaks.count)) os place
    next = h.map.nexts place (let c = count in omega (arith, c, lt))

    state_is : next.x ≡ k.x
    state_is = let e : good next.x ≡ good k.x = next.here ∙ sym k.here in cc

    at_next : at ≡ next.x.at
    at_next = k.at_is ∙ ap (λ (z : Objects). z.at) (sym state_is)

    pub laying_inside : at + circle_size ≤ length s
    laying_inside = let e = at_next in let i = next.inside in omega (arith, e, i)

    module _ {r : List ℕ} (rest : r ≡ drop at s) where
      object_is : object_of r (word_at r 0 2) ≡ good (object next.o, next.size)
      object_is =
          let same : r ≡ drop next.x.at s = rest ∙ ap (λ (n : ℕ). drop n s) at_next in
          ap (λ (l : List ℕ). object_of l (word_at l 0 2)) same ∙ next.found

      few : FewIn (object next.o)
      few = all_out (subst (All (λ f. FewIn f.0)) object_is (object_few r (word_at r 0 2)))

      sized : Sized r (object next.o, next.size)
      sized = all_out (subst (All (Sized r)) object_is (object_sized r (word_at r 0 2)))

      pub laying_room : LaysRead cap place (record_read (object_of r (word_at r 0 2))) b ts
      laying_room =
          let w = same_words in
          let n = same_numbers in
          rw object_is (few, (let c = h.places in omega (arith, c, lt)), (let c = h.words in omega (arith, c, w)), (let c = h.numbers in omega (arith, c, n, lt)))

      module _ {size : ℕ} {b' : List ℕ} {ts' : List Float} (q : (size, b', ts') ≡ read_laid cap place (record_read (object_of r (word_at r 0 2))) b ts) where
        told : (size, b', ts') ≡ read_laid cap place (record_read (good (object next.o, next.size))) b ts
        told = q ∙ ap (λ (y : FoundRecord). read_laid cap place (record_read y) b ts) object_is

        size_is : size ≡ next.size
        size_is = λ i. (told i).0

        pub laying_ahead : at + size ≤ length s
        laying_ahead =
            let e = size_is in
            let l = sized.1 in
            let n = ap length rest in
            let d = length-drop at s in
            let i = laying_inside in
            omega (arith, e, l, n, d, i)

        both_are : record_laid cap place (record_case.Object (object_view next.o)) b ts ≡ (laid cap (take (place + 1) os) b₀, begun (take (place + 1) os) ts₀)
        both_are =
            let o = next.o in
            let l = take place os in
            let own = own_entry (kind_view o.kind) in
            let n = done in
            let c = h.numbers in
            both
            (ap (λ (j : ℕ). put_entry b (cap + j) own) (sym n)
            ∙ ap₂ (λ (w : List ℕ) (v : Entry). put_entry w (cap + length l) v) k.words (entry_own o)
            ∙ sym (laid_snoc cap l o b₀)
            ∙ ap (λ (y : List Object). laid cap y b₀) (sym next.more))
            (ap (λ (j : ℕ). set ts j o.start) (sym n)
            ∙ ap (λ (y : List Float). set y (length l) o.start) k.starts
            ∙ begun_snoc l o ts₀ (omega (arith, n, c, lt))
            ∙ ap (λ (y : List Object). begun y ts₀) (sym next.more))

        pub laying_object : SoFar s m cap b₀ ts₀ (at + size) (place + 1) b' ts'
        laying_object =
            let is : ◌≡◌ {A = List ℕ × List Float} (b', ts') (laid cap (take (place + 1) os) b₀, begun (take (place + 1) os) ts₀) = both (λ i. (told i).1) (λ i. (told i).2) ∙ both_are in
            record {
              lays = h;
              low = omega (arith, lt);
              x = stepped true next.x next.o next.size;
              here = next.next;
              at_is = ap₂ (λ (i j : ℕ). i + j) at_next size_is;
              words = ap (λ (y : List ℕ × List Float). y.0) is;
              starts = ap (λ (y : List ℕ × List Float). y.1) is;
            }

  -- at the end all objects are laid
  pub laying_end : m.objects ≤ place → (b, ts) ≡ objects_laid cap (file_of s) b₀ ts₀
  laying_end le =
      let c = count in
      let all : take place os ≡ os = take_all place os (omega (arith, le, c)) in
      let same : objects_of (file_of s) ≡ os = ap objects_of h.read ∙ ap (λ (n : MapData). n.objects) (map_same h.map h.file h.read) in
      both k.words k.starts ∙ ap (λ (l : List Object). (laid cap l b₀, begun l ts₀)) (all ∙ sym same)
