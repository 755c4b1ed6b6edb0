-- Behind a map only plays stand: what the code reads there is the definition's next record, or its refusal.
use mathlib.Core.Path.{◌≡◌, refl, sym, ap, ◌∙◌, subst}
use mathlib.Core.Bool.{Bool, true, false}
use mathlib.Core.List.{List}
use Prim.Native.Nat.{ℕ, zero, suc, ◌+◌, ◌≤◌, ◌<◌}
use native.Mathlib.Omega.{arith}
use borrow.Author.Tests.{lt-ltb, le-leb, ltb-true}
use lib.Dec.{ltb}
use lib.ListN.{length, drop, length-drop}
use Rattle.numbers.specs.Words.{word_at}
use Rattle.rules.specs.Limits.{max_bonus}
use Rattle.rules.specs.Refusals.{good, refused, ◌>>=◌, ◌>>◌, refuse◌when◌, pick, Checked, CUT, PLAY_FIELD}
use Rattle.rules.specs.declared.refusal.Rule.{Rule}
use Rattle.rules.specs.declared.refusal.Refusal.{Refusal}
use Rattle.rules.proofs.Laws.{never}
use Rattle.rules.proofs.All.{All, none, that, all_any, all_when, all_map, all_out}
use Rattle.records.specs.Marks.{PL, mark_in, word_of}
use Rattle.records.specs.declared.mark.Mark.{Mark}
use Rattle.records.specs.declared.mark.Mark.TheVariants as mark
use Rattle.records.proofs.Marks.{mark_word}
use Rattle.records.proofs.Alone.{alone}
use Rattle.records.specs.Objects.{bonus}
use Rattle.records.specs.Records.{Content, header, break, object, play, FoundRecord, content_view, record_read, play_read, play_of}
use Rattle.records.specs.declared.record.Record.TheVariants as record_case
use Rattle.play_state.specs.declared.Play.{Play}
use Rattle.map_file.specs.Order.{play_rank, place, content_bonus, body_of, record_of}
use Rattle.map_file.proofs.Bodies.{no_bonus}
use Rattle.map_file.proofs.Marked.{record_with, record_by_mark}
use Rattle.map_file.specs.File.{File, accepted, refused_at, counts_of, with_record, follow, ended, file_from, file_of}
use Rattle.map_file.specs.declared.file.Counts.{Counts}
use Rattle.map_file.proofs.Ranks.{placed_some}
use Rattle.map_file.proofs.Reading.{longer, chain_on, chain_inside, on_stop, on_end, found_at, ended_is}
use Rattle.map_reader.specs.Map.{MapIs, MapReadOf, is, refuses as map_refuses, Behind, nothing, plays}
use Rattle.map_reader.specs.declared.map.Map.{Map}
use Rattle.map_reader.proofs.Attributed.{limits}
use Rattle.play_reader.specs.Plays.{play_marked, play_record, play_with, play_in, Place, first, later, Reached, MapFileOf, refuses}

-- ---- the record of a play
data PlayOnly : Content → ℕ → Type 0 where
  only : {p : Play} → PlayOnly (play p) 44

body_only : (r : List ℕ) → All (λ f. PlayOnly f.0 f.1) (play_of r)
unfolding play_of
body_only r = all_when CUT _ _ (λ _. all_any _ _ (λ o. all_any _ _ (λ s. all_when PLAY_FIELD _ _ (λ _. all_any _ _ (λ x. that only)))))

play_only : (r : List ℕ) → All (λ f. PlayOnly f.0 f.1) (play_record r)
unfolding play_record
play_only r = all_any (mark_in r) (play_marked r) by_mark
  where
    by_mark : (m : Mark) → All (λ f. PlayOnly f.0 f.1) (play_marked r m)
    by_mark mark.Header = none
    by_mark mark.Break = none
    by_mark mark.Circle = none
    by_mark mark.Slider = none
    by_mark mark.Spinner = none
    by_mark mark.Play = body_only r

-- a play is all that its record tells
play_back : (x : FoundRecord) → All (λ f. PlayOnly f.0 f.1) x → x ≡ ((x >>= (λ f. play_with f.0)) >>= (λ p. good (play p, 44)))
unfolding ◌>>=◌
play_back (refused n) a = refl
play_back (good f) a = by_content f.0 f.1 (all_out a)
  where
    by_content : (x : Content) (n : ℕ) → PlayOnly x n → ◌≡◌ {A = FoundRecord} (good (x, n)) (play_with x >>= (λ p. good (play p, 44)))
    by_content (play p) n only = refl
    by_content (header _) n x4 = elim x4 [ ]
    by_content (break _) n x5 = elim x5 [ ]
    by_content (object _) n x6 = elim x6 [ ]

play_told : (r : List ℕ) (x : Checked Play) → x ≡ play_in r → play_record r ≡ (x >>= (λ p. good (play p, 44)))
play_told r x e = play_back (play_record r) (play_only r) ∙ ap (λ y. y >>= (λ p. good (play p, 44))) (sym e)

pub play_is : (r : List ℕ) (p : Play) → good p ≡ play_in r → play_record r ≡ good (play p, 44)
unfolding ◌>>=◌
play_is r p e = play_told r (good p) e

pub play_refused : (r : List ℕ) (n : Rule) → refused n ≡ play_in r → play_record r ≡ refused n
unfolding ◌>>=◌
play_refused r n e = play_told r (refused n) e

-- ---- what the code takes of a record: the reader of plays gives that alone
pub play_alone : (x : FoundRecord) (t : Checked Play) → play_read t ≡ record_read x → t ≡ (x >>= (λ f. play_with f.0))
play_alone = alone play_read (λ p. (record_case.Play p, 44)) play_with (λ p. refl) (λ n. refl) back
  where
    back : (x : Content) (p : Play) → record_case.Play p ≡ content_view x → good p ≡ play_with x
    back (header t) p e = never (cc)
    back (break b) p e = never (cc)
    back (object o) p e = never (cc)
    back (play q) p e = let same : p ≡ q = cc in ap good same

pub in_none : (s : List ℕ) (at : ℕ) → length s ≤ at → play_in (drop at s) ≡ refused CUT
unfolding play_record mark_in ◌>>=◌ ◌>>◌ refuse◌when◌
in_none s at h = let e = length-drop at s in rw (lt-ltb (length (drop at s)) 2 (omega (arith, e, h)))

-- ---- the next record behind a map or a play
-- behind a play no other record can stand; behind a map a play does
module _ (r : List ℕ) (c : Counts) (low : c.bonus ≤ max_bonus) (begun : 0 < place c.last) (order : place c.last ≤ 4) where
  free : All (λ f. content_bonus f.0 ≡ 0) (play_of r)
  free = all_map (play_of r) (body_only r) (λ f a. by_content f.0 f.1 a)
    where
      by_content : (x : Content) (n : ℕ) → PlayOnly x n → content_bonus x ≡ 0
      by_content (play p) n only = refl
      by_content (header _) n x4 = elim x4 [ ]
      by_content (break _) n x5 = elim x5 [ ]
      by_content (object _) n x6 = elim x6 [ ]

  behind_play : record_with r c mark.Play ≡ play_of r
  unfolding body_of ◌>>◌ refuse◌when◌
  behind_play = simp (lt-ltb 0 (place c.last) begun, le-leb (place c.last) 4 order) (no_bonus c low (play_of r) free)

  next_record : ((word_at r 0 2 ≡ PL → ⊥) → c.last ≡ play_rank) → record_of r c ≡ play_record r
  unfolding play_record ◌>>=◌ ◌>>◌ refuse◌when◌
  next_record h = record_by_mark r c ∙ go (mark_in r) refl
    where
      other : (m : Mark) → mark_in r ≡ good m → (PL ≡ word_of m → ⊥) → c.last ≡ play_rank
      other m e n = h (λ k. n (sym k ∙ mark_word r m e))

      by_mark : (m : Mark) → mark_in r ≡ good m → record_with r c m ≡ play_marked r m
      by_mark mark.Play e = behind_play
      by_mark mark.Header e = rw (other mark.Header e (λ k. omega (arith, k)))
      by_mark mark.Break e = rw (other mark.Break e (λ k. omega (arith, k)))
      by_mark mark.Circle e = rw (other mark.Circle e (λ k. omega (arith, k)))
      by_mark mark.Slider e = rw (other mark.Slider e (λ k. omega (arith, k)))
      by_mark mark.Spinner e = rw (other mark.Spinner e (λ k. omega (arith, k)))

      go : (x : Checked Mark) → mark_in r ≡ x → (x >>= record_with r c) ≡ (x >>= play_marked r)
      go (refused n) e = refl
      go (good m) e = by_mark m e

-- ---- a reader of plays
module _ {s : List ℕ} {p : ℕ} {m : Map} (k : MapIs s p m) where
  pub reached_start : Reached k k.file
  reached_start = record { chain = k.chain; map = refl; place = first refl }

  module _ {f : File} (w : Reached k f) where
    pub begun : 0 < place f.last
    begun = go w.place
      where
        go : Place k.file f → 0 < place f.last
        go (first e) = subst (λ (g : File). 0 < place g.last) (sym e) k.begun
        go (later e h) = let z = ap place e in omega (arith, z)

    low : bonus f.map.objects ≤ max_bonus
    low = subst (λ n. bonus n.objects ≤ max_bonus) (sym w.map) (limits k).low_bonus

    module _ (h : f.at < length s) where
      next_is : found_at s f ≡ play_record (drop f.at s)
      unfolding counts_of
      next_is = next_record (drop f.at s) (counts_of f) low begun (go_last w.place) (go w.place)
        where
          go_last : Place k.file f → place f.last ≤ 4
          go_last (first e) = let l = k.no_play in let z = ap (λ (g : File). place g.last) e in omega (arith, l, z)
          go_last (later e q) = let z = ap place e in omega (arith, z)

          go : Place k.file f → (word_at (drop f.at s) 0 2 ≡ PL → ⊥) → f.last ≡ play_rank
          go (later e q) n = e
          go (first e) n = absurd (behind k.behind)
            where
              same : k.file.at ≡ f.at
              same = ap (λ (g : File). g.at) (sym e)

              behind : Behind s k.file.at → ⊥
              behind (nothing l) = omega (arith, l, same, h)
              behind (plays l q) = n (ap (λ (i : ℕ). word_at (drop i s) 0 2) (sym same) ∙ q)

      -- a play is the next record
      abbrev pub file_with : Play → File
      file_with q = with_record f (play q, 44)

      pub reached_next : (q : Play) → good q ≡ play_in (drop f.at s) → Reached k (file_with q)
      unfolding with_record
      reached_next q e = record {
        chain = longer w.chain h (next_is ∙ play_is (drop f.at s) q e);
        map = w.map;
        place = later refl (ahead w.place);
      }
        where
          ahead : Place k.file f → k.file.at < f.at + 44
          ahead (first g) = let z = ap (λ (i : File). i.at) g in omega (arith, z)
          ahead (later g l) = omega (arith, l)

      pub reached_stop : (n : Rule) → refused n ≡ play_in (drop f.at s) → file_of s ≡ refused_at n f.at f
      reached_stop n e = on_stop s f n (chain_on s f w.chain) h (next_is ∙ play_refused (drop f.at s) n e)

    module _ (h : length s ≤ f.at) where
      pub reached_end : file_of s ≡ accepted f
      reached_end = on_end s f (chain_on s f w.chain) h ∙ rw (placed_some f.last begun)

      pub end_is : f.at ≡ length s
      end_is = let i = chain_inside s f w.chain in omega (arith, i, h)

-- ---- plays leave the map as it is
module _ {s : List ℕ} {p : ℕ} {m : Map} (k : MapIs s p m) (g : File) where
  with_play : (f : File) (w : Reached k f) (h : f.at < length s) (x : Content) (n : ℕ) → found_at s f ≡ good (x, n) → PlayOnly x n → Reached k (with_record f (x, n))
  unfolding with_record
  with_play f w h (play q) n e only = record { chain = longer w.chain h e; map = w.map; place = later refl (ahead w.place) }
    where
      ahead : Place k.file f → k.file.at < f.at + 44
      ahead (first z) = let a = ap (λ (i : File). i.at) z in omega (arith, a)
      ahead (later z l) = omega (arith, l)
  with_play f w h (header _) n e x4 = elim x4 [ ]
  with_play f w h (break _) n e x5 = elim x5 [ ]
  with_play f w h (object _) n e x6 = elim x6 [ ]

  from_same : (fuel : ℕ) (f : File) → Reached k f → file_from fuel s f ≡ accepted g → g.map ≡ k.file.map
  unfolding file_from
  from_same zero f w e = cc
  from_same (suc fuel) f w e = go (λ i v q. from_same fuel i v q) (ltb f.at (length s)) refl (found_at s f) refl e
    where
      go : ((i : File) → Reached k i → file_from fuel s i ≡ accepted g → g.map ≡ k.file.map) → (b : Bool) → ltb f.at (length s) ≡ b → (x : FoundRecord) → found_at s f ≡ x
          → pick b (follow f x (λ r. file_from fuel s (with_record f r))) (ended f) ≡ accepted g → g.map ≡ k.file.map
      go more false l x q e = sym (ap (λ (i : File). i.map) (ended_is f g e)) ∙ w.map
      go more true l (refused n) q e = cc
      go more true l (good r) q e =
          let h = ltb-true f.at (length s) l in
          let only-play = all_out (subst (All (λ i. PlayOnly i.0 i.1)) (sym (next_is k w h) ∙ q) (play_only (drop f.at s))) in
          more (with_record f r) (with_play f w h r.0 r.1 q only-play) e

  pub map_same : file_of s ≡ accepted g → g.map ≡ k.file.map
  map_same e = let on = chain_on s k.file k.chain in from_same on.fuel k.file (reached_start k) (on.rest ∙ e)

-- ---- a loop over the plays keeps the file read so far
pub record ReadTo (s : List ℕ) (p : ℕ) (m : Map) (at : ℕ) : Type 0 where
  pub map : MapIs s p m
  pub file : File
  pub reached : Reached map file
  pub here : file.at ≡ at

pub map_refused : {s : List ℕ} {p : ℕ} {r : Refusal} → MapReadOf s p (refused r) → MapFileOf s p (refused r)
map_refused (map_refuses e h) = refuses e

pub map_out : {s : List ℕ} {p : ℕ} {m : Map} → MapReadOf s p (good m) → MapIs s p m
map_out (is k) = k

unfoldable pub read_start : {s : List ℕ} {p : ℕ} {m : Map} (k : MapIs s p m) → ReadTo s p m m.end
read_start k = record { map = k; file = k.file; reached = reached_start k; here = sym k.end }

module _ {s : List ℕ} {p : ℕ} {m : Map} {at : ℕ} (k : ReadTo s p m at) where
  pub there : drop at s ≡ drop k.file.at s
  there = ap (λ (n : ℕ). drop n s) (sym k.here)

  module _ (h : at < length s) where
    pub before : k.file.at < length s
    before = let e = k.here in omega (arith, e, h)

    module _ (q : Play) (e : good q ≡ play_in (drop at s)) where
      unfoldable pub read_more : ReadTo s p m (at + 44)
      unfolding with_record
      read_more = record {
        map = k.map;
        file = file_with k.map k.reached before q;
        reached = reached_next k.map k.reached before q (e ∙ ap play_in there);
        here = let i = k.here in omega (arith, i);
      }

    pub read_stop : (n : Rule) → refused n ≡ play_in (drop at s) → file_of s ≡ refused_at n at k.file
    read_stop n e = reached_stop k.map k.reached before n (e ∙ ap play_in there) ∙ ap (λ (i : ℕ). refused_at n i k.file) k.here

  pub read_end : length s ≤ at → length s ≤ k.file.at
  read_end h = let e = k.here in omega (arith, e, h)
