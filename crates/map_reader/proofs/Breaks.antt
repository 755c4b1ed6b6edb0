-- The header of a map and the breaks behind it: what the code read of them is what the definition reads.
use Rattle.rules.specs.declared.refusal.Rule.{Rule}
use mathlib.Core.Path.{◌≡◌, refl, sym, ap, ◌∙◌, subst}
use mathlib.Core.Bool.{Bool, true, false}
use mathlib.Core.List.{List, []}
use Prim.Native.Nat.{ℕ, zero, suc, ◌+◌, ◌≤◌, ◌<◌}
use native.Mathlib.Omega.{arith}
use borrow.Author.Tests.{eqb-true, ltb-false, eqb-false}
use lib.Dec.{eqb}
use lib.ListN.{length, drop, length-drop}
use Rattle.std.specs.Prelude.{is_ok}
use Rattle.numbers.specs.Words.{word_at}
use Rattle.rules.specs.Limits.{max_breaks}
use Rattle.rules.specs.Refusals.{good, refused, ◌>>=◌, pick, CUT, MARK}
use Rattle.rules.proofs.All.{All, that, all_any, all_when, all_out}
use Rattle.rules.proofs.Laws.{and_left, and_right}
use Rattle.records.specs.Marks.{BR}
use Rattle.records.specs.Objects.{bonus}
use Rattle.records.specs.Records.{Content, header, break, object, play, FoundRecord, break_of, content_view}
use Rattle.records.specs.declared.beatmap.Settings.{Settings}
use Rattle.records.specs.declared.beatmap.BreakPeriod.{BreakPeriod}
use Rattle.map_file.specs.Order.{place, record_of}
use Rattle.map_file.specs.File.{File, counts_of, with_record, nothing_read, refused_at, file_of}
use Rattle.map_file.specs.View.{Fits, fresh_of}
use Rattle.map_file.proofs.Reading.{Chain, chain_inside, start, longer, on_start, on_stop, on_end, found_at, length_snoc}
use Rattle.map_file.proofs.Room.{record_fits, Begun, record_begun}
use Rattle.map_reader.specs.Map.{objects_from, head_with, head_in, is_break, breaks_after, breaks_count}
use Rattle.map_reader.proofs.Records.{break_good, found_break}
use Rattle.map_reader.proofs.Files.{chain_standing, NoBreak}

-- ---- the breaks: what was read of a map before its objects
pub record BreaksAt (s : List ℕ) (t : Settings) (count : ℕ) (f : File) : Type 0 where
  pub chain : Chain s f
  pub begun : 0 < place f.last
  pub early : place f.last ≤ 2
  pub settings : f.map.settings ≡ t
  pub breaks : length f.map.breaks ≡ count
  pub objects : f.map.objects ≡ []

pub breaks_place : {s : List ℕ} {t : Settings} {count : ℕ} {f : File} → BreaksAt s t count f → f.at ≡ objects_from count
breaks_place {s = s} {f = f} k =
    let e = (chain_standing s f k.chain).stands k.begun k.early in
    let b = k.breaks in
    omega (arith, e, b)

data BreakOnly (r : List ℕ) : Content → ℕ → Type 0 where
  only : {b : BreakPeriod} → 18 ≤ length r → BreakOnly r (break b) 18

break_only : (r : List ℕ) → All (λ f. BreakOnly r f.0 f.1) (break_of r)
unfolding break_of
break_only r = all_when CUT _ _ (λ e. all_any _ _ (λ a. all_any _ _ (λ b. that (only (ltb-false (length r) 18 e)))))

-- a break that the code takes
record BreakRead (r : List ℕ) : Type 0 where
  b : BreakPeriod
  mark : word_at r 0 2 ≡ BR
  found : break_of r ≡ good (break b, 18)
  long : 18 ≤ length r

break_read : (r : List ℕ) → is_break r ≡ true → BreakRead r
unfolding is_break
break_read r e = go (break_of r) refl (break_only r) (and_right (eqb (word_at r 0 2) BR) (is_ok (break_of r)) e)
  where
    mark_is : word_at r 0 2 ≡ BR
    mark_is = eqb-true (word_at r 0 2) BR (and_left (eqb (word_at r 0 2) BR) (is_ok (break_of r)) e)

    by_content : (x : Content) (n : ℕ) → BreakOnly r x n → break_of r ≡ good (x, n) → BreakRead r
    by_content (break b) n (only h) q = record { b = b; mark = mark_is; found = q; long = h }
    by_content (header _) n x4 q = elim x4 [ ]
    by_content (object _) n x5 q = elim x5 [ ]
    by_content (play _) n x6 q = elim x6 [ ]

    go : (x : FoundRecord) → break_of r ≡ x → All (λ f. BreakOnly r f.0 f.1) x → is_ok x ≡ true → BreakRead r
    go (refused n) q a h = cc
    go (good f) q a h = by_content f.0 f.1 (all_out a) q

break_not : (r : List ℕ) (b : BreakPeriod) (n : ℕ) → is_break r ≡ false → word_at r 0 2 ≡ BR → break_of r ≡ good (break b, n) → ⊥
unfolding is_break
break_not r b n e m q = let z = simp (m, q) at e in cc

module _ {s : List ℕ} {t : Settings} {count : ℕ} {f : File} (k : BreaksAt s t count f) where
  abbrev rest : List ℕ
  rest = drop (objects_from count) s

  here : drop f.at s ≡ rest
  here = ap (λ (n : ℕ). drop n s) (breaks_place k)

  no_bonus_lem : bonus f.map.objects ≡ 0
  unfolding bonus
  no_bonus_lem = ap bonus k.objects

  module _ (h : count < max_breaks) (e : is_break rest ≡ true) where
    abbrev taken : BreakRead rest
    taken = break_read rest e

    abbrev file_with : File
    file_with = with_record f (break taken.b, 18)

    found_is : found_at s f ≡ good (break taken.b, 18)
    unfolding counts_of
    found_is =
        let two = taken.long in
        let z = no_bonus_lem in
        let n = k.breaks in
        ap (λ (l : List ℕ). record_of l (counts_of f)) here
        ∙ break_good rest (counts_of f) (omega (arith, two)) taken.b taken.mark taken.found k.begun k.early (omega (arith, n, h)) (omega (arith, z))

    breaks_more : BreaksAt s t (count + 1) file_with
    unfolding with_record
    breaks_more =
        let place = breaks_place k in
        let long = taken.long in
        let room = length-drop (objects_from count) s in
        let n = k.breaks in
        let more = length_snoc f.map.breaks taken.b in
        record {
          chain = longer k.chain (omega (arith, place, long, room)) found_is;
          begun = omega arith;
          early = omega arith;
          settings = k.settings;
          breaks = omega (arith, n, more);
          objects = k.objects;
        }

  breaks_no_more : is_break rest ≡ false → NoBreak s f
  breaks_no_more e b n q =
      let found = found_break (drop f.at s) (counts_of f) b n q in
      let at = here in
      break_not rest b n e (ap (λ (l : List ℕ). word_at l 0 2) (sym at) ∙ found.0) (ap break_of (sym at) ∙ found.1)

  breaks_full : max_breaks ≤ count → NoBreak s f
  unfolding counts_of
  breaks_full h b n q =
      let fits = all_out (subst (All (λ g. Fits (counts_of f) (content_view g.0))) q (record_fits (drop f.at s) (counts_of f))) in
      let m = k.breaks in
      omega (arith, fits, m, h)

pub record BreaksEnd (s : List ℕ) (t : Settings) (count : ℕ) : Type 0 where
  pub file : File
  pub at : BreaksAt s t count file
  pub no_break : NoBreak s file

breaks_ran : (n : ℕ) (s : List ℕ) (t : Settings) (count : ℕ) (f : File) → n + count ≡ max_breaks → BreaksAt s t count f → BreaksEnd s t (breaks_after n s count)
unfolding breaks_after
breaks_ran zero s t count f e k = record { file = f; at = k; no_break = breaks_full k (omega (arith, e)) }
breaks_ran (suc n) s t count f e k = go (λ g m. breaks_ran n s t (count + 1) g (omega (arith, e)) m) (is_break (drop (objects_from count) s)) refl
  where
    go : ((g : File) → BreaksAt s t (count + 1) g → BreaksEnd s t (breaks_after n s (count + 1))) → (b : Bool) → is_break (drop (objects_from count) s) ≡ b
        → BreaksEnd s t (elim b [ true ↦ breaks_after n s (count + 1) | false ↦ count ])
    go more true q = more (file_with k (omega (arith, e)) q) (breaks_more k (omega (arith, e)) q)
    go more false q = record { file = f; at = k; no_break = breaks_no_more k q }

-- ---- the header
record HeadRead (s : List ℕ) (t : Settings) : Type 0 where
  file : File
  at : BreaksAt s t 0 file

head_read : (s : List ℕ) (t : Settings) → good t ≡ head_in s → HeadRead s t
unfolding head_in counts_of bonus with_record ◌>>=◌
head_read s t e = by_length (eqb (length s) 0) refl e
  where
    by_content : 0 < length s → (x : Content) (n : ℕ) → record_of s fresh_of.counts ≡ good (x, n) → good t ≡ head_with x → HeadRead s t
    by_content h (header u) n q e =
        let same : t ≡ u = cc in
        record {
          file = with_record nothing_read (header u, n);
          at = record { chain = longer start h q; begun = omega arith; early = omega arith; settings = sym same; breaks = refl; objects = refl };
        }
    by_content h (break b) n q e = cc
    by_content h (object o) n q e = cc
    by_content h (play p) n q e = cc

    by_found : 0 < length s → (x : FoundRecord) → record_of s fresh_of.counts ≡ x → good t ≡ (x >>= (λ f. head_with f.0)) → HeadRead s t
    by_found h (refused m) q e = cc
    by_found h (good f) q e = by_content h f.0 f.1 q e

    by_length : (b : Bool) → eqb (length s) 0 ≡ b → good t ≡ pick b (refused MARK) (record_of s fresh_of.counts >>= (λ f. head_with f.0)) → HeadRead s t
    by_length true q e = cc
    by_length false q e = by_found (omega (arith, eqb-false (length s) 0 q)) (record_of s fresh_of.counts) refl e

pub head_refuses : (s : List ℕ) (n : Rule) → refused n ≡ head_in s → file_of s ≡ refused_at n 0 nothing_read
unfolding head_in counts_of bonus ◌>>=◌
head_refuses s n e = by_length (eqb (length s) 0) refl e
  where
    by_content : (x : Content) (m : ℕ) → Begun fresh_of.counts x → refused n ≡ head_with x → ⊥
    by_content (header t) m b e = cc
    by_content (break x) m b e = omega (arith, b)
    by_content (object o) m b e = omega (arith, b)
    by_content (play p) m b e = omega (arith, b)

    by_found : 0 < length s → (x : FoundRecord) → record_of s fresh_of.counts ≡ x → refused n ≡ (x >>= (λ f. head_with f.0)) → file_of s ≡ refused_at n 0 nothing_read
    by_found h (refused m) q e = let k : n ≡ m = cc in on_stop s nothing_read m (on_start s) h q ∙ ap (λ (i : Rule). refused_at i 0 nothing_read) (sym k)
    by_found h (good f) q e = absurd (by_content f.0 f.1 (all_out (subst (All (λ g. Begun fresh_of.counts g.0)) q (record_begun s fresh_of.counts))) e)

    by_length : (b : Bool) → eqb (length s) 0 ≡ b → refused n ≡ pick b (refused MARK) (record_of s fresh_of.counts >>= (λ f. head_with f.0)) → file_of s ≡ refused_at n 0 nothing_read
    by_length true q e =
        let k : n ≡ MARK = cc in
        let z = eqb-true (length s) 0 q in
        on_end s nothing_read (on_start s) (omega (arith, z)) ∙ ap (λ (i : Rule). refused_at i 0 nothing_read) (sym k)
    by_length false q e = by_found (omega (arith, eqb-false (length s) 0 q)) (record_of s fresh_of.counts) refl e

pub head_reads : (s : List ℕ) (t : Settings) → good t ≡ head_in s → BreaksEnd s t (breaks_count s)
head_reads s t e = let read = head_read s t e in breaks_ran max_breaks s t 0 read.file (omega arith) read.at

-- the objects begin within the file
pub breaks_inside : {s : List ℕ} {t : Settings} {count : ℕ} → BreaksEnd s t count → objects_from count ≤ length s
breaks_inside {s = s} k = let e = breaks_place k.at in let h = chain_inside s k.file k.at.chain in omega (arith, e, h)
