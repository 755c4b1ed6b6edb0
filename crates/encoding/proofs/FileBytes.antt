-- Every accepted file is the file of its map with the records of its plays behind it, byte for byte: each record that was read is written as its own
-- bytes, and the order of the records is that of the encoding; and its plays are within their limits. Assumes nothing.
use mathlib.Core.Bool.{Bool, true, false}
use mathlib.Core.List.{List, [], ◌∷◌, ◌++◌, append_assoc, append-nil}
use mathlib.Core.Path.{◌≡◌, refl, sym, ap, ap₂, ◌∙◌, subst}
use Prim.Native.Nat.{ℕ, zero, suc, ◌+◌, ◌^◌, ◌≤◌, ◌<◌}
use native.Mathlib.Omega.{arith}
use Rattle.std.specs.Prelude.{is_none}
use borrow.Author.Tests.{ltb-false, not-false}
use lib.Dec.{T, eqb, ltb}
use lib.Ieee.Bits.{of_bits-fits}
use lib.Ieee.{Float, binary64, fits, of_bits, lt, le}
use lib.ListN.{length, take, drop}
use lib.Seq.{take-add, take_all, get_or-drop}
use Rattle.numbers.specs.Words.{word_at}
use Rattle.numbers.proofs.words.Laws.{Bytes, word_at_lt}
use Rattle.rules.specs.Refusals.{good, refused, pick, CUT, MARK, PLAY_FIELD, COUNT, BONUS}
use Rattle.rules.proofs.All.{All, that, all_bind, all_any, all_when, all_pick, all_out}
use Rattle.rules.proofs.All as checked
use Rattle.play_state.specs.Play.{score_of, hitresults_of, played}
use Rattle.play_state.specs.declared.Play.{Play}
use Rattle.records.specs.Fields.{rate_of, rate_limit}
use Rattle.records.specs.Marks.{MH, BR, CI, SL, SP, PL}
use Rattle.records.specs.Records.{Content, header, break, object, play, FoundRecord, header_of, break_of, circle_of, slider_of, spinner_of, play_of, object_of}
use Rattle.map_file.specs.Order.{no_rank, place, rank_of, in_order, body_of, record_of}
use Rattle.map_file.specs.File.{File, Result, accepted, refused_at, counts_of, with_record, follow, ended, file_from, nothing_read, file_of}
use Rattle.map_file.specs.declared.file.Counts.{Counts}
use Rattle.rules.proofs.Laws.{never}
use Rattle.map_file.proofs.Ranks.{none_is, some_placed}
use Rattle.map_file.proofs.Room.{content_rank, body_placed, Begun, record_begun}
use Rattle.map_file.proofs.Reading.{found_at, found_ordered}
use Rattle.encoding.specs.Limits.{Each, none, ScoreWithin, PlayWithin}
use Rattle.encoding.specs.Encoding.{header_bytes, play_bytes, each, map_file}
use Rattle.encoding.proofs.Accepted.{IfAccepted, yes, no, each_snoc}
use Rattle.encoding.proofs.RoundTrip.{bare}
use Rattle.encoding.proofs.Written.{record_bytes, Written, record_written}

-- the bytes of a file's map and plays
abbrev pub file_bytes : File → List ℕ
file_bytes f = map_file f.map ++ each play_bytes (bare f.plays)

-- ---- a header is the first record
abbrev First : Counts → Content → Type 0
First c (header s) = c.last ≡ no_rank
First c (break b) = Unit
First c (object o) = Unit
First c (play p) = Unit

first : (c : Counts) (m : ℕ) (x : Content) → content_rank x ≡ rank_of m → in_order c.last (rank_of m) ≡ true → First c x
first c m (header s) p q = none_is c.last (rw (sym p) at q)
first c m (break b) p q = tt
first c m (object o) p q = tt
first c m (play s) p q = tt

record_first : (r : List ℕ) (c : Counts) → All (λ f. First c f.0) (record_of r c)
unfolding record_of
record_first r c =
    all_when CUT _ _ (λ _. all_when MARK _ _ (λ order. all_when COUNT _ _ (λ _.
    all_bind (body_of r (word_at r 0 2)) _ (body_placed r (word_at r 0 2)) (λ f h. all_when BONUS _ _ (λ _. that (first c (word_at r 0 2) f.0 h (not-false _ order)))))))

-- ---- a play that was read is within its limits
abbrev PlayFields : Content → Type 0
PlayFields (header s) = Unit
PlayFields (break b) = Unit
PlayFields (object o) = Unit
PlayFields (play p) = PlayWithin p

score_within : (present n : ℕ) → n < 2 ^ 32 → All ScoreWithin (played (score_of present n))
score_within present n h = go (eqb present 1) refl (eqb present 0) refl (eqb n 0) refl
  where
    go : (x : Bool) → eqb present 1 ≡ x → (y : Bool) → eqb present 0 ≡ y → (z : Bool) → eqb n 0 ≡ z → All ScoreWithin (played (score_of present n))
    go true e y f z g = rw e (that h)
    go false e true f true g = rw (e, f, g) (that tt)
    go false e true f false g = rw (e, f, g) checked.none
    go false e false f z g = rw (e, f) checked.none

abbrev IsRate : Float → Type 0
IsRate x = T (fits binary64 x) × (lt (of_bits binary64 0) x ≡ true) × (le x rate_limit ≡ true)

rate_within : (b : ℕ) → All IsRate (played (rate_of b))
rate_within b = go (lt (of_bits binary64 0) (of_bits binary64 b)) refl (le (of_bits binary64 b) rate_limit) refl
  where
    go : (p : Bool) → lt (of_bits binary64 0) (of_bits binary64 b) ≡ p → (q : Bool) → le (of_bits binary64 b) rate_limit ≡ q → All IsRate (played (rate_of b))
    go true e true f = rw (e, f) (that (of_bits-fits binary64 b, e, f))
    go true e false f = rw (e, f) checked.none
    go false e q f = rw e checked.none

module _ (r : List ℕ) (b : Bytes r) where
  play_fields_lem : All (λ f. PlayFields f.0) (play_of r)
  unfolding play_of hitresults_of
  play_fields_lem =
      all_when CUT _ _ (λ _. all_any _ _ (λ o. all_bind _ _ (score_within (word_at r 29 1) (word_at r 30 4) (word_at_lt r 30 4 b)) (λ s sw.
      all_when PLAY_FIELD _ _ (λ known. all_bind _ _ (rate_within (word_at r 36 8)) (λ x rate.
      that (record {
        sized = record {
          passed = word_at_lt r 2 2 b;
          combo = word_at_lt r 4 4 b;
          hits = record {
            n300 = word_at_lt r 8 2 b;
            n100 = word_at_lt r 10 2 b;
            n50 = word_at_lt r 12 2 b;
            misses = word_at_lt r 14 2 b;
            large = word_at_lt r 16 4 b;
            small = word_at_lt r 20 4 b;
            ends = word_at_lt r 24 4 b;
          };
          score = sw;
          mods = record { flags = word_at_lt r 34 2 b; held = rate.0 };
        };
        mods = record { known = known; above = rate.1; below = rate.2 };
      }))))))

  body_fields : (m : ℕ) → All (λ f. PlayFields f.0) (body_of r m)
  unfolding body_of header_of break_of object_of circle_of slider_of spinner_of
  body_fields m =
      all_pick (eqb m MH) (λ _. all_when CUT _ _ (λ _. all_any _ _ (λ hp. all_any _ _ (λ od. all_any _ _ (λ cs. that tt))))) (λ _.
      all_pick (eqb m BR) (λ _. all_when CUT _ _ (λ _. all_any _ _ (λ x. all_any _ _ (λ y. that tt)))) (λ _.
      all_pick (eqb m PL) (λ _. play_fields_lem) (λ _.
      all_pick (eqb m CI) (λ _. all_when CUT _ _ (λ _. all_any _ _ (λ x. that tt))) (λ _.
      all_pick (eqb m SL) (λ _. all_when CUT _ _ (λ _. all_any _ _ (λ x. all_when COUNT _ _ (λ _. all_when CUT _ _ (λ _. all_any _ _ (λ is. that tt)))))) (λ _.
      all_pick (eqb m SP) (λ _. all_when CUT _ _ (λ _. all_any _ _ (λ x. all_any _ _ (λ d. that tt)))) (λ _. checked.none))))))

  record_fields : (c : Counts) → All (λ f. PlayFields f.0) (record_of r c)
  unfolding record_of
  record_fields c =
      all_when CUT _ _ (λ _. all_when MARK _ _ (λ _. all_when COUNT _ _ (λ _. all_bind (body_of r (word_at r 0 2)) _ (body_fields (word_at r 0 2)) (λ f h. all_when BONUS _ _ (λ _. that h)))))

-- ---- what was read so far
record Held (s : List ℕ) (f : File) : Type 0 where
  start : f.last ≡ no_rank → (f.at ≡ 0) × (f.map.breaks ≡ []) × (f.map.objects ≡ []) × (f.plays ≡ [])
  early : place f.last ≤ 2 → f.map.objects ≡ []
  middle : place f.last ≤ 3 → f.plays ≡ []
  same : 0 < place f.last → take f.at s ≡ file_bytes f
  plays : Each PlayWithin (bare f.plays)

pub written_snoc : {A : Type 0} (g : A → List ℕ) (l : List A) (x : A) → each g (l ++ (x ∷ [])) ≡ each g l ++ g x
unfolding each
written_snoc g [] x = append-nil (g x)
written_snoc g (y ∷ l) x = ap (λ (t : List ℕ). g y ++ t) (written_snoc g l x) ∙ sym (append_assoc (g y) (each g l) (g x))

bare_snoc : (l : List (ℕ × Play)) (at : ℕ) (p : Play) → bare (l ++ ((at, p) ∷ [])) ≡ bare l ++ (p ∷ [])
unfolding bare
bare_snoc [] at p = refl
bare_snoc (x ∷ l) at p = ap (λ (t : List Play). x.1 ∷ t) (bare_snoc l at p)

held_with : (s : List ℕ) (f : File) (x : Content) (n : ℕ) → First (counts_of f) x → Begun (counts_of f) x → place f.last ≤ place (content_rank x) → PlayFields x
    → take n (drop f.at s) ≡ record_bytes x → Held s f → Held s (with_record f (x, n))
unfolding with_record map_file each bare counts_of
held_with s f (header t) n head some low fields e h =
    let z = h.start head in
    let none_before : 0 + n ≡ n = omega arith in
    let bytes : take n s ≡ header_bytes t = subst (λ (k : ℕ). take n (drop k s) ≡ header_bytes t) z.0 e in
    record {
      start = λ k. never (cc);
      early = λ _. z.2;
      middle = λ _. z.3;
      same = λ _. simp (z.0, z.1, z.2, z.3, none_before, append-nil) bytes;
      plays = h.plays;
    }
held_with s f (break b) n head some low fields e h =
    let os = h.early low in
    let ps = h.middle (omega (arith, low)) in
    record {
      start = λ k. never (cc);
      early = λ _. os;
      middle = λ _. ps;
      same = λ _. take-add f.at n s ∙ ap₂ (λ (x y : List ℕ). x ++ y) (h.same some) e ∙ simp (os, ps, written_snoc, append-nil, append_assoc);
      plays = h.plays;
    }
held_with s f (object o) n head some low fields e h =
    let ps = h.middle low in
    record {
      start = λ k. never (cc);
      early = λ k. absurd (omega (arith, k));
      middle = λ _. ps;
      same = λ _. take-add f.at n s ∙ ap₂ (λ (x y : List ℕ). x ++ y) (h.same some) e ∙ simp (ps, written_snoc, append-nil, append_assoc);
      plays = h.plays;
    }
held_with s f (play p) n head some low fields e h =
    record {
      start = λ k. never (cc);
      early = λ k. absurd (omega (arith, k));
      middle = λ k. absurd (omega (arith, k));
      same = λ _. take-add f.at n s ∙ ap₂ (λ (x y : List ℕ). x ++ y) (h.same some) e ∙ simp (bare_snoc, written_snoc, append_assoc);
      plays = subst (Each PlayWithin) (sym (bare_snoc f.plays f.at p)) (each_snoc (bare f.plays) p h.plays fields);
    }

-- ---- the whole file
bytes_drop : (k : ℕ) (s : List ℕ) → Bytes s → Bytes (drop k s)
bytes_drop k s b i = subst (λ (x : ℕ). x < 256) (sym (get_or-drop k s i 0)) (b (k + i))

module _ (s : List ℕ) (b : Bytes s) where
  abbrev Whole : Result → Type 0
  Whole = IfAccepted (λ g. (s ≡ file_bytes g) × Each PlayWithin (bare g.plays))

  held_found : (f : File) (r : Content × ℕ) → found_at s f ≡ good r → Held s f → Held s (with_record f r)
  held_found f r e h =
      let c = counts_of f in
      let l = drop f.at s in
      held_with s f r.0 r.1
      (all_out (subst (All (λ q. First c q.0)) e (record_first l c)))
      (all_out (subst (All (λ q. Begun c q.0)) e (record_begun l c)))
      (found_ordered s f r e)
      (all_out (subst (All (λ q. PlayFields q.0)) e (record_fields l (bytes_drop f.at s b) c)))
      (all_out (subst (All (Written l)) e (record_written l (bytes_drop f.at s b) c)))
      h

  ended-whole : (f : File) → length s ≤ f.at → Held s f → Whole (ended f)
  ended-whole f all h = go (is_none f.last) refl
    where
      go : (t : Bool) → is_none f.last ≡ t → Whole (pick t (refused_at MARK 0 f) (accepted f))
      go true e = no
      go false e = yes (sym (take_all f.at s all) ∙ h.same (some_placed f.last e), h.plays)

  whole_from : (fuel : ℕ) (f : File) → Held s f → Whole (file_from fuel s f)
  unfolding file_from
  whole_from zero f h = no
  whole_from (suc fuel) f h = go (λ r e. whole_from fuel (with_record f r) (held_found f r e h)) (ltb f.at (length s)) refl (found_at s f) refl
    where
      go : ((r : Content × ℕ) → found_at s f ≡ good r → Whole (file_from fuel s (with_record f r)))
          → (t : Bool) → ltb f.at (length s) ≡ t → (x : FoundRecord) → found_at s f ≡ x
          → Whole (pick t (follow f x (λ r. file_from fuel s (with_record f r))) (ended f))
      go more true q (refused n) e = no
      go more true q (good r) e = more r e
      go more false q x e = ended-whole f (ltb-false f.at (length s) q) h

  pub accepted_bytes : (f : File) → file_of s ≡ accepted f → (s ≡ file_bytes f) × Each PlayWithin (bare f.plays)
  unfolding file_of bare
  accepted_bytes f e = out (rw e at (whole_from (suc (length s)) nothing_read begin))
    where
      begin : Held s nothing_read
      begin = record { start = λ _. (refl, refl, refl, refl); early = λ _. refl; middle = λ _. refl; same = λ k. absurd (omega (arith, k)); plays = none }

      out : {f : File} → Whole (accepted f) → (s ≡ file_bytes f) × Each PlayWithin (bare f.plays)
      out (yes p) = p
