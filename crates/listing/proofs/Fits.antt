-- The listing of any input leaves room in the program's space: a line is short, a play takes 44 bytes of the input, and a longer input than 65,536
-- bytes gets one line. Assumes nothing.
use Rattle.rules.specs.declared.refusal.Rule.{Rule}
use Rattle.rules.specs.declared.refusal.Refusal.{Refusal}
use Rattle.std.specs.Prelude.{Some, is_none}
use mathlib.Core.Path.{◌≡◌, refl, ap, ◌∙◌, subst}
use mathlib.Core.Bool.{Bool, true, false}
use mathlib.Core.List.{List, [], ◌∷◌, ◌++◌}
use Prim.Native.Nat.{ℕ, zero, suc, ◌+◌, ◌*◌, ◌^◌, ◌≤◌, ◌<◌}
use native.Mathlib.Omega.{arith}
use borrow.Author.Tests.{ltb-false, lt-ltb}
use lib.Dec.{ltb}
use lib.ListN.{length, take, length-append, length-drop}
use Rattle.rules.specs.Limits.{max_objects}
use Rattle.rules.specs.Refusals.{Checked, good, refused, ◌>>=◌, ◌>>◌, OrRefusal, refusal_at, pick, MARK, INPUT, at_offset}
use Rattle.records.specs.Objects.{Object}
use Rattle.records.specs.Records.{Content, header, break, object, play, FoundRecord}
use Rattle.map_file.specs.File.{Map, File, Result, accepted, refused_at, with_record, follow, ended, file_from, nothing_read, file_of}
use Rattle.play_state.specs.declared.Play.{Play}
use Rattle.rules.proofs.Laws.{never}
use Rattle.map_file.proofs.Reading.{found_at, found_sized, length_snoc}
use Rattle.map_file.proofs.Sizes.{SizeBy}
use Rattle.encoding.specs.Limits.{MapWithin, Each, none as no_more, one}
use Rattle.ruleset.specs.Stars.{multiplier_at}
use Rattle.ruleset.proofs.Drains.{multiplier_most}
use Rattle.simulator.specs.Walk.{State, fresh as no_hit, after}
use Rattle.simulator.specs.Attributes.{score_attributes_at, score_attributes_of, legacy_attributes_of}
use Rattle.simulator.specs.View.{times}
use Rattle.simulator.proofs.Bounds.{product_fits}
use Rattle.simulator.proofs.Few.{each_few, passed-within, passed_counted}
use Rattle.simulator.proofs.Walks.{after-times, fresh-times}
use Rattle.scoring.specs.Scores.{Scores, play_score_on, play_scores, scores_of}
use Rattle.play_score.specs.declared.PlayScore.{PlayScore}
use Rattle.scoring.proofs.Answers.{no_number, values_within}
use Rattle.lines.specs.Lines.{refused_line}
use Rattle.lines.proofs.Lengths.{Words, length-map_line, length-play_line, length-refused_line}
use Rattle.listing.specs.Listing.{play_lines, text_of, file_text, input_text, listed_of}

-- ---- the numbers of a map's line
module _ (m : Map) (p : ℕ) (w : MapWithin m) where
  abbrev k : ℕ
  k = multiplier_at m p

  abbrev os : List Object
  os = take p m.objects

  walked : after k no_hit os ≡ times k (after 1 no_hit os)
  walked = ap (λ (st : State). after k st os) (fresh-times k) ∙ after-times k no_hit os

  words : Words (score_attributes_at m p)
  unfolding score_attributes_at score_attributes_of legacy_attributes_of
  words =
      let few = each_few m.objects w.objects in
      let sums = passed-within p max_objects m.objects w.few_objects (omega arith) few in
      let counts = passed_counted p max_objects m.objects w.few_objects (omega arith) few in
      rw walked record {
        count = omega (arith, counts.objects);
        multiplier = omega (arith, multiplier_most m p w);
        accuracy = omega (arith, sums.accuracy);
        combo_points_fit = product_fits (after 1 no_hit os).combo_score k (omega (arith, sums.points)) (multiplier_most m p w);
        bonus = omega (arith, sums.legacy);
        max_combo_fits = omega (arith, sums.combo);
      }

-- ---- the plays of a file: 44 bytes each
-- what was read so far lies within the file, and so do its plays
record Held (s : List ℕ) (f : File) : Type 0 where
  inside : f.at ≤ length s
  plays : 44 * length f.plays ≤ f.at
  offsets : Each (λ (p : ℕ × Play). p.0 ≤ length s) f.plays

each_snoc : {A : Type 0} {P : A → Type 0} (l : List A) (x : A) → Each P l → P x → Each P (l ++ (x ∷ []))
each_snoc [] x no_more h = one h no_more
each_snoc (y ∷ l) x (one k w) h = one k (each_snoc l x w h)

held_with : (s : List ℕ) (f : File) (x : Content) (n : ℕ) → f.at + n ≤ length s → SizeBy x n → Held s f → Held s (with_record f (x, n))
unfolding with_record
held_with s f (header t) n h e k = record { inside = h; plays = omega (arith, k.plays); offsets = k.offsets }
held_with s f (break b) n h e k = record { inside = h; plays = omega (arith, k.plays); offsets = k.offsets }
held_with s f (object o) n h e k = record { inside = h; plays = omega (arith, k.plays); offsets = k.offsets }
held_with s f (play p) n h e k =
    let more = length_snoc f.plays (f.at, p) in
    record { inside = h; plays = omega (arith, k.plays, more, e); offsets = each_snoc f.plays (f.at, p) k.offsets k.inside }

data HeldFile (s : List ℕ) : Result → Type 0 where
  whole : {f : File} → Held s f → HeldFile s (accepted f)
  part : {n : Rule} {at : ℕ} {f : File} → at ≤ length s → Held s f → HeldFile s (refused_at n at f)

held_ended : (s : List ℕ) (f : File) → Held s f → HeldFile s (ended f)
held_ended s f k = go (is_none f.last)
  where
    go : (b : Bool) → HeldFile s (pick b (refused_at MARK 0 f) (accepted f))
    go true = part {at = 0} (omega arith) k
    go false = whole k

held_from : (fuel : ℕ) (s : List ℕ) (f : File) → Held s f → HeldFile s (file_from fuel s f)
unfolding file_from
held_from zero s f k = part {at = 0} (omega arith) k
held_from (suc fuel) s f k = go (λ r q. held_from fuel s (with_record f r) (next r q)) (ltb f.at (length s)) (found_at s f) refl
  where
    next : (r : Content × ℕ) → found_at s f ≡ good r → Held s (with_record f r)
    next r q =
        let sized = found_sized s f r q in
        let room = length-drop f.at s in
        held_with s f r.0 r.1 (omega (arith, sized.1, room, k.inside)) sized.2 k

    go : ((r : Content × ℕ) → found_at s f ≡ good r → HeldFile s (file_from fuel s (with_record f r)))
        → (b : Bool) (x : FoundRecord) → found_at s f ≡ x → HeldFile s (pick b (follow f x (λ r. file_from fuel s (with_record f r))) (ended f))
    go more false x q = held_ended s f k
    go more true (refused n) q = part k.inside k
    go more true (good r) q = more r q

held_file : (s : List ℕ) → HeldFile s (file_of s)
unfolding file_of
held_file s = held_from (suc (length s)) s nothing_read (record { inside = omega arith; plays = omega arith; offsets = no_more })

-- ---- so a refusal's offset lies within the file, and the scores are as many as the plays
data HeldScores (s : List ℕ) (count : ℕ) : OrRefusal (List PlayScore) → Type 0 where
  some : {ss : List PlayScore} → length ss ≡ count → HeldScores s count (good ss)
  stop : {r : Refusal} → r.offset ≤ length s → HeldScores s count (refused r)

held_scores : (s : List ℕ) (m : Map) (ps : List (ℕ × Play)) → Each (λ (p : ℕ × Play). p.0 ≤ length s) ps → HeldScores s (length ps) (play_scores m ps)
unfolding play_scores ◌>>=◌
held_scores s m [] w = some refl
held_scores s m (p ∷ ps) (one h w) = go (play_score_on m p.1) (play_scores m ps) (held_scores s m ps w)
  where
    go : (x : Checked PlayScore) (y : OrRefusal (List PlayScore)) → HeldScores s (length ps) y
        → HeldScores s (suc (length ps)) (at_offset p.0 x >>= λ t. y >>= λ ts. good (t ∷ ts))
    go (refused n) y k = stop h
    go (good t) (refused r) (stop le) = stop le
    go (good t) (good ts) (some e) = some (ap suc e)

refusal_inside : (s : List ℕ) (r : Refusal) → scores_of (file_of s) ≡ refused r → r.offset ≤ length s
unfolding ◌>>=◌ ◌>>◌
refusal_inside s r e = go (file_of s) (held_file s) e
  where
    same : {q : Refusal} → ◌≡◌ {A = OrRefusal Scores} (refused q) (refused r) → q.offset ≤ length s → r.offset ≤ length s
    same {q} e h = let is : q ≡ r = cc in subst (λ (a : Refusal). a.offset ≤ length s) is h

    good_lem : (m : Map) (c : ℕ) (x : OrRefusal (List PlayScore)) → HeldScores s c x → ◌≡◌ {A = OrRefusal Scores} (x >>= λ ss. good (record { map = m; plays = ss })) (refused r) → r.offset ≤ length s
    good_lem m c (refused q) (stop h) e = same e h
    good_lem m c (good ss) k e = never (cc)

    refused_lem : (q : Refusal) → q.offset ≤ length s → (c : ℕ) (x : OrRefusal (List PlayScore)) → HeldScores s c x → ◌≡◌ {A = OrRefusal Scores} (x >> refused q) (refused r) → r.offset ≤ length s
    refused_lem q at c (refused p) (stop h) e = same e h
    refused_lem q at c (good ss) k e = same e at

    go : (f : Result) → HeldFile s f → scores_of f ≡ refused r → r.offset ≤ length s
    go (accepted f) (whole k) e = good_lem f.map _ (play_scores f.map f.plays) (held_scores s f.map f.plays k.offsets) e
    go (refused_at m o f) (part h k) e = refused_lem (refusal_at m o) h _ (play_scores f.map f.plays) (held_scores s f.map f.plays k.offsets) e

few_plays : (s : List ℕ) (sc : Scores) → scores_of (file_of s) ≡ good sc → 44 * length sc.plays ≤ length s
few_plays s sc e =
    let k = no_number s sc e in
    let held = out (subst (HeldFile s) k.read (held_file s)) in
    let count = counted (subst (HeldScores s (length k.file.plays)) k.plays (held_scores s k.file.map k.file.plays held.offsets)) in
    omega (arith, held.inside, held.plays, count)
  where
    out : {f : File} → HeldFile s (accepted f) → Held s f
    out (whole k) = k

    counted : {c : ℕ} {ss : List PlayScore} → HeldScores s c (good ss) → length ss ≡ c
    counted (some e) = e

-- ---- the text
lines_short : (i : ℕ) (ss : List PlayScore) → i + length ss < 2 ^ 64 → length (play_lines i ss) ≤ 94 * length ss
unfolding play_lines
lines_short i [] h = omega arith
lines_short i (s ∷ ss) h =
    let line = length-play_line i s.estimates (omega (arith, h)) in
    let rest = lines_short (suc i) ss (omega (arith, h)) in
    simp length-append (omega (arith, line, rest))

text_short : (s : List ℕ) → length s ≤ 65536 → length (file_text s) < 262144
unfolding file_text
text_short s h = go (scores_of (file_of s)) refl
  where
    go : (x : OrRefusal Scores) → scores_of (file_of s) ≡ x → length (text_of x) < 262144
    go (refused r) e =
        let inside = refusal_inside s r e in
        let line = length-refused_line r (omega (arith, inside, h)) in
        omega (arith, line)
    go (good sc) e =
        let few = few_plays s sc e in
        let first = length-map_line _ (words sc.map (length sc.map.objects) (values_within s sc e)) in
        let rest = lines_short 0 sc.plays (omega (arith, few, h)) in
        simp length-append (omega (arith, first, rest, few, h))

pub listing_short : (s : List ℕ) → length (input_text s) < 262144
unfolding input_text
listing_short s = go (ltb 65536 (length s)) refl
  where
    go : (b : Bool) → ltb 65536 (length s) ≡ b → length (pick b (refused_line (refusal_at INPUT 0)) (file_text s)) < 262144
    go true e = let line = length-refused_line (refusal_at INPUT 0) (omega arith) in omega (arith, line)
    go false e = text_short s (ltb-false 65536 (length s) e)

pub listing_told : (s : List ℕ) → listed_of (input_text s) 262144 ≡ Some (length (input_text s))
listing_told s = simp (lt-ltb (length (input_text s)) 262144 (listing_short s))
