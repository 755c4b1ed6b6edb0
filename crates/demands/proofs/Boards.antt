-- What follows from the calls' definitions: a build of an accepted map is done, one edit leads between neighbouring maps, an edit touches little, and
-- a board that a map has gets no 13.
use mathlib.Core.Bool.{Bool, true, false, not, cond}
use mathlib.Core.List.{List, [], ◌∷◌, ◌++◌, append-nil}
use mathlib.Core.Logic.{◌≢◌}
use mathlib.Core.Path.{◌≡◌, refl, sym, ap, ap₂, ◌∙◌, subst}
use Prim.Native.Nat.{ℕ, zero, suc, ◌+◌, ◌*◌, ◌/◌, ◌^◌, ◌≤◌, ◌<◌}
use native.Mathlib.Nat.{not-suc-le-zero, le_of_suc-le-suc}
use native.Mathlib.Omega.{arith}
use borrow.Author.Tests.{lt-ltb, le-ltb, ne_eqb, leb-false}
use lib.Dec.{ltb, leb}
use lib.Ieee.{Float, nan}
use lib.ListN.{length, drop, get_or, set, length-append}
use lib.Seq.{get_or-set_other}
use Rattle.numbers.specs.Words.{word_at}
use Rattle.rules.specs.Refusals.{Checked, good, refused, ◌>>=◌, ◌>>◌, refuse◌when◌, OrRefusal, refusal_at, at_0, number_of, CUT, MARK, BONUS, PLACE, BOARD}
use Rattle.rules.specs.declared.refusal.Refusal.{Refusal}
use Rattle.rules.proofs.Laws.{never}
use Rattle.play_state.specs.declared.Play.{Play}
use Rattle.records.specs.Objects.{Object, Kind, circle, slider, spinner}
use Rattle.records.specs.Records.{Content, header, break, object, play, object_of}
use Rattle.map_file.specs.File.{Map, file_of}
use Rattle.encoding.specs.Encoding.{fields_of, circle_fields, slider_fields, spinner_fields, nested_bytes, kind_bytes, object_bytes, map_file}
use Rattle.encoding.specs.Limits.{Each, one, ObjectWithin, MapWithin}
use Rattle.encoding.proofs.FieldBytes.{fields_length}
use Rattle.encoding.proofs.RoundTrip.{object_back}
use Rattle.simulator.specs.Attributes.{score_attributes_at}
use Rattle.play_score.specs.PlayRules.{given_score}
use Rattle.play_score.specs.declared.PlayScore.{PlayScore}
use Rattle.slider_breaks.specs.Given.{with_breaks}
use Rattle.slider_breaks.specs.declared.calculator.SliderFactors.{SliderFactors}
use Rattle.slider_breaks.proofs.Laws.{other_number}
use Rattle.scoring.specs.Scores.{Scores, scores_of}
use Rattle.scoring.proofs.Rules.{Ruled, fine, rule, ruled_bind, ruled_when, ruled_object, ruled_given, two, three}
use Rattle.entries.specs.Entry.{entry_of, place_words}
use Rattle.tree.specs.Size.{levels_of, cap_of}
use Rattle.tree.specs.Put.{climbed}
use Rattle.tree.specs.Board.{Covers, board_of, starts_of}
use Rattle.tree.proofs.Levels.{levels_hold}
use Rattle.tree.proofs.Touched.{OthersKept, only_covering, few_cover}
use Rattle.board.specs.Place.{room_for, put_place, written_left}
use Rattle.board.specs.Edit.{object_only, object_in, edit_of}
use Rattle.board.specs.Read.{read_of}
use Rattle.board.proofs.Binds.{bound, passed}
use Rattle.board.proofs.Rooms as rooms
use Rattle.board_build.specs.Build.{build_of, built}
use Rattle.demands.specs.Calls.{is_accepted, changed, times_of, lent_for, edit, read, read_breaks, edits, reads, reads_breaks, answer, lent_after, put_if_accepted, AcceptedMap}
use Rattle.demands.proofs.Maps.{within_accepted, within_scored, accepted_is_within}
use Rattle.demands.proofs.EditRight.{edit_told, edit_right}
use Rattle.demands.proofs.ReadRight.{read_right}

-- ---- an object's own record is an edit's
two_bytes : (o : Object) → 2 ≤ length (object_bytes o)
unfolding object_bytes
two_bytes o = go o.kind
  where
    go : (k : Kind) → 2 ≤ length (kind_bytes o.start k)
    go circle = let e : length (fields_of (circle_fields o.start)) ≡ 10 = fields_length (circle_fields o.start) in omega (arith, e)
    go (slider is) =
        let e : length (fields_of (slider_fields o.start (length is + 1))) ≡ 12 = fields_length (slider_fields o.start (length is + 1)) in
        let f = length-append (fields_of (slider_fields o.start (length is + 1))) (nested_bytes is) in
        omega (arith, e, f)
    go (spinner d) = let e : length (fields_of (spinner_fields o.start d)) ≡ 18 = fields_length (spinner_fields o.start d) in omega (arith, e)

own_record : (o : Object) → ObjectWithin o → object_in (object_bytes o) ≡ good o
unfolding object_in ◌>>=◌ ◌>>◌ refuse◌when◌
own_record o w =
    let r = object_bytes o in
    let two = two_bytes o in
    let found : object_of r (word_at r 0 2) ≡ good (object o, length r) =
    subst (λ (l : List ℕ). object_of l (word_at l 0 2) ≡ good (object o, length r)) (append-nil r) (object_back o [] w) in
    simp (ne_eqb (length r) 0 (λ z. (omega (arith, two, z))), le-ltb (length r) 2 two, found, le-ltb (length r) (length r) (omega arith))

object_at_lem : (os : List Object) (place : ℕ) (o : Object) → place < length os → Each ObjectWithin (set os place o) → ObjectWithin o
object_at_lem [] place o h w = absurd (not-suc-le-zero h)
object_at_lem (x ∷ os) zero o h (one w ws) = w
object_at_lem (x ∷ os) (suc place) o h (one w ws) = object_at_lem os place o (le_of_suc-le-suc h) ws

-- "between two accepted maps that differ in one place one edit leads": the edit with that object's own record
pub record Leads (m : Map) (place : ℕ) (o : Object) (words : List ℕ) (numbers : List Float) : Type 0 where
  pub done : answer (edit (length m.objects) place (object_bytes o)) (lent_for m words numbers) ≡ edits (good tt)
  pub there : lent_after (edit (length m.objects) place (object_bytes o)) (lent_for m words numbers) ≡ lent_for (changed m place o) words numbers

pub one_edit_leads : (m : Map) (place : ℕ) (o : Object) (words : List ℕ) (numbers : List Float) → AcceptedMap m → place < length m.objects
    → AcceptedMap (changed m place o) → Leads m place o words numbers
unfolding answer lent_after ◌>>=◌ ◌>>◌ refuse◌when◌
one_edit_leads m place o words numbers a h a' = record { done = ap (λ (z : Z). edits z.0) right; there = ap (λ (z : Z). record { board = z.1; starts = z.2 }) right }
  where
    w' : MapWithin (changed m place o)
    w' = accepted_is_within (changed m place o) a'

    Z : Type 0
    Z = OrRefusal (Unit {0}) × List ℕ × List Float

    left : OrRefusal (Unit {0}) → Map → Z
    left a x = (a, board_of x.objects ++ words, starts_of x.objects ++ numbers)

    right : written_left (edit_of (lent_for m words numbers).board (lent_for m words numbers).starts (length m.objects) place (object_bytes o)) (lent_for m words numbers).board (lent_for m words numbers).starts
        ≡ left (good tt) (changed m place o)
    right =
        edit_right m (accepted_is_within m a) words numbers place (object_bytes o)
        ∙ ap₂ (λ (t : Bool) (x : Checked Object). left (edit_told m place t x) (cond t (put_if_accepted m place x) m))
        (lt-ltb place (length m.objects) h) (own_record o (object_at_lem m.objects place o h w'.objects))
        ∙ ap (λ (a : Bool). left (at_0 (refuse BONUS when not a)) (cond a (changed m place o) m)) (within_accepted (changed m place o) w')

-- ---- "an edit changes only the entries that cover its place, at most 14, and its start": on any lent content
pub record Touches (n place : ℕ) (b : List ℕ) (ts : List Float) (written : List ℕ × List Float) : Type 0 where
  pub inside : place < cap_of n
  pub words : OthersKept n place b written.0
  pub covering : (x : ℕ) → Covers (cap_of n) x place → (k : ℕ) × (k < 14) × (x ≡ (cap_of n + place) / 2 ^ k)
  pub starts : (i : ℕ) → i ≢ place → get_or written.1 i nan ≡ get_or ts i nan

pub edit_touches_only : (b : List ℕ) (ts : List Float) (n place : ℕ) (r : List ℕ) (w : List ℕ × List Float) → edit_of b ts n place r ≡ good w → Touches n place b ts w
unfolding edit_of put_place ◌>>◌
edit_touches_only b ts n place r w e = go (room_for b ts n) refl e
  where
    rest : Checked (List ℕ × List Float)
    rest = (refuse PLACE when leb n place) >> (object_in r >>= (λ o.
        climbed (levels_of n) b (cap_of n + place) (entry_of (o ∷ [])) >>= (λ l. good (l, set ts place o.start))))

    by : Checked (List ℕ × List Float) → List ℕ × List Float → List ℕ × List Float
    by (refused k) z = z
    by (good x) z = x

    go : (x : Checked (Unit {0})) → room_for b ts n ≡ x → (x >> rest) ≡ good w → Touches n place b ts w
    go (refused k) q e = never (cc)
    go (good u) q e =
        let m = rooms.measured b ts n u q in
        let c = passed PLACE (leb n place) (object_in r >>= (λ o. climbed (levels_of n) b (cap_of n + place) (entry_of (o ∷ [])) >>= (λ l. good (l, set ts place o.start)))) w e in
        let d = bound (object_in r) (λ o. climbed (levels_of n) b (cap_of n + place) (entry_of (o ∷ [])) >>= (λ l. good (l, set ts place o.start))) w c.1 in
        let f = bound (climbed (levels_of n) b (cap_of n + place) (entry_of (d.value ∷ []))) (λ l. good (l, set ts place d.value.start)) w d.second in
        let same : (f.value, set ts place d.value.start) ≡ w = ap (λ (x : Checked (List ℕ × List Float)). by x w) f.second in
        let low : place < n = leb-false n place c.0 in
        let held = levels_hold n m.few in
        let in_places : place < cap_of n = omega (arith, low, held) in
        record {
          inside = in_places;
          words = subst (λ (z : List ℕ × List Float). OthersKept n place b z.0) same
              (only_covering n place b f.value (entry_of (d.value ∷ [])) in_places f.first);
          covering = λ x h. few_cover n place x in_places h;
          starts = λ i other. sym (ap (λ (z : List ℕ × List Float). get_or z.1 i nan) same) ∙ get_or-set_other ts place i d.value.start nan other;
        }

-- ---- "an honest board never gets 13"
pub record_ruled : (r : List ℕ) → Ruled (object_in r)
unfolding object_in
record_ruled r =
    ruled_when MARK _ _ three (ruled_when CUT _ _ two (ruled_bind (object_of r (word_at r 0 2)) _ (ruled_object r (word_at r 0 2)) (λ f.
    ruled_bind (object_only f.0) _ (only f.0) (λ o. ruled_when MARK _ _ three fine))))
  where
    only : (c : Content) → Ruled (object_only c)
    only (header s) = rule three
    only (break b) = rule three
    only (object o) = fine
    only (play p) = rule three

abbrev told : Refusal → ℕ
told r = number_of r.rule

pub never_13_edit : (m : Map) (words : List ℕ) (numbers : List Float) (place : ℕ) (r : List ℕ) → AcceptedMap m
    → answer (edit (length m.objects) place r) (lent_for m words numbers) ≢ edits (refused (refusal_at BOARD 0))
unfolding answer ◌>>=◌ ◌>>◌ refuse◌when◌
never_13_edit m words numbers place r a e =
    go (ltb place (length m.objects)) (object_in r) (record_ruled r) (sym (ap (λ (z : OrRefusal (Unit {0}) × List ℕ × List Float). edits z.0) (edit_right m (accepted_is_within m a) words numbers place r)) ∙ e)
  where
    accepts : (t : Bool) → edits (at_0 (refuse BONUS when not t)) ≢ edits (refused (refusal_at BOARD 0))
    accepts true h = never (cc)
    accepts false h = let k : refusal_at BONUS 0 ≡ refusal_at BOARD 0 = cc in absurd (omega (arith, ap told k))

    go : (t : Bool) (x : Checked Object) → Ruled x → edits (edit_told m place t x) ≢ edits (refused (refusal_at BOARD 0))
    go false x k h = let s : refusal_at PLACE 0 ≡ refusal_at BOARD 0 = cc in absurd (omega (arith, ap told s))
    go true (refused n) (rule is) h = let s : refusal_at n 0 ≡ refusal_at BOARD 0 = cc in absurd (omega (arith, ap told s, is.1))
    go true (good o) k h = accepts (is_accepted (changed m place o)) h

pub never_13_read : (m : Map) (words : List ℕ) (numbers : List Float) (p : Play) → AcceptedMap m
    → answer (read (length m.objects) m.settings (times_of m.breaks) p) (lent_for m words numbers) ≢ reads (refused (refusal_at BOARD 0))
unfolding answer
never_13_read m words numbers p a e =
    go (given_score p (score_attributes_at m p.passed_objects)) (ruled_given p (score_attributes_at m p.passed_objects))
    (sym (ap (λ (x : Checked PlayScore). reads (at_0 x)) (read_right m words numbers p (accepted_is_within m a))) ∙ e)
  where
    go : (x : Checked PlayScore) → Ruled x → reads (at_0 x) ≢ reads (refused (refusal_at BOARD 0))
    go (refused n) (rule is) h = let s : refusal_at n 0 ≡ refusal_at BOARD 0 = cc in absurd (omega (arith, ap told s, is.1))
    go (good s) k h = never (cc)

-- nor does one with factors, which add 14 alone
pub never_13_read_breaks : (m : Map) (words : List ℕ) (numbers : List Float) (p : Play) (f : SliderFactors) → AcceptedMap m
    → answer (read_breaks (length m.objects) m.settings (times_of m.breaks) p f) (lent_for m words numbers) ≢ reads_breaks (refused (refusal_at BOARD 0))
unfolding answer
never_13_read_breaks m words numbers p f a e =
    let l = lent_for m words numbers in
    let Read-of = at_0 (read_of l.board l.starts (length m.objects) m.settings (times_of m.breaks) p) in
    let refused-with : with_breaks p f Read-of ≡ refused (refusal_at BOARD 0) = cc in
    never_13_read m words numbers p a (ap reads (other_number p f Read-of BOARD 0 (λ k. omega (arith, ap number_of k)) refused-with))

-- ---- a build of an accepted map
-- an accepted map, with room for it, is built: the call is done and leaves the map's board and start table, with what lies beyond them as it
-- was. So the claim's premise, a build that is done, is met for every accepted map
pub build_is_done : (m : Map) → AcceptedMap m → (b : List ℕ) (ts : List Float) → place_words * cap_of (length m.objects) ≤ length b
    → length m.objects ≤ length ts
    → built (scores_of (file_of (map_file m))) b ts
    ≡ (good tt, board_of m.objects ++ drop (place_words * cap_of (length m.objects)) b, starts_of m.objects ++ drop (length m.objects) ts)
unfolding build_of ◌>>◌
build_is_done m a b ts words numbers =
    let n = length m.objects in
    let w = accepted_is_within m a in
    ap (λ (x : OrRefusal Scores). built x b ts) (within_scored m w)
    ∙ ap (λ (x : Checked (Unit {0})). written_left (x >> good (board_of m.objects ++ drop (place_words * cap_of n) b, starts_of m.objects ++ drop n ts)) b ts)
    (rooms.roomy b ts n w.few_objects words numbers)
