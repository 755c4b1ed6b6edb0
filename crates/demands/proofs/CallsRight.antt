-- The claim of demand 3: by induction over the list, each call leaves the board and start table of the map as it leaves the map.
use mathlib.Core.Bool.{Bool, true, false, not, cond, ◌&&◌}
use mathlib.Core.List.{List, [], ◌∷◌, ◌++◌}
use mathlib.Core.Logic.{◌⊎◌, inl, inr}
use mathlib.Core.Path.{◌≡◌, refl, sym, ap, ◌∙◌, subst}
use Prim.Native.Nat.{ℕ, ◌*◌, ◌≤◌}
use native.Mathlib.Decide.{ℕ_discrete}
use borrow.Author.Tests.{eq-eqb, ne_eqb, ltb-false}
use lib.Dec.{ltb}
use lib.Ieee.{Float}
use lib.ListN.{length, drop, set}
use Rattle.rules.specs.Limits.{max_bonus}
use Rattle.rules.specs.Refusals.{Checked, good, refused, ◌>>◌, OrRefusal, at_0, ◌>>=◌, at_offset}
use Rattle.rules.proofs.Laws.{never}
use Rattle.play_state.specs.declared.Play.{Play}
use Rattle.records.specs.Objects.{Object, bonus}
use Rattle.records.specs.declared.beatmap.Settings.{Settings}
use Rattle.map_file.specs.File.{Map, file_of}
use Rattle.encoding.specs.Encoding.{map_file, play_bytes}
use Rattle.encoding.specs.Limits.{ObjectWithin, MapWithin, PlaySized}
use Rattle.simulator.specs.Attributes.{score_attributes_at}
use Rattle.play_score.specs.PlayRules.{given_score}
use Rattle.play_score.specs.declared.PlayScore.{PlayScore}
use Rattle.slider_breaks.specs.Given.{with_breaks}
use Rattle.slider_breaks.specs.declared.calculator.SliderFactors.{SliderFactors}
use Rattle.scoring.specs.Scores.{Scores, scores_of, given_play_of}
use Rattle.scoring.proofs.Answers.{no_number, values_within}
use Rattle.scoring.proofs.Behind.{behind-map}
use Rattle.entries.specs.Entry.{place_words}
use Rattle.tree.specs.Size.{cap_of}
use Rattle.tree.specs.Board.{board_of, starts_of}
use Rattle.board.specs.Place.{room_for, written_left}
use Rattle.board.specs.Edit.{object_in, edit_of}
use Rattle.board.proofs.Edits as edits
use Rattle.board_build.specs.Build.{build_of, built}
use Rattle.demands.specs.Calls.{is_accepted, AcceptedMap, changed, times_of, map_in, Lent, lent_for, Call, edit, read, read_breaks, edits as answered, reads, reads_breaks, answer, lent_after, put_if_accepted, map_after, from_file, ReadAnswer, ReadBreaksAnswer, IsRefused, Stands, MayStand, Answers, Right, lent_by, Claim}
use Rattle.demands.proofs.Maps.{within_scored, accepted_is_within, within_is_accepted, changed-within, by_bonus}
use Rattle.demands.proofs.EditRight.{edit_right}
use Rattle.demands.proofs.ReadRight.{read_right}

-- ---- the map stays within the limits
low_bonus : (m : Map) → MapWithin m → (place : ℕ) (o : Object) → ObjectWithin o → is_accepted (changed m place o) ≡ true → bonus (set m.objects place o) ≤ max_bonus
low_bonus m w place o v e = by (ltb max_bonus (bonus (set m.objects place o))) refl (sym (by_bonus m w place o v) ∙ e)
  where
    by : (t : Bool) → ltb max_bonus (bonus (set m.objects place o)) ≡ t → not t ≡ true → bonus (set m.objects place o) ≤ max_bonus
    by true q h = never (cc)
    by false q h = ltb-false max_bonus (bonus (set m.objects place o)) q

-- a changed map whose file gets no number is accepted: its file is read as that map
pub edit_accepts : (m : Map) → AcceptedMap m → (place : ℕ) (r : List ℕ) (o : Object) → object_in r ≡ good o → is_accepted (changed m place o) ≡ true
    → AcceptedMap (changed m place o)
edit_accepts m a place r o e t =
    let w = accepted_is_within m a in
    let v = edits.alone_within r o e in
    within_is_accepted (changed m place o) (changed-within m w place o v (low_bonus m w place o v t))

put_within : (m : Map) → MapWithin m → (place : ℕ) (r : List ℕ) → MapWithin (put_if_accepted m place (object_in r))
put_within m w place r = go (object_in r) refl
  where
    pick : (o : Object) → ObjectWithin o → (t : Bool) → is_accepted (changed m place o) ≡ t → MapWithin (cond t (changed m place o) m)
    pick o v true e = changed-within m w place o v (low_bonus m w place o v e)
    pick o v false e = w

    go : (x : Checked Object) → object_in r ≡ x → MapWithin (put_if_accepted m place x)
    go (refused k) e = w
    go (good o) e = pick o (edits.alone_within r o e) (is_accepted (changed m place o)) refl

-- ---- a refused edit changes nothing
refused_keeps : (x : Checked (List ℕ × List Float)) (l : Lent) → IsRefused (answered (written_left x l.board l.starts).0)
    → ◌≡◌ {A = Lent} (record { board = (written_left x l.board l.starts).1; starts = (written_left x l.board l.starts).2 }) l
refused_keeps (refused k) l h = refl
refused_keeps (good z) l h = absurd h

-- ---- a play behind the map in its file is the play on the map
from_file_lem : (m : Map) (at : ℕ) (x : Checked PlayScore)
    → from_file (at_offset at x >>= λ s. good (record { map = m; plays = s ∷ [] })) ≡ at_0 x
unfolding ◌>>=◌
from_file_lem m at (refused n) = refl
from_file_lem m at (good s) = refl

in_file : (m : Map) → MapWithin m → (p : Play) → PlaySized p
    → from_file (scores_of (file_of (map_file m ++ play_bytes p))) ≡ at_0 (given_score p (score_attributes_at m p.passed_objects))
in_file m w p v = ap from_file (behind-map m p w v) ∙ from_file_lem m (length (map_file m)) (given_score p (score_attributes_at m p.passed_objects))

-- what holds of a read with the map's count, settings and breaks
own_arguments : (m : Map) (P : ℕ → Settings → List Float → Type 0) (n : ℕ) (s : Settings) (br : List Float)
    → P (length m.objects) m.settings (times_of m.breaks) → n ≡ length m.objects → s ≡ m.settings → br ≡ times_of m.breaks → P n s br
own_arguments m P n s br own count settings breaks =
    subst (λ (k : ℕ). P k s br) (sym count)
    (subst (λ (x : Settings). P (length m.objects) x br) (sym settings)
    (subst (λ (x : List Float). P (length m.objects) m.settings x) (sym breaks) own))

module _ (words : List ℕ) (numbers : List Float) where
  abbrev Steps : Call → Map → Type 0
  Steps c m =
      Answers c m (lent_for m words numbers)
      × (lent_after c (lent_for m words numbers) ≡ lent_for (map_after c m) words numbers)
      × MapWithin (map_after c m)

  read_answer : (m : Map) → MapWithin m → (p : Play) → PlaySized p
      → ReadAnswer m p (answer (read (length m.objects) m.settings (times_of m.breaks) p) (lent_for m words numbers))
  unfolding answer
  read_answer m w p v =
      let scored = ap (λ (x : Checked PlayScore). reads (at_0 x)) (read_right m words numbers p w) in
      record { as_in_file = scored ∙ ap reads (sym (in_file m w p v)); as_scored = scored }

  read_steps : (n : ℕ) (s : Settings) (br : List Float) (p : Play) (m : Map) → MapWithin m → Steps (read n s br p) m
  unfolding lent_after map_after
  read_steps n s br p m w = (
    λ count settings breaks v.
        own_arguments m (λ k x y. ReadAnswer m p (answer (read k x y p) (lent_for m words numbers))) n s br (read_answer m w p v) count settings breaks,
    refl,
    w,
  )

  read_breaks_answer : (m : Map) → MapWithin m → (p : Play) → PlaySized p → (f : SliderFactors)
      → ReadBreaksAnswer m p f (answer (read_breaks (length m.objects) m.settings (times_of m.breaks) p f) (lent_for m words numbers))
  unfolding answer ◌>>=◌
  read_breaks_answer m w p v f =
      let scored = ap (λ (x : Checked PlayScore). reads_breaks (with_breaks p f (at_0 x))) (read_right m words numbers p w) in
      record {
        as_in_file = scored ∙ ap (λ (x : OrRefusal PlayScore). reads_breaks (with_breaks p f x)) (sym (in_file m w p v));
        as_called = scored ∙ ap (λ (x : OrRefusal Scores). reads_breaks (with_breaks p f (given_play_of p x))) (sym (within_scored m w));
      }

  read_breaks_steps : (n : ℕ) (s : Settings) (br : List Float) (p : Play) (f : SliderFactors) (m : Map) → MapWithin m → Steps (read_breaks n s br p f) m
  unfolding lent_after map_after
  read_breaks_steps n s br p f m w = (
    λ count settings breaks v.
        own_arguments m (λ k x y. ReadBreaksAnswer m p f (answer (read_breaks k x y p f) (lent_for m words numbers))) n s br (read_breaks_answer m w p v f) count settings breaks,
    refl,
    w,
  )

  -- an edit with the map's count
  own_steps : (place : ℕ) (r : List ℕ) (m : Map) → MapWithin m → Steps (edit (length m.objects) place r) m
  unfolding answer lent_after map_after
  own_steps place r m w =
      let e = edit_right m w words numbers place r in
      let same = eq-eqb (length m.objects) (length m.objects) refl in
      let map : map_after (edit (length m.objects) place r) m ≡ cond (ltb place (length m.objects)) (put_if_accepted m place (object_in r)) m =
      ap (λ (t : Bool). cond (t && ltb place (length m.objects)) (put_if_accepted m place (object_in r)) m) same in (
        λ _. ap (λ (z : OrRefusal (Unit {0}) × List ℕ × List Float). answered z.0) e,
        ap (λ (z : OrRefusal (Unit {0}) × List ℕ × List Float). record { board = z.1; starts = z.2 }) e ∙ ap (λ (x : Map). lent_for x words numbers) (sym map),
        subst MapWithin (sym map) (inside (ltb place (length m.objects))),
      )
    where
      inside : (t : Bool) → MapWithin (cond t (put_if_accepted m place (object_in r)) m)
      inside true = put_within m w place r
      inside false = w

  -- one with another count is refused
  other_steps : (n place : ℕ) (r : List ℕ) (m : Map) → MapWithin m → (n ≡ length m.objects → ⊥) → IsRefused (answer (edit n place r) (lent_for m words numbers))
      → Steps (edit n place r) m
  unfolding answer lent_after map_after
  other_steps n place r m w other h =
      let map : map_after (edit n place r) m ≡ m =
      ap (λ (t : Bool). cond (t && ltb place n) (put_if_accepted m place (object_in r)) m) (ne_eqb n (length m.objects) other) in (
        λ count. absurd (other count),
        refused_keeps (edit_of (board_of m.objects ++ words) (starts_of m.objects ++ numbers) n place r) (lent_for m words numbers) h
            ∙ ap (λ (x : Map). lent_for x words numbers) (sym map),
        subst MapWithin (sym map) w,
      )

  edit_steps : (n place : ℕ) (r : List ℕ) (m : Map) → MapWithin m → Stands (edit n place r) m (lent_for m words numbers) → Steps (edit n place r) m
  edit_steps n place r m w stands = go (ℕ_discrete n (length m.objects)) stands
    where
      go : Dec (n ≡ length m.objects) → (n ≡ length m.objects) ⊎ IsRefused (answer (edit n place r) (lent_for m words numbers)) → Steps (edit n place r) m
      go (yes e) s = subst (λ (k : ℕ). Steps (edit k place r) m) (sym e) (own_steps place r m w)
      go (no e) (inl same) = absurd (e same)
      go (no e) (inr h) = other_steps n place r m w e h

  call_steps : (c : Call) (m : Map) → MapWithin m → Stands c m (lent_for m words numbers) → Steps c m
  call_steps (edit n place r) m w s = edit_steps n place r m w s
  call_steps (read n s br p) m w _ = read_steps n s br p m w
  call_steps (read_breaks n s br p f) m w _ = read_breaks_steps n s br p f m w

  -- a list of calls on the board of a map within the limits
  pub list_right : (cs : List Call) (m : Map) → MapWithin m → MayStand cs m (lent_for m words numbers) → Right words numbers cs m (lent_for m words numbers)
  list_right [] m w _ = (within_is_accepted m w, refl)
  list_right (c ∷ cs) m w stand =
      let s = call_steps c m w stand.0 in (
        s.0,
        subst (λ (l : Lent). Right words numbers cs (map_after c m) l) (sym s.1)
            (list_right cs (map_after c m) s.2 (subst (λ (l : Lent). MayStand cs (map_after c m) l) s.1 stand.1)),
      )

-- ---- from the build on
abbrev Built : Map → List ℕ → List Float → OrRefusal (Unit {0}) × List ℕ × List Float → Type 0
Built m b ts z =
    ◌≡◌ {A = Lent} (record { board = z.1; starts = z.2 }) (lent_for m (drop (place_words * cap_of (length m.objects)) b) (drop (length m.objects) ts))

build_done : (m : Map) (b : List ℕ) (ts : List Float) → (written_left (build_of m.objects b ts) b ts).0 ≡ good tt
    → Built m b ts (written_left (build_of m.objects b ts) b ts)
unfolding build_of ◌>>◌
build_done m b ts e = go (room_for b ts (length m.objects)) e
  where
    laid : List ℕ × List Float
    laid = (board_of m.objects ++ drop (place_words * cap_of (length m.objects)) b, starts_of m.objects ++ drop (length m.objects) ts)

    go : (x : Checked (Unit {0})) → (written_left (x >> good laid) b ts).0 ≡ good tt → Built m b ts (written_left (x >> good laid) b ts)
    go (refused k) e = never (cc)
    go (good u) e = refl

-- a build that is done was of an accepted map
pub record Begins (s : List ℕ) (b : List ℕ) (ts : List Float) : Type 0 where
  pub within : MapWithin (map_in (file_of s))
  pub lent : lent_by s b ts
      ≡ lent_for (map_in (file_of s)) (drop (place_words * cap_of (length (map_in (file_of s)).objects)) b) (drop (length (map_in (file_of s)).objects) ts)

pub begins : (s : List ℕ) (b : List ℕ) (ts : List Float) → (built (scores_of (file_of s)) b ts).0 ≡ good tt → Begins s b ts
begins s b ts e = go (scores_of (file_of s)) refl e
  where
    go : (x : OrRefusal Scores) → scores_of (file_of s) ≡ x → (built x b ts).0 ≡ good tt → Begins s b ts
    go (refused r) q e = never (cc)
    go (good sc) q e =
        let k = no_number s sc q in
        let map : sc.map ≡ map_in (file_of s) = k.map ∙ ap map_in (sym k.read) in
        record {
          within = subst MapWithin map (values_within s sc q);
          lent =
              ap (λ (x : OrRefusal Scores). record { board = (built x b ts).1; starts = (built x b ts).2 }) q
              ∙ build_done sc.map b ts e
              ∙ ap (λ (x : Map). lent_for x (drop (place_words * cap_of (length x.objects)) b) (drop (length x.objects) ts)) map;
        }

pub calls_right : Claim
calls_right s b ts cs e stand =
    let k = begins s b ts e in
    let m = map_in (file_of s) in
    let words = drop (place_words * cap_of (length m.objects)) b in
    let numbers = drop (length m.objects) ts in
    subst (λ (l : Lent). Right words numbers cs m l) (sym k.lent)
    (list_right words numbers cs m k.within (subst (λ (l : Lent). MayStand cs m l) k.lent stand))
