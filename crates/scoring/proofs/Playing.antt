-- What a loop over the plays of a file keeps: the scores of the plays read so far are those of the definition.
use Rattle.rules.specs.declared.refusal.Rule.{Rule}
use Rattle.rules.specs.declared.refusal.Refusal.{Refusal}
use mathlib.Core.Path.{◌≡◌, refl, sym, ap, ◌∙◌, subst}
use mathlib.Core.Bool.{Bool, true, false}
use mathlib.Core.List.{List, [], ◌∷◌, ◌++◌}
use Prim.Native.Nat.{ℕ, zero, suc, ◌+◌, ◌≤◌, ◌<◌, min}
use native.Mathlib.Omega.{arith}
use borrow.Author.Tests.{eqb-true}
use lib.Dec.{ltb}
use lib.ListN.{length, drop, get_or}
use Rattle.rules.specs.Refusals.{Checked, good, refused, ◌>>=◌, ◌>>◌, OrRefusal, refusal_at, pick, INPUT, PLAY_EXCEEDS}
use Rattle.records.specs.Records.{Content, header, break, object, play, FoundRecord}
use Rattle.map_file.specs.Order.{play_rank, place}
use Rattle.map_file.specs.File.{File, Map as MapData, Result, refused_at, with_record, follow, ended, file_from, file_of}
use Rattle.map_file.proofs.Room.{content_rank}
use Rattle.map_file.proofs.Reading.{found_at, found_ordered, chain_on, chain_plays}
use Rattle.play_state.specs.declared.Play.{Play}
use Rattle.map_reader.specs.Map.{MapIs}
use Rattle.map_reader.specs.declared.map.Map.{Map}
use Rattle.map_reader.specs.declared.objects.Objects.{Objects}
use Rattle.map_reader.proofs.Passed.{attributes_passed}
use Rattle.play_reader.specs.Plays.{play_in}
use Rattle.play_reader.proofs.Playing.{ReadTo, read_start, read_more, read_stop, read_end, reached_end}
use Rattle.simulator.specs.declared.attributes.ScoreAttributes.{ScoreAttributes}
use Rattle.marks.specs.Marks.{MarksOf, mark_before, attributes_from}
use Rattle.marks.specs.declared.Marks.{Marks}
use Rattle.marks.proofs.Marked.{anew_is, marked_exceeds}
use Rattle.simulator.specs.Attributes.{score_attributes_at}
use Rattle.play_score.specs.PlayRules.{exceeds, play_score}
use Rattle.play_score.proofs.Exceeding.{exceeds_refused, exceeds_not}
use Rattle.play_score.specs.declared.PlayScore.{PlayScore}
use Rattle.scoring.specs.Scores.{play_score_on, play_scores, scores_of}
use Rattle.scoring.specs.View.{wanted_of, wanted_after, AfterPlay, passes_as_many, Playing, Attributed, checked_of}
use Rattle.scoring.specs.declared.plays.Wanted.{Wanted}
use Rattle.scoring.specs.declared.plays.Wanted.TheVariants as wanted
use Rattle.scoring.proofs.Lists.{scores_none, scores_more, scores_refused, refused_more, wanted_more}
use Rattle.rules.proofs.Laws.{never}

-- ---- what follows a refusal is refused by it
pub stopped : {A B : Type 0} {x : OrRefusal A} {r : Refusal} (f : A → OrRefusal B) → x ≡ refused r → refused r ≡ (x >>= f)
unfolding ◌>>=◌
stopped {A = A} f e = sym (ap (λ (y : OrRefusal A). y >>= f) e)

-- ---- a refused play refuses the file, whatever follows: behind it only plays can be read, and they change neither the map nor what was refused
record Ended (f : File) (n : Rule) (at : ℕ) : Type 0 where
  late : f.last ≡ play_rank
  refuses : play_scores f.map f.plays ≡ refused (refusal_at n at)

abbrev Refuses : Rule → ℕ → Result → Type 0
Refuses n at r = scores_of r ≡ refused (refusal_at n at)

stop_refuses : (f : File) (n : Rule) (at : ℕ) (k : Rule) (o : ℕ) → Ended f n at → Refuses n at (refused_at k o f)
unfolding ◌>>◌
stop_refuses f n at k o e = rw e.refuses

end_refuses : (f : File) (n : Rule) (at : ℕ) → Ended f n at → Refuses n at (ended f)
unfolding ◌>>=◌
end_refuses f n at e = rw e.late (rw e.refuses)

ended_more : (f : File) (n : Rule) (at : ℕ) (x : Content) (size : ℕ) → place f.last ≤ place (content_rank x) → Ended f n at → Ended (with_record f (x, size)) n at
unfolding with_record
ended_more f n at (header s) size h e = never (let l = ap place e.late in omega (arith, l, h))
ended_more f n at (break b) size h e = never (let l = ap place e.late in omega (arith, l, h))
ended_more f n at (object o) size h e = never (let l = ap place e.late in omega (arith, l, h))
ended_more f n at (play p) size h e = record { late = refl; refuses = refused_more f.map f.plays ((f.at, p) ∷ []) n at e.refuses }

from_refuses : (fuel : ℕ) (s : List ℕ) (f : File) (n : Rule) (at : ℕ) → Ended f n at → Refuses n at (file_from fuel s f)
unfolding file_from
from_refuses zero s f n at e = stop_refuses f n at INPUT 0 e
from_refuses (suc fuel) s f n at e =
    go (λ r q. from_refuses fuel s (with_record f r) n at (ended_more f n at r.0 r.1 (found_ordered s f r q) e)) (ltb f.at (length s)) (found_at s f) refl
  where
    go : ((r : Content × ℕ) → found_at s f ≡ good r → Refuses n at (file_from fuel s (with_record f r))) → (b : Bool) (x : FoundRecord) → found_at s f ≡ x
        → Refuses n at (pick b (follow f x (λ r. file_from fuel s (with_record f r))) (ended f))
    go on false x q = end_refuses f n at e
    go on true (refused k) q = stop_refuses f n at k f.at e
    go on true (good r) q = on r q

-- ---- before the first play
pub playing_start : {s : List ℕ} {p : ℕ} {m : Map} (k : MapIs s p m) (i : ℕ) → Playing s m m.end (wanted.Ahead i) i
unfolding read_start wanted_of
playing_start {s = s} {p = p} k i = record {
  p = p;
  to = read_start k;
  scores = [];
  same = ap (play_scores k.file.map) (chain_plays s k.file k.chain k.no_play) ∙ scores_none k.file.map;
  wanted = refl;
}

pub start_scores : {s : List ℕ} {p : ℕ} {m : Map} (k : MapIs s p m) (i : ℕ) → (playing_start k i).scores ≡ []
unfolding playing_start
start_scores k i = refl

-- ---- one more play
module _ {s : List ℕ} {m : Map} {at : ℕ} {w : Wanted} {i : ℕ} (k : Playing s m at w i) where
  abbrev pub map_of : MapData
  map_of = k.to.map.file.map

  here_map : k.to.file.map ≡ map_of
  here_map = k.to.reached.map

  module _ (h : at < length s) where
    -- a record that is refused
    pub playing_cut : (n : Rule) → refused n ≡ play_in (drop at s) → scores_of (file_of s) ≡ refused (refusal_at n at)
    unfolding ◌>>◌
    playing_cut n e = rw (read_stop k.to h n e, k.same)

    module _ (q : Play) (e : good q ≡ play_in (drop at s)) where
      abbrev next : ReadTo s k.p m (at + 44)
      next = read_more k.to h q e

      -- a play that is refused
      pub playing_refused : (n : Rule) → refused n ≡ (play_score_on map_of q) → scores_of (file_of s) ≡ refused (refusal_at n at)
      unfolding with_record read_more
      playing_refused n r = go (play_score_on k.to.file.map q) refl (r ∙ ap (λ (x : MapData). (play_score_on x q)) (sym here_map))
        where
          go : (x : Checked PlayScore) → play_score_on k.to.file.map q ≡ x → refused n ≡ x → scores_of (file_of s) ≡ refused (refusal_at n at)
          go (good y) p r = never (cc)
          go (refused j) p r =
              let same : n ≡ j = cc in
              let f = k.to.file in
              let on = chain_on s next.file next.reached.chain in
              let all = scores_refused f.map f.at q f.plays k.scores k.same j p in
              subst (Refuses j f.at) on.rest (from_refuses on.fuel s next.file j f.at (record { late = refl; refuses = all }))
              ∙ ap (λ (o : ℕ). refused (refusal_at j o)) k.to.here
              ∙ ap (λ (a : Rule). refused (refusal_at a at)) (sym same)

      pub playing_more : (y : PlayScore) → good y ≡ (play_score_on map_of q) → (v : Wanted) → v ≡ wanted_after w y → Playing s m (at + 44) v i
      unfolding with_record read_more
      playing_more y r v c = record {
        p = k.p;
        to = next;
        scores = k.scores ++ (y ∷ []);
        same = scores_more k.to.file.map k.to.file.at q k.to.file.plays k.scores k.same y (is_good_lem (play_score_on k.to.file.map q) (r ∙ ap (λ (x : MapData). (play_score_on x q)) (sym here_map)));
        wanted = c ∙ ap (λ (x : Wanted). wanted_after x y) k.wanted ∙ wanted_more i k.scores y;
      }
        where
          is_good_lem : (x : Checked PlayScore) → good y ≡ x → x ≡ good y
          is_good_lem (refused n) r = never (cc)
          is_good_lem (good z) r = let same : z ≡ y = cc in ap good same

      pub more_scores : (y : PlayScore) (r : good y ≡ (play_score_on map_of q)) (v : Wanted) (c : v ≡ wanted_after w y)
          → (playing_more y r v c).scores ≡ k.scores ++ (y ∷ [])
      unfolding playing_more
      more_scores y r v c = refl

  -- ---- the end of the file
  module _ (h : length s ≤ at) where
    pub playing_scores : scores_of (file_of s) ≡ good (record { map = map_of; plays = k.scores })
    unfolding ◌>>=◌
    playing_scores =
        ap scores_of (reached_end k.to.map k.to.reached (read_end k.to h))
        ∙ ap (λ (x : OrRefusal (List PlayScore)). x >>= λ ss. good (record { map = k.to.file.map; plays = ss })) k.same
        ∙ ap (λ (x : MapData). good (record { map = x; plays = k.scores })) here_map

    pub playing_end : good w ≡ checked_of i (scores_of (file_of s))
    unfolding ◌>>=◌
    playing_end = ap good k.wanted ∙ sym (ap (checked_of i) playing_scores)

-- ---- a play that is checked on the attributes from its mark, which know no bonus
module _ {s : List ℕ} {m : Map} {at : ℕ} {w : Wanted} {i : ℕ} (k : Playing s m at w i) (h : at < length s) (q : Play) (e : good q ≡ play_in (drop at s))
    {marks : Marks} (known : MarksOf s m marks) (n : ℕ) (d : Objects) (mark : n ≡ mark_before m.objects q) (a : ScoreAttributes)
    (from : a ≡ attributes_from false s m (get_or marks.states n d) q) where
  exceeds_there : exceeds q (score_attributes_at (map_of k) q.passed_objects) ≡ exceeds q a
  exceeds_there = sym (marked_exceeds k.to.map q known n d mark a from)

  pub marked_refused : exceeds q a ≡ true → scores_of (file_of s) ≡ refused (refusal_at PLAY_EXCEEDS at)
  marked_refused b = playing_refused k h q e PLAY_EXCEEDS (exceeds_refused q _ (exceeds_there ∙ b))

  pub marked_more : exceeds q a ≡ false → (v : Wanted) → AfterPlay s m q w v → Playing s m (at + 44) v i
  marked_more b v c =
      let score = exceeds_not q _ (exceeds_there ∙ b) in
      playing_more k h q e _ score v (c _ (score ∙ sym (anew_is k.to.map q)))

-- ---- a play that passed as many objects as the attributes are of
pub same_passed : (s : List ℕ) (p : ℕ) (m : Map) (a : ScoreAttributes) (k : Attributed s p m a) (q : Play) → passes_as_many q p m.objects ≡ true
    → (play_score q a) ≡ (play_score_on k.map.file.map q)
same_passed s p m a k q e =
    let n = k.map.objects in
    let l = length k.map.file.map.objects in
    let same : min p l ≡ min q.passed_objects l =
    ap (λ (x : ℕ). min p x) (sym n) ∙ sym (eqb-true _ _ e) ∙ ap (λ (x : ℕ). min q.passed_objects x) n in
    ap (λ (x : ScoreAttributes). (play_score q x)) (k.attributes ∙ attributes_passed k.map.file.map p q.passed_objects same)

-- ---- the same, on the map that the attributes are of
pub record PlayingOn (s : List ℕ) (m : Map) (at : ℕ) (w : Wanted) (i : ℕ) (d : MapData) : Type 0 where
  pub is : Playing s m at w i
  pub on : map_of is ≡ d

pub on_start : {s : List ℕ} {p : ℕ} {m : Map} (k : MapIs s p m) (i : ℕ) → PlayingOn s m m.end (wanted.Ahead i) i k.file.map
unfolding playing_start read_start
on_start k i = record { is = playing_start k i; on = refl }

module _ {s : List ℕ} {m : Map} {at : ℕ} {w : Wanted} {i : ℕ} {d : MapData} (k : PlayingOn s m at w i d) (h : at < length s) (q : Play) (e : good q ≡ play_in (drop at s)) where
  pub on_refused : (n : Rule) → refused n ≡ (play_score_on d q) → scores_of (file_of s) ≡ refused (refusal_at n at)
  on_refused n r = playing_refused k.is h q e n (r ∙ ap (λ (x : MapData). (play_score_on x q)) (sym k.on))

  pub on_more : (y : PlayScore) → good y ≡ (play_score_on d q) → (v : Wanted) → v ≡ wanted_after w y → PlayingOn s m (at + 44) v i d
  unfolding playing_more read_more
  on_more y r v c = record { is = playing_more k.is h q e y (r ∙ ap (λ (x : MapData). (play_score_on x q)) (sym k.on)) v c; on = k.on }
