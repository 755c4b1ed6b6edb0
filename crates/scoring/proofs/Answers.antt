-- From what a call answered to what the definition says: one case of an answer stands for one case of the definition.
use Rattle.rules.specs.declared.refusal.Refusal.{Refusal}
use Rattle.rules.specs.Refusals.{good, refused, ◌>>=◌, ◌>>◌, OrRefusal, refusal_at, at_0}
use mathlib.Core.Path.{◌≡◌, refl, sym, ap, ◌∙◌, subst}
use mathlib.Core.List.{List, [], ◌∷◌}
use Prim.Native.Nat.{ℕ, zero, suc, min}
use native.Mathlib.Omega.{arith}
use lib.ListN.{length}
use Rattle.std.specs.List.{slice_get}
use Rattle.map_file.specs.File.{File, Map as MapData, Result, accepted, refused_at, file_of}
use Rattle.play_state.specs.declared.Play.{Play}
use Rattle.encoding.specs.Limits.{MapWithin}
use Rattle.encoding.proofs.Accepted.{accepted_within}
use Rattle.simulator.specs.Attributes.{score_attributes_at}
use Rattle.simulator.specs.declared.attributes.ScoreAttributes.{ScoreAttributes}
use Rattle.map_reader.specs.Map.{MapIs, MapReadOf, refuses as map-refuses}
use Rattle.map_reader.specs.declared.map.Map.{Map}
use Rattle.play_reader.proofs.Playing.{map_out, map_same}
use Rattle.map_reader.specs.Attributes.{Complete, attributes_in}
use Rattle.map_reader.proofs.Attributed.{complete, attributes_are}
use Rattle.map_reader.proofs.Passed.{attributes_passed}
use Rattle.play_score.specs.PlayRules.{given_score}
use Rattle.scoring.specs.Scores.{Scores, play_scores, scores_of, map_score_of, given_play_of, listed_play_of}
use Rattle.scoring.specs.View.{wanted_of, Attributed, checked_of, PlaysOf, are, refuses, listed_by}
use Rattle.play_score.specs.declared.PlayScore.{PlayScore}
use Rattle.scoring.specs.declared.plays.Wanted.{Wanted}
use Rattle.scoring.proofs.Lists.{scores_none}
use Rattle.rules.proofs.Laws.{never}

-- ---- a file that gets no number
pub record NoNumber (s : List ℕ) (sc : Scores) : Type 0 where
  pub file : File
  pub read : file_of s ≡ accepted file
  pub map : sc.map ≡ file.map
  pub plays : play_scores file.map file.plays ≡ good sc.plays

pub no_number : (s : List ℕ) (sc : Scores) → scores_of (file_of s) ≡ good sc → NoNumber s sc
unfolding ◌>>=◌ ◌>>◌
no_number s sc e = go (file_of s) refl e
  where
    go : (r : Result) → file_of s ≡ r → scores_of r ≡ good sc → NoNumber s sc
    go (accepted f) q e = plays (play_scores f.map f.plays) refl e
      where
        plays : (x : OrRefusal (List PlayScore)) → play_scores f.map f.plays ≡ x → (x >>= λ ss. good (record { map = f.map; plays = ss })) ≡ good sc → NoNumber s sc
        plays (refused r) p e = never (cc)
        plays (good ss) p e =
            let same : record { map = f.map; plays = ss } ≡ sc = cc in
            record { file = f; read = q; map = sym (ap (λ (x : Scores). x.map) same); plays = p ∙ ap (λ (x : Scores). good x.plays) same }
    go (refused_at n at f) q e = plays (play_scores f.map f.plays) e
      where
        plays : (x : OrRefusal (List PlayScore)) → (x >> refused (refusal_at n at)) ≡ good sc → NoNumber s sc
        plays (refused r) e = never (cc)
        plays (good ss) e = never (cc)

-- its map is within the limits
pub values_within : (s : List ℕ) (sc : Scores) → scores_of (file_of s) ≡ good sc → MapWithin sc.map
values_within s sc e = let k = no_number s sc e in subst MapWithin (sym k.map) (accepted_within s k.file k.read)

-- ---- the wanted play
wanted_listed : (ss : List PlayScore) (j : ℕ) → listed_by (wanted_of j ss) ≡ slice_get ss j
unfolding wanted_of
wanted_listed [] j = refl
wanted_listed (s ∷ ss) zero = refl
wanted_listed (s ∷ ss) (suc j) = wanted_listed ss j

-- ---- what the check of a file answers
pub start_refused : {s : List ℕ} {p : ℕ} {r : Refusal} → MapReadOf s p (refused r) → scores_of (file_of s) ≡ refused r
unfolding ◌>>◌
start_refused (map-refuses {n = n} {at = at} {f = f} e h) =
    ap scores_of e ∙ ap (λ (l : List (ℕ × Play)). play_scores f.map l >> refused (refusal_at n at)) h
    ∙ ap (λ (x : OrRefusal (List PlayScore)). x >> refused (refusal_at n at)) (scores_none f.map)

check_refused : (s : List ℕ) (i : ℕ) {r : Refusal} → refused r ≡ checked_of i (scores_of (file_of s)) → scores_of (file_of s) ≡ refused r
unfolding ◌>>=◌
check_refused s i {r = r} e = go (scores_of (file_of s)) e
  where
    go : (x : OrRefusal Scores) → refused r ≡ checked_of i x → x ≡ refused r
    go (refused q) e =
        let same : r ≡ q = cc in
        ap refused (sym same)
    go (good x) e = never (cc)

-- a file whose plays are all good: its map, and the play at the index i
record AllGood (s : List ℕ) (p i : ℕ) (m : Map) (w : Wanted) : Type 0 where
  map : MapIs s p m
  scores : Scores
  is : scores_of (file_of s) ≡ good scores
  same : scores.map ≡ map.file.map
  wanted : w ≡ wanted_of i scores.plays

check_good : {s : List ℕ} {p i : ℕ} {m : Map} {w : Wanted} → MapIs s p m → good w ≡ checked_of i (scores_of (file_of s)) → AllGood s p i m w
unfolding ◌>>=◌
check_good {s = s} {p = p} {i = i} {m = m} {w = w} k e = go (scores_of (file_of s)) refl e
  where
    go : (x : OrRefusal Scores) → scores_of (file_of s) ≡ x → good w ≡ checked_of i x → AllGood s p i m w
    go (refused r) h e = never (cc)
    go (good x) h e = let v = no_number s x h in record { map = k; scores = x; is = h; same = v.map ∙ map_same k v.file v.read; wanted = cc }

-- ---- a file whose map was read: its attributes, then what the check of its plays answers
pub read_complete : {s : List ℕ} {p : ℕ} {m : Map} → MapReadOf s p (good m) → Complete m
read_complete r = complete (map_out r)

pub read_attributed : {s : List ℕ} {p : ℕ} {m : Map} {a : ScoreAttributes} → MapReadOf s p (good m) → a ≡ attributes_in s m → Attributed s p m a
read_attributed r e = record { map = map_out r; attributes = e ∙ attributes_are (map_out r) }

module _ {s : List ℕ} {p : ℕ} (i : ℕ) {m : Map} {w : Wanted} (r : MapReadOf s p (good m)) (e : good w ≡ checked_of i (scores_of (file_of s))) where
  all_good : AllGood s p i m w
  all_good = check_good (map_out r) e

  pub read_listed : good (listed_by w) ≡ listed_play_of i (scores_of (file_of s))
  unfolding ◌>>=◌
  read_listed = ap good (ap listed_by all_good.wanted ∙ wanted_listed all_good.scores.plays i) ∙ sym (ap (listed_play_of i) all_good.is)

  pub read_plays : (a : ScoreAttributes) → a ≡ attributes_in s m → PlaysOf s p (good (m, a))
  read_plays a h =
      let k = all_good in
      are k.map k.scores k.is k.same (h ∙ attributes_are k.map ∙ ap (λ (n : MapData). score_attributes_at n p) (sym k.same))

-- ---- the answers of the calls
pub start_plays : {s : List ℕ} {p : ℕ} {r : Refusal} → MapReadOf s p (refused r) → PlaysOf s p (refused r)
start_plays k = refuses (start_refused k)

pub check_plays : {s : List ℕ} {p : ℕ} (i : ℕ) {r : Refusal} → refused r ≡ checked_of i (scores_of (file_of s)) → PlaysOf s p (refused r)
check_plays {s = s} i e = refuses (check_refused s i e)

pub plays_refused : {s : List ℕ} {p : ℕ} {r : Refusal} → PlaysOf s p (refused r) → scores_of (file_of s) ≡ refused r
plays_refused (refuses e) = e

-- 2 ^ 64 - 1 passed objects are all
pub map_scored : {s : List ℕ} (m : Map) (a : ScoreAttributes) → PlaysOf s 18446744073709551615 (good (m, a)) → good a ≡ map_score_of (scores_of (file_of s))
unfolding ◌>>=◌
map_scored {s = s} m a (are k x e same attributes) =
    let few = (values_within s x e).few_objects in
    let n = length x.map.objects in
    let all : min 18446744073709551615 n ≡ min n n = omega (arith, few) in
    ap good (attributes ∙ attributes_passed x.map 18446744073709551615 n all) ∙ sym (ap map_score_of e)

-- a play on the attributes of the objects that it passed
pub play_scored : {s : List ℕ} (m : Map) (a : ScoreAttributes) (q : Play) → PlaysOf s q.passed_objects (good (m, a)) → at_0 (given_score q a) ≡ given_play_of q (scores_of (file_of s))
unfolding ◌>>=◌
play_scored m a q (are k x e same attributes) = ap (λ (b : ScoreAttributes). at_0 (given_score q b)) attributes ∙ sym (ap (given_play_of q) e)
