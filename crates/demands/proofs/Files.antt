-- Demand 1 for files with plays: the plays of an accepted file do not exceed its map, and a map within the limits with plays within theirs that
-- do not has a file that gets no number. Assumes nothing.
use mathlib.Core.Bool.{Bool, true, false}
use mathlib.Core.List.{List, [], ◌∷◌, ◌++◌, map}
use mathlib.Core.Path.{◌≡◌, refl, sym, ap, ◌∙◌, subst}
use Prim.Native.Nat.{ℕ}
use Rattle.numbers.proofs.words.Laws.{Bytes}
use Rattle.rules.specs.Refusals.{Checked, good, refused, ◌>>=◌, OrRefusal, at_offset}
use Rattle.rules.proofs.Laws.{never}
use Rattle.play_state.specs.declared.Play.{Play}
use Rattle.map_file.specs.File.{Map, file_of}
use Rattle.encoding.specs.Encoding.{map_file, play_bytes, each}
use Rattle.encoding.specs.Limits.{MapWithin, PlayWithin, Each, none, one}
use Rattle.encoding.proofs.Accepted.{accepted_within}
use Rattle.encoding.proofs.FileBytes.{accepted_bytes}
use Rattle.encoding.proofs.RoundTrip.{round_trip, bare}
use Rattle.simulator.specs.Attributes.{score_attributes_at}
use Rattle.estimates.specs.Effective.{estimates_of}
use Rattle.play_score.specs.PlayRules.{exceeds}
use Rattle.play_score.proofs.Exceeding.{exceeds_refused, exceeds_not}
use Rattle.play_score.specs.declared.PlayScore.{PlayScore}
use Rattle.scoring.specs.Scores.{Scores, play_score_on, play_scores, scores_of}
use Rattle.scoring.proofs.Answers.{no_number}

-- a play that does not break 9 on its map
abbrev pub Keeps : Map → Play → Type 0
Keeps m p = exceeds p (score_attributes_at m p.passed_objects) ≡ false

-- its score: "Attributes are those of the passed objects"
abbrev pub scored : Map → Play → PlayScore
scored m p =
    let a = score_attributes_at m p.passed_objects in record { attributes = a; estimates = estimates_of p a.difficulty }

abbrev pub scored_plays : Map → List Play → List PlayScore
scored_plays m ps = map (scored m) ps

-- ---- one play, both ways
keeps_good : (m : Map) (p : Play) → Keeps m p → play_score_on m p ≡ good (scored m p)
keeps_good m p k = sym (exceeds_not p (score_attributes_at m p.passed_objects) k)

good_keeps : (m : Map) (p : Play) (s : PlayScore) → play_score_on m p ≡ good s → Keeps m p
good_keeps m p s e = go (exceeds p (score_attributes_at m p.passed_objects)) refl
  where
    go : (x : Bool) → exceeds p (score_attributes_at m p.passed_objects) ≡ x → Keeps m p
    go true f = let stopped = exceeds_refused p (score_attributes_at m p.passed_objects) f ∙ e in never (cc)
    go false f = f

-- ---- the plays of a file
plays_scored : (m : Map) (l : List (ℕ × Play)) → Each (Keeps m) (bare l) → play_scores m l ≡ good (scored_plays m (bare l))
unfolding play_scores bare ◌>>=◌
plays_scored m [] w = refl
plays_scored m (p ∷ l) (one k w) = simp (keeps_good m p.1 k, plays_scored m l w)

plays_keep : (m : Map) (l : List (ℕ × Play)) (ss : List PlayScore) → play_scores m l ≡ good ss → Each (Keeps m) (bare l)
unfolding play_scores bare ◌>>=◌
plays_keep m [] ss e = none
plays_keep m (p ∷ l) ss e = go (λ ts q. plays_keep m l ts q) (play_score_on m p.1) refl (play_scores m l) refl e
  where
    go : ((ts : List PlayScore) → play_scores m l ≡ good ts → Each (Keeps m) (bare l)) → (x : Checked PlayScore) → play_score_on m p.1 ≡ x
        → (y : OrRefusal (List PlayScore)) → play_scores m l ≡ y → (at_offset p.0 x >>= λ t. y >>= λ ts. good (t ∷ ts)) ≡ good ss
        → Each (Keeps m) (p.1 ∷ bare l)
    go rest (refused n) f y g e = never (cc)
    go rest (good t) f (refused r) g e = never (cc)
    go rest (good t) f (good ts) g e = one (good_keeps m p.1 t f) (rest ts g)

good_same : {A : Type 0} {a b : A} → ◌≡◌ {A = OrRefusal A} (good a) (good b) → a ≡ b
good_same e = cc

-- the scores of a file's plays are the definition's
pub plays_are_scored : (m : Map) (l : List (ℕ × Play)) (ss : List PlayScore) → play_scores m l ≡ good ss → ss ≡ scored_plays m (bare l)
plays_are_scored m l ss e = good_same (sym e ∙ plays_scored m l (plays_keep m l ss e))

-- a map within the limits, and plays within theirs that do not break 9 on it: their file gets no number, and its scores are theirs
pub file_with_plays : (m : Map) (ps : List Play) → MapWithin m → Each PlayWithin ps → Each (Keeps m) ps
    → scores_of (file_of (map_file m ++ each play_bytes ps)) ≡ good (record { map = m; plays = scored_plays m ps })
unfolding ◌>>=◌
file_with_plays m ps w pw kept =
    let k = round_trip m ps w pw in
    let f = k.file in
    let here : play_scores m f.plays ≡ good (scored_plays m ps) =
    plays_scored m f.plays (subst (Each (Keeps m)) (sym k.plays_back) kept) ∙ ap (λ (l : List Play). good (scored_plays m l)) k.plays_back in
    ap scores_of k.read
    ∙ ap (λ (x : Map). play_scores x f.plays >>= λ ss. good (record { map = x; plays = ss })) k.map_back
    ∙ ap (λ (x : OrRefusal (List PlayScore)). x >>= λ ss. good (record { map = m; plays = ss })) here

-- ---- "given when, and only when", of whole files
-- the file of a map within the limits with plays within theirs behind it, none of which breaks 9
pub record RulesKept (s : List ℕ) : Type 0 where
  pub map : Map
  pub plays : List Play
  pub bytes : s ≡ map_file map ++ each play_bytes plays
  pub within : MapWithin map
  pub fields : Each PlayWithin plays
  pub kept : Each (Keeps map) plays

-- a file, of bytes, that gets no number is such a file
pub only_when_kept : (s : List ℕ) → Bytes s → (sc : Scores) → scores_of (file_of s) ≡ good sc → RulesKept s
only_when_kept s b sc e =
    let k = no_number s sc e in
    let bytes = accepted_bytes s b k.file k.read in
    record {
      map = k.file.map;
      plays = bare k.file.plays;
      bytes = bytes.0;
      within = accepted_within s k.file k.read;
      fields = bytes.1;
      kept = plays_keep k.file.map k.file.plays sc.plays k.plays;
    }

-- every such file gets none, and its scores are those of its plays
pub when_kept : (s : List ℕ) (k : RulesKept s) → scores_of (file_of s) ≡ good (record { map = k.map; plays = scored_plays k.map k.plays })
when_kept s k = ap (λ (l : List ℕ). scores_of (file_of l)) k.bytes ∙ file_with_plays k.map k.plays k.within k.fields k.kept
