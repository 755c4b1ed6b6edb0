-- Every refusal has the number of a rule: each check of a record names one, and the reading of a file always comes to its end.
use Rattle.rules.specs.declared.refusal.Rule.{Rule}
use Rattle.rules.specs.declared.refusal.Refusal.{Refusal}
use Rattle.std.specs.Option.{ok_or}
use Rattle.std.specs.Prelude.{Option, Some, None, is_none}
use mathlib.Core.Path.{◌≡◌, refl, subst}
use mathlib.Core.Bool.{Bool, true, false}
use mathlib.Core.List.{List, [], ◌∷◌}
use Prim.Native.Nat.{ℕ, zero, suc, ◌-◌, ◌≤◌, ◌<◌}
use native.Mathlib.Omega.{arith}
use borrow.Author.Tests.{ltb-true}
use lib.Dec.{eqb, ltb}
use lib.ListN.{length, take, drop}
use Rattle.numbers.specs.Words.{word_at}
use Rattle.rules.specs.Refusals.{Checked, good, refused, ◌>>=◌, ◌>>◌, refuse◌when◌, pick, number_of, OrRefusal, refusal_at, CUT, MARK, RANGE, NESTED, COUNT, BONUS, PLAY_FIELD, PLAY_EXCEEDS, at_offset}
use Rattle.records.specs.Fields.{time_of, duration_of, rate_of, setting_of}
use Rattle.play_state.specs.Play.{origin_of, score_of}
use Rattle.records.specs.Marks.{MH, BR, CI, SL, SP, PL}
use Rattle.records.specs.Records.{Content, FoundRecord, header_of, break_of, circle_of, item_of, nested_of, slider_of, spinner_of, play_of, object_of}
use Rattle.map_file.specs.Order.{body_of, record_of}
use Rattle.map_file.specs.File.{File, Result, accepted, refused_at, counts_of, with_record, follow, ended, file_from, nothing_read, file_of}
use Rattle.map_file.specs.declared.file.Counts.{Counts}
use Rattle.play_state.specs.declared.Play.{Play}
use Rattle.map_file.specs.File.{Map}
use Rattle.map_file.proofs.Reading.{found_at, found_sized, with_at}
use Rattle.simulator.specs.Attributes.{score_attributes_at}
use Rattle.simulator.specs.declared.attributes.ScoreAttributes.{ScoreAttributes}
use Rattle.play_score.specs.PlayRules.{play_score, given_score}
use Rattle.scoring.specs.Scores.{play_score_on, play_scores, scores_of}

-- the rules of a map file and its plays are numbered 2 to 9
abbrev pub IsRule : Rule → Type 0
IsRule n = (2 ≤ number_of n) × (number_of n ≤ 9)

-- a value, or a rule's number
pub data Ruled {A : Type 0} : Checked A → Type 0 where
  fine : {a : A} → Ruled (good a)
  rule : {n : Rule} → IsRule n → Ruled (refused n)

pub ruled_bind : {A B : Type 0} (x : Checked A) (f : A → Checked B) → Ruled x → ((a : A) → Ruled (f a)) → Ruled (x >>= f)
unfolding ◌>>=◌
ruled_bind (refused n) f (rule r) k = rule r
ruled_bind (good a) f fine k = k a

pub ruled_when : {B : Type 0} (n : Rule) (b : Bool) (y : Checked B) → IsRule n → Ruled y → Ruled ((refuse n when b) >> y)
unfolding ◌>>◌ refuse◌when◌
ruled_when n true y r k = rule r
ruled_when n false y r k = k

ruled_pick : {A : Type 0} (b : Bool) {x y : Checked A} → Ruled x → Ruled y → Ruled (pick b x y)
ruled_pick true p q = p
ruled_pick false p q = q

pub two : IsRule CUT
two = (omega arith, omega arith)

pub three : IsRule MARK
three = (omega arith, omega arith)

four : IsRule RANGE
four = (omega arith, omega arith)

five : IsRule NESTED
five = (omega arith, omega arith)

six : IsRule COUNT
six = (omega arith, omega arith)

seven : IsRule BONUS
seven = (omega arith, omega arith)

pub eight : IsRule PLAY_FIELD
eight = (omega arith, omega arith)

nine : IsRule PLAY_EXCEEDS
nine = (omega arith, omega arith)

-- ---- the fields
ruled_or : {A : Type 0} (n : Rule) → IsRule n → (x : Option A) → Ruled (ok_or x n)
ruled_or n r (Some x) = fine
ruled_or n r None = rule r

ruled_nested : (l : List ℕ) → Ruled (nested_of l)
unfolding nested_of
ruled_nested [] = rule five
ruled_nested (b ∷ []) = ruled_pick (eqb b 2) fine (rule five)
ruled_nested (b ∷ c ∷ l) =
    ruled_bind (item_of b) _ (ruled_pick (eqb b 0) fine (ruled_pick (eqb b 1) fine (rule five))) (λ i. ruled_bind (nested_of (c ∷ l)) _ (ruled_nested (c ∷ l)) (λ is. fine))

-- ---- the records
ruled_header : (r : List ℕ) → Ruled (header_of r)
unfolding header_of
ruled_header r =
    ruled_when CUT _ _ two (ruled_bind _ _ (ruled_or _ four (setting_of (word_at r 2 4))) (λ hp. ruled_bind _ _ (ruled_or _ four (setting_of (word_at r 6 4))) (λ od. ruled_bind _ _ (ruled_or _ four (setting_of (word_at r 10 4))) (λ cs. fine))))

ruled_break : (r : List ℕ) → Ruled (break_of r)
unfolding break_of
ruled_break r = ruled_when CUT _ _ two (ruled_bind _ _ (ruled_or _ four (time_of (word_at r 2 8))) (λ a. ruled_bind _ _ (ruled_or _ four (time_of (word_at r 10 8))) (λ b. fine)))

ruled_circle : (r : List ℕ) → Ruled (circle_of r)
unfolding circle_of
ruled_circle r = ruled_when CUT _ _ two (ruled_bind _ _ (ruled_or _ four (time_of (word_at r 2 8))) (λ a. fine))

ruled_slider : (r : List ℕ) → Ruled (slider_of r)
unfolding slider_of
ruled_slider r =
    ruled_when CUT _ _ two (ruled_bind _ _ (ruled_or _ four (time_of (word_at r 2 8))) (λ a.
    ruled_when COUNT _ _ six (ruled_when CUT _ _ two (ruled_bind _ _ (ruled_nested (take (word_at r 10 2) (drop 12 r))) (λ is. fine)))))

ruled_spinner : (r : List ℕ) → Ruled (spinner_of r)
unfolding spinner_of
ruled_spinner r = ruled_when CUT _ _ two (ruled_bind _ _ (ruled_or _ four (time_of (word_at r 2 8))) (λ a. ruled_bind _ _ (ruled_or _ four (duration_of (word_at r 10 8))) (λ b. fine)))

ruled_play : (r : List ℕ) → Ruled (play_of r)
unfolding play_of
ruled_play r =
    ruled_when CUT _ _ two (ruled_bind _ _ (ruled_or _ eight (origin_of (word_at r 28 1))) (λ o. ruled_bind _ _ (ruled_or _ eight (score_of (word_at r 29 1) (word_at r 30 4))) (λ s.
    ruled_when PLAY_FIELD _ _ eight (ruled_bind _ _ (ruled_or _ eight (rate_of (word_at r 36 8))) (λ x. fine)))))

pub ruled_object : (r : List ℕ) (m : ℕ) → Ruled (object_of r m)
unfolding object_of
ruled_object r m = ruled_pick (eqb m CI) (ruled_circle r) (ruled_pick (eqb m SL) (ruled_slider r) (ruled_pick (eqb m SP) (ruled_spinner r) (rule three)))

ruled_body : (r : List ℕ) (m : ℕ) → Ruled (body_of r m)
unfolding body_of
ruled_body r m = ruled_pick (eqb m MH) (ruled_header r) (ruled_pick (eqb m BR) (ruled_break r) (ruled_pick (eqb m PL) (ruled_play r) (ruled_object r m)))

ruled_record : (r : List ℕ) (c : Counts) → Ruled (record_of r c)
unfolding record_of
ruled_record r c =
    ruled_when CUT _ _ two (ruled_when MARK _ _ three (ruled_when COUNT _ _ six (ruled_bind (body_of r (word_at r 0 2)) _ (ruled_body r (word_at r 0 2)) (λ f. ruled_when BONUS _ _ seven fine))))

-- ---- the file
pub data RuledFile : Result → Type 0 where
  fine : {f : File} → RuledFile (accepted f)
  rule : {n : Rule} {at : ℕ} {f : File} → IsRule n → RuledFile (refused_at n at f)

ruled_ended : (f : File) → RuledFile (ended f)
ruled_ended f = go (is_none f.last)
  where
    go : (b : Bool) → RuledFile (pick b (refused_at MARK 0 f) (accepted f))
    go true = rule three
    go false = fine

ruled_from : (fuel : ℕ) (s : List ℕ) (f : File) → length s - f.at < fuel → RuledFile (file_from fuel s f)
unfolding file_from
ruled_from zero s f h = absurd (omega (arith, h))
ruled_from (suc fuel) s f h =
    go
    (λ r q before. ruled_from fuel s (with_record f r) (let past = with_at f r in let sized = found_sized s f r q in omega (arith, past, sized.0, before, h)))
    (ltb f.at (length s))
    refl
    (found_at s f)
    refl
    (ruled_record (drop f.at s) (counts_of f))
  where
    go : ((r : Content × ℕ) → found_at s f ≡ good r → f.at < length s → RuledFile (file_from fuel s (with_record f r)))
        → (b : Bool) → ltb f.at (length s) ≡ b → (x : FoundRecord) → found_at s f ≡ x → Ruled x
        → RuledFile (pick b (follow f x (λ r. file_from fuel s (with_record f r))) (ended f))
    go more false e x q k = ruled_ended f
    go more true e (refused n) q (rule r) = rule r
    go more true e (good r) q k = more r q (ltb-true f.at (length s) e)

pub ruled_file : (s : List ℕ) → RuledFile (file_of s)
unfolding file_of
ruled_file s = ruled_from (suc (length s)) s nothing_read (omega arith)

-- ---- the plays
pub ruled_score_of : (p : Play) (a : ScoreAttributes) → Ruled (play_score p a)
unfolding play_score
ruled_score_of p a = ruled_when PLAY_EXCEEDS _ _ nine fine

-- of a play that is given beside its map
pub ruled_given : (p : Play) (a : ScoreAttributes) → Ruled (given_score p a)
unfolding given_score
ruled_given p a = ruled_when PLAY_FIELD _ _ eight (ruled_score_of p a)

data RuledAt {A : Type 0} : OrRefusal A → Type 0 where
  fine : {a : A} → RuledAt (good a)
  rule : {r : Refusal} → IsRule r.rule → RuledAt (refused r)

ruled_at : {A : Type 0} (at : ℕ) (x : Checked A) → Ruled x → RuledAt (at_offset at x)
ruled_at at (refused n) (rule r) = rule r
ruled_at at (good a) k = fine

ruled_then : {A B : Type 0} (x : OrRefusal A) (f : A → OrRefusal B) → RuledAt x → ((a : A) → RuledAt (f a)) → RuledAt (x >>= f)
unfolding ◌>>=◌
ruled_then (refused n) f (rule r) k = rule r
ruled_then (good a) f x k = k a

ruled_before : {A B : Type 0} (x : OrRefusal A) (y : OrRefusal B) → RuledAt x → RuledAt y → RuledAt (x >> y)
unfolding ◌>>◌
ruled_before (refused n) y (rule r) k = rule r
ruled_before (good a) y x k = k

ruled_plays : (m : Map) (ps : List (ℕ × Play)) → RuledAt (play_scores m ps)
unfolding play_scores
ruled_plays m [] = fine
ruled_plays m (p ∷ ps) =
    ruled_then _ _ (ruled_at p.0 (play_score_on m p.1) (ruled_score_of p.1 (score_attributes_at m p.1.passed_objects))) (λ s. ruled_then _ _ (ruled_plays m ps) (λ ss. fine))

pub refusal_rule : (s : List ℕ) (n : Rule) (at : ℕ) → scores_of (file_of s) ≡ refused (refusal_at n at) → IsRule n
refusal_rule s n at e = out (subst RuledAt e (go (file_of s) (ruled_file s)))
  where
    go : (r : Result) → RuledFile r → RuledAt (scores_of r)
    go (accepted f) k = ruled_then _ _ (ruled_plays f.map f.plays) (λ ss. fine)
    go (refused_at n at f) (rule r) = ruled_before _ _ (ruled_plays f.map f.plays) (rule r)

    out : {A : Type 0} {r : Refusal} → RuledAt {A = A} (refused r) → IsRule r.rule
    out (rule r) = r
