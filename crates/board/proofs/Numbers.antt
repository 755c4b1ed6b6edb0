-- On any lent memory a refused read has one of document 01's numbers, 2 to 13 but for 10: each check has its own. Assumes nothing.
use Rattle.rules.specs.declared.refusal.Rule.{Rule}
use mathlib.Core.Bool.{Bool, true, false, not, cond, ◌&&◌, true≢false}
use mathlib.Core.List.{List}
use mathlib.Core.Logic.{◌≢◌}
use mathlib.Core.Path.{◌≡◌, refl, sym, ap, ◌∙◌}
use Prim.Native.Nat.{ℕ, zero, suc, ◌+◌, ◌-◌, ◌*◌, ◌/◌, ◌^◌, ◌≤◌, min}
use borrow.Author.Tests.{eq-eqb, leb-true}
use lib.Dec.{eqb, leb}
use lib.Ieee.{Float, nan}
use lib.ListN.{get_or}
use Rattle.numbers.specs.Floats.{whole}
use Rattle.rules.specs.Refusals.{Checked, good, refused, ◌>>=◌, ◌>>◌, refuse◌when◌, pick, number_of, COUNT, ROOM, BOARD, BONUS, PLAY_EXCEEDS, RANGE, PLAY_FIELD}
use Rattle.rules.proofs.Laws.{and_left, and_right}
use Rattle.play_state.specs.declared.Play.{Play}
use Rattle.records.specs.declared.beatmap.Settings.{Settings}
use Rattle.simulator.specs.declared.attributes.ScoreAttributes.{ScoreAttributes}
use Rattle.play_score.specs.PlayRules.{play_score}
use Rattle.entries.specs.Entry.{none, checked}
use Rattle.entries.specs.Words.{entry_at}
use Rattle.entries.specs.declared.entry.Entry.{Entry}
use Rattle.tree.specs.Size.{levels_of}
use Rattle.tree.specs.Limited.{limited, after_of}
use Rattle.tree.specs.Put.{above_of, climbed}
use Rattle.tree.specs.First.{walked}
use Rattle.board.specs.Place.{room_for}
use Rattle.board.specs.Search.{time_bad, starts_in, found_of}
use Rattle.board.specs.Read.{attributes_from, score_from, read_of}
use Rattle.board.specs.declared.search.Starts.{Starts}

-- one of the numbers from 2 to the highest that a call gives; 10 is none of them, since document 02, §3 took it away
pub record Number (highest n : ℕ) : Type 0 where
  pub least : 2 ≤ n
  pub most : n ≤ highest
  pub not_10 : n ≢ 10

-- of a number that is written out
abbrev pub is_number : ℕ → ℕ → Bool
is_number highest n = leb 2 n && (leb n highest && not (eqb n 10))

pub number_is : (highest n : ℕ) → is_number highest n ≡ true → Number highest n
number_is highest n h =
    let above = and_right (leb 2 n) _ h in
    record {
      least = leb-true 2 n (and_left (leb 2 n) _ h);
      most = leb-true n highest (and_left (leb n highest) _ above);
      not_10 = λ e. true≢false (sym (and_right (leb n highest) _ above) ∙ ap not (eq-eqb n 10 e));
    }

-- a value, or one of the numbers 2 to 13
pub data Numbered {A : Type 0} : Checked A → Type 0 where
  value : {a : A} → Numbered (good a)
  number : {n : Rule} → Number 13 (number_of n) → Numbered (refused n)

pub numbered_bind : {A B : Type 0} (x : Checked A) (f : A → Checked B) → Numbered x → ((a : A) → Numbered (f a)) → Numbered (x >>= f)
unfolding ◌>>=◌
numbered_bind (refused n) f (number h) k = number h
numbered_bind (good a) f value k = k a

pub numbered_then : {B : Type 0} (x : Checked (Unit {0})) (y : Checked B) → Numbered x → Numbered y → Numbered (x >> y)
unfolding ◌>>◌
numbered_then (refused n) y (number h) k = number h
numbered_then (good a) y value k = k

pub numbered_when : (n : Rule) (b : Bool) → is_number 13 (number_of n) ≡ true → Numbered (refuse n when b)
unfolding refuse◌when◌
numbered_when n true h = number (number_is 13 (number_of n) h)
numbered_when n false h = value

-- ---- what both calls on a board do
pub room_numbered : (b : List ℕ) (ts : List Float) (n : ℕ) → Numbered (room_for b ts n)
unfolding room_for
room_numbered b ts n =
    numbered_then _ _ (numbered_when COUNT _ refl) (numbered_then _ _ (numbered_when ROOM _ refl) (numbered_when ROOM _ refl))

limited_numbered : (e : Entry) → Numbered (limited e)
unfolding limited
limited_numbered e = numbered_then _ _ (numbered_when BOARD _ refl) (numbered_then _ _ (numbered_when BONUS _ refl) value)

checked_numbered : (e : Entry) → Numbered (checked e)
unfolding checked
checked_numbered e = numbered_then _ _ (numbered_when BOARD _ refl) value

pub climbed_numbered : (n : ℕ) (b : List ℕ) (e : ℕ) (v : Entry) → Numbered (climbed n b e v)
unfolding climbed above_of
climbed_numbered zero b e v = value
climbed_numbered (suc n) b e v =
    numbered_bind _ _ (numbered_bind _ _ (checked_numbered _) (λ r. limited_numbered _)) (λ u. numbered_bind _ _ (climbed_numbered n b (e / 2) u) (λ w. value))

-- ---- a read
score_numbered : (p : Play) (a : ScoreAttributes) → Numbered (play_score p a)
unfolding play_score
score_numbered p a = numbered_then _ _ (numbered_when PLAY_EXCEEDS _ refl) value

walked_numbered : (n : ℕ) (b : List ℕ) (x p : ℕ) (a : Entry) → Numbered (walked n b x p a)
unfolding walked after_of
walked_numbered zero b x p a = value
walked_numbered (suc n) b x p a = go (leb (2 ^ n) p) (λ u. walked_numbered n b ((x + 1) * 2) (p - 2 ^ n) u) (walked_numbered n b (x * 2) p a)
  where
    go : (t : Bool) → ((u : Entry) → Numbered (walked n b ((x + 1) * 2) (p - 2 ^ n) u)) → Numbered (walked n b (x * 2) p a)
        → Numbered (cond t (after_of a (entry_at b x) >>= (λ u. walked n b ((x + 1) * 2) (p - 2 ^ n) u)) (walked n b (x * 2) p a))
    go true taken left = numbered_bind _ _ (numbered_bind _ _ (checked_numbered _) (λ r. limited_numbered _)) taken
    go false taken left = left

starts_numbered : (ts : List Float) (n p : ℕ) → Numbered (starts_in ts n p)
unfolding starts_in
starts_numbered ts n p = go (eqb n 0)
  where
    go : (t : Bool) → Numbered {A = Starts} (pick t (good (record { first = whole 0; last = whole 0 })) ((refuse BOARD when time_bad (get_or ts 0 nan)) >> ((refuse BOARD when time_bad (get_or ts (p - 1) nan)) >> good (record { first = get_or ts 0 nan; last = get_or ts (p - 1) nan }))))
    go true = value
    go false = numbered_then _ _ (numbered_when BOARD _ refl) (numbered_then _ _ (numbered_when BOARD _ refl) value)

pub read_numbered : (b : List ℕ) (ts : List Float) (n : ℕ) (s : Settings) (br : List Float) (p : Play) → Numbered (read_of b ts n s br p)
unfolding read_of score_from found_of
read_numbered b ts n s br p =
    numbered_then _ _ (numbered_when COUNT _ refl) (numbered_then _ _ (room_numbered b ts n) (numbered_then _ _ (numbered_when RANGE _ refl) (numbered_then _ _ (numbered_when PLAY_FIELD _ refl)
    (numbered_bind _ _
    (numbered_bind _ _ (walked_numbered (levels_of n + 1) b 1 (min p.passed_objects n) none) (λ sum.
    numbered_bind _ _ (starts_numbered ts n (min p.passed_objects n)) (λ ends. numbered_then _ _ (numbered_when BOARD _ refl) value)))
    (λ found. score_numbered p (attributes_from found s br n))))))
