-- A record is read from its own bytes: what follows them changes nothing. So the part of a file up to the end of a record is a file too.
use Rattle.rules.specs.declared.refusal.Rule.{Rule}
use mathlib.Core.Path.{◌≡◌, refl, sym, ap, ◌∙◌, subst}
use mathlib.Core.Bool.{Bool, true, false, not}
use mathlib.Core.List.{List, ◌++◌}
use Prim.Native.Nat.{ℕ, ◌+◌, ◌≤◌}
use native.Mathlib.Omega.{arith}
use lib.Dec.{eqb, ltb}
use lib.ListN.{length, take, drop, length-append, length-drop}
use lib.Seq.{take-append-le, drop-append-le}
use borrow.Author.Tests.{le-ltb}
use Rattle.numbers.specs.Words.{word_at}
use Rattle.numbers.proofs.words.Laws.{word_at-within}
use Rattle.rules.specs.Refusals.{Checked, good, refused, ◌>>=◌, ◌>>◌, refuse◌when◌, pick, CUT, COUNT, PLAY_FIELD, MARK, BONUS}
use Rattle.play_state.specs.Play.{hitresults_of}
use Rattle.records.specs.Marks.{MH, BR, CI, SL, SP, PL}
use Rattle.records.specs.Records.{Content, FoundRecord, header_of, break_of, circle_of, slider_of, spinner_of, play_of, object_of}
use Rattle.map_file.specs.Order.{rank_of, in_order, is_full, over_bonus, content_bonus, body_of, record_of}
use Rattle.map_file.specs.declared.file.Counts.{Counts}
use Rattle.rules.proofs.All.{All, that, all_any, all_when, all_out}
use Rattle.rules.proofs.Laws.{never}

module _ (p t : List ℕ) where
  -- the fields of a part that is there
  whole : (n : ℕ) → n ≤ length p → ltb (length p) n ≡ false
  whole n h = le-ltb _ _ h

  whole_more : (n : ℕ) → n ≤ length p → ltb (length (p ++ t)) n ≡ false
  whole_more n h = let e = length-append p t in let k : n ≤ length (p ++ t) = omega (arith, e, h) in le-ltb _ _ k

  word : (at n : ℕ) → at + n ≤ length p → word_at (p ++ t) at n ≡ word_at p at n
  word at n h = word_at-within p t at n h

  header_local : 14 ≤ length p → header_of (p ++ t) ≡ header_of p
  unfolding header_of
  header_local h = simp (whole 14 h, whole_more 14 h, word 2 4 (omega (arith, h)), word 6 4 (omega (arith, h)), word 10 4 (omega (arith, h)))

  break_local : 18 ≤ length p → break_of (p ++ t) ≡ break_of p
  unfolding break_of
  break_local h = simp (whole 18 h, whole_more 18 h, word 2 8 (omega (arith, h)), word 10 8 (omega (arith, h)))

  circle_local : 10 ≤ length p → circle_of (p ++ t) ≡ circle_of p
  unfolding circle_of
  circle_local h = simp (whole 10 h, whole_more 10 h, word 2 8 (omega (arith, h)))

  spinner_local : 18 ≤ length p → spinner_of (p ++ t) ≡ spinner_of p
  unfolding spinner_of
  spinner_local h = simp (whole 18 h, whole_more 18 h, word 2 8 (omega (arith, h)), word 10 8 (omega (arith, h)))

  slider_local : 12 + word_at (p ++ t) 10 2 ≤ length p → slider_of (p ++ t) ≡ slider_of p
  unfolding slider_of
  slider_local h =
      let n = word_at p 10 2 in
      let w : word_at (p ++ t) 10 2 ≡ n = word 10 2 (omega (arith, h)) in
      let k : 12 + n ≤ length p = rw w at h in
      let d : drop 12 (p ++ t) ≡ drop 12 p ++ t = drop-append-le 12 p t (omega (arith, k)) in
      let l = length-drop 12 p in
      let part : take n (drop 12 p ++ t) ≡ take n (drop 12 p) = take-append-le n (drop 12 p) t (omega (arith, k, l)) in
      simp (whole 12 (omega (arith, k)), whole_more 12 (omega (arith, k)), word 2 8 (omega (arith, k)), w, whole (12 + n) k, whole_more (12 + n) k, d, part)

  play_local : 44 ≤ length p → play_of (p ++ t) ≡ play_of p
  unfolding play_of hitresults_of
  play_local h =
      simp (whole 44 h, whole_more 44 h, word 28 1 (omega (arith, h)), word 29 1 (omega (arith, h)), word 30 4 (omega (arith, h)), word 34 2 (omega (arith, h)), word 36 8 (omega (arith, h)), word 2 2 (omega (arith, h)), word 4 4 (omega (arith, h)), word 8 2 (omega (arith, h)), word 10 2 (omega (arith, h)), word 12 2 (omega (arith, h)), word 14 2 (omega (arith, h)), word 16 4 (omega (arith, h)), word 20 4 (omega (arith, h)), word 24 4 (omega (arith, h)))

-- ---- the sizes
header_size_lem : (r : List ℕ) → All (λ f. f.1 ≡ 14) (header_of r)
unfolding header_of
header_size_lem r = all_when CUT _ _ (λ _. all_any _ _ (λ a. all_any _ _ (λ b. all_any _ _ (λ c. that refl))))

break_size_lem : (r : List ℕ) → All (λ f. f.1 ≡ 18) (break_of r)
unfolding break_of
break_size_lem r = all_when CUT _ _ (λ _. all_any _ _ (λ a. all_any _ _ (λ b. that refl)))

circle_size_lem : (r : List ℕ) → All (λ f. f.1 ≡ 10) (circle_of r)
unfolding circle_of
circle_size_lem r = all_when CUT _ _ (λ _. all_any _ _ (λ a. that refl))

spinner_size_lem : (r : List ℕ) → All (λ f. f.1 ≡ 18) (spinner_of r)
unfolding spinner_of
spinner_size_lem r = all_when CUT _ _ (λ _. all_any _ _ (λ a. all_any _ _ (λ b. that refl)))

slider_size_lem : (r : List ℕ) → All (λ f. f.1 ≡ 12 + word_at r 10 2) (slider_of r)
unfolding slider_of
slider_size_lem r = all_when CUT _ _ (λ _. all_any _ _ (λ a. all_when COUNT _ _ (λ _. all_when CUT _ _ (λ _. all_any _ _ (λ is. that refl)))))

play_size_lem : (r : List ℕ) → All (λ f. f.1 ≡ 44) (play_of r)
unfolding play_of
play_size_lem r = all_when CUT _ _ (λ _. all_any _ _ (λ a. all_any _ _ (λ b. all_when PLAY_FIELD _ _ (λ _. all_any _ _ (λ c. that refl)))))

-- ---- what is found in the whole is found in the part that holds it
abbrev Found_in : List ℕ → List ℕ → (List ℕ → FoundRecord) → Content × ℕ → Type 0
Found_in p t read f = read (p ++ t) ≡ good f → f.1 ≤ length p → read p ≡ good f

size_of_lem : {P : Content × ℕ → Type 0} {x : FoundRecord} {f : Content × ℕ} → All P x → x ≡ good f → P f
size_of_lem {P = P} a e = all_out (subst (All P) e a)

pick_in : (b : Bool) {x x' y y' : FoundRecord} {f : Content × ℕ} → (x ≡ good f → x' ≡ good f) → (y ≡ good f → y' ≡ good f) → pick b x y ≡ good f → pick b x' y' ≡ good f
pick_in true p q e = p e
pick_in false p q e = q e

module _ (p t : List ℕ) (f : Content × ℕ) where
  header_in : Found_in p t header_of f
  header_in e h = let n : f.1 ≡ 14 = size_of_lem (header_size_lem (p ++ t)) e in sym (header_local p t (omega (arith, n, h))) ∙ e

  break_in : Found_in p t break_of f
  break_in e h = let n : f.1 ≡ 18 = size_of_lem (break_size_lem (p ++ t)) e in sym (break_local p t (omega (arith, n, h))) ∙ e

  circle_in : Found_in p t circle_of f
  circle_in e h = let n : f.1 ≡ 10 = size_of_lem (circle_size_lem (p ++ t)) e in sym (circle_local p t (omega (arith, n, h))) ∙ e

  spinner_in : Found_in p t spinner_of f
  spinner_in e h = let n : f.1 ≡ 18 = size_of_lem (spinner_size_lem (p ++ t)) e in sym (spinner_local p t (omega (arith, n, h))) ∙ e

  slider_in : Found_in p t slider_of f
  slider_in e h = let n : f.1 ≡ 12 + word_at (p ++ t) 10 2 = size_of_lem (slider_size_lem (p ++ t)) e in sym (slider_local p t (omega (arith, n, h))) ∙ e

  play_in_lem : Found_in p t play_of f
  play_in_lem e h = let n : f.1 ≡ 44 = size_of_lem (play_size_lem (p ++ t)) e in sym (play_local p t (omega (arith, n, h))) ∙ e

  object_in_lem : (m : ℕ) → Found_in p t (λ r. object_of r m) f
  unfolding object_of
  object_in_lem m e h = pick_in (eqb m CI) (λ k. circle_in k h) (pick_in (eqb m SL) (λ k. slider_in k h) (pick_in (eqb m SP) (λ k. spinner_in k h) (λ k. k))) e

  body_in : (m : ℕ) → Found_in p t (λ r. body_of r m) f
  unfolding body_of
  body_in m e h = pick_in (eqb m MH) (λ k. header_in k h) (pick_in (eqb m BR) (λ k. break_in k h) (pick_in (eqb m PL) (λ k. play_in_lem k h) (λ k. object_in_lem m k h))) e

when_out : {A : Type 0} (n : Rule) (b : Bool) {y : Checked A} {a : A} → ((refuse n when b) >> y) ≡ good a → (b ≡ false) × (y ≡ good a)
unfolding ◌>>◌ refuse◌when◌
when_out n true e = never (cc)
when_out n false e = (refl, e)

record Bound {A B : Type 0} (x : Checked A) (k : A → Checked B) (b : B) : Type 0 where
  value : A
  is : x ≡ good value
  next : k value ≡ good b

bind_out : {A B : Type 0} (x : Checked A) (k : A → Checked B) {b : B} → (x >>= k) ≡ good b → Bound x k b
unfolding ◌>>=◌
bind_out (refused n) k e = never (cc)
bind_out (good a) k e = record { value = a; is = refl; next = e }

record Passed (r : List ℕ) (c : Counts) (f : Content × ℕ) : Type 0 where
  two : ltb (length r) 2 ≡ false
  order : not (in_order c.last (rank_of (word_at r 0 2))) ≡ false
  room : is_full c (rank_of (word_at r 0 2)) ≡ false
  body : body_of r (word_at r 0 2) ≡ good f
  low : over_bonus c (content_bonus f.0) ≡ false

passed : (r : List ℕ) (c : Counts) (f : Content × ℕ) → record_of r c ≡ good f → Passed r c f
unfolding record_of
passed r c f e =
    let a = when_out CUT (ltb (length r) 2) e in
    let b = when_out MARK (not (in_order c.last (rank_of (word_at r 0 2)))) a.1 in
    let d = when_out COUNT (is_full c (rank_of (word_at r 0 2))) b.1 in
    let k = bind_out (body_of r (word_at r 0 2)) _ d.1 in
    let l = when_out BONUS (over_bonus c (content_bonus k.value.0)) k.next in
    let same : k.value ≡ f = good_is l.1 in
    record { two = a.0; order = b.0; room = d.0; body = k.is ∙ ap good same; low = subst (λ (g : Content × ℕ). over_bonus c (content_bonus g.0) ≡ false) same l.0 }
  where
    good_is : {a b : Content × ℕ} → ◌≡◌ {A = FoundRecord} (good a) (good b) → a ≡ b
    good_is e = cc

-- a record that is found is the one of its mark
pub record_body : (r : List ℕ) (c : Counts) (f : Content × ℕ) → record_of r c ≡ good f → body_of r (word_at r 0 2) ≡ good f
record_body r c f e = (passed r c f e).body

-- a record that is found in a whole is found in each part that holds it
pub record_in : (p t : List ℕ) (c : Counts) (f : Content × ℕ) → record_of (p ++ t) c ≡ good f → 2 ≤ f.1 → f.1 ≤ length p → record_of p c ≡ good f
unfolding record_of ◌>>=◌ ◌>>◌ refuse◌when◌
record_in p t c f e two h =
    let k = passed (p ++ t) c f e in
    let mark : word_at (p ++ t) 0 2 ≡ word_at p 0 2 = word p t 0 2 (omega (arith, two, h)) in
    let order : not (in_order c.last (rank_of (word_at p 0 2))) ≡ false = subst (λ (m : ℕ). not (in_order c.last (rank_of m)) ≡ false) mark k.order in
    let room : is_full c (rank_of (word_at p 0 2)) ≡ false = subst (λ (m : ℕ). is_full c (rank_of m) ≡ false) mark k.room in
    let body : body_of p (word_at p 0 2) ≡ good f = body_in p t f (word_at p 0 2) (subst (λ (m : ℕ). body_of (p ++ t) m ≡ good f) mark k.body) h in
    simp (whole p t 2 (omega (arith, two, h)), order, room, body, k.low)
