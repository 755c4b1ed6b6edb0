-- Bytes that are read as an object are that object's record: a number that was read is written as its bytes, and a float in its range is no NaN,
-- so that its bits come back too.
use mathlib.Core.Bool.{Bool, true, false, not}
use mathlib.Core.List.{List, [], ◌∷◌, ◌++◌}
use mathlib.Core.Path.{◌≡◌, refl, sym, ap, ap₂, ◌∙◌, subst}
use Prim.Native.Nat.{ℕ, ◌+◌, ◌≤◌, ◌<◌, ◌^◌}
use native.Mathlib.Omega.{arith}
use borrow.Author.Tests.{ltb-false, eqb-true}
use lib.Dec.{T, eqb}
use lib.Ieee.Bits.{to_bits-of_bits}
use lib.Ieee.{Float, nan, inf, fin, binary32, binary64, of_bits, to_bits, lt, eq, le, is_nan}
use lib.ListN.{length, take, drop, length-drop}
use lib.Seq.{take-add, drop-drop, length-take-le}
use Rattle.numbers.specs.Words.{word_at, bytes_of}
use Rattle.numbers.proofs.words.Laws.{Bytes, word_at_lt, bytes_of-word_at}
use Rattle.rules.specs.Refusals.{good, CUT, COUNT, MARK, PLAY_FIELD, BONUS}
use Rattle.rules.proofs.All.{All, none, that, all_bind, all_when, all_pick, all_out}
use Rattle.play_state.specs.Play.{origin_of, score_of, hitresults_of, played}
use Rattle.records.specs.Fields.{ranged, setting_of, setting_limit, rate_of, rate_limit}
use Rattle.records.specs.Marks.{MH, BR, CI, SL, SP, PL}
use Rattle.records.specs.Objects.{Object}
use Rattle.records.specs.Records.{Content, header, break, object, play, circle_of, item_of, nested_of, slider_of, spinner_of, object_of, header_of, break_of, play_of}
use Rattle.map_file.specs.Order.{body_of, record_of}
use Rattle.map_file.specs.declared.file.Counts.{Counts}
use Rattle.encoding.specs.Encoding.{fields_of, circle_fields, slider_fields, spinner_fields, item_byte, nested_bytes, object_bytes, header_fields, break_fields, play_fields, origin_byte, present_byte, score_number, header_bytes, break_bytes, play_bytes}
use Rattle.encoding.proofs.FieldBytes.{widths, double_within}
use Rattle.encoding.proofs.RecordsBack.{nested_length}

-- ---- fields that stand in the bytes one after the other, from a place on
abbrev Stand : List ℕ → ℕ → List (ℕ × ℕ) → Type 0
Stand r at [] = Unit
Stand r at (f ∷ fs) = (word_at r at f.0 ≡ f.1) × Stand r (at + f.0) fs

fields_are : (r : List ℕ) → Bytes r → (fs : List (ℕ × ℕ)) (at : ℕ) → at + widths fs ≤ length r → Stand r at fs
    → take (widths fs) (drop at r) ≡ fields_of fs
unfolding fields_of
fields_are r b [] at h s = refl
fields_are r b (f ∷ fs) at h s =
    let first : take f.0 (drop at r) ≡ bytes_of f.0 f.1 =
    sym (bytes_of-word_at r at f.0 b (omega (arith, h))) ∙ ap (bytes_of f.0) s.0 in
    let rest : take (widths fs) (drop (at + f.0) r) ≡ fields_of fs = fields_are r b fs (at + f.0) (omega (arith, h)) s.1 in
    take-add f.0 (widths fs) (drop at r) ∙ ap₂ (λ (x y : List ℕ). x ++ y) first (ap (take (widths fs)) (drop-drop f.0 at r) ∙ rest)

-- ---- floats
-- what holds of a float in its range
pub ranged_all : {P : Float → Type 0} (low high x : Float) → (le low x ≡ true → le x high ≡ true → P x) → All P (ranged (double_within low high x))
ranged_all {P = P} low high x k = go (le low x) refl (le x high) refl
  where
    go : (p : Bool) → le low x ≡ p → (q : Bool) → le x high ≡ q → All P (ranged (double_within low high x))
    go true e true f = rw (e, f) (that (k e f))
    go true e false f = rw (e, f) none
    go false e q f = rw e none

number : (x y : Float) → le x y ≡ true → T (not (is_nan x))
unfolding le lt eq is_nan
number nan y e = absurd (subst (λ (b : Bool). T (not b)) e tt)
number (inf s) y e = tt
number (fin s m d) y e = tt

bits_all : (low high : Float) (b : ℕ) → b < 256 ^ 8 → All (λ x. b ≡ to_bits binary64 x) (ranged (double_within low high (of_bits binary64 b)))
bits_all low high b h = ranged_all low high (of_bits binary64 b) (λ _ f. sym (to_bits-of_bits binary64 b h (number (of_bits binary64 b) high f)))

single_bits : (b : ℕ) → b < 256 ^ 4 → All (λ x. b ≡ to_bits binary32 x) (ranged (setting_of b))
single_bits b h = go (le (of_bits binary32 0) x) refl (le x setting_limit) refl
  where
    x : Float
    x = of_bits binary32 b

    go : (p : Bool) → le (of_bits binary32 0) (of_bits binary32 b) ≡ p → (q : Bool) → le (of_bits binary32 b) setting_limit ≡ q → All (λ y. b ≡ to_bits binary32 y) (ranged (setting_of b))
    go true e true f = rw (e, f) (that (sym (to_bits-of_bits binary32 b h (number (of_bits binary32 b) setting_limit f))))
    go true e false f = rw (e, f) none
    go false e q f = rw e none

rate_bits : (b : ℕ) → b < 256 ^ 8 → All (λ x. b ≡ to_bits binary64 x) (played (rate_of b))
rate_bits b h = go (lt (of_bits binary64 0) (of_bits binary64 b)) refl (le (of_bits binary64 b) rate_limit) refl
  where
    go : (p : Bool) → lt (of_bits binary64 0) (of_bits binary64 b) ≡ p → (q : Bool) → le (of_bits binary64 b) rate_limit ≡ q → All (λ y. b ≡ to_bits binary64 y) (played (rate_of b))
    go true e true f = rw (e, f) (that (sym (to_bits-of_bits binary64 b h (number (of_bits binary64 b) rate_limit f))))
    go true e false f = rw (e, f) none
    go false e q f = rw e none

-- ---- the origin and the score of a play
origin_is : (b : ℕ) → All (λ o. b ≡ origin_byte o) (played (origin_of b))
origin_is b = go (eqb b 0) refl (eqb b 1) refl (eqb b 2) refl
  where
    go : (x : Bool) → eqb b 0 ≡ x → (y : Bool) → eqb b 1 ≡ y → (z : Bool) → eqb b 2 ≡ z → All (λ o. b ≡ origin_byte o) (played (origin_of b))
    go true e y f z g = rw e (that (eqb-true b 0 e))
    go false e true f z g = rw (e, f) (that (eqb-true b 1 f))
    go false e false f true g = rw (e, f, g) (that (eqb-true b 2 g))
    go false e false f false g = rw (e, f, g) none

score_is : (present n : ℕ) → All (λ s. (present ≡ present_byte s) × (n ≡ score_number s)) (played (score_of present n))
score_is present n = go (eqb present 1) refl (eqb present 0) refl (eqb n 0) refl
  where
    go : (x : Bool) → eqb present 1 ≡ x → (y : Bool) → eqb present 0 ≡ y → (z : Bool) → eqb n 0 ≡ z
        → All (λ s. (present ≡ present_byte s) × (n ≡ score_number s)) (played (score_of present n))
    go true e y f z g = rw e (that (eqb-true present 1 e, refl))
    go false e true f true g = rw (e, f, g) (that (eqb-true present 0 f, eqb-true n 0 g))
    go false e true f false g = rw (e, f, g) none
    go false e false f z g = rw (e, f) none

-- ---- nested lists
item_is : (b : ℕ) → All (λ i. b ≡ item_byte i) (item_of b)
item_is b = all_pick (eqb b 0) (λ e. that (eqb-true b 0 e)) (λ _. all_pick (eqb b 1) (λ e. that (eqb-true b 1 e)) (λ _. none))

pub nested_are : (l : List ℕ) → All (λ is. l ≡ nested_bytes is) (nested_of l)
unfolding nested_of nested_bytes
nested_are [] = none
nested_are (b ∷ []) = all_pick (eqb b 2) (λ e. that (ap (λ (c : ℕ). c ∷ []) (eqb-true b 2 e))) (λ _. none)
nested_are (b ∷ c ∷ l) =
    all_bind (item_of b) _ (item_is b) (λ i e.
    all_bind (nested_of (c ∷ l)) _ (nested_are (c ∷ l)) (λ is q. that (ap₂ (λ (x : ℕ) (y : List ℕ). x ∷ y) e q)))

-- ---- records
abbrev pub record_bytes : Content → List ℕ
record_bytes (header s) = header_bytes s
record_bytes (break b) = break_bytes b
record_bytes (object o) = object_bytes o
record_bytes (play p) = play_bytes p

-- the bytes that were read of a record are its own
abbrev pub Written : List ℕ → Content × ℕ → Type 0
Written r f = take f.1 r ≡ record_bytes f.0

module _ (r : List ℕ) (b : Bytes r) where
  double_all : (low high : Float) (at : ℕ)
      → All (λ x. word_at r at 8 ≡ to_bits binary64 x) (ranged (double_within low high (of_bits binary64 (word_at r at 8))))
  double_all low high at = bits_all low high (word_at r at 8) (word_at_lt r at 8 b)

  circle_written : word_at r 0 2 ≡ CI → All (Written r) (circle_of r)
  unfolding circle_of object_bytes
  circle_written m =
      all_when CUT _ _ (λ cut. let long = ltb-false (length r) 10 cut in
      all_bind _ _ (double_all _ _ 2) (λ x e.
      that (fields_are r b (circle_fields x) 0 long (m, (e, tt)))))

  spinner_written : word_at r 0 2 ≡ SP → All (Written r) (spinner_of r)
  unfolding spinner_of object_bytes
  spinner_written m =
      all_when CUT _ _ (λ cut. let long = ltb-false (length r) 18 cut in
      all_bind _ _ (double_all _ _ 2) (λ x e. all_bind _ _ (double_all _ _ 10) (λ d f.
      that (fields_are r b (spinner_fields x d) 0 long (m, (e, (f, tt)))))))

  slider_written : word_at r 0 2 ≡ SL → All (Written r) (slider_of r)
  unfolding slider_of object_bytes
  slider_written m =
      let n = word_at r 10 2 in
      let l = drop 12 r in
      all_when CUT _ _ (λ cut. let long = ltb-false (length r) 12 cut in
      all_bind _ _ (double_all _ _ 2) (λ x e. all_when COUNT _ _ (λ _. all_when CUT _ _ (λ short.
      all_bind (nested_of (take n l)) _ (nested_are (take n l)) (λ is q.
      let whole = ltb-false (length r) (12 + n) short in
      let there : length (take n l) ≡ n = length-take-le n l (let h = length-drop 12 r in omega (arith, h, whole)) in
      let count : n ≡ length is + 1 = sym there ∙ ap length q ∙ nested_length is in
      that (take-add 12 n r ∙ ap₂ (λ (x y : List ℕ). x ++ y) (fields_are r b (slider_fields x (length is + 1)) 0 long (m, (e, (count, tt)))) q))))))

  break_written : word_at r 0 2 ≡ BR → All (Written r) (break_of r)
  unfolding break_of break_bytes
  break_written m =
      all_when CUT _ _ (λ cut. let long = ltb-false (length r) 18 cut in
      all_bind _ _ (double_all _ _ 2) (λ x e. all_bind _ _ (double_all _ _ 10) (λ y f.
      that (fields_are r b (break_fields (record { start_time = x; end_time = y })) 0 long (m, (e, (f, tt)))))))

  single_all : (at : ℕ) → All (λ x. word_at r at 4 ≡ to_bits binary32 x) (ranged (setting_of (word_at r at 4)))
  single_all at = single_bits (word_at r at 4) (word_at_lt r at 4 b)

  header_written : word_at r 0 2 ≡ MH → All (Written r) (header_of r)
  unfolding header_of header_bytes
  header_written m =
      all_when CUT _ _ (λ cut. let long = ltb-false (length r) 14 cut in
      all_bind _ _ (single_all 2) (λ hp e. all_bind _ _ (single_all 6) (λ od f. all_bind _ _ (single_all 10) (λ cs g.
      that (fields_are r b (header_fields (record { hp = hp; od = od; cs = cs })) 0 long (m, (e, (f, (g, tt)))))))))

  play_written : word_at r 0 2 ≡ PL → All (Written r) (play_of r)
  unfolding play_of play_bytes hitresults_of
  play_written m =
      all_when CUT _ _ (λ cut. let long = ltb-false (length r) 44 cut in
      all_bind _ _ (origin_is (word_at r 28 1)) (λ o e. all_bind _ _ (score_is (word_at r 29 1) (word_at r 30 4)) (λ s f.
      all_when PLAY_FIELD _ _ (λ _. all_bind _ _ (rate_bits (word_at r 36 8) (word_at_lt r 36 8 b)) (λ x g.
      that (fields_are r b (play_fields (record { passed_objects = word_at r 2 2; max_combo = word_at r 4 4; hitresults = hitresults_of r; origin = o; legacy_total_score = s; mods = record { flags = word_at r 34 2; clock_rate = x } })) 0 long (m, (refl, (refl, (refl, (refl, (refl, (refl, (refl, (refl, (refl, (e, (f.0, (f.1, (refl, (g, tt)))))))))))))))))))))

  object_written : All (Written r) (object_of r (word_at r 0 2))
  unfolding object_of
  object_written =
      let m = word_at r 0 2 in
      all_pick (eqb m CI) (λ e. circle_written (eqb-true m CI e)) (λ _.
      all_pick (eqb m SL) (λ e. slider_written (eqb-true m SL e)) (λ _. all_pick (eqb m SP) (λ e. spinner_written (eqb-true m SP e)) (λ _. none)))

  body_written : All (Written r) (body_of r (word_at r 0 2))
  unfolding body_of
  body_written =
      let m = word_at r 0 2 in
      all_pick (eqb m MH) (λ e. header_written (eqb-true m MH e)) (λ _.
      all_pick (eqb m BR) (λ e. break_written (eqb-true m BR e)) (λ _. all_pick (eqb m PL) (λ e. play_written (eqb-true m PL e)) (λ _. object_written)))

  pub record_written : (c : Counts) → All (Written r) (record_of r c)
  unfolding record_of
  record_written c =
      all_when CUT _ _ (λ _. all_when MARK _ _ (λ _. all_when COUNT _ _ (λ _. all_bind (body_of r (word_at r 0 2)) _ body_written (λ f h. all_when BONUS _ _ (λ _. that h)))))

pub object_bytes_lem : (r : List ℕ) (o : Object) (n : ℕ) → Bytes r → object_of r (word_at r 0 2) ≡ good (object o, n) → take n r ≡ object_bytes o
object_bytes_lem r o n b e = all_out (subst (All (Written r)) e (object_written r b))
