-- The map of every accepted file is within the limits: each check of a record asks for just that of its content.
use Rattle.rules.specs.declared.refusal.Rule.{Rule}
use mathlib.Core.Path.{◌≡◌, refl, ap, ◌∙◌}
use mathlib.Core.Bool.{Bool, true, false}
use mathlib.Core.List.{List, [], ◌∷◌, ◌++◌}
use Prim.Native.Nat.{ℕ, zero, suc, ◌≤◌, ◌<◌}
use native.Mathlib.Omega.{arith}
use Rattle.std.specs.Prelude.{is_none}
use borrow.Author.Tests.{ltb-false}
use lib.Dec.{eqb, ltb}
use lib.ListN.{length, take, drop, length-take}
use lib.Ieee.{Float, binary32, binary64, of_bits, le}
use lib.Ieee.Bits.{of_bits-fits}
use Rattle.encoding.proofs.FieldBytes.{double_within}
use Rattle.rules.specs.Limits.{max_nested, max_breaks, max_objects, max_bonus}
use Rattle.numbers.specs.Words.{word_at}
use Rattle.rules.specs.Refusals.{good, refused, pick, CUT, COUNT, MARK, PLAY_FIELD, BONUS}
use Rattle.records.specs.Fields.{ranged, setting_of}
use Rattle.records.specs.Marks.{MH, BR, CI, SL, SP, PL}
use Rattle.records.specs.Objects.{bonus}
use Rattle.records.specs.Records.{Content, header, break, object, play, FoundRecord, header_of, break_of, circle_of, nested_of, slider_of, spinner_of, play_of, object_of, content_view}
use Rattle.map_file.specs.Order.{place, body_of, record_of}
use Rattle.map_file.specs.File.{File, Result, accepted, refused_at, counts_of, with_record, follow, ended, file_from, nothing_read, file_of}
use Rattle.map_file.specs.View.{Fits}
use Rattle.encoding.specs.Limits.{Within, IsSetting, Each, none, one, SettingsWithin, BreakWithin, ObjectWithin, MapWithin}
use Rattle.map_file.specs.declared.file.Counts.{Counts}
use Rattle.encoding.proofs.RecordsBack.{nested_length}
use Rattle.encoding.proofs.Written.{ranged_all, nested_are}
use Rattle.rules.proofs.All as checked
use Rattle.rules.proofs.All.{All, that, all_bind, all_any, all_when, all_pick, all_map}
use Rattle.map_file.proofs.Bodies.{bonus_kept}
use Rattle.map_file.proofs.Ranks.{some_placed}
use Rattle.map_file.proofs.Room.{record_fits, Begun, record_begun}
use Rattle.map_file.proofs.Reading.{found_at, length_snoc, bonus_snoc}

-- ---- the floats of a record
within_all : (low high : Float) (b : ℕ) → All (Within binary64 low high) (ranged (double_within low high (of_bits binary64 b)))
within_all low high b = ranged_all low high (of_bits binary64 b) (λ e f. record { held = of_bits-fits binary64 b; above = e; below = f })

setting_all : (b : ℕ) → All IsSetting (ranged (setting_of b))
setting_all b = go (le (of_bits binary32 0) (of_bits binary32 b)) refl (le (of_bits binary32 b) (of_bits binary32 0x41400000)) refl
  where
    go : (p : Bool) → le (of_bits binary32 0) (of_bits binary32 b) ≡ p → (q : Bool) → le (of_bits binary32 b) (of_bits binary32 0x41400000) ≡ q → All IsSetting (ranged (setting_of b))
    go true e true f = rw (e, f) (that (record { held = of_bits-fits binary32 b; above = e; below = f }))
    go true e false f = rw (e, f) checked.none
    go false e q f = rw e checked.none

-- ---- the contents of a record
abbrev ContentWithin : Content → Type 0
ContentWithin (header s) = SettingsWithin s
ContentWithin (break b) = BreakWithin b
ContentWithin (object o) = ObjectWithin o
ContentWithin (play p) = Unit

abbrev FoundWithin : Content × ℕ → Type 0
FoundWithin f = ContentWithin f.0

header-within : (r : List ℕ) → All FoundWithin (header_of r)
unfolding header_of
header-within r =
    all_when CUT _ _ (λ _. all_bind _ _ (setting_all (word_at r 2 4)) (λ hp a. all_bind _ _ (setting_all (word_at r 6 4)) (λ od b. all_bind _ _ (setting_all (word_at r 10 4)) (λ cs c. that (record { hp = a; od = b; cs = c })))))

break-within : (r : List ℕ) → All FoundWithin (break_of r)
unfolding break_of
break-within r = all_when CUT _ _ (λ _. all_bind _ _ (within_all _ _ (word_at r 2 8)) (λ x a. all_bind _ _ (within_all _ _ (word_at r 10 8)) (λ y b. that (record { start = a; end = b }))))

circle-within : (r : List ℕ) → All FoundWithin (circle_of r)
unfolding circle_of
circle-within r = all_when CUT _ _ (λ _. all_bind _ _ (within_all _ _ (word_at r 2 8)) (λ x a. that (record { start = a; kind = tt })))

spinner-within : (r : List ℕ) → All FoundWithin (spinner_of r)
unfolding spinner_of
spinner-within r = all_when CUT _ _ (λ _. all_bind _ _ (within_all _ _ (word_at r 2 8)) (λ x a. all_bind _ _ (within_all _ _ (word_at r 10 8)) (λ d b. that (record { start = a; kind = b }))))

slider-within : (r : List ℕ) → All FoundWithin (slider_of r)
unfolding slider_of
slider-within r =
    let n = word_at r 10 2 in
    let l = drop 12 r in
    all_when CUT _ _ (λ _. all_bind _ _ (within_all _ _ (word_at r 2 8)) (λ x a. all_when COUNT _ _ (λ few. all_when CUT _ _ (λ _.
    all_bind (nested_of (take n l)) _ (nested_are (take n l)) (λ is q.
    let low : n ≤ max_nested = ltb-false max_nested n few in
    let count = ap length q ∙ nested_length is in
    let h = length-take n l in
    that (record { start = a; kind = omega (arith, count, h, low) }))))))

play-within : (r : List ℕ) → All FoundWithin (play_of r)
unfolding play_of
play-within r = all_when CUT _ _ (λ _. all_any _ _ (λ o. all_any _ _ (λ s. all_when PLAY_FIELD _ _ (λ _. all_any _ _ (λ x. that tt)))))

pub object_within : (r : List ℕ) (m : ℕ) → All FoundWithin (object_of r m)
unfolding object_of
object_within r m = all_pick (eqb m CI) (λ _. circle-within r) (λ _. all_pick (eqb m SL) (λ _. slider-within r) (λ _. all_pick (eqb m SP) (λ _. spinner-within r) (λ _. checked.none)))

body_within : (r : List ℕ) (m : ℕ) → All FoundWithin (body_of r m)
unfolding body_of
body_within r m = all_pick (eqb m MH) (λ _. header-within r) (λ _. all_pick (eqb m BR) (λ _. break-within r) (λ _. all_pick (eqb m PL) (λ _. play-within r) (λ _. object_within r m)))

record_within : (r : List ℕ) (c : Counts) → All FoundWithin (record_of r c)
unfolding record_of
record_within r c =
    all_when CUT _ _ (λ _. all_when MARK _ _ (λ _. all_when COUNT _ _ (λ _. all_bind (body_of r (word_at r 0 2)) _ (body_within r (word_at r 0 2)) (λ f h. all_when BONUS _ _ (λ _. that h)))))

-- ---- what was read
pub record FileWithin (f : File) : Type 0 where
  pub settings : 0 < place f.last → SettingsWithin f.map.settings
  pub breaks : Each BreakWithin f.map.breaks
  pub few_breaks : length f.map.breaks ≤ max_breaks
  pub objects : Each ObjectWithin f.map.objects
  pub few_objects : length f.map.objects ≤ max_objects
  pub low_bonus : bonus f.map.objects ≤ max_bonus

pub each_snoc : {A : Type 0} {P : A → Type 0} (l : List A) (a : A) → Each P l → P a → Each P (l ++ (a ∷ []))
each_snoc [] a none p = one p none
each_snoc (x ∷ l) a (one q ps) p = one q (each_snoc l a ps p)

fresh-within : FileWithin nothing_read
unfolding bonus
fresh-within = record { settings = λ h. absurd (omega (arith, h)); breaks = none; few_breaks = omega arith; objects = none; few_objects = omega arith; low_bonus = omega arith }

-- one more record
with_within : (f : File) (x : Content) (n : ℕ) → FileWithin f → ContentWithin x → Fits (counts_of f) (content_view x) → Begun (counts_of f) x → FileWithin (with_record f (x, n))
unfolding with_record counts_of
with_within f (header s) n w c fit late =
    record { settings = λ _. c; breaks = w.breaks; few_breaks = w.few_breaks; objects = w.objects; few_objects = w.few_objects; low_bonus = w.low_bonus }
with_within f (break b) n w c fit late =
    let more = length_snoc f.map.breaks b in
    record {
      settings = λ _. w.settings late;
      breaks = each_snoc f.map.breaks b w.breaks c;
      few_breaks = omega (arith, more, fit);
      objects = w.objects;
      few_objects = w.few_objects;
      low_bonus = w.low_bonus;
    }
with_within f (object o) n w c fit late =
    let more = length_snoc f.map.objects o in
    let sum = bonus_snoc f.map.objects o in
    let same = bonus_kept (object o) in
    record {
      settings = λ _. w.settings late;
      breaks = w.breaks;
      few_breaks = w.few_breaks;
      objects = each_snoc f.map.objects o w.objects c;
      few_objects = omega (arith, more, fit.0);
      low_bonus = omega (arith, sum, fit.1, same);
    }
with_within f (play p) n w c fit late =
    record { settings = λ _. w.settings late; breaks = w.breaks; few_breaks = w.few_breaks; objects = w.objects; few_objects = w.few_objects; low_bonus = w.low_bonus }

found_within : (s : List ℕ) (f : File) → FileWithin f → All (λ r. FileWithin (with_record f r)) (found_at s f)
found_within s f w =
    go (found_at s f) (record_within (drop f.at s) (counts_of f)) (record_fits (drop f.at s) (counts_of f)) (record_begun (drop f.at s) (counts_of f))
  where
    go : (x : FoundRecord) → All FoundWithin x → All (λ r. Fits (counts_of f) (content_view r.0)) x → All (λ r. Begun (counts_of f) r.0) x → All (λ r. FileWithin (with_record f r)) x
    go (refused n) a b c = checked.none
    go (good r) (that a) (that b) (that c) = that (with_within f r.0 r.1 w a b c)

-- ---- the whole file
pub data IfAccepted (P : File → Type 0) : Result → Type 0 where
  yes : {f : File} → P f → IfAccepted P (accepted f)
  no : {n : Rule} {at : ℕ} {f : File} → IfAccepted P (refused_at n at f)

ended-within : (f : File) → FileWithin f → IfAccepted (λ g. MapWithin g.map) (ended f)
ended-within f w = go (is_none f.last) refl
  where
    go : (b : Bool) → is_none f.last ≡ b → IfAccepted (λ g. MapWithin g.map) (pick b (refused_at MARK 0 f) (accepted f))
    go true e = no
    go false e =
        yes (record { settings = w.settings (some_placed f.last e); breaks = w.breaks; few_breaks = w.few_breaks; objects = w.objects; few_objects = w.few_objects; low_bonus = w.low_bonus })

follow-within : (f : File) (x : FoundRecord) (go : Content × ℕ → Result) → All (λ r. FileWithin (with_record f r)) x
    → ((r : Content × ℕ) → FileWithin (with_record f r) → IfAccepted (λ g. MapWithin g.map) (go r)) → IfAccepted (λ g. MapWithin g.map) (follow f x go)
follow-within f (refused n) go a k = no
follow-within f (good r) go (that w) k = k r w

pick-within : (b : Bool) {x y : Result} → IfAccepted (λ g. MapWithin g.map) x → IfAccepted (λ g. MapWithin g.map) y → IfAccepted (λ g. MapWithin g.map) (pick b x y)
pick-within true p q = p
pick-within false p q = q

from_within : (fuel : ℕ) (s : List ℕ) (f : File) → FileWithin f → IfAccepted (λ g. MapWithin g.map) (file_from fuel s f)
unfolding file_from
from_within zero s f w = no
from_within (suc fuel) s f w =
    pick-within (ltb f.at (length s)) (follow-within f (found_at s f) (λ r. file_from fuel s (with_record f r)) (found_within s f w) (λ r v. from_within fuel s (with_record f r) v)) (ended-within f w)

pub accepted_within : (s : List ℕ) (f : File) → file_of s ≡ accepted f → MapWithin f.map
unfolding file_of
accepted_within s f e = out (rw e at (from_within (suc (length s)) s nothing_read fresh-within))
  where
    out : {f : File} → IfAccepted (λ g. MapWithin g.map) (accepted f) → MapWithin f.map
    out (yes p) = p
