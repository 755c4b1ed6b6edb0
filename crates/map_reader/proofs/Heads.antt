-- From what the code read of one record to what the definition found: the header, a break, and the record behind a map.
use mathlib.Core.Path.{◌≡◌, refl, ap, ◌∙◌}
use mathlib.Core.Bool.{Bool, true, false}
use mathlib.Core.List.{List}
use Prim.Native.Nat.{ℕ, zero, suc, ◌+◌, ◌-◌, ◌≤◌, ◌<◌}
use native.Mathlib.Omega.{arith}
use Rattle.std.specs.Prelude.{is_ok}
use borrow.Author.Tests.{ne_eqb}
use lib.ListN.{length, drop, drop_of_length-le}
use Rattle.numbers.specs.Words.{word_at}
use Rattle.rules.specs.Limits.{max_breaks, header_size}
use Rattle.rules.specs.Refusals.{good, refused, ◌>>=◌, ◌>>◌, refuse◌when◌, CUT, MARK, Checked}
use Rattle.rules.proofs.Laws.{never}
use Rattle.rules.proofs.All.{All, that, all_any, all_when}
use Rattle.records.specs.Marks.{mark_in}
use Rattle.records.specs.declared.mark.Mark.{Mark}
use Rattle.records.specs.declared.mark.Mark.TheVariants as mark
use Rattle.records.specs.Records.{Content, header, break, object, play, FoundRecord, content_view, header_of, header_read, break_read, record_read}
use Rattle.records.proofs.Alone.{alone}
use Rattle.records.specs.declared.beatmap.Settings.{Settings}
use Rattle.records.specs.declared.record.Record.TheVariants as record_case
use Rattle.records.specs.declared.beatmap.BreakPeriod.{BreakPeriod}
use Rattle.map_file.specs.Order.{content_bonus, body_of}
use Rattle.map_file.specs.View.{fresh_of}
use Rattle.map_file.proofs.Bodies.{no_bonus}
use Rattle.map_file.proofs.Marked.{record_with, record_by_mark}
use Rattle.map_reader.specs.Map.{objects_from, head_with, head_in, is_break, breaks_after}

-- what is read of a break says whether it is good
pub good_read : (x : FoundRecord) (t : Checked BreakPeriod) → break_read t ≡ record_read x → is_ok x ≡ is_ok t
good_read (refused n) (refused m) e = refl
good_read (good f) (good t) e = refl
good_read (refused n) (good t) e = never (cc)
good_read (good f) (refused m) e = never (cc)

-- past the end of the input the mark is 0
pub break_past : (s : List ℕ) (at : ℕ) → length s ≤ at → is_break (drop at s) ≡ false
unfolding is_break word_at
break_past s at h = rw (drop_of_length-le s h)

-- ---- the breaks behind `count` others
after_stop : (n : ℕ) (s : List ℕ) (count : ℕ) → is_break (drop (objects_from count) s) ≡ false → breaks_after n s count ≡ count
unfolding breaks_after
after_stop zero s count e = refl
after_stop (suc n) s count e = ap (λ (b : Bool). elim b [ true ↦ breaks_after n s (count + 1) | false ↦ count ]) e

after_next : (n : ℕ) (s : List ℕ) (count : ℕ) → is_break (drop (objects_from count) s) ≡ true → breaks_after (suc n) s count ≡ breaks_after n s (count + 1)
unfolding breaks_after
after_next n s count e = ap (λ (b : Bool). elim b [ true ↦ breaks_after n s (count + 1) | false ↦ count ]) e

pub breaks_stop : (s : List ℕ) (count : ℕ) → is_break (drop (objects_from count) s) ≡ false → breaks_after (max_breaks - count) s count ≡ count
breaks_stop s count e = after_stop (max_breaks - count) s count e

pub breaks_next : (s : List ℕ) (count : ℕ) → count < max_breaks → is_break (drop (objects_from count) s) ≡ true
    → breaks_after (max_breaks - count) s count ≡ breaks_after (max_breaks - (count + 1)) s (count + 1)
breaks_next s count h e =
    let more : max_breaks - count ≡ suc (max_breaks - (count + 1)) = omega (arith, h) in
    ap (λ (n : ℕ). breaks_after n s count) more ∙ after_next (max_breaks - (count + 1)) s count e

pub breaks_end : (s : List ℕ) (count : ℕ) → max_breaks ≤ count → breaks_after (max_breaks - count) s count ≡ count
unfolding breaks_after
breaks_end s count h =
    let none : max_breaks - count ≡ 0 = omega (arith, h) in
    ap (λ (n : ℕ). breaks_after n s count) none

-- ---- the header
header_free : (s : List ℕ) → All (λ f. content_bonus f.0 ≡ 0) (header_of s)
unfolding header_of
header_free s = all_when CUT _ _ (λ _. all_any _ _ (λ hp. all_any _ _ (λ od. all_any _ _ (λ cs. that refl))))

abbrev pub head_marked : List ℕ → Mark → Checked Settings
head_marked s mark.Header = header_of s >>= (λ f. head_with f.0)
head_marked s other = refused MARK

-- no mark but the header's is in order behind nothing
by_mark : (s : List ℕ) (m : Mark) → (record_with s fresh_of.counts m >>= (λ f. head_with f.0)) ≡ head_marked s m
unfolding ◌>>=◌ ◌>>◌ refuse◌when◌ body_of
by_mark s mark.Header = ap (λ x. x >>= (λ f. head_with f.0)) (no_bonus fresh_of.counts (omega arith) (header_of s) (header_free s))
by_mark s mark.Break = refl
by_mark s mark.Circle = refl
by_mark s mark.Slider = refl
by_mark s mark.Spinner = refl
by_mark s mark.Play = refl

pub head_by_mark : (s : List ℕ) → (length s ≡ 0 → ⊥) → head_in s ≡ (mark_in s >>= head_marked s)
unfolding head_in ◌>>=◌
head_by_mark s h = rw (ne_eqb (length s) 0 h) (ap (λ x. x >>= (λ f. head_with f.0)) (record_by_mark s fresh_of.counts) ∙ go (mark_in s))
  where
    go : (x : Checked Mark) → ((x >>= record_with s fresh_of.counts) >>= (λ f. head_with f.0)) ≡ (x >>= head_marked s)
    go (refused n) = refl
    go (good m) = by_mark s m

-- the reader of headers gives that alone
pub header_alone : (x : FoundRecord) (t : Checked Settings) → header_read t ≡ record_read x → t ≡ (x >>= (λ f. head_with f.0))
header_alone = alone header_read (λ t. (record_case.Header t, header_size)) head_with (λ t. refl) (λ n. refl) back
  where
    back : (x : Content) (t : Settings) → record_case.Header t ≡ content_view x → good t ≡ head_with x
    back (header u) t e = let same : t ≡ u = cc in ap good same
    back (break b) t e = never (cc)
    back (object o) t e = never (cc)
    back (play p) t e = never (cc)
