-- Each record that was written is read back as it was, whatever follows it.
use Rattle.std.specs.Prelude.{Option, Some, None}
use mathlib.Core.Path.{◌≡◌, refl, ap, ◌∙◌}
use mathlib.Core.Bool.{Bool, true, false, not, ◌&&◌, ◌||◌}
use mathlib.Core.List.{List, [], ◌∷◌, ◌++◌, append_assoc}
use Prim.Native.Nat.{ℕ, ◌+◌, ◌≤◌, ◌<◌, ◌^◌}
use native.Mathlib.Omega.{arith}
use borrow.Author.Tests.{le-ltb}
use lib.Dec.{T, ltb, lit<}
use lib.ListN.{length, take, drop, length-append}
use lib.Seq.{take_at, drop_at}
use lib.Ieee.{Float, binary32, binary64, fits, of_bits, to_bits, lt, le}
use Rattle.rules.specs.Limits.{max_nested}
use Rattle.numbers.proofs.bits.Laws.{written_read, written_lt}
use Rattle.rules.specs.Refusals.{Checked, good, ◌>>=◌, ◌>>◌, refuse◌when◌, pick, PLAY_FIELD}
use Rattle.records.specs.Fields.{setting_of}
use Rattle.records.specs.Objects.{Item, tick, repeat, circle, slider, spinner}
use Rattle.records.specs.Records.{header, break, object, play, header_of, break_of, circle_of, item_of, nested_of, slider_of, spinner_of, play_of}
use Rattle.encoding.specs.Limits.{Within, IsTime, IsSetting, IsDuration, SettingsWithin, BreakWithin, ScoreWithin, PlaySized, PlayWithin}
use Rattle.play_state.specs.Play.{origin_of, score_of, flags_bad, hitresults_of, played}
use Rattle.encoding.specs.Encoding.{fields_of, header_fields, break_fields, circle_fields, slider_fields, spinner_fields, play_fields, origin_byte, present_byte, score_number, item_byte, nested_bytes, header_bytes, break_bytes, play_bytes}
use Rattle.records.specs.declared.beatmap.Settings.{Settings}
use Rattle.records.specs.declared.beatmap.BreakPeriod.{BreakPeriod}
use Rattle.play_state.specs.declared.OsuScoreOrigin.{OsuScoreOrigin}
use Rattle.play_state.specs.declared.OsuScoreOrigin.TheVariants.{Stable, WithSliderAcc, WithoutSliderAcc}
use Rattle.play_state.specs.declared.Play.{Play}
use Rattle.encoding.proofs.FieldBytes.{Fit, widths, fields_length, field_back, double_within}

-- ---- floats
-- a float's bits fit its field
fits_double : (x : Float) → T (fits binary64 x) → to_bits binary64 x < 256 ^ 8
fits_double x h = written_lt binary64 x h

fits_single : (x : Float) → T (fits binary32 x) → to_bits binary32 x < 256 ^ 4
fits_single x h = written_lt binary32 x h

within-double : (low high x : Float) → Within binary64 low high x → double_within low high (of_bits binary64 (to_bits binary64 x)) ≡ Some x
within-double low high x w = rw (written_read binary64 x w.held) (simp (w.above, w.below))

setting_back : (x : Float) → IsSetting x → setting_of (to_bits binary32 x) ≡ Some x
setting_back x w = rw (written_read binary32 x w.held) (simp (w.above, w.below))

-- a whole fixed part is there
there : (fs : List (ℕ × ℕ)) (rest : List ℕ) (n : ℕ) → n ≤ widths fs → ltb (length (fields_of fs ++ rest)) n ≡ false
there fs rest n h =
    let e = length-append (fields_of fs) rest in
    let w = fields_length fs in
    let k : n ≤ length (fields_of fs ++ rest) = omega (arith, e, w, h) in
    le-ltb _ _ k

-- ---- the records
pub header_back : (s : Settings) (rest : List ℕ) → SettingsWithin s → header_of (header_bytes s ++ rest) ≡ good (header s, 14)
unfolding header_of header_bytes ◌>>=◌ ◌>>◌ refuse◌when◌
header_back s rest w =
    let fs = header_fields s in
    let ok : Fit fs = (lit< tt, (fits_single _ w.hp.held, (fits_single _ w.od.held, (fits_single _ w.cs.held, tt)))) in
    simp (there fs rest 14 (omega arith), field_back fs rest 2 4 ok tt, field_back fs rest 6 4 ok tt, field_back fs rest 10 4 ok tt, setting_back _ w.hp, setting_back _ w.od, setting_back _ w.cs)

pub break_back : (b : BreakPeriod) (rest : List ℕ) → BreakWithin b → break_of (break_bytes b ++ rest) ≡ good (break b, 18)
unfolding break_of break_bytes ◌>>=◌ ◌>>◌ refuse◌when◌
break_back b rest w =
    let fs = break_fields b in
    let ok : Fit fs = (lit< tt, (fits_double _ w.start.held, (fits_double _ w.end.held, tt))) in
    simp (there fs rest 18 (omega arith), field_back fs rest 2 8 ok tt, field_back fs rest 10 8 ok tt, within-double _ _ _ w.start, within-double _ _ _ w.end)

pub circle_back : (x : Float) (rest : List ℕ) → IsTime x → circle_of (fields_of (circle_fields x) ++ rest) ≡ good (object (record { start = x; kind = circle }), 10)
unfolding circle_of ◌>>=◌ ◌>>◌ refuse◌when◌
circle_back x rest w =
    let fs = circle_fields x in
    let ok : Fit fs = (lit< tt, (fits_double _ w.held, tt)) in
    simp (there fs rest 10 (omega arith), field_back fs rest 2 8 ok tt, within-double _ _ _ w)

pub spinner_back : (x d : Float) (rest : List ℕ) → IsTime x → IsDuration d → spinner_of (fields_of (spinner_fields x d) ++ rest) ≡ good (object (record { start = x; kind = spinner d }), 18)
unfolding spinner_of ◌>>=◌ ◌>>◌ refuse◌when◌
spinner_back x d rest w v =
    let fs = spinner_fields x d in
    let ok : Fit fs = (lit< tt, (fits_double _ w.held, (fits_double _ v.held, tt))) in
    simp (there fs rest 18 (omega arith), field_back fs rest 2 8 ok tt, field_back fs rest 10 8 ok tt, within-double _ _ _ w, within-double _ _ _ v)

-- ---- sliders
pub nested_length : (is : List Item) → length (nested_bytes is) ≡ length is + 1
unfolding nested_bytes
nested_length [] = refl
nested_length (i ∷ is) = let e = nested_length is in omega (arith, e)

item_back : (i : Item) → item_of (item_byte i) ≡ good i
item_back tick = refl
item_back repeat = refl

pub nested_back : (is : List Item) → nested_of (nested_bytes is) ≡ good is
unfolding nested_of nested_bytes ◌>>=◌
nested_back [] = refl
nested_back (i ∷ []) = simp (item_back i)
nested_back (i ∷ j ∷ is) = simp (item_back i, nested_back (j ∷ is))

pub slider_back : (x : Float) (is : List Item) (rest : List ℕ) → IsTime x → length is + 1 ≤ max_nested
    → slider_of ((fields_of (slider_fields x (length is + 1)) ++ nested_bytes is) ++ rest) ≡ good (object (record { start = x; kind = slider is }), 12 + (length is + 1))
unfolding slider_of ◌>>=◌ ◌>>◌ refuse◌when◌
slider_back x is rest w few =
    let n = length is + 1 in
    let fs = slider_fields x n in
    let l = nested_bytes is ++ rest in
    let small : n < 256 ^ 2 = omega arith in
    let ok : Fit fs = (lit< tt, (fits_double _ w.held, (small, tt))) in
    let long = nested_length is in
    let all = length-append (fields_of fs) l in
    let more = length-append (nested_bytes is) rest in
    let wide = fields_length fs in
    let fixed : length (fields_of fs) ≡ 12 = wide in
    let whole : 12 + n ≤ length (fields_of fs ++ l) = omega (arith, all, more, wide, long) in
    let part : take n (drop 12 (fields_of fs ++ l)) ≡ nested_bytes is = ap (take n) (drop_at (fields_of fs) l 12 fixed) ∙ take_at (nested_bytes is) rest n long in
    rw append_assoc
    (simp (there fs l 12 (omega arith), field_back fs l 2 8 ok tt, within-double _ _ _ w, field_back fs l 10 2 ok tt, le-ltb max_nested n few, le-ltb _ _ whole, part, nested_back is))

-- ---- plays
origin_back : (o : OsuScoreOrigin) → origin_of (origin_byte o) ≡ Some o
origin_back Stable = refl
origin_back WithSliderAcc = refl
origin_back WithoutSliderAcc = refl

score_back : (s : Option ℕ) → score_of (present_byte s) (score_number s) ≡ Some s
score_back None = refl
score_back (Some n) = refl

origin_fits : (o : OsuScoreOrigin) → origin_byte o < 256 ^ 1
origin_fits Stable = lit< tt
origin_fits WithSliderAcc = lit< tt
origin_fits WithoutSliderAcc = lit< tt

present_fits : (s : Option ℕ) → present_byte s < 256 ^ 1
present_fits None = lit< tt
present_fits (Some n) = lit< tt

score_fits : (s : Option ℕ) → ScoreWithin s → score_number s < 256 ^ 4
score_fits None w = lit< tt
score_fits (Some n) w = w

play_fit : (p : Play) → PlaySized p → Fit (play_fields p)
play_fit p w =
    (lit< tt, (w.passed, (w.combo, (w.hits.n300, (w.hits.n100, (w.hits.n50, (w.hits.misses, (w.hits.large, (w.hits.small, (w.hits.ends, (origin_fits p.origin, (present_fits p.legacy_total_score, (score_fits p.legacy_total_score w.score, (w.mods.flags, (fits_double _ w.mods.held, tt)))))))))))))))

-- the checks of flags and clock rate as one test
mods_checked : {A : Type 0} (bad within : Bool) (x : Float) (k : Float → Checked A)
    → ((refuse PLAY_FIELD when bad) >> (played (pick within (Some x) None) >>= k)) ≡ ((refuse PLAY_FIELD when (bad || not within)) >> k x)
unfolding ◌>>=◌ ◌>>◌ refuse◌when◌
mods_checked true within x k = refl
mods_checked false true x k = refl
mods_checked false false x k = refl

-- the play at another clock rate
abbrev at_rate : Play → Float → Play
at_rate p x = record {
  passed_objects = p.passed_objects;
  max_combo = p.max_combo;
  hitresults = p.hitresults;
  origin = p.origin;
  legacy_total_score = p.legacy_total_score;
  mods = record { flags = p.mods.flags; clock_rate = x };
}

-- A play whose fields have the widths of its record gets 8 for its flags and its clock rate alone, and is read back else.
pub play_read : (p : Play) (rest : List ℕ) → PlaySized p → let x = p.mods.clock_rate in
    play_of (play_bytes p ++ rest)
    ≡ ((refuse PLAY_FIELD when (flags_bad p.mods.flags || not (lt (of_bits binary64 0) x && le x (of_bits binary64 0x4059000000000000)))) >> good (play p, 44))
unfolding play_of play_bytes hitresults_of ◌>>=◌ ◌>>◌ refuse◌when◌
play_read p rest w =
    let fs = play_fields p in
    let ok : Fit fs = play_fit p w in
    let x = p.mods.clock_rate in
    let good-rate = lt (of_bits binary64 0) x && le x (of_bits binary64 0x4059000000000000) in
    simp (
      there fs rest 44 (omega arith),
      field_back fs rest 28 1 ok tt,
      origin_back p.origin,
      field_back fs rest 29 1 ok tt,
      field_back fs rest 30 4 ok tt,
      score_back p.legacy_total_score,
      field_back fs rest 34 2 ok tt,
      field_back fs rest 36 8 ok tt,
      written_read binary64 x w.mods.held,
      field_back fs rest 2 2 ok tt,
      field_back fs rest 4 4 ok tt,
      field_back fs rest 8 2 ok tt,
      field_back fs rest 10 2 ok tt,
      field_back fs rest 12 2 ok tt,
      field_back fs rest 14 2 ok tt,
      field_back fs rest 16 4 ok tt,
      field_back fs rest 20 4 ok tt,
      field_back fs rest 24 4 ok tt,
    )
    (mods_checked (flags_bad p.mods.flags) good-rate x (λ y. good (play (at_rate p y), 44)))

pub play_back : (p : Play) (rest : List ℕ) → PlayWithin p → play_of (play_bytes p ++ rest) ≡ good (play p, 44)
unfolding ◌>>◌ refuse◌when◌
play_back p rest w = play_read p rest w.sized ∙ simp (w.mods.known, w.mods.above, w.mods.below)
