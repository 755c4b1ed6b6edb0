-- Settings from 0 to 12 give a multiplier from 0 to 7: each operation of the formula on bounded operands is at most that on the bounds, and the
-- last bound, 52 / 38 × 5, rounds to 7. Assumes nothing.
use Rattle.std.proofs.Common.{◌≡◌, ℕ, zero, suc, ◌+◌, ◌-◌, ◌*◌, ◌^◌, ◌<◌, ◌≤◌, min, Bool, true, false, cond, not, T, eqb, ltb, ℤ, pos, negsuc, nat_abs, sym, refl, ap, subst, true≢false, zero-le, le_trans, zero-lt-suc, mul-pos, arith, lit≤, ltb-false}
use lib.Dec.{eqb-suc-zero}
use Rattle.std.proofs.lemmas.Bool.{and_parts}
use lib.Signed.{mag}
use lib.Ieee.{Float, nan, inf, fin, Format, binary64, prec, emax, low, unlike, up, down, round, units, odd, add, mul, div, lt, of_int, of_bits, is_nan}
use lib.Ieee.Back.{round_whole}
use lib.Ieee.Exact.{HasValue}
use lib.Ieee.Fits.{up_pos, down_pos, round_is}
use lib.Ieee.Nearest.{closest, closest_mono, closest_same}
use lib.Ieee.Order.{drop}
use Rattle.numbers.specs.Floats.{whole}
use Rattle.numbers.specs.MinMax.{clamp_of}
use Rattle.numbers.specs.Rounding.{round_ties_even_i32, saturated}
use Rattle.numbers.proofs.Bounds.{Upto, mul_upto, div_upto, add_upto, of_tests, of_itself}
use Rattle.ruleset.specs.Stars.{SettingsIn, ratio_of, stars_of, multiplier_of}
use Rattle.records.specs.Fields.{is_setting}
use Rattle.encoding.specs.Limits.{IsSetting, SettingsWithin}
use Rattle.records.specs.declared.beatmap.Settings.{Settings}

-- ---- no NaN
number : Float → Bool
number x = not (is_nan x)

units_number : (f : Format) (s : Bool) (q k : ℕ) → T (number (units f s q k))
unfolding number is_nan units odd
units_number f s q k = go (ltb (q * 2 ^ k) (2 ^ (low f + suc (emax f)))) q
  where
    go : (b : Bool) (q : ℕ) → T (number (cond b (odd (suc (prec f)) s q k (low f)) (inf s)))
    go true zero = tt
    go true (suc q) = tt
    go false q = tt

round_number : (f : Format) (s : Bool) (a c : ℕ) → T (number (round f s a c))
round_number f s a c =
    subst (λ (z : Float). T (number z)) (sym (round_is f s a c))
    (units_number f s (closest (a * 2 ^ low f) (c * 2 ^ drop (prec f) (a * 2 ^ low f) c)) (drop (prec f) (a * 2 ^ low f) c))

-- a quotient of a number by a number that is not zero, which has the value b / 1
div_number : (f : Format) (x y : Float) (t : Bool) (a b : ℕ) → HasValue x false a 1 → HasValue y t (suc b) 1 → T (number (div f x y))
unfolding div
div_number f nan y t a b h k = absurd h
div_number f (inf u) y t a b h k = absurd h
div_number f (fin u m e) nan t a b h k = absurd k
div_number f (fin u m e) (inf v) t a b h k = absurd k
div_number f (fin u m e) (fin v zero d) t a b h k = absurd (no (up d) (down d) (down_pos d) k.1)
  where
    no : (u d : ℕ) → 0 < d → 0 * u * 1 ≡ suc b * d → ⊥
    no u d D z = let p : 0 < suc b * d = mul-pos (zero-lt-suc b) D in omega arith
div_number f (fin u m e) (fin v (suc n) d) t a b h k =
    subst
    (λ (x : Bool). T (number (cond x (cond (eqb m 0) nan (inf (unlike u v))) (round f (unlike u v) (m * up e * down d) (suc n * up d * down e)))))
    (sym (eqb-suc-zero n))
    (round_number f (unlike u v) (m * up e * down d) (suc n * up d * down e))

mul_number : (f : Format) (x : Float) (n : ℕ) (d : ℤ) → T (number x) → T (number (mul f x (fin false (suc n) d)))
unfolding mul number is_nan
mul_number f nan n d h = absurd h
mul_number f (inf s) n d h = subst (λ (x : Bool). T (number (cond x nan (inf (unlike s false))))) (sym (eqb-suc-zero n)) tt
mul_number f (fin s m e) n d h = round_number f (unlike s false) (m * up e * (suc n * up d)) (down e * down d)

-- ---- clamped
abbrev sixteen : Float
sixteen = fin false 1 (pos 4)

abbrev none : Float
none = fin false 0 (pos 0)

clamped : (w : Float) → T (number w) → lt w none ≡ false → lt sixteen w ≡ false → Upto w sixteen
unfolding lt number is_nan
clamped nan n l h = absurd n
clamped (inf true) n l h = absurd (true≢false l)
clamped (inf false) n l h = absurd (true≢false h)
clamped (fin true zero e) n l h = record { is = tt; at_most = zeros (up e) (1 * 2 ^ 4 * down e) }
  where
    zeros : (u r : ℕ) → 0 * u * 1 ≤ r
    zeros u r = omega arith
clamped (fin true (suc m) e) n l h =
    absurd (no (suc m * up e) (0 * 1 * down e) (mul-pos (zero-lt-suc m) (up_pos e)) (ltb-false 0 (suc m * up e * 1 + 0 * 1 * down e) l))
  where
    no : (a b : ℕ) → 0 < a → a * 1 + b ≤ 0 → ⊥
    no a b A k = omega arith
clamped (fin false m e) n l h = record { is = tt; at_most = ltb-false (1 * 2 ^ 4 * down e) (m * up e * 1) h }

clamp_upto : (w : Float) → T (number w) → Upto (clamp_of w none sixteen) sixteen
unfolding clamp_of
clamp_upto w n = go (lt w none) refl
  where
    second : (b : Bool) → lt sixteen w ≡ b → lt w none ≡ false → Upto (cond b sixteen w) sixteen
    second true e l = of_itself sixteen tt
    second false e l = clamped w n l e

    go : (b : Bool) → lt w none ≡ b → Upto (cond b none (cond (lt sixteen w) sixteen w)) sixteen
    go true e = record { is = tt; at_most = zero-le }
    go false e = second (lt sixteen w) refl e

ratio_upto : (k : ℕ) (z : ℤ) → k ≤ 2 ^ 53 → mag z < 2 ^ 53 → Upto (ratio_of k z) sixteen
unfolding ratio_of of_int
ratio_upto k (pos zero) f g = of_itself sixteen tt
ratio_upto k (pos (suc n)) f g =
    clamp_upto (mul binary64 (div binary64 (whole k) (whole (suc n))) (whole 8))
    (mul_number binary64 (div binary64 (whole k) (whole (suc n))) 0 (pos 3)
    (div_number binary64 (whole k) (whole (suc n)) false k n (round_whole binary64 false k f) (round_whole binary64 false (suc n) (omega arith))))
ratio_upto k (negsuc n) f g =
    clamp_upto (mul binary64 (div binary64 (whole k) (of_int binary64 (negsuc n))) (whole 8))
    (mul_number binary64 (div binary64 (whole k) (of_int binary64 (negsuc n))) 0 (pos 3)
    (div_number binary64 (whole k) (of_int binary64 (negsuc n)) true k n (round_whole binary64 false k f) (round_whole binary64 true (suc n) (omega arith))))

-- ---- rounded to a whole number
round_upto : (x : Float) (M : ℕ) (E : ℤ) → Upto x (fin false M E) → (n : ℕ) × (round_ties_even_i32 x ≡ pos n) × (n ≤ closest (M * up E) (down E))
unfolding round_ties_even_i32
round_upto nan M E h = absurd h.is
round_upto (inf s) M E h = absurd h.is
round_upto (fin true zero e) M E h =
    (0, ap (saturated true) (closest_same (0 * up e) (down e) 0 1 (down_pos e) (zero-lt-suc 0) (same (up e) (down e))), zero-le)
  where
    same : (u d : ℕ) → 0 * u * 1 ≡ 0 * d
    same u d = omega arith
round_upto (fin true (suc m) e) M E h = absurd h.is
round_upto (fin false m e) M E h =
    let n = closest (m * up e) (down e) in
    (min n (2 ^ 31 - 1), refl, le_trans (least n (2 ^ 31 - 1)) (closest_mono (m * up e) (down e) (M * up E) (down E) (down_pos e) (down_pos E) h.at_most))
  where
    least : (a b : ℕ) → min a b ≤ a
    least a b = omega arith

abbrev twelve : Float
twelve = fin false 3 (pos 2)

setting : (x : Float) → is_setting x ≡ true → Upto x twelve
unfolding of_bits
setting x w = let p = and_parts _ _ w in of_tests x twelve tt (subst T (sym p.0) tt) (subst T (sym p.1) tt)

setting_in : {x : Float} → IsSetting x → is_setting x ≡ true
setting_in w = simp (w.above, w.below)

-- those of a file are
pub settings_in_lem : (s : Settings) → SettingsWithin s → SettingsIn s
settings_in_lem s w = record { hp = setting_in w.hp; od = setting_in w.od; cs = setting_in w.cs }

-- the stars of settings in their range: a number from 0 to 7
pub stars_upto : (s : Settings) (k : ℕ) (z : ℤ) → SettingsIn s → k ≤ 2 ^ 53 → mag z < 2 ^ 53 → (n : ℕ) × (stars_of s k z ≡ pos n) × (n ≤ 7)
unfolding stars_of add mul div of_int
stars_upto s k z r f g =
    let a = setting s.hp r.hp in
    let b = setting s.od r.od in
    let c = setting s.cs r.cs in
    let s1 = add_upto binary64 s.hp s.od twelve twelve tt tt a b tt in
    let two = add binary64 s.hp s.od in
    let s2 = add_upto binary64 two s.cs (fin false 3 (pos 3)) twelve tt tt s1 c tt in
    let three = add binary64 two s.cs in
    let s3 = add_upto binary64 three (ratio_of k z) (fin false 9 (pos 2)) sixteen tt tt s2 (ratio_upto k z f g) tt in
    let total = add binary64 three (ratio_of k z) in
    let q = div_upto binary64 total (fin false 13 (pos 2)) 18 (pos 1) tt s3 tt in
    let most = div binary64 (fin false 13 (pos 2)) (fin false 19 (pos 1)) in
    let last = mul_upto binary64 (div binary64 total (whole 38)) (whole 5) most (fin false 5 (pos 0)) tt tt q (of_itself (fin false 5 (pos 0)) tt) tt in
    let v = round_upto (mul binary64 (div binary64 total (whole 38)) (whole 5)) 7703525678396901 (negsuc 49) last in
    (v.0, v.1, le_trans v.2 (lit≤ tt))

pub seven : (s : Settings) (k : ℕ) (z : ℤ) → SettingsIn s → k ≤ 2 ^ 53 → mag z < 2 ^ 53 → multiplier_of s k z ≤ 7
seven s k z r f g = let v = stars_upto s k z r f g in subst (λ (x : ℤ). nat_abs x ≤ 7) (sym v.1) v.2

-- so the multiplier is the Rust's stars
pub stars_is : (s : Settings) (k : ℕ) (z : ℤ) → SettingsIn s → k ≤ 2 ^ 53 → mag z < 2 ^ 53 → stars_of s k z ≡ pos (multiplier_of s k z)
stars_is s k z r f g = let v = stars_upto s k z r f g in subst (λ (x : ℤ). x ≡ pos (nat_abs x)) (sym v.1) refl
