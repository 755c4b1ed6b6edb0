-- Laws of numbers as text: `decimal_of` has the fewest digits that hold the number, and how long the texts are. Assumes nothing.
use mathlib.Core.Path.{◌≡◌, refl, sym, ap, ◌∙◌, subst}
use Prim.Native.Nat.{ℕ, zero, suc, ◌+◌, ◌-◌, ◌*◌, ◌/◌, ◌%◌, ◌^◌, ◌≤◌, ◌<◌}
use native.Mathlib.Nat.{pow-suc, mod-eq_of_lt, one-le-pow, lt_of_not-le, pow-le-pow_right}
use native.Mathlib.Decide.{dec_le}
use native.Mathlib.Omega.{arith}
use mathlib.Core.Bool.{Bool, true, false, cond}
use mathlib.Core.List.{List, [], ◌∷◌, ◌++◌}
use lib.ListN.{length, length-append}
use lib.Ieee.{Float, is_nan, to_bits, binary64}
use borrow.Author.Tests.{lt-ltb, le-ltb}
use Rattle.io.specs.Digits.{hex_digit_ascii, last_digits, IsDigitCount}
use Rattle.text.specs.Ascii.{ascii}
use Rattle.text.specs.Numbers.{decimal_up_to, decimal_of, value_from, hex_of, float_text}

-- ---- the two cases of a number

up_to_as : ℕ → ℕ → Bool → List ℕ
up_to_as k n b = elim b [ true ↦ hex_digit_ascii n ∷ [] | false ↦ decimal_up_to k (n / 10) ++ (hex_digit_ascii (n % 10) ∷ []) ]

one_digit : (k n : ℕ) → n < 10 → decimal_up_to (suc k) n ≡ hex_digit_ascii n ∷ []
unfolding decimal_up_to up_to_as
one_digit k n h = ap (up_to_as k n) (lt-ltb n 10 h)

more_digits : (k n : ℕ) → 10 ≤ n → decimal_up_to (suc k) n ≡ decimal_up_to k (n / 10) ++ (hex_digit_ascii (n % 10) ∷ [])
unfolding decimal_up_to up_to_as
more_digits k n h = ap (up_to_as k n) (le-ltb n 10 h)

-- ---- the digits that `io::decimal` writes

-- k + 1 digits that hold n, no fewer of which do, are its decimal digits
fewest_up_to : (most k n : ℕ) → k < most → n < 10 ^ suc k → (0 < k → 10 ^ k ≤ n) → decimal_up_to most n ≡ last_digits 10 (suc k) n
fewest_up_to zero k n h below above = absurd (omega arith)
fewest_up_to (suc most) zero n h below above = one_digit most n below ∙ sym (ap (λ (d : ℕ). hex_digit_ascii d ∷ []) (mod-eq_of_lt below))
fewest_up_to (suc most) (suc k) n h below above =
    let some : 1 ≤ 10 ^ k = one-le-pow k 10 (omega arith) in
    let more : 10 ≤ n = omega (arith, above (omega arith), pow-suc 10 k) in
    let tenth : n / 10 < 10 ^ suc k = omega (arith, pow-suc 10 (suc k)) in
    let least : 10 ^ k ≤ n / 10 = omega (arith, above (omega arith), pow-suc 10 k) in
    more_digits most n more
    ∙ ap (λ (t : List ℕ). t ++ (hex_digit_ascii (n % 10) ∷ [])) (fewest_up_to most k (n / 10) (omega arith) tenth (λ _. least))

-- k is less than ten to the k
below_power : (k : ℕ) → k < 10 ^ k
below_power zero = omega arith
below_power (suc k) = rw pow-suc (omega (arith, below_power k))

-- so n + 1 digits are enough
enough : (k n : ℕ) → (0 < k → 10 ^ k ≤ n) → k < suc n
enough zero n h = omega arith
enough (suc k) n h = omega (arith, below_power (suc k), h (omega arith))

pred_suc : (k : ℕ) → suc k - 1 ≡ k
pred_suc k = omega arith

pub fewest_decimal : (k n : ℕ) → IsDigitCount 10 1 n k → decimal_of n ≡ last_digits 10 k n
unfolding decimal_of
fewest_decimal zero n h = absurd (omega arith)
fewest_decimal (suc k) n (some, below, above) =
    let least : 0 < k → 10 ^ k ≤ n = λ (h : 0 < k). subst (λ (j : ℕ). 10 ^ j ≤ n) (pred_suc k) (above (omega arith)) in
    fewest_up_to (suc n) k n (enough k n least) below least

-- ---- the digits that `io::hex` writes where 16 are asked for

-- more than 16 would be needed only from 16 ^ 16 on
sixteen : (k n : ℕ) → n < 2 ^ 64 → IsDigitCount 16 16 n k → Dec (k ≤ 16) → k ≡ 16
sixteen k n small (least, holds, above) (yes few) = omega arith
sixteen k n small (least, holds, above) (no many) =
    let more : 16 < k = lt_of_not-le many in
    let some : 0 < 16 = omega arith in
    let places : 16 ≤ k - 1 = omega arith in
    let at_least : 16 ^ 16 ≤ 16 ^ (k - 1) = pow-le-pow_right some places in
    absurd (omega (arith, above more))

pub fewest_hex : (k n : ℕ) → n < 2 ^ 64 → IsDigitCount 16 16 n k → hex_of n ≡ last_digits 16 k n
unfolding hex_of
fewest_hex k n small h = ap (λ (j : ℕ). last_digits 16 j n) (sym (sixteen k n small h (dec_le k 16)))

-- ---- read back, the digits are the number

value_append : (v : ℕ) (s t : List ℕ) → value_from v (s ++ t) ≡ value_from (value_from v s) t
unfolding value_from
value_append v [] t = refl
value_append v (d ∷ s) t = value_append (v * 10 + (d - 48)) s t

digit_value : (d : ℕ) → d < 10 → hex_digit_ascii d - 48 ≡ d
digit_value d h = rw (lt-ltb d 10 h) (omega arith)

value_step : (k n : ℕ) → (10 ≤ n → value_from 0 (decimal_up_to k (n / 10)) ≡ n / 10) → Dec (10 ≤ n) → value_from 0 (decimal_up_to (suc k) n) ≡ n
unfolding value_from
value_step k n tenth (no small) =
    let h : n < 10 = lt_of_not-le small in
    rw (one_digit k n h, digit_value n h) (omega arith)
value_step k n tenth (yes large) =
    let last : n % 10 < 10 = omega arith in
    rw (more_digits k n large, value_append, tenth large, digit_value (n % 10) last) (omega arith)

value_up_to : (k n : ℕ) → n < k → value_from 0 (decimal_up_to k n) ≡ n
value_up_to zero n h = absurd (omega arith)
value_up_to (suc k) n h = value_step k n (λ (large : 10 ≤ n). value_up_to k (n / 10) (omega arith)) (dec_le 10 n)

pub decimal_value : (n : ℕ) → value_from 0 (decimal_of n) ≡ n
unfolding decimal_of
decimal_value n = value_up_to (suc n) n (omega arith)

-- ---- lengths

length_more : (most k n : ℕ) → n < 10 ^ suc k → ((j : ℕ) → n / 10 < 10 ^ suc j → length (decimal_up_to most (n / 10)) ≤ suc j) → Dec (10 ≤ n)
    → length (decimal_up_to (suc most) n) ≤ suc k
length_more most k n h shorter (no small) = rw (one_digit most n (lt_of_not-le small)) (omega arith)
length_more most zero n h shorter (yes large) = absurd (omega arith)
length_more most (suc k) n h shorter (yes large) =
    let few : length (decimal_up_to most (n / 10)) ≤ suc k = shorter k (omega (arith, pow-suc 10 (suc k))) in
    rw (more_digits most n large, length-append) (omega arith)

length_up_to : (most k n : ℕ) → n < 10 ^ suc k → length (decimal_up_to most n) ≤ suc k
unfolding decimal_up_to
length_up_to zero k n h = omega arith
length_up_to (suc most) k n h = length_more most k n h (λ j. length_up_to most j (n / 10)) (dec_le 10 n)

-- a number below 10 ^ (k + 1) has at most k + 1 digits
pub length_below : (k n : ℕ) → n < 10 ^ suc k → length (decimal_of n) ≤ suc k
unfolding decimal_of
length_below k n h = length_up_to (suc n) k n h

pub length_decimal : (n : ℕ) → n < 2 ^ 64 → length (decimal_of n) ≤ 20
length_decimal n h = length_below 19 n (omega arith)

pub length_hex : (n : ℕ) → length (hex_of n) ≡ 16
unfolding hex_of
length_hex n = refl

pub length_float : (x : Float) → length (float_text x) ≤ 16
unfolding float_text
length_float x = either (is_nan x)
  where
    either : (b : Bool) → length (cond b (ascii "nan") (hex_of (to_bits binary64 x))) ≤ 16
    either true = omega arith
    either false = omega (arith, length_hex (to_bits binary64 x))
