-- A read of the board of a map finds the entry of the first p objects: the entries that it combines are those of neighbouring runs of places.
use Prim.Native.Nat.{ℕ, zero, suc, ◌+◌, ◌-◌, ◌*◌, ◌^◌, ◌≤◌, ◌<◌}
use mathlib.Core.Path.{◌≡◌, sym, ap, ap₂, ◌∙◌, subst}
use mathlib.Core.Bool.{true}
use mathlib.Core.List.{List}
use native.Mathlib.Omega.{arith}
use native.Mathlib.Nat.{add-zero, zero-add, add-suc, suc-add, add_comm, zero-mul, le_trans, pow-suc, mul_assoc, add-mul, one-mul, mul-one, mul-le-mul_right, le_of_mul-le-mul_right, zero-lt-suc}
use native.Mathlib.Numerals.{sub-one, add-one}
use native.Mathlib.Decide.{dec_le}
use borrow.Author.Tests.{le-ltb}
use lib.ListN.{take, drop, take-append-drop}
use lib.Seq.{take-add}
use lib.Pow.{pow_pos, pow-add, pow_mono}
use Rattle.rules.specs.Limits.{max_bonus}
use Rattle.rules.specs.Refusals.{good, ◌>>=◌, ◌>>◌, refuse◌when◌}
use Rattle.records.specs.Objects.{Object}
use Rattle.entries.specs.Entry.{none, joined, entry_of, in_limits, checked}
use Rattle.entries.specs.Words.{entry_at}
use Rattle.entries.specs.declared.entry.Entry.{Entry}
use Rattle.entries.proofs.Accepted.{entry_first}
use Rattle.entries.proofs.Limits.{word_le}
use Rattle.entries.proofs.Runs.{entry_append, entry_none}
use Rattle.tree.specs.Board.{covered, entry_in}
use Rattle.tree.specs.First.{walked}
use Rattle.tree.specs.Limited.{limited, after_of}
use Rattle.tree.proofs.Covers.{covered-run, covered_fuel}
use Rattle.tree.proofs.Firsts.{skips, takes}
use Rattle.tree.proofs.Light.{light_of}
use Rattle.tree.proofs.Within.{parts_in}

-- an entry within all limits passes both checks of a combination
after_good : (a w : Entry) → in_limits w ≡ true → in_limits (joined a w) ≡ true → after_of a w ≡ good (joined a w)
unfolding after_of checked limited ◌>>=◌ ◌>>◌ refuse◌when◌
after_good a w h k =
    let low : (joined a w).legacy_bonus_score ≤ max_bonus = word_le (joined a w) k 5 (omega arith) in
    simp (h, light_of (joined a w) k, le-ltb _ _ low)

covered_more : (os : List Object) (c n x : ℕ) → c ≤ x * 2 ^ n → (k : ℕ) → covered (suc n) c os x ≡ covered (suc (n + k)) c os x
covered_more os c n x h zero = ap (λ (m : ℕ). covered (suc m) c os x) (sym (add-zero n))
covered_more os c n x h (suc k) =
    covered_more os c n x h k
    ∙ covered_fuel os c (n + k) x (le_trans h (subst (λ (m : ℕ). x * 2 ^ n ≤ m) (mul_assoc x (2 ^ n) (2 ^ k) ∙ ap (λ (m : ℕ). x * m) (sym (pow-add 2 n k))) (native.Mathlib.Nat.le-mul_of_pos_right (x * 2 ^ n) (pow_pos k))))
    ∙ ap (λ (m : ℕ). covered (suc m) c os x) (sym (add-suc n k))

-- an entry of level n, k levels below the top
entry_run : (os : List Object) (n k x : ℕ) → 2 ^ k ≤ x → x < 2 * 2 ^ k → entry_in (n + k) os x ≡ entry_of (take (2 ^ n) (drop ((x - 2 ^ k) * 2 ^ n) os))
unfolding entry_in
entry_run os n k x h g =
    let e : 2 ^ k * 2 ^ n ≡ 2 ^ (n + k) = sym (pow-add 2 k n) ∙ ap (λ (m : ℕ). 2 ^ m) (native.Mathlib.Nat.add_comm k n) in
    ap entry_of (sym (covered_more os (2 ^ (n + k)) n x (subst (λ (m : ℕ). m ≤ x * 2 ^ n) e (mul-le-mul_right (2 ^ n) h)) k)
    ∙ subst (λ (c : ℕ). covered (suc n) c os x ≡ take (2 ^ n) (drop ((x - 2 ^ k) * 2 ^ n) os)) e (covered-run os n (2 ^ k) x h g))

take_in : (os : List Object) → in_limits (entry_of os) ≡ true → (m : ℕ) → in_limits (entry_of (take m os)) ≡ true
take_in os h m =
    (parts_in (entry_of (take m os)) (entry_of (drop m os)) (entry_first _) (entry_first _)
    (subst (λ (e : Entry). in_limits e ≡ true) (ap entry_of (sym (take-append-drop m os)) ∙ entry_append (take m os) (drop m os)) h)
    ).0

-- the numbers of a step down
to_left : (x c q : ℕ) → c ≤ x → (x * 2 - c * 2) * q ≡ (x - c) * (q * 2)
to_left x c q h = ap (λ (m : ℕ). m * q) (two x c h) ∙ omega (arith, mul_assoc (x - c) 2 q, mul_assoc (x - c) q 2, native.Mathlib.Nat.mul_right_comm (x - c) 2 q)
  where
    two : (x c : ℕ) → c ≤ x → x * 2 - c * 2 ≡ (x - c) * 2
    two x c h = omega arith

to_right : (x c q : ℕ) → c ≤ x → ((x + 1) * 2 - c * 2) * q ≡ (x - c) * (q * 2) + q * 2
to_right x c q h =
    to_left (x + 1) c q (omega arith) ∙ ap (λ (m : ℕ). m * (q * 2)) (one x c h) ∙ omega (arith, add-mul (x - c) 1 (q * 2), one-mul (q * 2))
  where
    one : (x c : ℕ) → c ≤ x → x + 1 - c ≡ (x - c) + 1
    one x c h = omega arith

-- entry x, the next to be read at level n - 1 of a tree of l levels, covers from place s on
abbrev Pos : ℕ → ℕ → ℕ → ℕ → Type 0
Pos l zero x s = Unit {0}
Pos l (suc n) x s = (k : ℕ) × (n + k ≡ l) × (2 ^ k ≤ x) × ((x - 2 ^ k) * 2 ^ n ≡ s)

pos_right : (l n x s : ℕ) → Pos l (suc n) x s → Pos l n ((x + 1) * 2) (s + 2 ^ n)
pos_right l zero x s h = tt
pos_right l (suc n) x s h =
    let k = h.0 in (
      suc k,
      add-suc n k ∙ sym (suc-add n k) ∙ h.1,
      subst (λ (m : ℕ). m ≤ (x + 1) * 2) (sym (pow-suc 2 k)) (omega (arith, h.2)),
      ap₂ (λ (c q : ℕ). ((x + 1) * 2 - c) * 2 ^ n) (pow-suc 2 k) (pow-suc 2 n) ∙ to_right x (2 ^ k) (2 ^ n) h.2 ∙ ap₂ (λ (a q : ℕ). a + q) (ap (λ (m : ℕ). (x - 2 ^ k) * m) (sym (pow-suc 2 n)) ∙ h.3) (sym (pow-suc 2 n)),
    )

pos_left : (l n x s : ℕ) → Pos l (suc n) x s → Pos l n (x * 2) s
pos_left l zero x s h = tt
pos_left l (suc n) x s h =
    let k = h.0 in (
      suc k,
      add-suc n k ∙ sym (suc-add n k) ∙ h.1,
      subst (λ (m : ℕ). m ≤ x * 2) (sym (pow-suc 2 k)) (omega (arith, h.2)),
      ap (λ (c : ℕ). (x * 2 - c) * 2 ^ n) (pow-suc 2 k) ∙ to_left x (2 ^ k) (2 ^ n) h.2 ∙ ap (λ (m : ℕ). (x - 2 ^ k) * m) (sym (pow-suc 2 n)) ∙ h.3,
    )

module _ (l : ℕ) (os : List Object) (b : List ℕ) (ok : in_limits (entry_of os) ≡ true)
    (honest : (y : ℕ) → (1 ≤ y) × (y < 2 * 2 ^ l) → entry_at b y ≡ entry_in l os y)
    (fits : (y : ℕ) → (1 ≤ y) × (y < 2 * 2 ^ l) → in_limits (entry_in l os y) ≡ true) where
  -- an entry that is read lies in the tree, and is that of its run
  in_tree : (n x s : ℕ) → Pos l (suc n) x s → s + 2 ^ n ≤ 2 ^ l → ((1 ≤ x) × (x < 2 * 2 ^ l)) × (entry_in l os x ≡ entry_of (take (2 ^ n) (drop s os)))
  in_tree n x s (k, e, le, at) h =
      let split : 2 ^ l ≡ 2 ^ k * 2 ^ n = ap (λ (m : ℕ). 2 ^ m) (sym e ∙ add_comm n k) ∙ pow-add 2 k n in
      let below : x - 2 ^ k + 1 ≤ 2 ^ k = le_of_mul-le-mul_right {k = 2 ^ n} (omega (arith, add-mul (x - 2 ^ k) 1 (2 ^ n), one-mul (2 ^ n), at, split)) (pow_pos n) in
      let up : 2 ^ k ≤ 2 ^ l = pow_mono {i = k} {j = l} (omega (arith, e)) in (
        (omega (arith, pow_pos k), omega arith),
        subst (λ (m : ℕ). entry_in m os x ≡ entry_of (take (2 ^ n) (drop ((x - 2 ^ k) * 2 ^ n) os))) e (entry_run os n k x le (omega arith)) ∙ ap (λ (m : ℕ). entry_of (take (2 ^ n) (drop m os))) at,
      )

  pub says : (n x p : ℕ) (a : Entry) (s : ℕ) → Pos l n x s → p < 2 ^ n → s + p ≤ 2 ^ l → a ≡ entry_of (take s os) → walked n b x p a ≡ good (entry_of (take (s + p) os))
  unfolding walked
  says zero x p a s pos small reach is =
      let e : s ≡ s + p = omega arith in
      ap good (is ∙ ap (λ (m : ℕ). entry_of (take m os)) e)
  says (suc n) x p a s pos small reach is = go (λ y q c t. says n y q c t) (dec_le (2 ^ n) p)
    where
      go : ((y q : ℕ) (c : Entry) (t : ℕ) → Pos l n y t → q < 2 ^ n → t + q ≤ 2 ^ l → c ≡ entry_of (take t os) → walked n b y q c ≡ good (entry_of (take (t + q) os))) → Dec (2 ^ n ≤ p) → walked (suc n) b x p a ≡ good (entry_of (take (s + p) os))
      go ih (no g) =
          skips b x p a (suc n) (zero-lt-suc n) (rw sub-one (omega arith))
          ∙ ap (λ (m : ℕ). walked m b (x * 2) p a) (sub-one (suc n))
          ∙ ih (x * 2) p a s (pos_left l n x s pos) (omega arith) reach is
      go ih (yes g) =
          let t = in_tree n x s pos (omega arith) in
          let is-w : entry_at b x ≡ entry_of (take (2 ^ n) (drop s os)) = honest x t.0 ∙ t.1 in
          let hw : in_limits (entry_at b x) ≡ true = ap in_limits (honest x t.0) ∙ fits x t.0 in
          let is-u : joined a (entry_at b x) ≡ entry_of (take (s + 2 ^ n) os) = ap₂ joined is is-w ∙ sym (entry_append (take s os) (take (2 ^ n) (drop s os))) ∙ ap entry_of (sym (take-add s (2 ^ n) os)) in
          let e : s + 2 ^ n + (p - 2 ^ n) ≡ s + p = omega arith in
          takes b x p a (suc n) (joined a (entry_at b x)) (zero-lt-suc n) (rw sub-one g) (after_good a (entry_at b x) hw (ap in_limits is-u ∙ take_in os ok (s + 2 ^ n)))
          ∙ ap (λ (m : ℕ). walked m b ((x + 1) * 2) (p - 2 ^ m) (joined a (entry_at b x))) (sub-one (suc n))
          ∙ ih ((x + 1) * 2) (p - 2 ^ n) (joined a (entry_at b x)) (s + 2 ^ n) (pos_right l n x s pos) (omega (arith, pow-suc 2 n)) (omega arith) is-u
          ∙ ap (λ (m : ℕ). good (entry_of (take m os))) e

  -- a read from the top
  pub walk_right : (p : ℕ) → p ≤ 2 ^ l → walked (l + 1) b 1 p none ≡ good (entry_of (take p os))
  walk_right p h =
      let top : (1 - 1) * 2 ^ l ≡ 0 = zero-mul (2 ^ l) in
      ap (λ (m : ℕ). walked m b 1 p none) (add-one l)
      ∙ says (suc l) 1 p none 0 (0, add-zero l, omega arith, top) (omega (arith, pow-suc 2 l, pow_pos l)) (omega arith) (sym entry_none)
      ∙ ap (λ (m : ℕ). good (entry_of (take m os))) (zero-add p)
