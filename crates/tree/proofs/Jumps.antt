-- The steps of `walked` by the binary digits of p, and why a sum within its limits needs no other check: it only grew.
use Prim.Native.Nat.{ℕ, zero, suc, ◌+◌, ◌-◌, ◌*◌, ◌/◌, ◌^◌, ◌≤◌, ◌<◌}
use mathlib.Core.Path.{◌≡◌, refl, sym, ap, ◌∙◌}
use mathlib.Core.Bool.{Bool, true, false, not}
use mathlib.Core.List.{List}
use native.Mathlib.Omega.{arith}
use native.Mathlib.Nat.{pow-suc, add-zero, mul-one, mul_assoc, mul_comm, mul-div_cancel, le-mul_of_pos_right, lt_of_lt_of_le, add-mul, one-mul}
use native.Mathlib.Decide.{dec_lt}
use borrow.Author.Tests.{lt-leb, le-ltb}
use lib.ListN.{length}
use lib.Pow.{pow_pos, pow_mono, pow-add}
use Rattle.rules.specs.Limits.{max_levels, max_bonus}
use Rattle.rules.specs.Refusals.{good, ◌>>=◌, ◌>>◌, refuse◌when◌, BOARD}
use Rattle.entries.specs.Entry.{none, joined, in_limits, checked, SumOf, entry_words, place_words}
use Rattle.entries.specs.Words.{entry_at}
use Rattle.entries.specs.declared.entry.Entry.{Entry}
use Rattle.entries.proofs.Limits.{word_le, first_most, sum_of-none, sum_of_more, sum_of-joined}
use Rattle.tree.specs.Limited.{limited, after_of, sum_of}
use Rattle.tree.specs.First.{walked}
use Rattle.rules.proofs.Laws.{never}
use Rattle.tree.proofs.Firsts.{skips, takes}
use Rattle.tree.proofs.Light.{light_of}
use Rattle.tree.proofs.Within.{parts_in}

-- ---- levels with no entry to take

skips_all : (k n : ℕ) (b : List ℕ) (x p : ℕ) (a : Entry) → p < 2 ^ n → walked (n + k) b x p a ≡ walked n b (x * 2 ^ k) p a
skips_all zero n b x p a h = rw (add-zero, mul-one)
skips_all (suc k) n b x p a h =
    let z : n + suc k - 1 ≡ n + k = omega arith in
    let low : p < 2 ^ (n + suc k - 1) = rw z (lt_of_lt_of_le h (pow_mono (omega arith))) in
    let e : x * 2 * 2 ^ k ≡ x * 2 ^ suc k = mul_assoc x 2 (2 ^ k) ∙ ap (λ (m : ℕ). x * m) (mul_comm 2 (2 ^ k) ∙ sym (pow-suc 2 k)) in
    skips b x p a (n + suc k) (omega arith) low
    ∙ ap (λ (m : ℕ). walked m b (x * 2) p a) z
    ∙ skips_all k n b (x * 2) p a h
    ∙ ap (λ (m : ℕ). walked n b m p a) e

none_left : (n : ℕ) (b : List ℕ) (x : ℕ) (a : Entry) → walked n b x 0 a ≡ good a
unfolding walked
none_left zero b x a = refl
none_left (suc n) b x a = rw (lt-leb _ _ (pow_pos n)) (none_left n b (x * 2) a)

-- ---- an entry taken

after_good : (a w : Entry) → in_limits w ≡ true → in_limits (joined a w) ≡ true → after_of a w ≡ good (joined a w)
unfolding after_of checked limited ◌>>=◌ ◌>>◌ refuse◌when◌
after_good a w hw h =
    let low : (joined a w).legacy_bonus_score ≤ max_bonus = word_le (joined a w) h 5 (omega arith) in
    rw (hw, light_of (joined a w) h, le-ltb _ _ low)

-- what the code was told of a sum
sum_told : (a w u : Entry) → good u ≡ sum_of a w → (in_limits w ≡ true) × (u ≡ joined a w)
unfolding sum_of checked ◌>>=◌ ◌>>◌ refuse◌when◌
sum_told a w u h = go (in_limits w) refl h
  where
    go : (x : Bool) → in_limits w ≡ x → good u ≡ (((refuse BOARD when not x) >> good w) >>= (λ r. good (joined a r))) → (in_limits w ≡ true) × (u ≡ joined a w)
    go false e h = never (cc)
    go true e h = (e, cc)

-- what the loop keeps: where the walk stands, and that it stands there if the sum is within its limits
pub record Summing (b : List ℕ) (levels p done rest : ℕ) (sum : Entry) : Type 0 where
  pub level : ℕ
  pub x : ℕ
  pub taken : ℕ
  pub same : in_limits sum ≡ true → walked level b x rest sum ≡ walked (levels + 1) b 1 p none
  pub low : rest < 2 ^ level
  pub here : x * 2 ^ level ≡ 2 * done
  pub all : done + rest ≡ 2 ^ levels + p
  pub few : taken + level ≤ levels + 1
  pub sums : SumOf taken sum
  pub first : sum.first_no_slider ≤ 1

pub summing_start : (b : List ℕ) (levels p : ℕ) → p ≤ 2 ^ levels → Summing b levels p (2 ^ levels) p none
summing_start b levels p least =
    let d : 2 ^ (levels + 1) ≡ 2 ^ levels * 2 = pow-add 2 levels 1 in
    let some = pow_pos levels in
    record {
      level = levels + 1;
      x = 1;
      taken = 0;
      same = λ h. refl;
      low = omega (arith, d, least, some);
      here = omega (arith, d);
      all = refl;
      few = omega arith;
      sums = sum_of-none;
      first = omega arith;
    }

module _ {b : List ℕ} {levels p done rest : ℕ} {sum : Entry} (k : Summing b levels p done rest sum) where
  -- the largest entry that covers no more than is left, of level n
  module _ (n : ℕ) (le : 2 ^ n ≤ rest) (lt : rest < 2 * 2 ^ n) where
    below : n < k.level
    below = go (dec_lt n k.level)
      where
        go : Dec (n < k.level) → n < k.level
        go (yes h) = h
        go (no h) = let m = pow_mono {i = k.level} {j = n} (omega (arith, h)) in let l = k.low in absurd (omega (arith, m, l, le))

    abbrev up : ℕ
    up = k.level - suc n

    level_is : suc n + up ≡ k.level
    level_is = let h = below in omega (arith, h)

    abbrev entry : ℕ
    entry = k.x * 2 ^ up

    -- entry * 2 ^ n is done
    entry_here : entry * 2 ^ n ≡ done
    entry_here =
        let s = pow-add 2 (suc n) up in
        let l : 2 ^ (suc n + up) ≡ 2 ^ k.level = ap (λ (m : ℕ). 2 ^ m) level_is in
        let t : 2 ^ suc n ≡ 2 ^ n * 2 = pow-suc 2 n in
        let u : entry * (2 ^ n * 2) ≡ k.x * 2 ^ k.level =
        mul_assoc k.x (2 ^ up) (2 ^ n * 2) ∙ ap (λ (m : ℕ). k.x * m) (ap (λ (m : ℕ). 2 ^ up * m) (sym t) ∙ mul_comm (2 ^ up) (2 ^ suc n) ∙ sym s ∙ l) in
        let v : entry * (2 ^ n * 2) ≡ entry * 2 ^ n * 2 = sym (mul_assoc entry (2 ^ n) 2) in
        let h = k.here in
        omega (arith, u, v, h)

    entry_is : done / 2 ^ n ≡ entry
    entry_is = ap (λ (m : ℕ). m / 2 ^ n) (sym entry_here) ∙ mul-div_cancel entry (pow_pos n)

    pub inside : p ≤ 2 ^ levels → 2 ^ levels * place_words ≤ length b → done / 2 ^ n * entry_words + entry_words ≤ length b
    inside least room =
        let m = le-mul_of_pos_right (entry + 1) (pow_pos n) in
        let d = add-mul entry 1 (2 ^ n) in
        let o = one-mul (2 ^ n) in
        let h = entry_here in
        let a = k.all in
        rw entry_is (omega (arith, m, d, o, h, a, le, least, room))

    -- the entry taken
    entry_taken : levels ≤ max_levels → in_limits (entry_at b (done / 2 ^ n)) ≡ true
        → Summing b levels p (done + 2 ^ n) (rest - 2 ^ n) (joined sum (entry_at b (done / 2 ^ n)))
    entry_taken short fit =
        let h = below in
        let f = k.few in
        let a = k.all in
        record {
          level = n;
          x = (entry + 1) * 2;
          taken = suc k.taken;
          same = go;
          low = omega (arith, le, lt);
          here = double;
          all = omega (arith, a, le);
          few = omega (arith, h, f);
          sums = sum_of-joined k.taken sum _ (omega (arith, h, f, short)) k.sums fit;
          first = first_most sum _ 1 k.first (word_le _ fit 3 (omega arith));
        }
      where
        double : (entry + 1) * 2 * 2 ^ n ≡ 2 * (done + 2 ^ n)
        double =
            let d = add-mul entry 1 (2 ^ n) in
            let o = one-mul (2 ^ n) in
            let h = entry_here in
            let c : (entry + 1) * 2 * 2 ^ n ≡ (entry + 1) * 2 ^ n * 2 = mul_assoc (entry + 1) 2 (2 ^ n) ∙ ap (λ (m : ℕ). (entry + 1) * m) (mul_comm 2 (2 ^ n)) ∙ sym (mul_assoc (entry + 1) (2 ^ n) 2) in
            omega (arith, c, d, o, h)

        low_n : rest < 2 ^ suc n
        low_n = let t = pow-suc 2 n in omega (arith, t, lt)

        go : in_limits (joined sum (entry_at b (done / 2 ^ n))) ≡ true
            → walked n b ((entry + 1) * 2) (rest - 2 ^ n) (joined sum (entry_at b (done / 2 ^ n))) ≡ walked (levels + 1) b 1 p none
        go h =
            let was : in_limits sum ≡ true = (parts_in sum _ k.first (word_le _ fit 3 (omega arith)) h).0 in
            let z : suc n - 1 ≡ n = omega arith in
            let q : after_of sum (entry_at b entry) ≡ good (joined sum (entry_at b (done / 2 ^ n))) =
            ap (λ (m : ℕ). after_of sum (entry_at b m)) (sym entry_is) ∙ after_good sum _ fit h in
            let step : walked (suc n) b entry rest sum ≡ walked n b ((entry + 1) * 2) (rest - 2 ^ n) (joined sum (entry_at b (done / 2 ^ n))) =
            rw z at (takes b entry rest sum (suc n) _ (omega arith) (rw z le) q) in
            sym step ∙ sym (skips_all up (suc n) b k.x rest sum low_n) ∙ ap (λ (m : ℕ). walked m b k.x rest sum) level_is ∙ k.same was

    -- the same as the code has it: the width of the entry, and the sum as it was told
    pub summing_next : levels ≤ max_levels → (w : ℕ) → w ≡ 2 ^ n → (u : Entry) → good u ≡ sum_of sum (entry_at b (done / 2 ^ n)) → Summing b levels p (done + w) (rest - w) u
    summing_next short w is u told = let h = sum_told sum (entry_at b (done / 2 ^ n)) u told in rw (is, h.1) (entry_taken short h.0)

  pub summed : rest ≤ 0 → in_limits sum ≡ true → good sum ≡ walked (levels + 1) b 1 p none
  summed h fit =
      let z : rest ≡ 0 = omega (arith, h) in
      sym (sym (k.same fit) ∙ ap (λ (m : ℕ). walked k.level b k.x m sum) z ∙ none_left k.level b k.x sum)

  pub sums_fit : levels ≤ max_levels → SumOf (max_levels + 1) sum
  sums_fit short = let f = k.few in sum_of_more k.taken 14 sum (omega (arith, f, short)) k.sums
