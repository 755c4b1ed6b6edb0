-- The steps of `walked`, as the code takes them: an entry looked at reaches no further than the board.
use Rattle.rules.specs.declared.refusal.Rule.{Rule}
use Prim.Native.Nat.{ℕ, zero, suc, ◌+◌, ◌-◌, ◌*◌, ◌/◌, ◌^◌, ◌≤◌, ◌<◌}
use mathlib.Core.Path.{◌≡◌, refl, sym, ap, ◌∙◌, subst}
use mathlib.Core.Bool.{Bool, true, false, cond}
use mathlib.Core.List.{List}
use native.Mathlib.Omega.{arith}
use native.Mathlib.Nat.{pow-suc, not-suc-le-zero, mul_assoc, mul-le-mul_left, le-mul_of_pos_right, add-mul, one-mul}
use borrow.Author.Tests.{le-leb, lt-leb, ltb-true, ltb-false}
use lib.Dec.{ltb}
use lib.ListN.{length}
use lib.Pow.{pow_pos}
use Rattle.rules.specs.Limits.{max_objects}
use Rattle.rules.specs.Refusals.{Checked, good, refused, ◌>>=◌}
use Rattle.entries.specs.Entry.{none, place_words, entry_words}
use Rattle.entries.specs.Words.{entry_at}
use Rattle.entries.specs.declared.entry.Entry.{Entry}
use Rattle.tree.specs.Limited.{after_of}
use Rattle.tree.specs.First.{walked, turned_of}
use Rattle.tree.specs.declared.first.Prefix.{Prefix}

half_pow : (n : ℕ) → 0 < n → 2 ^ n / 2 ≡ 2 ^ (n - 1)
half_pow zero h = absurd (not-suc-le-zero h)
half_pow (suc n) h = let z : suc n - 1 ≡ n = omega arith in rw z (omega (arith, pow-suc 2 n))

-- half the width at twice the index reaches no further
halved : (x w : ℕ) → x * 2 * (w / 2) ≤ x * w
halved x w = subst (λ (m : ℕ). m ≤ x * w) (sym (mul_assoc x 2 (w / 2))) (mul-le-mul_left x (omega arith))

-- ---- one level of the definition
module _ (b : List ℕ) (x p : ℕ) (a : Entry) where
  pub skips : (n : ℕ) → 0 < n → p < 2 ^ (n - 1) → walked n b x p a ≡ walked (n - 1) b (x * 2) p a
  unfolding walked
  skips zero h g = absurd (not-suc-le-zero h)
  skips (suc n) h g =
      let z : suc n - 1 ≡ n = omega arith in
      let g' : p < 2 ^ n = rw z at g in
      rw (z, lt-leb _ _ g')

  pub takes : (n : ℕ) (u : Entry) → 0 < n → 2 ^ (n - 1) ≤ p → after_of a (entry_at b x) ≡ good u → walked n b x p a ≡ walked (n - 1) b ((x + 1) * 2) (p - 2 ^ (n - 1)) u
  unfolding walked ◌>>=◌
  takes zero u h g q = absurd (not-suc-le-zero h)
  takes (suc n) u h g q =
      let z : suc n - 1 ≡ n = omega arith in
      let g' : 2 ^ n ≤ p = rw z at g in
      rw (z, le-leb _ _ g', q)

  stops : (n : ℕ) (k : Rule) → 0 < n → 2 ^ (n - 1) ≤ p → after_of a (entry_at b x) ≡ refused k → walked n b x p a ≡ refused k
  unfolding walked ◌>>=◌
  stops zero k h g q = absurd (not-suc-le-zero h)
  stops (suc n) k h g q =
      let z : suc n - 1 ≡ n = omega arith in
      let g' : 2 ^ n ≤ p = rw z at g in
      rw (le-leb _ _ g', q)

at_end : (n : ℕ) (b : List ℕ) (x p : ℕ) (a : Entry) → n ≤ 0 → walked n b x p a ≡ good a
unfolding walked
at_end zero b x p a h = refl
at_end (suc n) b x p a h = absurd (not-suc-le-zero h)

-- ---- the loop's invariant
abbrev walked_at : ℕ → List ℕ → Prefix → Checked Entry
walked_at left b t = walked left b t.x t.rest t.sum

pub record Walking (b : List ℕ) (levels : ℕ) (t₀ : Prefix) (left : ℕ) (t : Prefix) : Type 0 where
  pub same : walked_at left b t ≡ walked_at levels b t₀
  pub width : t.width ≡ 2 ^ left / 2
  pub reach : t.x * t.width + t.rest ≤ 2 * t₀.width
  pub cap : t₀.width ≤ max_objects
  pub room : t₀.width * place_words ≤ length b

module _ {b : List ℕ} {levels left : ℕ} {t₀ t : Prefix} (k : Walking b levels t₀ left t) where
  module _ (pos : 0 < left) where
    width_is : t.width ≡ 2 ^ (left - 1)
    width_is = k.width ∙ half_pow left pos

    some : 0 < t.width
    some = subst (λ (m : ℕ). 0 < m) (sym width_is) (pow_pos (left - 1))

    pub x_small : t.x ≤ (2 * max_objects)
    x_small =
        let h = le-mul_of_pos_right t.x some in
        let r = k.reach in
        let c = k.cap in
        omega (arith, h, r, c)

    pub x_inside : t.width ≤ t.rest → t.x * entry_words + entry_words ≤ length b
    x_inside h =
        let n = le-mul_of_pos_right (t.x + 1) some in
        let m = add-mul t.x 1 t.width in
        let o = one-mul t.width in
        let r = k.reach in
        let c = k.room in
        omega (arith, n, m, o, r, c, h)

    -- the two cases of a turn
    skipped : t.rest < t.width → Walking b levels t₀ (left - 1) (record { x = t.x * 2; width = t.width / 2; rest = t.rest; sum = t.sum })
    skipped h =
        let reach = k.reach in
        let less = halved t.x t.width in
        record {
          same = sym (skips b t.x t.rest t.sum left pos (subst (λ (m : ℕ). t.rest < m) width_is h)) ∙ k.same;
          width = ap (λ (m : ℕ). m / 2) width_is;
          reach = omega (arith, less, reach);
          cap = k.cap;
          room = k.room;
        }

    took : (u : Entry) → t.width ≤ t.rest → after_of t.sum (entry_at b t.x) ≡ good u
        → Walking b levels t₀ (left - 1) (record { x = (t.x + 1) * 2; width = t.width / 2; rest = t.rest - t.width; sum = u })
    took u h q =
        let reach = k.reach in
        let less = halved (t.x + 1) t.width in
        let m = add-mul t.x 1 t.width in
        let o = one-mul t.width in
        record {
          same =
              ap (λ (m : ℕ). walked (left - 1) b ((t.x + 1) * 2) (t.rest - m) u) width_is
              ∙ sym (takes b t.x t.rest t.sum left u pos (subst (λ (m : ℕ). m ≤ t.rest) width_is h) q)
              ∙ k.same;
          width = ap (λ (m : ℕ). m / 2) width_is;
          reach = omega (arith, less, reach, m, o, h);
          cap = k.cap;
          room = k.room;
        }

    pub data After : Checked Prefix → Type 0 where
      goes : {next : Prefix} → Walking b levels t₀ (left - 1) next → After (good next)
      ends : {n : Rule} → walked_at levels b t₀ ≡ refused n → After (refused n)

    pub after : After (turned_of b t)
    unfolding ◌>>=◌
    after = go (ltb t.rest t.width) refl
      where
        took_on : Entry → Checked Prefix
        took_on u = good (record { x = (t.x + 1) * 2; width = t.width / 2; rest = t.rest - t.width; sum = u })

        read : t.width ≤ t.rest → (x : Checked Entry) → after_of t.sum (entry_at b t.x) ≡ x → After (x >>= took_on)
        read h (refused n) q = ends (sym k.same ∙ stops b t.x t.rest t.sum left n pos (subst (λ (m : ℕ). m ≤ t.rest) width_is h) q)
        read h (good u) q = goes (took u h q)

        go : (c : Bool) → ltb t.rest t.width ≡ c
            → After (cond c (good (record { x = t.x * 2; width = t.width / 2; rest = t.rest; sum = t.sum })) (after_of t.sum (entry_at b t.x) >>= took_on))
        go true e = goes (skipped (ltb-true t.rest t.width e))
        go false e = read (ltb-false t.rest t.width e) (after_of t.sum (entry_at b t.x)) refl

    pub after_next : (next : Prefix) → good next ≡ turned_of b t → Walking b levels t₀ (left - 1) next
    after_next next e = out (subst After (sym e) after)
      where
        out : After (good next) → Walking b levels t₀ (left - 1) next
        out (goes w) = w

    pub after_end : (n : Rule) → refused n ≡ turned_of b t → refused n ≡ walked_at levels b t₀
    after_end n e = out (subst After (sym e) after)
      where
        out : After (refused n) → refused n ≡ walked_at levels b t₀
        out (ends q) = sym q

  pub at_last : left ≤ 0 → good t.sum ≡ walked_at levels b t₀
  at_last h = sym (sym k.same ∙ at_end left b t.x t.rest t.sum h)

pub walking_start : (b : List ℕ) (levels p : ℕ) → 2 ^ levels ≤ max_objects → p ≤ 2 ^ levels → 2 ^ levels * place_words ≤ length b
    → Walking b (levels + 1) (record { x = 1; width = 2 ^ levels; rest = p; sum = none }) (levels + 1) (record { x = 1; width = 2 ^ levels; rest = p; sum = none })
walking_start b levels p few least room =
    let z : levels + 1 - 1 ≡ levels = omega arith in
    let w : 2 ^ (levels + 1) / 2 ≡ 2 ^ levels = half_pow (levels + 1) (omega arith) ∙ ap (λ (n : ℕ). 2 ^ n) z in
    record { same = refl; width = sym w; reach = omega (arith, least); cap = few; room = room }
