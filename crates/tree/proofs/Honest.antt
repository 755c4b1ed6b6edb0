-- A climb on the board of a map leaves the board of the map with the object put in, or is refused with 7 where that map's legacy bonus is too high:
-- the entries beside the way are those of both maps. Assumes nothing.
use Prim.Native.Nat.{ℕ, zero, suc, ◌+◌, ◌-◌, ◌*◌, ◌/◌, ◌%◌, ◌^◌, ◌≤◌, ◌<◌}
use mathlib.Core.Path.{◌≡◌, refl, sym, ap, ap₂, ◌∙◌, subst}
use mathlib.Core.Logic.{◌≢◌, ◌⊎◌, inl, inr}
use mathlib.Core.Bool.{Bool, true, false, cond}
use mathlib.Core.List.{List}
use native.Mathlib.Omega.{arith}
use native.Mathlib.Decide.{ℕ_discrete}
use borrow.Author.Tests.{eq-eqb, ne_eqb, lt-ltb, ltb-true, ltb-false}
use lib.Dec.{ltb}
use lib.ListN.{length, set}
use Rattle.rules.specs.Limits.{max_bonus}
use Rattle.rules.specs.Refusals.{good, refused, ◌>>=◌, ◌>>◌, refuse◌when◌, BONUS}
use Rattle.rules.proofs.Steps.{bind_good, bind_refused}
use Rattle.records.specs.Objects.{Object}
use Rattle.entries.specs.Entry.{joined, in_limits, entry_words}
use Rattle.entries.specs.Words.{entry_at, put_entry}
use Rattle.entries.specs.declared.entry.Entry.{Entry}
use Rattle.entries.proofs.WordLaws.{put_same, put_other}
use Rattle.tree.specs.Limited.{without_legacy, limited}
use Rattle.tree.specs.Put.{beside_of, above_of, climbed}
use Rattle.tree.specs.Board.{entry_in}
use Rattle.tree.proofs.Climbs.{above_is, limited_low, at_top, one_level}
use Rattle.tree.proofs.Covers.{entry_node, entry_off, Off, Top, top_two, even, odd}
use Rattle.tree.proofs.Kept.{Kept, stored, stored_more}
use Rattle.tree.proofs.Within.{all_in, all_light, legacy_top}

-- the halves of the entry above e, in their order
halves : (l : ℕ) (os : List Object) (e : ℕ) → 2 ≤ e → e < 2 * 2 ^ l
    → cond (lib.Dec.eqb (e % 2) 0) (joined (entry_in l os e) (entry_in l os (beside_of e))) (joined (entry_in l os (beside_of e)) (entry_in l os e)) ≡ entry_in l os (e / 2)
halves l os e h g = go (ℕ_discrete (e % 2) 0)
  where
    node : entry_in l os (e / 2) ≡ joined (entry_in l os (2 * (e / 2))) (entry_in l os (2 * (e / 2) + 1))
    node = entry_node l os (e / 2) (omega arith) (omega arith)

    go : Dec (e % 2 ≡ 0)
        → cond (lib.Dec.eqb (e % 2) 0) (joined (entry_in l os e) (entry_in l os (beside_of e))) (joined (entry_in l os (beside_of e)) (entry_in l os e)) ≡ entry_in l os (e / 2)
    go (yes d) = simp (eq-eqb _ _ d) (sym (node ∙ ap (λ (y : ℕ). joined (entry_in l os y) (entry_in l os (y + 1))) (even e d)))
    go (no d) =
        let m : 2 * (e / 2) ≡ e - 1 = omega (arith, odd e d) in
        simp (ne_eqb _ _ d) (sym (node ∙ ap₂ (λ (x y : ℕ). joined (entry_in l os x) (entry_in l os y)) m (odd e d)))

-- what is known of the entry beside e
beside_near : (e : ℕ) → 2 ≤ e → (beside_of e ≤ e + 1) × (e / 2 < beside_of e) × (beside_of e ≢ e) × (beside_of e / 2 ≡ e / 2)
beside_near e h = go (ℕ_discrete (e % 2) 0)
  where
    go : Dec (e % 2 ≡ 0) → (beside_of e ≤ e + 1) × (e / 2 < beside_of e) × (beside_of e ≢ e) × (beside_of e / 2 ≡ e / 2)
    go (yes d) = simp (eq-eqb _ _ d) (omega arith)
    go (no d) = simp (ne_eqb _ _ d) (omega arith)

off_above : (n x e : ℕ) → e < x → Off n x e
off_above zero x e h = omega arith
off_above (suc n) x e h = (omega arith, off_above n x (e / 2) (omega arith))

-- ---- an entry whose words but the legacy bonus are within the limits
limited_high : (e : Entry) → in_limits (without_legacy e) ≡ true → max_bonus < e.legacy_bonus_score → limited e ≡ refused BONUS
unfolding limited ◌>>◌ refuse◌when◌
limited_high e h l = simp (h, lt-ltb _ _ l)

module _ (l : ℕ) (os : List Object) (p : ℕ) (o : Object) (in_p : p < 2 ^ l) (b : List ℕ) where
  -- entry x of the map, and of the map with o at p
  abbrev pub F : ℕ → Entry
  F x = entry_in l os x

  abbrev pub F' : ℕ → Entry
  F' x = entry_in l (set os p o) x

  abbrev pub In : ℕ → Type 0
  In x = (1 ≤ x) × (x < 2 * 2 ^ l)

  -- near e, what is off the way from e up is off the way from the place up
  abbrev pub Near : ℕ → ℕ → Type 0
  Near n e = 2 ≤ e → (x : ℕ) → x ≤ e + 1 → Off n x e → Off l x (2 ^ l + p)

  near_up : (n e : ℕ) → Near (suc n) e → Near n (e / 2)
  near_up n e h two x le off = h (omega arith) x (omega arith) (omega arith, off)

  -- the board b' after a climb of n levels from e
  pub record After (n e : ℕ) (b' : List ℕ) : Type 0 where
    pub kept : Kept n e b b'
    pub new : (x : ℕ) → In x → (entry_at b' x ≡ F' x) ⊎ Off n x e

  pub data Climbs (n e : ℕ) (v : Entry) : Type 0 where
    high : climbed n b e v ≡ refused BONUS → max_bonus < (F' 1).legacy_bonus_score → Climbs n e v
    done : (b' : List ℕ) → climbed n b e v ≡ good b' → (F' 1).legacy_bonus_score ≤ max_bonus → After n e b' → Climbs n e v

  module _ (honest : (x : ℕ) → In x → entry_at b x ≡ F x) (room : 2 * 2 ^ l * entry_words ≤ length b) (ok : in_limits (F 1) ≡ true)
      (light_top : in_limits (without_legacy (F' 1)) ≡ true) where
    light : (x : ℕ) → In x → in_limits (without_legacy (F' x)) ≡ true
    light x i = all_light l (set os p o) light_top x i.0 i.1

    -- one more store, at e, of what belongs there
    put_after : (n e : ℕ) (v : Entry) (b' : List ℕ) → In e → v ≡ F' e → After n (e / 2) b' → After (suc n) e (put_entry b' e v)
    put_after n e v b' h is a = record { kept = stored_more n e v b b' (put_entry b' e v) a.kept refl; new = λ x i. go x (ℕ_discrete x e) (a.new x i) }
      where
        go : (x : ℕ) → Dec (x ≡ e) → (entry_at b' x ≡ F' x) ⊎ Off n x (e / 2) → (entry_at (put_entry b' e v) x ≡ F' x) ⊎ Off (suc n) x e
        go x (yes d) s = inl (subst (λ (y : ℕ). entry_at (put_entry b' e v) y ≡ F' y) (sym d) (put_same b' e v (omega (arith, a.kept.size)) ∙ is))
        go x (no d) (inl s) = inl (put_other b' e x v d ∙ s)
        go x (no d) (inr off) = inr (d, off)

    high_up : (x : ℕ) → In x → max_bonus < (F' x).legacy_bonus_score → max_bonus < (F' 1).legacy_bonus_score
    high_up x i h = let t = legacy_top l (set os p o) x i.0 i.1 in omega (arith, t, h)

    -- one level up: the entry above is that of the changed map
    step : (n e : ℕ) (v w : Entry) → In e → 2 ≤ e → v ≡ F' e → w ≡ entry_at b (beside_of e) → above_of e v w ≡ limited (F' (e / 2)) → (f : Bool)
        → ltb max_bonus (F' (e / 2)).legacy_bonus_score ≡ f → ((F' (e / 2)).legacy_bonus_score ≤ max_bonus → Climbs n (e / 2) (F' (e / 2))) → Climbs (suc n) e v
    step n e v w i two is is-w q true h ih =
        let up : max_bonus < (F' (e / 2)).legacy_bonus_score = ltb-true max_bonus _ h in
        let here : In (e / 2) = (omega arith, omega arith) in
        high (one_level n b e v w _ is-w (q ∙ limited_high (F' (e / 2)) (light (e / 2) here) up) ∙ bind_refused _ _) (high_up (e / 2) here up)
    step n e v w i two is is-w q false h ih = join (ih low)
      where
        low : (F' (e / 2)).legacy_bonus_score ≤ max_bonus
        low = ltb-false max_bonus _ h

        passed : above_of e v w ≡ good (F' (e / 2))
        passed = q ∙ limited_low (F' (e / 2)) (light (e / 2) (omega arith, omega arith)) low

        up : climbed (suc n) b e v ≡ (climbed n b (e / 2) (F' (e / 2)) >>= (λ written. good (put_entry written e v)))
        up = one_level n b e v w _ is-w passed ∙ bind_good _ _

        join : Climbs n (e / 2) (F' (e / 2)) → Climbs (suc n) e v
        join (high r most) = high (up ∙ rw (r, bind_refused)) most
        join (done b' r ends a) = done (put_entry b' e v) (up ∙ rw (r, bind_good)) ends (put_after n e v b' i is a)

    pub climbs : (n e : ℕ) (v : Entry) → Top n e → In e → Near n e → v ≡ F' e → (F' e).legacy_bonus_score ≤ max_bonus → Climbs n e v
    climbs zero e v t i near is low =
        done (put_entry b e v) (at_top 0 b e v refl) (subst (λ (y : ℕ). (F' y).legacy_bonus_score ≤ max_bonus) t low)
        (record { kept = stored e v b (put_entry b e v) refl; new = λ x j. go x (ℕ_discrete x e) })
      where
        go : (x : ℕ) → Dec (x ≡ e) → (entry_at (put_entry b e v) x ≡ F' x) ⊎ (x ≢ e)
        go x (yes d) = inl (subst (λ (y : ℕ). entry_at (put_entry b e v) y ≡ F' y) (sym d) (put_same b e v (omega arith) ∙ is))
        go x (no d) = inr d
    climbs (suc n) e v t i near is low =
        let two = top_two n e t in
        let nr = beside_near e two in
        let in-w : In (beside_of e) = (omega arith, omega arith) in
        let w = entry_at b (beside_of e) in
        let is-w : w ≡ F' (beside_of e) =
        honest (beside_of e) in-w ∙ sym (entry_off l os p o (beside_of e) in_p in-w.0 (near two (beside_of e) nr.0 (nr.2, off_above n (beside_of e) (e / 2) nr.1))) in
        let hw : in_limits w ≡ true = ap in_limits (honest (beside_of e) in-w) ∙ all_in l os ok (beside_of e) in-w.0 in-w.1 in
        let u = cond (lib.Dec.eqb (e % 2) 0) (joined v w) (joined w v) in
        let is-u : u ≡ F' (e / 2) =
        ap₂ (λ (x y : Entry). cond (lib.Dec.eqb (e % 2) 0) (joined x y) (joined y x)) is is-w ∙ halves l (set os p o) e two i.1 in
        step n e v w i two is refl (above_is e v w (F' (e / 2)) hw is-u) (ltb max_bonus (F' (e / 2)).legacy_bonus_score) refl
        (λ h. climbs n (e / 2) (F' (e / 2)) t (omega arith, omega arith) (near_up n e near) refl h)
