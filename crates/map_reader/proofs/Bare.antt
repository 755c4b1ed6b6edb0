-- A run that walks no half spins comes to the state of one that walks them, but for the bonus.
use mathlib.Core.Path.{◌≡◌, refl, sym, ap, ◌∙◌}
use mathlib.Core.Bool.{Bool, true, false}
use mathlib.Core.List.{List}
use Prim.Native.Nat.{ℕ, zero, suc, ◌+◌, ◌≤◌}
use native.Mathlib.Omega.{arith}
use borrow.Author.Tests.{le-ltb, ltb-true, ltb-false}
use lib.Dec.{ltb}
use lib.ListN.{length}
use Rattle.rules.specs.Limits.{max_bonus, circle_size}
use Rattle.rules.specs.Refusals.{pick, good, refused, refusal_at, BONUS}
use Rattle.records.specs.Objects.{Kind, circle, slider, spinner, kind_bonus}
use Rattle.simulator.specs.Hits.{hits_of}
use Rattle.simulator.specs.Walk.{State, walk}
use Rattle.simulator.specs.Nested.{counted}
use Rattle.simulator.proofs.Objects.{walk-circle, walk-slider, walk-spinner}
use Rattle.map_reader.specs.Objects.{hit_as, stepped, bonus_of, stepped_by, next_of, ran_of}
use Rattle.map_reader.specs.declared.objects.Objects.{Objects}
use Rattle.map_reader.specs.declared.objects.Stepped.{Stepped}
use Rattle.map_reader.specs.declared.objects.Stepped.TheVariants as step
use Rattle.map_reader.proofs.Running.{next_short, next_long, Took, Stops, short, none, Answered, took, stop, over, answered, ran_next, ran_stop, ran_over}

abbrev pub bare_score : State → State
bare_score st = record {
  combo = st.combo;
  accuracy_score = st.accuracy_score;
  combo_score = st.combo_score;
  legacy_bonus_score = record { 0 = 0 };
  standardised_bonus_score = record { 0 = 0 };
}

abbrev pub bare : Objects → Objects
bare x = record { at = x.at; score = bare_score x.score; nested = x.nested; last_start = x.last_start }

-- ---- one step
bare_walk : (st : State) (k : Kind) → walk 1 (bare_score st) (hits_of (hit_as false k)) ≡ bare_score (walk 1 st (hits_of k))
bare_walk st circle = walk-circle 1 (bare_score st) ∙ sym (ap bare_score (walk-circle 1 st))
bare_walk st (slider is) = walk-slider 1 (bare_score st) is ∙ sym (ap bare_score (walk-slider 1 st is))
bare_walk st (spinner d) = walk-circle 1 (bare_score st) ∙ sym (ap bare_score (walk-spinner 1 st d))

bare_free : (k : Kind) → kind_bonus (hit_as false k) ≡ 0
bare_free circle = refl
bare_free (slider is) = refl
bare_free (spinner d) = refl

module _ (s : List ℕ) (x : Objects) where
  bare_next : (y : Objects) → Took true s x y → step.Next (bare y) ≡ next_of false s (bare x)
  bare_next y t =
      let free = bare_free t.o.kind in
      let low : bonus_of (bare x) + kind_bonus (hit_as false t.o.kind) ≤ max_bonus = omega (arith, free) in
      ap step.Next (ap bare t.same ∙ sym (ap (λ (st : State). record { at = x.at + t.size; score = st; nested = counted x.nested t.o.kind; last_start = t.o.start }) (bare_walk x.score t.o.kind)))
      ∙ sym (ap (λ (b : Bool). pick b step.OverBonus (step.Next (stepped false (bare x) t.o t.size))) (le-ltb max_bonus _ low))
      ∙ sym (ap (stepped_by false (bare x)) t.found)
      ∙ sym (next_long false s (bare x) t.long)

  bare_stop : Stops s x → step.Stop ≡ next_of false s (bare x)
  bare_stop (short h) = next_short false s (bare x) h
  bare_stop (none e) = go (ltb (length s) (x.at + circle_size)) refl
    where
      go : (b : Bool) → ltb (length s) (x.at + circle_size) ≡ b → step.Stop ≡ next_of false s (bare x)
      go true q = next_short false s (bare x) (ltb-true _ _ q)
      go false q = sym (next_long false s (bare x) (ltb-false _ _ q) ∙ ap (stepped_by false (bare x)) e)

-- ---- many
pub ran_bare : (n : ℕ) (s : List ℕ) (x y : Objects) → good y ≡ ran_of true n s x → good (bare y) ≡ ran_of false n s (bare x)
unfolding ran_of
ran_bare zero s x y e = let same : y ≡ x = cc in ap (λ (z : Objects). good (bare z)) same
ran_bare (suc n) s x y e = go (λ z q. ran_bare n s z y q) (next_of true s x) refl (answered true s x)
  where
    go : ((z : Objects) → good y ≡ ran_of true n s z → good (bare y) ≡ ran_of false n s (bare z)) → (a : Stepped) → next_of true s x ≡ a → Answered true s x a
        → good (bare y) ≡ ran_of false (suc n) s (bare x)
    go more (step.Next z) q (took t) = more z (e ∙ ran_next true n s x z (sym q)) ∙ sym (ran_next false n s (bare x) (bare z) (bare_next s x z t))
    go more step.Stop q (stop h) =
        let same : good y ≡ good x = e ∙ sym (ran_stop true (suc n) s x (sym q)) in
        let z : y ≡ x = cc in
        ap (λ (o : Objects). good (bare o)) z ∙ ran_stop false (suc n) s (bare x) (bare_stop s x h)
    go more step.OverBonus q (over h) = let z : good y ≡ refused (refusal_at BONUS x.at) = e ∙ sym (ran_over true (suc n) s x (omega arith) (sym q)) in cc
