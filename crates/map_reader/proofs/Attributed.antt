-- The attributes from what the code keeps of a map are those of the map's passed objects.
use mathlib.Core.Path.{◌≡◌, refl, sym, ap, ◌∙◌, subst}
use mathlib.Core.Bool.{Bool, true, false}
use mathlib.Core.List.{List, [], ◌∷◌}
use Prim.Native.Nat.{ℕ, zero, suc, ◌-◌, ◌<◌, min}
use native.Mathlib.Omega.{arith}
use borrow.Author.Tests.{eqb-true, eqb-false}
use lib.Dec.{eqb, eqb-suc-zero}
use lib.ListN.{length, take, length-take}
use lib.IntN.{pos}
use lib.Ieee.{Float}
use Rattle.rules.specs.Limits.{max_objects}
use Rattle.rules.specs.Refusals.{pick}
use Rattle.records.specs.Objects.{Object}
use Rattle.records.specs.declared.beatmap.BreakPeriod.{BreakPeriod}
use Rattle.encoding.specs.Limits.{SettingsWithin, MapWithin}
use Rattle.ruleset.specs.Drain.{start_of, last_place, drain_at, drain_of, breaks_length, breaks_in}
use Rattle.ruleset.specs.Stars.{multiplier_at}
use Rattle.simulator.specs.Walk.{State, fresh, after}
use Rattle.simulator.specs.Nested.{no_object, counted_all}
use Rattle.simulator.specs.Attributes.{score_attributes_of, score_attributes_at}
use Rattle.simulator.specs.Limits.{Within, Counted}
use Rattle.simulator.specs.View.{times}
use Rattle.simulator.specs.declared.legacy_score.NestedScorePerObject.{NestedScorePerObject}
use Rattle.simulator.proofs.Walks.{after-times, fresh-times}
use Rattle.simulator.proofs.Few.{each_few, passed-within, passed_counted}
use Rattle.map_reader.specs.Map.{MapIs}
use Rattle.map_reader.specs.Attributes.{last_start_of, drain_in, Complete, multiplier_in, attributes_in}
use Rattle.map_reader.specs.declared.map.Map.{Map}
use Rattle.map_reader.proofs.Files.{chain_limits, chain_standing, state_count}

start_take : (p : ℕ) (os : List Object) (i : ℕ) → i < p → start_of (take p os) i ≡ start_of os i
start_take zero os i h = absurd (omega (arith, h))
start_take (suc p) [] i h = refl
start_take (suc p) (o ∷ os) zero h = refl
start_take (suc p) (o ∷ os) (suc i) h = start_take p os i (omega (arith, h))

drain_of_lem : (bs : List BreakPeriod) (os : List Object) (p n : ℕ) (first last : Float) (breaks : List BreakPeriod)
    → n ≡ length os → first ≡ start_of os 0 → last ≡ start_of os (last_place (length os) p) → breaks ≡ bs
    → pick (eqb n 0) (pos 0) (drain_of first last (breaks_length last breaks)) ≡ drain_at bs os p
unfolding drain_at
drain_of_lem bs [] p n first last breaks e a b c = rw e
drain_of_lem bs (o ∷ os) p n first last breaks e a b c = rw (e, eqb-suc-zero (length os), a, b, c)

module _ {s : List ℕ} {p : ℕ} {m : Map} (k : MapIs s p m) where
  abbrev os : List Object
  os = k.file.map.objects

  abbrev bs : List BreakPeriod
  bs = k.file.map.breaks

  pub limits : MapWithin k.file.map
  limits = chain_limits s k.file k.chain k.begun

  pub complete : Complete m
  complete = (
    subst SettingsWithin (sym k.settings) limits.settings,
    subst (Within max_objects) (sym k.passed.score) (passed-within p max_objects os limits.few_objects (omega arith) (each_few os limits.objects)),
    subst (Counted max_objects) (sym k.passed.nested) (passed_counted p max_objects os limits.few_objects (omega arith) (each_few os limits.objects)),
  )

  passed_count : m.passed.nested.object_count ≡ length (take p os)
  passed_count = state_count k.passed

  last_is : last_start_of m ≡ start_of os (last_place (length os) p)
  last_is = go (eqb m.passed.nested.object_count 0) refl
    where
      size : length (take p os) ≡ min p (length os)
      size = length-take p os

      go : (b : Bool) → eqb m.passed.nested.object_count 0 ≡ b → pick b m.first_start m.passed.last_start ≡ start_of os (last_place (length os) p)
      go true e =
          let z = eqb-true m.passed.nested.object_count 0 e in
          let c = passed_count in
          let none : last_place (length os) p ≡ 0 = omega (arith, z, c, size) in
          k.first ∙ ap (start_of os) (sym none)
      go false e =
          let c = passed_count in
          let n = size in
          let some : length (take p os) - 1 < p = not_none p (length os) (length (take p os)) n (λ z. eqb-false m.passed.nested.object_count 0 e (c ∙ z)) in
          k.passed.last ∙ start_take p os (length (take p os) - 1) some ∙ ap (λ (i : ℕ). start_of os (i - 1)) n
        where
          not_none : (p n l : ℕ) → l ≡ min p n → (l ≡ 0 → ⊥) → l - 1 < p
          not_none p n zero e h = absurd (h refl)
          not_none p n (suc l) e h = omega (arith, e)

  breaks_are : breaks_in s m.breaks.count ≡ bs
  breaks_are = ap (breaks_in s) k.breaks ∙ (chain_standing s k.file k.chain).same

  drain_is : drain_in s m ≡ drain_at bs os p
  unfolding drain_in
  drain_is = drain_of_lem bs os p m.objects m.first_start (last_start_of m) (breaks_in s m.breaks.count) k.objects k.first last_is breaks_are

  multiplier_is : multiplier_in s m ≡ multiplier_at k.file.map p
  unfolding multiplier_at
  multiplier_is = simp (k.settings, passed_count, drain_is)

  pub attributes_are : attributes_in s m ≡ score_attributes_at k.file.map p
  unfolding score_attributes_at
  attributes_are =
      let n = multiplier_in s m in
      let l = take p os in
      let walked : times n (after 1 fresh l) ≡ after n fresh l = sym (ap (λ (st : State). after n st l) (fresh-times n) ∙ after-times n fresh l) in
      ap (λ (st : State). score_attributes_of (times n st) m.passed.nested n) k.passed.score
      ∙ ap (λ (st : State). score_attributes_of st m.passed.nested n) walked
      ∙ ap (λ (c : NestedScorePerObject). score_attributes_of (after n fresh l) c n) k.passed.nested
      ∙ ap (λ (i : ℕ). score_attributes_of (after i fresh l) (counted_all no_object l) i) multiplier_is
