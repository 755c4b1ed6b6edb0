-- Objects with at most 1,000 nested items leave every sum of the first p of them within its bound. Assumes nothing.
use mathlib.Core.Path.{◌≡◌, refl}
use mathlib.Core.List.{List, [], ◌∷◌}
use Prim.Native.Nat.{ℕ, zero, suc, ◌+◌, ◌≤◌}
use native.Mathlib.Omega.{arith}
use lib.ListN.{length, take, length-take}
use Rattle.rules.specs.Limits.{max_nested, max_objects}
use Rattle.records.specs.Objects.{Object, Kind, circle, slider, spinner, kind_view}
use Rattle.records.specs.Records.{Content, header, break, object, play, object_of}
use Rattle.rules.proofs.All.{All, all_map}
use Rattle.encoding.specs.Limits.{Each, none, one, KindWithin, BreakWithin, ObjectWithin, SettingsWithin}
use Rattle.encoding.proofs.Accepted.{object_within}
use Rattle.simulator.specs.Hits.{hits_of}
use Rattle.simulator.specs.Walk.{State, fresh, walk, after}
use Rattle.simulator.specs.Nested.{no_object, counted, counted_all}
use Rattle.simulator.specs.Limits.{Within, Counted, nested_count}
use Rattle.simulator.specs.declared.legacy_score.NestedScorePerObject.{NestedScorePerObject}
use Rattle.simulator.proofs.Bounds.{fresh-within, within_more, step_within, none-counted, counted_more, step_counted}
use Rattle.simulator.proofs.Sums.{items_count}

-- ---- the objects of a file have at most 1,000 nested items
abbrev pub Few : Object → Type 0
Few o = nested_count (kind_view o.kind) ≤ max_nested

abbrev pub FewIn : Content → Type 0
FewIn (header s) = Unit
FewIn (break b) = Unit
FewIn (object o) = Few o
FewIn (play p) = Unit

-- what object-within says of a content
abbrev ContentWithin : Content → Type 0
ContentWithin (header s) = SettingsWithin s
ContentWithin (break b) = BreakWithin b
ContentWithin (object o) = ObjectWithin o
ContentWithin (play p) = Unit

pub kind_few : (k : Kind) → KindWithin k → nested_count (kind_view k) ≤ max_nested
kind_few circle h = omega arith
kind_few (slider is) h = let e = items_count is in omega (arith, e, h)
kind_few (spinner d) h = omega arith

-- those of a map within its limits
pub each_few : (os : List Object) → Each ObjectWithin os → Each Few os
each_few [] w = none
each_few (o ∷ os) (one h w) = one (kind_few o.kind h.kind) (each_few os w)

pub object_few : (r : List ℕ) (m : ℕ) → All (λ f. FewIn f.0) (object_of r m)
object_few r m = all_map (object_of r m) (object_within r m) few
  where
    few : (f : Content × ℕ) → ContentWithin f.0 → FewIn f.0
    few (header s, n) h = tt
    few (break b, n) h = tt
    few (object o, n) h = kind_few o.kind h.kind
    few (play p, n) h = tt

-- ---- so the sums stay within their bounds
pub each_take : {P : Object → Type 0} (p : ℕ) {os : List Object} → Each P os → Each P (take p os)
each_take zero w = none
each_take (suc p) none = none
each_take (suc p) (one h w) = one h (each_take p w)

all_within : (n : ℕ) (st : State) (os : List Object) → n + length os ≤ max_objects → Each Few os → Within n st → Within (n + length os) (after 1 st os)
unfolding after
all_within n st [] h none w = within_more n (n + 0) st (omega arith) w
all_within n st (o ∷ os) h (one k e) w =
    let step = step_within n st o.kind (omega (arith, h)) k w in
    let rest = all_within (n + 1) (walk 1 st (hits_of o.kind)) os (omega (arith, h)) e step in
    within_more (n + 1 + length os) (n + suc (length os)) (after 1 (walk 1 st (hits_of o.kind)) os) (omega arith) rest

all_counted : (n : ℕ) (c : NestedScorePerObject) (os : List Object) → Each Few os → Counted n c → Counted (n + length os) (counted_all c os)
unfolding counted_all
all_counted n c [] none w = counted_more n (n + 0) c (omega arith) w
all_counted n c (o ∷ os) (one k e) w =
    let rest = all_counted (n + 1) (counted c o.kind) os e (step_counted n c o.kind k w) in
    counted_more (n + 1 + length os) (n + suc (length os)) (counted_all (counted c o.kind) os) (omega arith) rest

module _ (p n : ℕ) (os : List Object) (few : length os ≤ n) (most : n ≤ max_objects) (w : Each Few os) where
  taken : length (take p os) ≤ n
  taken = let e = length-take p os in omega (arith, e, few)

  pub passed-within : Within n (after 1 fresh (take p os))
  passed-within = within_more (0 + length (take p os)) n _ (omega (arith, taken)) (all_within 0 fresh (take p os) (omega (arith, taken, most)) (each_take p w) fresh-within)

  pub passed_counted : Counted n (counted_all no_object (take p os))
  passed_counted = counted_more (0 + length (take p os)) n _ (omega (arith, taken)) (all_counted 0 no_object (take p os) (each_take p w) none-counted)

pub one_more : (c : NestedScorePerObject) (k : Kind) → (counted c k).object_count ≡ c.object_count + 1
unfolding counted
one_more c circle = refl
one_more c (slider is) = refl
one_more c (spinner d) = refl

pub count_is : (c : NestedScorePerObject) (os : List Object) → (counted_all c os).object_count ≡ c.object_count + length os
unfolding counted_all
count_is c [] = omega arith
count_is c (o ∷ os) = let e = count_is (counted c o.kind) os in let f = one_more c o.kind in omega (arith, e, f)
