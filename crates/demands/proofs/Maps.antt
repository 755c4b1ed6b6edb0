-- Which changed maps are accepted: an accepted map with another object within its limits can break only the rule on the legacy bonus.
use mathlib.Core.Bool.{Bool, true, false, not}
use mathlib.Core.List.{List, [], ◌∷◌, ◌++◌, append_assoc, append-nil}
use mathlib.Core.Path.{◌≡◌, refl, sym, ap, ◌∙◌, subst}
use Prim.Native.Nat.{ℕ, ◌+◌, ◌≤◌, ◌<◌}
use native.Mathlib.Decide.{dec_lt}
use native.Mathlib.Omega.{arith}
use borrow.Author.Tests.{ltb-true, ltb-false}
use lib.Dec.{ltb}
use lib.ListN.{length, set, length-set}
use Rattle.rules.specs.Limits.{max_objects, max_bonus}
use Rattle.rules.specs.Refusals.{good, ◌>>=◌}
use Rattle.rules.proofs.Laws.{never}
use Rattle.play_state.specs.declared.Play.{Play}
use Rattle.records.specs.Objects.{Object, bonus, kind_bonus}
use Rattle.map_file.specs.File.{Map, accepted, file_of}
use Rattle.map_file.proofs.Reading.{length_snoc, bonus_snoc}
use Rattle.encoding.specs.Encoding.{object_bytes, each, map_file}
use Rattle.encoding.specs.Limits.{Each, none, one, ObjectWithin, MapWithin}
use Rattle.encoding.proofs.FileBytes.{written_snoc}
use Rattle.encoding.proofs.Accepted.{each_snoc, accepted_within}
use Rattle.encoding.proofs.RoundTrip.{round_trip, over_bonus_lem, bare}
use Rattle.scoring.specs.Scores.{play_scores, scores_of}
use Rattle.tree.proofs.Changed.{each_set}
use Rattle.demands.specs.Calls.{gets_none, is_accepted, AcceptedMap, changed}

-- ---- a map within the limits is accepted
pub within_accepted : (m : Map) → MapWithin m → is_accepted m ≡ true
unfolding is_accepted each
within_accepted m w =
    let k = round_trip m [] w none in
    ap gets_none (ap file_of (sym (append-nil (map_file m))) ∙ k.read)

-- ---- the accepted maps are those within the limits
pub within_is_accepted : (m : Map) → MapWithin m → AcceptedMap m
unfolding each
within_is_accepted m w =
    let k = round_trip m [] w none in record { file = k.file; read = ap file_of (sym (append-nil (map_file m))) ∙ k.read; back = k.map_back }

-- the file of an accepted map gets no number
pub accepted_gets_none : (m : Map) → AcceptedMap m → is_accepted m ≡ true
unfolding is_accepted
accepted_gets_none m a = ap gets_none a.read

pub accepted_is_within : (m : Map) → AcceptedMap m → MapWithin m
accepted_is_within m a = subst MapWithin a.back (accepted_within (map_file m) a.file a.read)

-- its file gets no number, and is read back as the map
no_plays : (l : List (ℕ × Play)) → bare l ≡ [] → l ≡ []
unfolding bare
no_plays [] e = refl
no_plays (p ∷ ps) e = never (cc)

pub within_scored : (m : Map) → MapWithin m → scores_of (file_of (map_file m)) ≡ good (record { map = m; plays = [] })
unfolding play_scores each ◌>>=◌
within_scored m w =
    let k = round_trip m [] w none in
    let file : file_of (map_file m) ≡ accepted k.file = ap file_of (sym (append-nil (map_file m))) ∙ k.read in
    let plays : k.file.plays ≡ [] = no_plays k.file.plays k.plays_back in
    ap scores_of file
    ∙ ap (λ (l : List (ℕ × Play)). play_scores k.file.map l >>= λ ss. good (record { map = k.file.map; plays = ss })) plays
    ∙ ap (λ (x : Map). good (record { map = x; plays = [] })) k.map_back

-- ---- one whose bonus is too high is not
abbrev with_objects : Map → List Object → Map
with_objects m os = record { settings = m.settings; breaks = m.breaks; objects = os }

-- the object behind a map's file makes the file of the map with it
file_more : (m : Map) (os : List Object) (o : Object) (rest : List ℕ)
    → map_file (with_objects m (os ++ (o ∷ []))) ++ rest ≡ map_file (with_objects m os) ++ (object_bytes o ++ rest)
unfolding map_file
file_more m os o rest = simp (written_snoc object_bytes os o, append_assoc)

no_objects : (m : Map) (os : List Object) → map_file (with_objects m []) ++ each object_bytes os ≡ map_file (with_objects m os)
unfolding map_file each
no_objects m os = simp (append_assoc, append-nil)

within_more : (m : Map) (os : List Object) (o : Object) → MapWithin (with_objects m os) → ObjectWithin o → length os < max_objects
    → bonus os + kind_bonus o.kind ≤ max_bonus → MapWithin (with_objects m (os ++ (o ∷ [])))
within_more m os o w v room low =
    let more = length_snoc os o in
    let sum = bonus_snoc os o in
    record {
      settings = w.settings;
      breaks = w.breaks;
      few_breaks = w.few_breaks;
      objects = each_snoc os o w.objects v;
      few_objects = omega (arith, more, room);
      low_bonus = omega (arith, sum, low);
    }

-- the objects that are left to read after some
over : (m : Map) (left os : List Object) → MapWithin (with_objects m os) → Each ObjectWithin left → length os + length left ≤ max_objects
    → max_bonus < bonus os + bonus left → gets_none (file_of (map_file (with_objects m os) ++ each object_bytes left)) ≡ false
unfolding bonus each
over m [] os w ws few high = absurd (let low = w.low_bonus in omega (arith, low, high))
over m (o ∷ left) os w (one v vs) few high = go (λ u n h. over m left (os ++ (o ∷ [])) u vs n h) (dec_lt max_bonus (bonus os + kind_bonus o.kind))
  where
    go : (MapWithin (with_objects m (os ++ (o ∷ []))) → length (os ++ (o ∷ [])) + length left ≤ max_objects → max_bonus < bonus (os ++ (o ∷ [])) + bonus left
        → gets_none (file_of (map_file (with_objects m (os ++ (o ∷ []))) ++ each object_bytes left)) ≡ false)
        → Dec (max_bonus < bonus os + kind_bonus o.kind) → gets_none (file_of (map_file (with_objects m os) ++ (object_bytes o ++ each object_bytes left))) ≡ false
    go more (yes h) = ap gets_none (over_bonus_lem (with_objects m os) o (each object_bytes left) w v (omega (arith, few)) h).read
    go more (no h) =
        let count = length_snoc os o in
        let sum = bonus_snoc os o in
        ap (λ (s : List ℕ). gets_none (file_of s)) (sym (file_more m os o (each object_bytes left)))
        ∙ more (within_more m os o w v (omega (arith, few)) (omega (arith, h))) (omega (arith, count, few)) (omega (arith, sum, high))

nothing_within : (m : Map) → MapWithin m → MapWithin (with_objects m [])
unfolding bonus
nothing_within m w =
    record { settings = w.settings; breaks = w.breaks; few_breaks = w.few_breaks; objects = none; few_objects = omega arith; low_bonus = omega arith }

over_refused : (m : Map) (os : List Object) → MapWithin m → Each ObjectWithin os → length os ≤ max_objects → max_bonus < bonus os → is_accepted (with_objects m os) ≡ false
unfolding is_accepted bonus
over_refused m os w ws few high =
    ap (λ (s : List ℕ). gets_none (file_of s)) (sym (no_objects m os)) ∙ over m os [] (nothing_within m w) ws (omega (arith, few)) (omega (arith, high))

-- ---- the changed map
module _ (m : Map) (w : MapWithin m) (place : ℕ) (o : Object) (v : ObjectWithin o) where
  objects-within : Each ObjectWithin (set m.objects place o)
  objects-within = each_set place o w.objects v

  few : length (set m.objects place o) ≤ max_objects
  few = subst (λ (n : ℕ). n ≤ max_objects) (sym (length-set m.objects place o)) w.few_objects

  pub changed-within : bonus (set m.objects place o) ≤ max_bonus → MapWithin (changed m place o)
  changed-within low =
      record { settings = w.settings; breaks = w.breaks; few_breaks = w.few_breaks; objects = objects-within; few_objects = few; low_bonus = low }

  pub by_bonus : is_accepted (changed m place o) ≡ not (ltb max_bonus (bonus (set m.objects place o)))
  by_bonus = go (ltb max_bonus (bonus (set m.objects place o))) refl
    where
      go : (t : Bool) → ltb max_bonus (bonus (set m.objects place o)) ≡ t → is_accepted (changed m place o) ≡ not t
      go true e = over_refused m (set m.objects place o) w objects-within few (ltb-true max_bonus (bonus (set m.objects place o)) e)
      go false e = within_accepted (changed m place o) (changed-within (ltb-false max_bonus (bonus (set m.objects place o)) e))
