-- Each mark is the state behind its objects, and a play from a state before it has the attributes of its passed objects.
use Rattle.rules.specs.Refusals.{OrRefusal, good, refused}
use mathlib.Core.Path.{◌≡◌, refl, sym, ap, ◌∙◌, subst}
use mathlib.Core.Bool.{Bool, true, false}
use mathlib.Core.List.{List}
use Prim.Native.Nat.{ℕ, ◌+◌, ◌*◌, ◌-◌, ◌/◌, ◌≤◌, ◌<◌, min}
use Rattle.std.specs.Prelude.{◌↔◌}
use Rattle.std.specs.Result.{result_unwrap_or}
use Rattle.std.proofs.Math.Nat.{mul-le-mul_right}
use native.Mathlib.Nat.{div-mul-le_self, le-div_iff_mul-le, lt_of_mul-lt-mul_right, ne_of_lt}
use native.Mathlib.Omega.{arith}
use borrow.Author.Tests.{ltb-true, ltb-false}
use lib.Dec.{ltb}
use lib.ListN.{length, take, drop, get_or, set, replicate, length-take, length-set, length-replicate, get_or-replicate}
use lib.Seq.{get_or-set_same, get_or-set_other}
use Rattle.rules.specs.Limits.{max_objects}
use Rattle.rules.proofs.All.{All, all_out}
use Rattle.records.specs.Objects.{Object}
use Rattle.records.specs.Records.{header, break, object, play}
use Rattle.play_state.specs.declared.Play.{Play}
use Rattle.map_file.specs.Order.{place}
use Rattle.map_file.specs.File.{File, counts_of, with_record}
use Rattle.map_file.proofs.Reading.{Chain, start, longer, found_ordered, chain_inside}
use Rattle.map_file.proofs.Room.{Begun, record_begun}
use Rattle.simulator.specs.Attributes.{score_attributes_at}
use Rattle.simulator.specs.declared.attributes.ScoreAttributes.{ScoreAttributes}
use Rattle.simulator.specs.Attributes.{score_attributes_of, legacy_attributes_of, difficulty_attributes_of, bonus_ratio_of}
use Rattle.simulator.proofs.Bounds.{within_more, counted_more}
use Rattle.map_reader.specs.Objects.{ran_of, Small}
use Rattle.map_reader.specs.Attributes.{drain_in, Complete, attributes_in}
use Rattle.map_reader.specs.Map.{objects_from, StateOf, RanTo, to, MapIs}
use Rattle.map_reader.specs.declared.objects.Objects.{Objects}
use Rattle.map_reader.specs.declared.map.Map.{Map}
use Rattle.map_reader.proofs.Running.{count_of, small_start, small_ran, ran_none}
use Rattle.map_reader.proofs.Files.{chain_standing, state_count}
use Rattle.map_reader.proofs.Runs.{ran_then, ran_append}
use Rattle.map_reader.proofs.Bare.{bare, ran_bare}
use Rattle.map_reader.proofs.Attributed.{limits, complete, attributes_are}
use Rattle.map_reader.proofs.Passed.{attributes_passed}
use Rattle.play_score.specs.PlayRules.{exceeds, play_score}
use Rattle.marks.specs.Marks.{stride_of, IsMap, state_or, first_of, IsMark, MarksOf, passed_of, mark_before, StateBefore, with_passed, attributes_from, scored_anew, without_bonus}
use Rattle.marks.specs.declared.Marks.{Marks}

-- ---- numbers of marks
-- 128 strides are more than all objects
few_marks : (objects i : ℕ) → i * stride_of objects ≤ objects → i < 128
few_marks objects i h = lt_of_mul-lt-mul_right (stride_of objects) {m = i} {n = 128} (omega (arith, h))

mark_stands : (objects : ℕ) (q : Play) → mark_before objects q * stride_of objects ≤ passed_of objects q
mark_stands objects q = div-mul-le_self (passed_of objects q) (stride_of objects)

-- ---- the objects begin within the file
chain_breaks : (s : List ℕ) (f : File) → Chain s f → 0 < place f.last → place f.last ≤ 3 → objects_from (length f.map.breaks) ≤ f.at
unfolding with_record counts_of
chain_breaks s f start b h = absurd (omega (arith, b))
chain_breaks s f (longer {f = g} {r = (header t, n)} c l e) b h = let z = (chain_standing s f (longer c l e)).stands (omega arith) (omega arith) in omega (arith, z)
chain_breaks s f (longer {f = g} {r = (break x, n)} c l e) b h = let z = (chain_standing s f (longer c l e)).stands (omega arith) (omega arith) in omega (arith, z)
chain_breaks s f (longer {f = g} {r = (object o, n)} c l e) b h =
    let begun : 0 < place g.last = all_out (subst (All (λ x. Begun (counts_of g) x.0)) e (record_begun (drop g.at s) (counts_of g))) in
    let z = chain_breaks s g c begun (found_ordered s g (object o, n) e) in
    omega (arith, z)
chain_breaks s f (longer {f = g} {r = (play p, n)} c l e) b h = absurd (omega (arith, h))

-- ---- the states behind the objects of a map
data IsTo : OrRefusal Objects → Type 0 where
  is_to : {x : Objects} → IsTo (good x)

ran_is : (x : Objects) (r : OrRefusal Objects) → IsTo r → good (result_unwrap_or r x) ≡ r
ran_is x (good y) is_to = refl
ran_is x (refused r) x3 = elim x3 [ ]

-- a state, or what of it is known where no half spin is walked
abbrev seen : Bool → Objects → Objects
seen true x = x
seen false x = bare x

seen_count : (w : Bool) (x : Objects) → count_of (seen w x) ≡ count_of x
seen_count true x = refl
seen_count false x = refl

module _ {s : List ℕ} {m : Map} (w : IsMap s m) where
  abbrev os : List Object
  os = w.is.file.map.objects

  pub few_objects : m.objects ≤ max_objects
  few_objects = let e = w.is.objects in let h = (limits w.is).few_objects in omega (arith, e, h)

  pub small_first : Small s (first_of m)
  small_first =
      let f = w.is.file in
      let e = w.is.breaks in
      let from = chain_breaks s f w.is.chain w.is.begun w.is.no_play in
      let to = chain_inside s f w.is.chain in
      small_start s (objects_from m.breaks.count) (omega (arith, e, from, to))

  -- what a run comes to
  record Reached (b : Bool) (n : ℕ) (r : OrRefusal Objects) : Type 0 where
    y : Objects
    state : StateOf (take n os) y
    is : r ≡ good (seen b y)

  reached : (b : Bool) (n : ℕ) → n ≤ m.objects → Reached b n (ran_of b n s (first_of m))
  reached b n h = go b (ran_of true n s (first_of m)) refl (w.is.states n (let most = few_objects in omega (arith, h, most)))
    where
      go : (b : Bool) (r : OrRefusal Objects) → ran_of true n s (first_of m) ≡ r → RanTo (take n os) r → Reached b n (ran_of b n s (first_of m))
      go true (good y) e (to k) = record { y = y; state = k; is = e }
      go false (good y) e (to k) = record { y = y; state = k; is = sym (ran_bare n s (first_of m) y (sym e)) }
      go false (refused r) e x5 = elim x5 [ ]
      go true (refused r) e x5 = elim x5 [ ]

  module _ (b : Bool) (n : ℕ) (x : Objects) (h : n ≤ m.objects) (e : good x ≡ ran_of b n s (first_of m)) where
    abbrev behind : Objects
    behind = (reached b n h).y

    behind_is : x ≡ seen b behind
    behind_is = let z : good x ≡ good (seen b behind) = e ∙ (reached b n h).is in cc

    behind_count : count_of x ≡ n
    behind_count = ap count_of behind_is ∙ seen_count b behind ∙ state_count (reached b n h).state ∙ length-take n os ∙ (let z = w.is.objects in omega (arith, h, z))

    pub behind_small : Small s x
    behind_small = small_ran b n s (first_of m) x small_first (let most = few_objects in omega (arith, h, most)) e

  -- from one state to a later one
  behind_later : (b : Bool) (a n : ℕ) (x : Objects) → a ≤ n → n ≤ m.objects → good x ≡ ran_of b a s (first_of m) → good (state_or b s x n) ≡ ran_of b n s (first_of m)
  behind_later b a n x l h e =
      let count = behind_count b a x (omega (arith, l, h)) e in
      let steps : n ≡ a + (n - count_of x) = omega (arith, count, l) in
      let same : ran_of b n s (first_of m) ≡ ran_of b (n - count_of x) s x = ap (λ (i : ℕ). ran_of b i s (first_of m)) steps ∙ ran_append b a (n - count_of x) s (first_of m) ∙ ap (λ (r : OrRefusal Objects). ran_then r (λ y. ran_of b (n - count_of x) s y)) (sym e) in
      ran_is x (ran_of b (n - count_of x) s x) (subst IsTo (sym (reached b n h).is ∙ same) is_to) ∙ sym same

-- ---- the loop that sets the marks: i marks stand, and the state is the last of them
pub record Marking (s : List ℕ) (m : Map) (stride : ℕ) (state : Objects) (states : List Objects) (i : ℕ) : Type 0 where
  pub stride_is : stride ≡ stride_of m.objects
  pub last : good state ≡ ran_of false ((i - 1) * stride) s (first_of m)
  pub places : length states ≡ 128
  pub each : (j : ℕ) (d : Objects) → j < i → IsMark s m j (get_or states j d)

pub marking_start : (s : List ℕ) (m : Map) (stride : ℕ) (state : Objects) → stride ≡ stride_of m.objects → state ≡ first_of m → Marking s m stride state (replicate 128 state) 1
marking_start s m stride state e z = record {
  stride_is = e;
  last = at_first ((1 - 1) * stride) (omega arith);
  places = length-replicate 128 state;
  each = λ j d h. (let none : j ≡ 0 = omega (arith, h) in ap good (get_or-replicate 128 j state d (omega (arith, h))) ∙ at_first (j * stride_of m.objects) (ap (λ (n : ℕ). n * stride_of m.objects) none ∙ omega arith));
}
  where
    at_first : (n : ℕ) → n ≡ 0 → good state ≡ ran_of false n s (first_of m)
    at_first n h = ap good z ∙ ran_none false n s (first_of m) h

module _ {s : List ℕ} {m : Map} {stride : ℕ} {state : Objects} {states : List Objects} {i : ℕ} (k : Marking s m stride state states i) where
  strides : (j : ℕ) → (j ≤ m.objects / stride) ↔ (j * stride ≤ m.objects)
  strides j = le-div_iff_mul-le {k = stride} {x = j} {y = m.objects} (let e = k.stride_is in omega (arith, e))

  -- all marks that there are stand
  pub marking_end : m.objects / stride < i → MarksOf s m (record { states = states })
  marking_end h = record {
    each = λ j d l. (
        let within = (strides j).1 (subst (λ (n : ℕ). j * n ≤ m.objects) (sym k.stride_is) l) in
        k.each j d (omega (arith, h, within))
        );
  }

  module _ (w : IsMap s m) (h : i ≤ m.objects / stride) where
    pub marking_stands : i * stride ≤ m.objects
    marking_stands = (strides i).0 h

    pub marking_place : i < 128
    marking_place = few_marks m.objects i (subst (λ (n : ℕ). i * n ≤ m.objects) k.stride_is marking_stands)

    before : (i - 1) * stride ≤ i * stride
    before = mul-le-mul_right {m = i - 1} {n = i} stride (omega arith)

    pub marking_small : Small s state
    marking_small = behind_small w false ((i - 1) * stride) state (let a = before in let b = marking_stands in omega (arith, a, b)) k.last

    pub marking_next : (x : Objects) → x ≡ state_or false s state (i * stride) → Marking s m stride x (set states i x) (i + 1)
    marking_next x e = record {
      stride_is = k.stride_is;
      last = here ∙ ap (λ (n : ℕ). ran_of false (n * stride) s (first_of m)) (let z : i ≡ i + 1 - 1 = omega arith in z);
      places = length-set states i x ∙ k.places;
      each = λ j d l. go j d l (ltb j i) refl;
    }
      where
        here : good x ≡ ran_of false (i * stride) s (first_of m)
        here = ap good e ∙ behind_later w false ((i - 1) * stride) (i * stride) state before marking_stands k.last

        go : (j : ℕ) (d : Objects) → j < i + 1 → (b : Bool) → ltb j i ≡ b → IsMark s m j (get_or (set states i x) j d)
        go j d l true q =
            let before = ltb-true j i q in
            ap good (get_or-set_other states i j x d (ne_of_lt before)) ∙ k.each j d before
        go j d l false q =
            let behind = ltb-false j i q in
            let same : j ≡ i = omega (arith, behind, l) in
            let room = marking_place in
            let size = k.places in
            ap (λ (n : ℕ). good (get_or (set states i x) n d)) same
            ∙ ap good (get_or-set_same states i x d (omega (arith, room, size)))
            ∙ here
            ∙ ap (λ (n : ℕ). ran_of false (i * n) s (first_of m)) k.stride_is
            ∙ ap (λ (n : ℕ). ran_of false (n * stride_of m.objects) s (first_of m)) (sym same)

-- ---- a play from a state before it
-- from its mark, as the code reads it, whatever stands for a state that is not there
pub mark_there : {s : List ℕ} {m : Map} {marks : Marks} → MarksOf s m marks → (q : Play) (i : ℕ) (d : Objects) → i ≡ mark_before m.objects q
    → StateBefore false s m q (get_or marks.states i d)
mark_there {m = m} {marks = marks} k q i d e = record {
  n = mark_before m.objects q * stride_of m.objects;
  passed = mark_stands m.objects q;
  is = (let h = mark_stands m.objects q in ap (λ (n : ℕ). good (get_or marks.states n d)) e ∙ k.each (mark_before m.objects q) d (omega (arith, h)));
}

-- from the first object
pub first_before : (w : Bool) (s : List ℕ) (m : Map) (q : Play) → StateBefore w s m q (first_of m)
first_before w s m q = record { n = 0; passed = omega arith; is = ran_none w 0 s (first_of m) refl }

module _ {s : List ℕ} {p : ℕ} {m : Map} (k : MapIs s p m) (b : Bool) (q : Play) (x : Objects) (e : StateBefore b s m q x) where
  abbrev is_map : IsMap s m
  is_map = record { p = p; is = k }

  abbrev n : ℕ
  n = passed_of m.objects q

  abbrev to_there : good (state_or b s x n) ≡ ran_of b n s (first_of m)
  to_there = behind_later is_map b e.n n x e.passed (omega arith) e.is

  -- the state behind the play's passed objects, its half spins walked
  abbrev there : Objects
  there = (reached is_map b n (omega arith)).y

  there_is : state_or b s x n ≡ seen b there
  there_is = behind_is is_map b n (state_or b s x n) (omega arith) to_there

  pub there_small : Small s (state_or b s x n)
  there_small = behind_small is_map b n (state_or b s x n) (omega arith) to_there

  -- the map with that state
  map-passed : MapIs s n (with_passed m there)
  map-passed = record {
    file = k.file;
    chain = k.chain;
    begun = k.begun;
    no_play = k.no_play;
    behind = k.behind;
    end = k.end;
    settings = k.settings;
    breaks = k.breaks;
    objects = k.objects;
    first = k.first;
    passed = (reached is_map b n (omega arith)).state;
    states = k.states;
    nexts = k.nexts;
  }

  -- it is complete, with the bonus or without
  pub complete_there : Complete (with_passed m (state_or b s x n))
  complete_there =
      let h = complete map-passed in
      let few = there_small.few in
      (h.0, within_more _ _ _ few there_small.score, counted_more _ _ _ few there_small.nested)

  attributes_there : attributes_in s (with_passed m there) ≡ score_attributes_at k.file.map q.passed_objects
  unfolding map-passed
  attributes_there =
      let z = k.objects in
      let same : min n (length k.file.map.objects) ≡ min q.passed_objects (length k.file.map.objects) = omega (arith, z) in
      attributes_are map-passed ∙ attributes_passed k.file.map n q.passed_objects same

bare_attributes : (s : List ℕ) (m : Map) (x : Objects) → attributes_in s (with_passed m (bare x)) ≡ without_bonus (attributes_in s (with_passed m x))
unfolding score_attributes_of legacy_attributes_of difficulty_attributes_of bonus_ratio_of drain_in
bare_attributes s m x = refl

module _ {s : List ℕ} {p : ℕ} {m : Map} (k : MapIs s p m) (q : Play) where
  abbrev at-passed : ScoreAttributes
  at-passed = score_attributes_at k.file.map q.passed_objects

  -- from the first object the play has its score
  pub anew_is : scored_anew s m q ≡ (play_score q at-passed)
  anew_is =
      let e = first_before true s m q in
      ap (λ (a : ScoreAttributes). (play_score q a)) (ap (λ (y : Objects). attributes_in s (with_passed m y)) (there_is k true q (first_of m) e) ∙ attributes_there k true q (first_of m) e)

  -- from a mark all but the bonus of its objects is known
  from_is : (x : Objects) → StateBefore false s m q x → attributes_from false s m x q ≡ without_bonus at-passed
  from_is x e =
      ap (λ (y : Objects). attributes_in s (with_passed m y)) (there_is k false q x e) ∙ bare_attributes s m (there k false q x e) ∙ ap without_bonus (attributes_there k false q x e)

  -- so 9 and what the estimates take are as on the whole attributes
  module _ {marks : Marks} (w : MarksOf s m marks) (i : ℕ) (d : Objects) (e : i ≡ mark_before m.objects q) (a : ScoreAttributes) (h : a ≡ attributes_from false s m (get_or marks.states i d) q) where
    marked_is : a ≡ without_bonus at-passed
    marked_is = h ∙ from_is (get_or marks.states i d) (mark_there w q i d e)

    pub marked_exceeds : exceeds q a ≡ exceeds q at-passed
    unfolding exceeds
    marked_exceeds = ap (exceeds q) marked_is

    pub marked_difficulty : a.difficulty ≡ at-passed.difficulty
    marked_difficulty = ap (λ (x : ScoreAttributes). x.difficulty) marked_is
