-- The loop over objects: each turn is one step of the definition, and the sums stay within the bounds of their objects.
use Rattle.rules.specs.declared.refusal.Rule.{Rule}
use mathlib.Core.Path.{◌≡◌, refl, sym, ap, ◌∙◌, subst}
use mathlib.Core.Bool.{Bool, true, false}
use mathlib.Core.List.{List}
use Prim.Native.Nat.{ℕ, zero, suc, ◌+◌, ◌-◌, ◌≤◌, ◌<◌}
use native.Mathlib.Omega.{arith}
use borrow.Author.Tests.{lt-ltb, le-ltb, ltb-true, ltb-false}
use lib.Dec.{ltb, eqb}
use lib.ListN.{length, drop, length-drop}
use Rattle.numbers.specs.Words.{word_at}
use Rattle.rules.specs.Limits.{max_objects, max_nested, max_bonus, circle_size}
use Rattle.rules.specs.Refusals.{good, refused, pick, refusal_at, BONUS, CUT, COUNT}
use Rattle.rules.proofs.All.{All, none as nothing, that, all_any, all_when, all_pick, all_out}
use Rattle.records.specs.Marks.{CI, SL, SP}
use Rattle.records.specs.Objects.{Object, Kind, circle, slider, spinner, kind_view, kind_bonus}
use Rattle.records.specs.Records.{Content, object, FoundRecord, circle_of, slider_of, spinner_of, object_of, break, header, play}
use Rattle.map_file.proofs.Sizes.{Sized, object_sized}
use Rattle.simulator.specs.Limits.{Within, Counted, nested_count}
use Rattle.simulator.proofs.Bounds.{fresh-within, step_within, none-counted, step_counted}
use Rattle.simulator.proofs.Few.{FewIn, object_few, one_more}
use Rattle.map_reader.specs.Objects.{hit_as, objects_at, stepped, bonus_of, stepped_with, stepped_by, next_of, ran_by, ran_of, Small}
use Rattle.map_reader.specs.declared.objects.Objects.{Objects}
use Rattle.map_reader.specs.declared.objects.Stepped.{Stepped}
use Rattle.map_reader.specs.declared.objects.Stepped.TheVariants as step
use Rattle.map_reader.proofs.Stepping.{walk_legacy}

abbrev pub count_of : Objects → ℕ
count_of x = x.nested.object_count

-- what the definition finds where a state stands
abbrev pub object_at : List ℕ → Objects → FoundRecord
object_at s x = object_of (drop x.at s) (word_at (drop x.at s) 0 2)

-- ---- one step
pub next_short : (w : Bool) (s : List ℕ) (x : Objects) → length s < x.at + circle_size → step.Stop ≡ next_of w s x
unfolding next_of
next_short w s x h = rw (lt-ltb _ _ h)

pub next_long : (w : Bool) (s : List ℕ) (x : Objects) → x.at + circle_size ≤ length s → next_of w s x ≡ stepped_by w x (object_at s x)
unfolding next_of
next_long w s x h = rw (le-ltb _ _ h)

-- an object that is taken
pub record Took (w : Bool) (s : List ℕ) (x y : Objects) : Type 0 where
  pub o : Object
  pub size : ℕ
  pub long : x.at + circle_size ≤ length s
  pub found : object_at s x ≡ good (object o, size)
  pub low : bonus_of x + kind_bonus (hit_as w o.kind) ≤ max_bonus
  pub same : y ≡ stepped w x o size

-- one that is not, by rule 7
pub record Over (w : Bool) (s : List ℕ) (x : Objects) : Type 0 where
  pub o : Object
  pub size : ℕ
  pub long : x.at + circle_size ≤ length s
  pub found : object_at s x ≡ good (object o, size)
  pub over : max_bonus < bonus_of x + kind_bonus (hit_as w o.kind)

pub data Stops (s : List ℕ) (x : Objects) : Type 0 where
  short : length s < x.at + circle_size → Stops s x
  none : {n : Rule} → object_at s x ≡ refused n → Stops s x

-- the three answers
pub data Answered (w : Bool) (s : List ℕ) (x : Objects) : Stepped → Type 0 where
  took : {y : Objects} → Took w s x y → Answered w s x (step.Next y)
  stop : Stops s x → Answered w s x step.Stop
  over : Over w s x → Answered w s x step.OverBonus

-- what is found as an object is one
data OnlyObject : Content → Type 0 where
  only : {o : Object} → OnlyObject (object o)

only_object : (r : List ℕ) (m : ℕ) → All (λ f. OnlyObject f.0) (object_of r m)
unfolding object_of circle_of slider_of spinner_of
only_object r m =
    all_pick (eqb m CI) (λ _. all_when CUT _ _ (λ _. all_any _ _ (λ a. that only))) (λ _.
    all_pick (eqb m SL) (λ _. all_when CUT _ _ (λ _. all_any _ _ (λ a. all_when COUNT _ _ (λ _. all_when CUT _ _ (λ _. all_any _ _ (λ is. that only)))))) (λ _.
    all_pick (eqb m SP) (λ _. all_when CUT _ _ (λ _. all_any _ _ (λ a. all_any _ _ (λ b. that only)))) (λ _. nothing)))

module _ (w : Bool) (s : List ℕ) (x : Objects) (h : x.at + circle_size ≤ length s) where
  with_bonus : (o : Object) (n : ℕ) → object_at s x ≡ good (object o, n) → (b : Bool) → ltb max_bonus (bonus_of x + kind_bonus (hit_as w o.kind)) ≡ b
      → Answered w s x (pick b step.OverBonus (step.Next (stepped w x o n)))
  with_bonus o n e true q = over (record { o = o; size = n; long = h; found = e; over = ltb-true _ _ q })
  with_bonus o n e false q = took (record { o = o; size = n; long = h; found = e; low = ltb-false _ _ q; same = refl })

  with_content : (y : Content) (n : ℕ) → OnlyObject y → object_at s x ≡ good (y, n) → Answered w s x (stepped_with w x y n)
  with_content (object o) n only e = with_bonus o n e (ltb max_bonus (bonus_of x + kind_bonus (hit_as w o.kind))) refl
  with_content (header _) n x4 e = elim x4 [ ]
  with_content (break _) n x5 e = elim x5 [ ]
  with_content (play _) n x6 e = elim x6 [ ]

  with_found : (y : FoundRecord) → object_at s x ≡ y → All (λ f. OnlyObject f.0) y → Answered w s x (stepped_by w x y)
  with_found (refused n) e a = stop (none e)
  with_found (good f) e a = with_content f.0 f.1 (all_out a) e

pub answered : (w : Bool) (s : List ℕ) (x : Objects) → Answered w s x (next_of w s x)
answered w s x = go (ltb (length s) (x.at + circle_size)) refl
  where
    go : (b : Bool) → ltb (length s) (x.at + circle_size) ≡ b → Answered w s x (next_of w s x)
    go true e = let h = ltb-true _ _ e in subst (Answered w s x) (next_short w s x h) (stop (short h))
    go false e =
        let h = ltb-false _ _ e in
        subst (Answered w s x) (sym (next_long w s x h)) (with_found w s x h (object_at s x) refl (only_object (drop x.at s) (word_at (drop x.at s) 0 2)))

pub next_took : (w : Bool) (s : List ℕ) (x y : Objects) → step.Next y ≡ next_of w s x → Took w s x y
next_took w s x y e = out (subst (Answered w s x) (sym e) (answered w s x))
  where
    out : Answered w s x (step.Next y) → Took w s x y
    out (took k) = k

pub next_stops : (w : Bool) (s : List ℕ) (x : Objects) → step.Stop ≡ next_of w s x → Stops s x
next_stops w s x e = out (subst (Answered w s x) (sym e) (answered w s x))
  where
    out : Answered w s x step.Stop → Stops s x
    out (stop k) = k

-- ---- the bounds
hit_few : (w : Bool) (k : Kind) → nested_count (kind_view k) ≤ max_nested → nested_count (kind_view (hit_as w k)) ≤ max_nested
hit_few true k h = h
hit_few false circle h = h
hit_few false (slider is) h = h
hit_few false (spinner d) h = omega arith

module _ {w : Bool} {s : List ℕ} {x y : Objects} (k : Took w s x y) where
  few : nested_count (kind_view k.o.kind) ≤ max_nested
  few = all_out (subst (All (λ f. FewIn f.0)) k.found (object_few (drop x.at s) (word_at (drop x.at s) 0 2)))

  pub took_sized : Sized (drop x.at s) (object k.o, k.size)
  took_sized = all_out (subst (All (Sized (drop x.at s))) k.found (object_sized (drop x.at s) (word_at (drop x.at s) 0 2)))

  pub took_count : count_of y ≡ count_of x + 1
  took_count = ap count_of k.same ∙ one_more x.nested k.o.kind

  pub took_small : Small s x → count_of x < max_objects → Small s y
  took_small m h =
      let count = took_count in
      let sized = took_sized in
      let room = length-drop x.at s in
      let at = ap (λ (z : Objects). z.at) k.same in
      let bonus : bonus_of y ≡ bonus_of x + kind_bonus (hit_as w k.o.kind) = ap bonus_of k.same ∙ walk_legacy x.score (hit_as w k.o.kind) in
      record {
        score = subst (λ (n : ℕ). Within n y.score) (sym count) (subst (λ (z : Objects). Within (count_of x + 1) z.score) (sym k.same) (step_within (count_of x) x.score (hit_as w k.o.kind) (omega (arith, h)) (hit_few w k.o.kind few) m.score));
        nested = subst (λ (n : ℕ). Counted n y.nested) (sym count) (subst (λ (z : Objects). Counted (count_of x + 1) z.nested) (sym k.same) (step_counted (count_of x) x.nested k.o.kind few m.nested));
        bonus = let low = k.low in omega (arith, bonus, low);
        few = omega (arith, count, h);
        inside = let here = m.inside in omega (arith, at, sized.1, room, here);
      }

pub small_start : (s : List ℕ) (at : ℕ) → at ≤ length s → Small s (objects_at at)
small_start s at h = record { score = fresh-within; nested = none-counted; bonus = omega arith; few = omega arith; inside = h }

-- ---- many steps
pub ran_next : (w : Bool) (n : ℕ) (s : List ℕ) (x y : Objects) → step.Next y ≡ next_of w s x → ran_of w (suc n) s x ≡ ran_of w n s y
unfolding ran_of
ran_next w n s x y e = ap (λ (a : Stepped). ran_by x a (λ z. ran_of w n s z)) (sym e)

pub ran_stop : (w : Bool) (n : ℕ) (s : List ℕ) (x : Objects) → step.Stop ≡ next_of w s x → good x ≡ ran_of w n s x
unfolding ran_of
ran_stop w zero s x e = refl
ran_stop w (suc n) s x e = ap (λ (a : Stepped). ran_by x a (λ z. ran_of w n s z)) e

pub ran_over : (w : Bool) (n : ℕ) (s : List ℕ) (x : Objects) → 0 < n → step.OverBonus ≡ next_of w s x → refused (refusal_at BONUS x.at) ≡ ran_of w n s x
unfolding ran_of
ran_over w zero s x h e = absurd (omega (arith, h))
ran_over w (suc n) s x h e = ap (λ (a : Stepped). ran_by x a (λ z. ran_of w n s z)) e

pub ran_none : (w : Bool) (n : ℕ) (s : List ℕ) (x : Objects) → n ≡ 0 → good x ≡ ran_of w n s x
unfolding ran_of
ran_none w n s x e = rw e

pub small_ran : (w : Bool) (n : ℕ) (s : List ℕ) (x y : Objects) → Small s x → count_of x + n ≤ max_objects → good y ≡ ran_of w n s x → Small s y
unfolding ran_of
small_ran w zero s x y k h e = let same : x ≡ y = cc in subst (Small s) same k
small_ran w (suc n) s x y k h e = go (λ z m l q. small_ran w n s z y m l q) (next_of w s x) refl (answered w s x)
  where
    go : ((z : Objects) → Small s z → count_of z + n ≤ max_objects → good y ≡ ran_of w n s z → Small s y) → (a : Stepped) → next_of w s x ≡ a → Answered w s x a → Small s y
    go more (step.Next z) q (took t) =
        let count = took_count t in
        more z (took_small t k (omega (arith, h))) (omega (arith, h, count)) (e ∙ ran_next w n s x z (sym q))
    go more step.Stop q (stop m) = let same : good x ≡ good y = ran_stop w (suc n) s x (sym q) ∙ sym e in (let z : x ≡ y = cc in subst (Small s) z k)
    go more step.OverBonus q (over m) = let z : good y ≡ refused (refusal_at BONUS x.at) = e ∙ sym (ran_over w (suc n) s x (omega arith) (sym q)) in cc

-- ---- the loop's invariant
pub record Running (w : Bool) (s : List ℕ) (limit : ℕ) (from x : Objects) : Type 0 where
  pub same : ran_of w (limit - count_of from) s from ≡ ran_of w (limit - count_of x) s x
  pub small : Small s x

module _ {w : Bool} {s : List ℕ} {limit : ℕ} {from x : Objects} (k : Running w s limit from x) where
  module _ (most : limit ≤ max_objects) (h : count_of x < limit) where
    module _ (y : Objects) (e : step.Next y ≡ next_of w s x) where
      pub running_less : limit - count_of y < limit - count_of x
      running_less = let count = took_count (next_took w s x y e) in omega (arith, count, h)

      pub running_next : Running w s limit from y
      running_next =
          let t = next_took w s x y e in
          let count = took_count t in
          let steps : limit - count_of x ≡ suc (limit - count_of y) = omega (arith, count, h) in
          record {
            same = k.same ∙ ap (λ (n : ℕ). ran_of w n s x) steps ∙ ran_next w (limit - count_of y) s x y e;
            small = took_small t k.small (omega (arith, h, most));
          }

    pub running_over : step.OverBonus ≡ next_of w s x → refused (refusal_at BONUS x.at) ≡ ran_of w (limit - count_of from) s from
    running_over e = ran_over w (limit - count_of x) s x (omega (arith, h)) e ∙ sym k.same

  pub running_stop : step.Stop ≡ next_of w s x → good x ≡ ran_of w (limit - count_of from) s from
  running_stop e = ran_stop w (limit - count_of x) s x e ∙ sym k.same

  pub running_end : limit ≤ count_of x → good x ≡ ran_of w (limit - count_of from) s from
  running_end h = ran_none w (limit - count_of x) s x (omega (arith, h)) ∙ sym k.same
