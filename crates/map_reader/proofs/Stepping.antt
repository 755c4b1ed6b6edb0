-- One object: by what the code read, the state goes the step of the object that the definition finds.
use mathlib.Core.Path.{◌≡◌, refl, sym, ap, ◌∙◌, subst}
use mathlib.Core.Bool.{Bool, true, false}
use mathlib.Core.List.{List}
use Prim.Native.Nat.{ℕ, ◌+◌, ◌≤◌}
use native.Mathlib.Omega.{arith}
use lib.ListN.{length}
use lib.Ieee.{Float}
use Rattle.rules.specs.Limits.{max_nested, circle_size, spinner_size}
use Rattle.rules.proofs.Laws.{never}
use Rattle.rules.specs.Refusals.{good, refused, CUT, COUNT, Checked}
use Rattle.records.specs.Marks.{CI, SL, SP}
use Rattle.records.specs.Objects.{Object, Kind, circle, slider, spinner, kind_view, object_view, kind_bonus}
use Rattle.records.specs.Records.{Content, object, FoundRecord, content_view, record_read, circle_read, circle_of, slider_read, slider_of, spinner_read, spinner_of, object_of, break, header, play}
use Rattle.records.specs.declared.hit_object.Spinner.{Spinner}
use Rattle.records.specs.declared.hit_object.Slider.{Slider}
use Rattle.records.specs.declared.hit_object.HitObject.{HitObject}
use Rattle.records.specs.declared.hit_object.HitObjectKind.{HitObjectKind}
use Rattle.records.specs.declared.record.Record.{Record}
use Rattle.records.specs.declared.record.Record.TheVariants as record_case
use Rattle.rules.proofs.All.{All, that, all_any, all_when, all_out}
use Rattle.map_file.proofs.Sizes.{Sized, object_sized}
use Rattle.simulator.specs.Hits.{hits_of}
use Rattle.simulator.specs.Walk.{State, walk}
use Rattle.simulator.specs.Limits.{nested_count}
use Rattle.simulator.specs.View.{kind_of}
use Rattle.simulator.proofs.Few.{FewIn, object_few}
use Rattle.simulator.proofs.Objects.{walk_kept, counted_kept, walk-circle, walk-slider, walk-spinner}
use Rattle.map_reader.specs.Objects.{hit_as, stepped_with, stepped_by}
use Rattle.map_reader.specs.declared.objects.Objects.{Objects}
use Rattle.map_reader.specs.declared.objects.Stepped.{Stepped}
use Rattle.map_reader.specs.declared.objects.Stepped.TheVariants as step

-- ---- the step
pub walk_legacy : (st : State) (k : Kind) → (walk 1 st (hits_of k)).legacy_bonus_score.0 ≡ st.legacy_bonus_score.0 + kind_bonus k
walk_legacy st circle = ap (λ (x : State). x.legacy_bonus_score.0) (walk-circle 1 st) ∙ omega arith
walk_legacy st (slider is) = ap (λ (x : State). x.legacy_bonus_score.0) (walk-slider 1 st is) ∙ omega arith
walk_legacy st (spinner d) = ap (λ (x : State). x.legacy_bonus_score.0) (walk-spinner 1 st d)

-- the order of a slider's items is not kept, whether half spins are walked or not
hit_kept : (w : Bool) (st : State) (k : Kind) → walk 1 st (hits_of (hit_as w (kind_of (kind_view k)))) ≡ walk 1 st (hits_of (hit_as w k))
hit_kept true st k = walk_kept 1 st k
hit_kept false st circle = refl
hit_kept false st (slider is) = walk_kept 1 st (slider is)
hit_kept false st (spinner d) = refl

bonus_kept : (w : Bool) (k : Kind) → kind_bonus (hit_as w (kind_of (kind_view k))) ≡ kind_bonus (hit_as w k)
bonus_kept true circle = refl
bonus_kept true (slider is) = refl
bonus_kept true (spinner d) = refl
bonus_kept false circle = refl
bonus_kept false (slider is) = refl
bonus_kept false (spinner d) = refl

-- an object as far as the code keeps it
abbrev kept : HitObject → Object
kept h = record { start = h.start_time; kind = kind_of h.kind }

abbrev stepped_record : Bool → Objects → Record → ℕ → Stepped
stepped_record w x (record_case.Header t) n = step.Stop
stepped_record w x (record_case.Break b) n = step.Stop
stepped_record w x (record_case.Object h) n = stepped_with w x (object (kept h)) n
stepped_record w x (record_case.Play p) n = step.Stop

abbrev pub stepped_read : Bool → Objects → Checked (Record × ℕ) → Stepped
stepped_read w x (refused n) = step.Stop
stepped_read w x (good r) = stepped_record w x r.0 r.1

object_kept : (w : Bool) (x : Objects) (o : Object) (n : ℕ) → stepped_with w x (object o) n ≡ stepped_with w x (object (kept (object_view o))) n
object_kept w x o n = rw (bonus_kept w o.kind, hit_kept w x.score o.kind, counted_kept x.nested o.kind)

pub step_read : (w : Bool) (x : Objects) (y : FoundRecord) → stepped_by w x y ≡ stepped_read w x (record_read y)
step_read w x (refused n) = refl
step_read w x (good (header _, n)) = refl
step_read w x (good (break _, n)) = refl
step_read w x (good (object o, n)) = object_kept w x o n
step_read w x (good (play _, n)) = refl

-- ---- an object that was read stands within the input, and has few items
abbrev pub ObjectRead : List ℕ → HitObjectKind → ℕ → Type 0
ObjectRead r k n = (n ≤ length r) × (nested_count k ≤ max_nested)

object_read : (r : List ℕ) (h : HitObject) (n : ℕ) (y : FoundRecord) → All (Sized r) y → All (λ f. FewIn f.0) y → good (record_case.Object h, n) ≡ record_read y → ObjectRead r h.kind n
object_read r h n (refused m) a b e = never (cc)
object_read r h n (good f) a b e = by_content f.0 (all_out a) (all_out b) (ap (λ (i : Record × ℕ). i.0) both)
  where
    both : ◌≡◌ {A = Record × ℕ} (record_case.Object h, n) (content_view f.0, f.1)
    both = cc

    by_content : (x : Content) → Sized r (x, f.1) → FewIn x → record_case.Object h ≡ content_view x → ObjectRead r h.kind n
    by_content (header t) c d q = never (cc)
    by_content (break t) c d q = never (cc)
    by_content (play p) c d q = never (cc)
    by_content (object o) c d q =
        let same : h ≡ object_view o = cc in
        let j = ap (λ (i : Record × ℕ). i.1) both in
        (omega (arith, j, c.1), subst (λ (x : HitObject). nested_count x.kind ≤ max_nested) (sym same) d)

module _ (r : List ℕ) where
  of_mark : (m : ℕ) (h : HitObject) (n : ℕ) → good (record_case.Object h, n) ≡ record_read (object_of r m) → ObjectRead r h.kind n
  of_mark m h n e = object_read r h n (object_of r m) (object_sized r m) (object_few r m) e

  pub circle_inside : (t : Checked Float) (start : Float) → circle_read t ≡ record_read (circle_of r) → t ≡ good start → circle_size ≤ length r
  unfolding object_of
  circle_inside t start e q = (of_mark CI _ _ (ap circle_read (sym q) ∙ e)).0

  pub slider_inside : (t : Checked (Float × Slider × ℕ)) (start : Float) (i : Slider) (n : ℕ) → slider_read t ≡ record_read (slider_of r) → t ≡ good (start, i, n) → n ≤ length r
  unfolding object_of
  slider_inside t start i n e q = (of_mark SL _ _ (ap slider_read (sym q) ∙ e)).0

  pub slider_few : (t : Checked (Float × Slider × ℕ)) (start : Float) (i : Slider) (n : ℕ) → slider_read t ≡ record_read (slider_of r) → t ≡ good (start, i, n)
      → i.repeats + i.ticks + 1 ≤ max_nested
  unfolding object_of
  slider_few t start i n e q = (of_mark SL _ _ (ap slider_read (sym q) ∙ e)).1

  pub spinner_inside : (t : Checked (Float × Spinner)) (start : Float) (i : Spinner) → spinner_read t ≡ record_read (spinner_of r) → t ≡ good (start, i) → spinner_size ≤ length r
  unfolding object_of
  spinner_inside t start i e q = (of_mark SP _ _ (ap spinner_read (sym q) ∙ e)).0

-- ---- a circle or a slider steps the state the same, whether half spins are walked or not
abbrev Unspun : Content → Type 0
Unspun (header t) = Unit
Unspun (break b) = Unit
Unspun (object o) = hit_as false o.kind ≡ o.kind
Unspun (play p) = Unit

either_found : (w : Bool) (x : Objects) (y : FoundRecord) → All (λ f. Unspun f.0) y → stepped_by true x y ≡ stepped_by w x y
either_found true x y a = refl
either_found false x (refused n) a = refl
either_found false x (good (header _, n)) a = refl
either_found false x (good (break _, n)) a = refl
either_found false x (good (object o, n)) a = rw (all_out a)
either_found false x (good (play _, n)) a = refl

module _ (w : Bool) (x : Objects) (r : List ℕ) where
  pub circle_either : stepped_by true x (circle_of r) ≡ stepped_by w x (circle_of r)
  unfolding circle_of
  circle_either = either_found w x (circle_of r) (all_when CUT _ _ (λ _. all_any _ _ (λ a. that refl)))

  pub slider_either : stepped_by true x (slider_of r) ≡ stepped_by w x (slider_of r)
  unfolding slider_of
  slider_either = either_found w x (slider_of r) (all_when CUT _ _ (λ _. all_any _ _ (λ a. all_when COUNT _ _ (λ _. all_when CUT _ _ (λ _. all_any _ _ (λ is. that refl))))))
