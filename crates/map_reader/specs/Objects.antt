-- Document 01, "Simulation": "Each object steps the running state". The loop over a map's objects, as far as they are read with no refusal.
use Rattle.std.specs.Prelude.{ℕ, zero, suc, ◌+◌, ◌-◌, ◌≤◌, Bool, true, false, List, ltb, length, drop}
use Rattle.numbers.specs.Floats.{whole}
use Rattle.numbers.specs.Words.{word_at}
use Rattle.rules.specs.Limits.{max_objects, max_bonus, circle_size}
use Rattle.rules.specs.Refusals.{good, refused, pick, OrRefusal, refusal_at, BONUS}
use Rattle.records.specs.Objects.{Object, Kind, circle, slider, spinner, kind_bonus}
use Rattle.records.specs.Records.{Content, header, break, object, play, FoundRecord, object_of}
use Rattle.simulator.specs.Hits.{hits_of}
use Rattle.simulator.specs.Walk.{State, fresh, walk}
use Rattle.simulator.specs.Nested.{no_object, counted}
use Rattle.simulator.specs.Limits.{Within, Counted}
use Rattle.simulator.specs.View.{kind_of}
use Rattle.records.specs.declared.hit_object.HitObject.{HitObject}
use Rattle.map_reader.specs.declared.objects.Objects.{Objects}
use Rattle.map_reader.specs.declared.objects.Stepped.{Stepped}
use Rattle.map_reader.specs.declared.objects.Stepped.TheVariants as step

-- before the first object
abbrev pub objects_at : ℕ → Objects
objects_at at = record { at = at; score = fresh; nested = no_object; last_start = whole 0 }

-- the object by whose hits the score goes on: where half spins are not walked, a spinner has no bonus and the 300 of a circle
abbrev pub hit_as : Bool → Kind → Kind
hit_as true k = k
hit_as false circle = circle
hit_as false (slider is) = slider is
hit_as false (spinner d) = circle

-- behind one more object, which is `size` bytes long; w says whether half spins are walked
abbrev pub stepped : Bool → Objects → Object → ℕ → Objects
stepped w x o size = record {
  at = x.at + size;
  score = walk 1 x.score (hits_of (hit_as w o.kind));
  nested = counted x.nested o.kind;
  last_start = o.start;
}

-- so for an object as the code keeps it, behind which the score is given
abbrev pub next_behind : Objects → HitObject → ℕ → State → Stepped
next_behind x h size score = step.Next (record { at = x.at + size; score = score; nested = counted x.nested (kind_of h.kind); last_start = h.start_time })

abbrev pub bonus_of : Objects → ℕ
bonus_of x = x.score.legacy_bonus_score.0

-- "7: the legacy bonus of all objects is above 2,147,483,647"
abbrev pub stepped_with : Bool → Objects → Content → ℕ → Stepped
stepped_with w x (header s) n = step.Stop
stepped_with w x (break b) n = step.Stop
stepped_with w x (object o) n = pick (ltb max_bonus (bonus_of x + kind_bonus (hit_as w o.kind))) step.OverBonus (step.Next (stepped w x o n))
stepped_with w x (play p) n = step.Stop

-- by what was found; the loop stops where that is refused
abbrev pub stepped_by : Bool → Objects → FoundRecord → Stepped
stepped_by w x (refused n) = step.Stop
stepped_by w x (good f) = stepped_with w x f.0 f.1

-- no object is shorter than a circle
unfoldable pub next_of : Bool → List ℕ → Objects → Stepped
next_of w s x = pick (ltb (length s) (x.at + circle_size)) step.Stop (stepped_by w x (object_of (drop x.at s) (word_at (drop x.at s) 0 2)))

-- what follows a step
abbrev pub ran_by : Objects → Stepped → (Objects → OrRefusal Objects) → OrRefusal Objects
ran_by x (step.Next y) go = go y
ran_by x step.Stop go = good x
ran_by x step.OverBonus go = refused (refusal_at BONUS x.at)

-- n objects further, or as many as there are
unfoldable pub ran_of : Bool → ℕ → List ℕ → Objects → OrRefusal Objects
ran_of w zero s x = good x
ran_of w (suc n) s x = ran_by x (next_of w s x) (λ y. ran_of w n s y)

-- ---- there is room for one object more
abbrev pub Room : Objects → Type 0
Room x = Within (max_objects - 1) x.score × Counted (max_objects - 1) x.nested × (bonus_of x ≤ max_bonus)

-- each sum is within the bound of its objects
pub record Small (s : List ℕ) (x : Objects) : Type 0 where
  pub score : Within x.nested.object_count x.score
  pub nested : Counted x.nested.object_count x.nested
  pub bonus : bonus_of x ≤ max_bonus
  pub few : x.nested.object_count ≤ max_objects
  pub inside : x.at ≤ length s
