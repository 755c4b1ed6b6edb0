-- The states of the loop are those of the files that the definition reads one after the other.
use mathlib.Core.Path.{◌≡◌, refl, sym, ap, ◌∙◌, subst}
use mathlib.Core.Bool.{true}
use mathlib.Core.List.{List, [], ◌∷◌, ◌++◌, append-nil, append_assoc}
use Prim.Native.Nat.{ℕ, zero, suc, ◌+◌, ◌-◌, ◌≤◌, ◌<◌}
use native.Mathlib.Omega.{arith}
use lib.Ieee.{binary64, of_bits}
use lib.ListN.{length, drop, length-drop}
use Rattle.numbers.specs.Words.{word_at}
use Rattle.rules.specs.Limits.{max_objects, max_bonus, circle_size}
use Rattle.rules.specs.Refusals.{good, refused, OrRefusal, refusal_at, BONUS}
use Rattle.rules.proofs.All.{All, all_out}
use Rattle.records.specs.Objects.{Object, bonus, kind_bonus}
use Rattle.records.specs.Records.{Content, header, break, object, play, FoundRecord, object_of}
use Rattle.records.specs.declared.beatmap.BreakPeriod.{BreakPeriod}
use Rattle.map_file.specs.Order.{place, record_of}
use Rattle.map_file.specs.File.{File, counts_of, with_record, refused_at, file_of}
use Rattle.map_file.proofs.Reading.{Chain, start, longer, chain_on, chain_plays, on_stop, found_at, with_last, found_ordered, length_snoc, chain_file}
use Rattle.map_file.proofs.Sizes.{Sized, object_sized}
use Rattle.encoding.specs.Limits.{MapWithin}
use Rattle.encoding.proofs.Accepted.{accepted_within}
use Rattle.ruleset.specs.Drain.{start_of}
use Rattle.ruleset.proofs.FileBreaks.{Standing, standing_start, standing_step}
use Rattle.simulator.specs.Hits.{hits_of}
use Rattle.simulator.specs.Walk.{State, fresh, walk, after}
use Rattle.simulator.specs.Nested.{no_object, counted, counted_all}
use Rattle.simulator.specs.declared.legacy_score.NestedScorePerObject.{NestedScorePerObject}
use Rattle.simulator.proofs.Walks.{after-append}
use Rattle.simulator.proofs.Few.{count_is}
use Rattle.map_reader.specs.Objects.{objects_at, bonus_of, next_of, ran_by, ran_of}
use Rattle.map_reader.specs.Map.{StateOf}
use Rattle.map_reader.specs.declared.objects.Objects.{Objects}
use Rattle.map_reader.specs.declared.objects.Stepped.{Stepped}
use Rattle.map_reader.specs.declared.objects.Stepped.TheVariants as step
use Rattle.map_reader.proofs.Stepping.{walk_legacy}
use Rattle.map_reader.proofs.Records.{object_good, object_over, found_object, object_long, object_start}
use Rattle.map_reader.proofs.Running.{count_of, object_at, Took, Stops, short, none, Answered, took, stop, over as over_by, answered, took_count, ran_next, ran_stop, ran_over}

-- ---- any file that was read so far, from its header on
pub chain_limits : (s : List ℕ) (f : File) → Chain s f → 0 < place f.last → MapWithin f.map
chain_limits s f c h = accepted_within _ f (chain_file s f c h)

pub chain_standing : (s : List ℕ) (f : File) → Chain s f → Standing s f
chain_standing s f start = standing_start s
chain_standing s f (longer {f = g} {r = r} c h e) = standing_step s g r e (chain_standing s g c)

-- ---- the sums with one object more
start_seam : (os : List Object) (o : Object) → start_of (os ++ (o ∷ [])) (length os) ≡ o.start
start_seam [] o = refl
start_seam (x ∷ os) o = start_seam os o

after_one : (os : List Object) (o : Object) → after 1 fresh (os ++ (o ∷ [])) ≡ walk 1 (after 1 fresh os) (hits_of o.kind)
unfolding after
after_one os o = after-append 1 fresh os (o ∷ [])

pub counted-append : (c : NestedScorePerObject) (xs ys : List Object) → counted_all c (xs ++ ys) ≡ counted_all (counted_all c xs) ys
unfolding counted_all
counted-append c [] ys = refl
counted-append c (x ∷ xs) ys = counted-append (counted c x.kind) xs ys

counted-one : (os : List Object) (o : Object) → counted_all no_object (os ++ (o ∷ [])) ≡ counted (counted_all no_object os) o.kind
unfolding counted_all
counted-one os o = counted-append no_object os (o ∷ [])

after_legacy : (st : State) (os : List Object) → (after 1 st os).legacy_bonus_score.0 ≡ st.legacy_bonus_score.0 + bonus os
unfolding after bonus
after_legacy st [] = omega arith
after_legacy st (o ∷ os) =
    let e = after_legacy (walk 1 st (hits_of o.kind)) os in
    let w = walk_legacy st o.kind in
    omega (arith, e, w)

pub state_count : {os : List Object} {x : Objects} → StateOf os x → count_of x ≡ length os
state_count {os = os} k = ap (λ (c : NestedScorePerObject). c.object_count) k.nested ∙ count_is no_object os ∙ omega arith

pub state_bonus : {os : List Object} {x : Objects} → StateOf os x → bonus_of x ≡ bonus os
state_bonus {os = os} k = ap (λ (st : State). st.legacy_bonus_score.0) k.score ∙ after_legacy fresh os ∙ omega arith

pub state_none : (at : ℕ) → StateOf [] (objects_at at)
unfolding after counted_all
state_none at = record { score = refl; nested = refl; last = refl }

-- ---- a state keeps what a file holds
pub record Keeps (s : List ℕ) (f : File) (x : Objects) : Type 0 where
  pub chain : Chain s f
  pub begun : 0 < place f.last
  pub no_play : place f.last ≤ 3
  pub at : x.at ≡ f.at
  pub state : StateOf f.map.objects x

-- what stands next is no break
abbrev pub NoBreak : List ℕ → File → Type 0
NoBreak s f = (b : BreakPeriod) (n : ℕ) → found_at s f ≡ good (break b, n) → ⊥

abbrev pub NoObject : List ℕ → File → Type 0
NoObject s f = (o : Object) (n : ℕ) → found_at s f ≡ good (object o, n) → ⊥

module _ {s : List ℕ} {f : File} {x : Objects} (k : Keeps s f x) where
  keeps_count : length f.map.objects ≡ count_of x
  keeps_count = sym (state_count k.state)

  keeps_bonus : bonus f.map.objects ≡ bonus_of x
  keeps_bonus = sym (state_bonus k.state)

  module _ (long : x.at + circle_size ≤ length s) (room : count_of x < max_objects) (o : Object) (n : ℕ) (e : object_at s x ≡ good (object o, n)) where
    two : 2 ≤ length (drop x.at s)
    two = simp length-drop (omega (arith, long))

    pub before_end : f.at < length s
    before_end = omega (arith, long, k.at)

    pub keeps_found : bonus_of x + kind_bonus o.kind ≤ max_bonus → found_at s f ≡ good (object o, n)
    unfolding counts_of
    keeps_found low =
        ap (λ (m : ℕ). record_of (drop m s) (counts_of f)) (sym k.at)
        ∙ object_good (drop x.at s) (counts_of f) two o n e k.begun k.no_play (omega (arith, keeps_count, room)) (omega (arith, keeps_bonus, low))

    pub keeps_over : max_bonus < bonus_of x + kind_bonus o.kind → found_at s f ≡ refused BONUS
    unfolding counts_of
    keeps_over high =
        ap (λ (m : ℕ). record_of (drop m s) (counts_of f)) (sym k.at)
        ∙ object_over (drop x.at s) (counts_of f) two o n e k.begun k.no_play (omega (arith, keeps_count, room)) (omega (arith, keeps_bonus, high))

  -- where the loop stops there is no object
  pub keeps_stops : Stops s x → NoObject s f
  keeps_stops h o n e = go h (found_object (drop f.at s) (counts_of f) o n e)
    where
      go : Stops s x → object_of (drop f.at s) (word_at (drop f.at s) 0 2) ≡ good (object o, n) → ⊥
      go (short h) q =
          let most = all_out (subst (All (λ g. circle_size ≤ g.1)) q (object_long (drop f.at s) (word_at (drop f.at s) 0 2))) in
          let sized = all_out (subst (All (Sized (drop f.at s))) q (object_sized (drop f.at s) (word_at (drop f.at s) 0 2))) in
          let room = length-drop f.at s in
          omega (arith, h, k.at, most, sized.1, room)
      go (none {n = m} p) q =
          let z : ◌≡◌ {A = FoundRecord} (refused m) (good (object o, n)) = sym (subst (λ (a : ℕ). object_of (drop a s) (word_at (drop a s) 0 2) ≡ refused m) k.at p) ∙ q in
          cc

  -- one object further
  module _ {y : Objects} (t : Took true s x y) (room : count_of x < max_objects) where
    abbrev pub file_with : File
    file_with = with_record f (object t.o, t.size)

    pub keeps_next : Keeps s file_with y
    unfolding with_record
    keeps_next =
        let size = length_snoc f.map.objects t.o in
        let seat : length (f.map.objects ++ (t.o ∷ [])) - 1 ≡ length f.map.objects = omega (arith, size) in
        record {
          chain = longer k.chain (before_end t.long room t.o t.size t.found) (keeps_found t.long room t.o t.size t.found t.low);
          begun = omega arith;
          no_play = omega arith;
          at = ap (λ (z : Objects). z.at) t.same ∙ omega (arith, k.at);
          state = record {
            score = ap (λ (z : Objects). z.score) t.same ∙ ap (λ (st : State). walk 1 st (hits_of t.o.kind)) k.state.score ∙ sym (after_one f.map.objects t.o);
            nested = ap (λ (z : Objects). z.nested) t.same ∙ ap (λ (c : NestedScorePerObject). counted c t.o.kind) k.state.nested ∙ sym (counted-one f.map.objects t.o);
            last = ap (λ (z : Objects). z.last_start) t.same ∙ sym (ap (start_of (f.map.objects ++ (t.o ∷ []))) seat ∙ start_seam f.map.objects t.o);
          };
        }

    -- behind an object stands no break
    pub next_no_break : NoBreak s file_with
    next_no_break b n e = let h = found_ordered s file_with (break b, n) e in let l = ap place (with_last f (object t.o, t.size)) in omega (arith, h, l)

-- ---- the objects that a run takes
abbrev object_in : Content → List Object
object_in (header s) = []
object_in (break b) = []
object_in (object o) = o ∷ []
object_in (play p) = []

abbrev objects_in : FoundRecord → List Object
objects_in (refused n) = []
objects_in (good f) = object_in f.0

abbrev taken_by : Stepped → List Object → (Objects → List Object) → List Object
taken_by (step.Next y) os go = os ++ go y
taken_by step.Stop os go = []
taken_by step.OverBonus os go = []

unfoldable pub objects_ran : ℕ → List ℕ → Objects → List Object
objects_ran zero s x = []
objects_ran (suc n) s x = taken_by (next_of true s x) (objects_in (object_at s x)) (λ y. objects_ran n s y)

pub taken_next : (n : ℕ) (s : List ℕ) (x y : Objects) → step.Next y ≡ next_of true s x → (t : Took true s x y) → objects_ran (suc n) s x ≡ t.o ∷ objects_ran n s y
unfolding objects_ran
taken_next n s x y e t =
    ap (λ (a : Stepped). taken_by a (objects_in (object_at s x)) (λ z. objects_ran n s z)) (sym e)
    ∙ ap (λ (a : FoundRecord). objects_in a ++ objects_ran n s y) t.found

pub taken_stop : (n : ℕ) (s : List ℕ) (x : Objects) → step.Stop ≡ next_of true s x → objects_ran n s x ≡ []
unfolding objects_ran
taken_stop zero s x e = refl
taken_stop (suc n) s x e = ap (λ (a : Stepped). taken_by a (objects_in (object_at s x)) (λ z. objects_ran n s z)) (sym e)

pub taken_over : (n : ℕ) (s : List ℕ) (x : Objects) → step.OverBonus ≡ next_of true s x → objects_ran n s x ≡ []
unfolding objects_ran
taken_over zero s x e = refl
taken_over (suc n) s x e = ap (λ (a : Stepped). taken_by a (objects_in (object_at s x)) (λ z. objects_ran n s z)) (sym e)

-- ---- the file behind a run
-- as many objects as were asked for, or all that there are
pub data Ends (s : List ℕ) (m : ℕ) (y : Objects) : Type 0 where
  full : count_of y ≡ m → Ends s m y
  stopped : count_of y ≤ m → step.Stop ≡ next_of true s y → Ends s m y

pub record Follows (s : List ℕ) (f g : File) (x : Objects) (more : List Object) : Type 0 where
  pub settings : g.map.settings ≡ f.map.settings
  pub breaks : g.map.breaks ≡ f.map.breaks
  pub objects : g.map.objects ≡ f.map.objects ++ more
  pub no_break : NoBreak s f → NoBreak s g
  pub first : 0 < length more → start_of more 0 ≡ of_bits binary64 (word_at (drop x.at s) 2 8)

pub data RanFile (s : List ℕ) (f : File) (x : Objects) (n : ℕ) : OrRefusal Objects → Type 0 where
  to : {y : Objects} (g : File) → Keeps s g y → Follows s f g x (objects_ran n s x) → Ends s (count_of x + n) y → RanFile s f x n (good y)
  over : {at : ℕ} (g : File) → file_of s ≡ refused_at BONUS at g → g.plays ≡ [] → RanFile s f x n (refused (refusal_at BONUS at))

follows_none : (s : List ℕ) (f : File) (x : Objects) (more : List Object) → more ≡ [] → Follows s f f x more
follows_none s f x more e = record {
  settings = refl;
  breaks = refl;
  objects = sym (append-nil f.map.objects) ∙ ap (λ (l : List Object). f.map.objects ++ l) (sym e);
  no_break = λ h. h;
  first = λ h. absurd (let z = ap length e in omega (arith, h, z));
}

module _ {s : List ℕ} {f : File} {x y : Objects} (k : Keeps s f x) (t : Took true s x y) (room : count_of x < max_objects) where
  follows_more : (g : File) (rest more : List Object) → Follows s (file_with k t room) g y rest → more ≡ t.o ∷ rest → Follows s f g x more
  unfolding with_record
  follows_more g rest more w e = record {
    settings = w.settings;
    breaks = w.breaks;
    objects = w.objects ∙ append_assoc f.map.objects (t.o ∷ []) rest ∙ ap (λ (l : List Object). f.map.objects ++ l) (sym e);
    no_break = λ _. w.no_break (next_no_break k t room);
    first = λ _. ap (λ (l : List Object). start_of l 0) e ∙ object_start (drop x.at s) (word_at (drop x.at s) 0 2) t.o t.size t.found;
  }

ends_more : {s : List ℕ} {m n : ℕ} {y : Objects} → m ≡ n → Ends s m y → Ends s n y
ends_more {s = s} {y = y} e h = subst (λ (k : ℕ). Ends s k y) e h

pub keeps_ran : (n : ℕ) (s : List ℕ) (f : File) (x : Objects) → Keeps s f x → count_of x + n ≤ max_objects → RanFile s f x n (ran_of true n s x)
unfolding ran_of objects_ran
keeps_ran zero s f x k h = to f k (follows_none s f x [] refl) (full (omega arith))
keeps_ran (suc n) s f x k h = go (λ g y m l. keeps_ran n s g y m l) (next_of true s x) refl (answered true s x)
  where
    room : count_of x < max_objects
    room = omega (arith, h)

    further : (y : Objects) (t : Took true s x y) → step.Next y ≡ next_of true s x → (r : OrRefusal Objects) → RanFile s (file_with k t room) y n r → RanFile s f x (suc n) r
    further y t e (good z) (to g kg w ends) =
        let count = took_count t in
        to g kg (follows_more k t room g (objects_ran n s y) (objects_ran (suc n) s x) w (taken_next n s x y e t)) (ends_more (omega (arith, count)) ends)
    further y t e (refused r) (over g q p) = over g q p

    go : ((g : File) (y : Objects) → Keeps s g y → count_of y + n ≤ max_objects → RanFile s g y n (ran_of true n s y))
        → (a : Stepped) → next_of true s x ≡ a → Answered true s x a → RanFile s f x (suc n) (ran_by x (next_of true s x) (λ y. ran_of true n s y))
    go more (step.Next y) e (took t) =
        let count = took_count t in
        subst (RanFile s f x (suc n)) (sym (ran_next true n s x y (sym e))) (further y t (sym e) (ran_of true n s y) (more (file_with k t room) y (keeps_next k t room) (omega (arith, h, count))))
    go more step.Stop e (stop h) =
        subst (RanFile s f x (suc n)) (ran_stop true (suc n) s x (sym e)) (to f k (follows_none s f x (objects_ran (suc n) s x) (taken_stop (suc n) s x (sym e))) (stopped (omega arith) (sym e)))
    go more step.OverBonus e (over_by h) =
        let found = keeps_over k h.long room h.o h.size h.found h.over in
        subst
        (RanFile s f x (suc n))
        (ran_over true (suc n) s x (omega arith) (sym e))
        (over f (on_stop s f BONUS (chain_on s f k.chain) (before_end k h.long room h.o h.size h.found) found ∙ ap (λ (m : ℕ). refused_at BONUS m f) (sym k.at)) (chain_plays s f k.chain k.no_play))
