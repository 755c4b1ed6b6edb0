-- A run of some steps and then of others is one run, and the objects that it takes are those of both.
use Rattle.rules.specs.Refusals.{OrRefusal, good, refused, refusal_at, BONUS}
use mathlib.Core.Path.{◌≡◌, refl, sym, ap, ◌∙◌, subst}
use mathlib.Core.Bool.{Bool, true}
use mathlib.Core.List.{List, [], ◌∷◌, ◌++◌, append-nil, append_assoc}
use Prim.Native.Nat.{ℕ, zero, suc, ◌+◌, ◌-◌, ◌≤◌, ◌<◌}
use native.Mathlib.Omega.{arith}
use lib.ListN.{length, take, length-append}
use lib.Seq.{take_all, take-append-le}
use Rattle.rules.specs.Limits.{max_objects}
use Rattle.records.specs.Objects.{Object}
use Rattle.map_file.specs.File.{File}
use Rattle.map_reader.specs.Objects.{next_of, ran_by, ran_of}
use Rattle.map_reader.specs.Map.{StateOf, RanTo, to as ran_to, NextIs}
use Rattle.map_reader.specs.declared.objects.Objects.{Objects}
use Rattle.map_reader.specs.declared.objects.Stepped.{Stepped}
use Rattle.map_reader.specs.declared.objects.Stepped.TheVariants as step
use Rattle.map_reader.proofs.Running.{count_of, Answered, took, answered, ran_next, ran_stop, ran_over}
use Rattle.map_reader.proofs.Files.{Keeps, objects_ran, taken_next, taken_stop, taken_over, Ends, full, stopped, Follows, RanFile, to, over, keeps_ran, state_count}

abbrev pub ran_then : OrRefusal Objects → (Objects → OrRefusal Objects) → OrRefusal Objects
ran_then (good y) go = go y
ran_then (refused r) go = refused (refusal_at BONUS r.offset)

abbrev objects_then : OrRefusal Objects → (Objects → List Object) → List Object
objects_then (good y) go = go y
objects_then (refused r) go = []

pub ran_append : (w : Bool) (a b : ℕ) (s : List ℕ) (x : Objects) → ran_of w (a + b) s x ≡ ran_then (ran_of w a s x) (λ y. ran_of w b s y)
unfolding ran_of
ran_append w zero b s x = let e : 0 + b ≡ b = omega arith in ap (λ (n : ℕ). ran_of w n s x) e
ran_append w (suc a) b s x =
    let e : suc a + b ≡ suc (a + b) = omega arith in
    ap (λ (n : ℕ). ran_of w n s x) e ∙ go (λ y. ran_append w a b s y) (next_of w s x) refl
  where
    go : ((y : Objects) → ran_of w (a + b) s y ≡ ran_then (ran_of w a s y) (λ z. ran_of w b s z)) → (e : Stepped) → next_of w s x ≡ e
        → ran_by x e (λ y. ran_of w (a + b) s y) ≡ ran_then (ran_by x e (λ y. ran_of w a s y)) (λ z. ran_of w b s z)
    go more (step.Next y) e = more y
    go more step.Stop e = ran_stop w b s x (sym e)
    go more step.OverBonus e = refl

pub objects-append : (a b : ℕ) (s : List ℕ) (x : Objects) → objects_ran (a + b) s x ≡ objects_ran a s x ++ objects_then (ran_of true a s x) (λ y. objects_ran b s y)
unfolding ran_of objects_ran
objects-append zero b s x = let e : 0 + b ≡ b = omega arith in ap (λ (n : ℕ). objects_ran n s x) e
objects-append (suc a) b s x =
    let e : suc a + b ≡ suc (a + b) = omega arith in
    ap (λ (n : ℕ). objects_ran n s x) e ∙ go (λ y. objects-append a b s y) (next_of true s x) refl (answered true s x)
  where
    go : ((y : Objects) → objects_ran (a + b) s y ≡ objects_ran a s y ++ objects_then (ran_of true a s y) (λ z. objects_ran b s z)) → (e : Stepped) → next_of true s x ≡ e → Answered true s x e
        → objects_ran (suc (a + b)) s x ≡ objects_ran (suc a) s x ++ objects_then (ran_of true (suc a) s x) (λ z. objects_ran b s z)
    go more (step.Next y) e (took t) =
        taken_next (a + b) s x y (sym e) t
        ∙ ap (λ (l : List Object). t.o ∷ l) (more y)
        ∙ sym (ap (λ (l : List Object). l ++ objects_then (ran_of true (suc a) s x) (λ z. objects_ran b s z)) (taken_next a s x y (sym e) t)
        ∙ ap (λ (r : OrRefusal Objects). (t.o ∷ objects_ran a s y) ++ objects_then r (λ z. objects_ran b s z)) (ran_next true a s x y (sym e)))
    go more step.Stop e h =
        taken_stop (suc (a + b)) s x (sym e)
        ∙ sym (ap (λ (l : List Object). l ++ objects_then (ran_of true (suc a) s x) (λ z. objects_ran b s z)) (taken_stop (suc a) s x (sym e))
        ∙ sym (ap (λ (r : OrRefusal Objects). objects_then r (λ z. objects_ran b s z)) (ran_stop true (suc a) s x (sym e)))
        ∙ taken_stop b s x (sym e))
    go more step.OverBonus e h =
        taken_over (suc (a + b)) s x (sym e)
        ∙ sym (ap (λ (l : List Object). l ++ objects_then (ran_of true (suc a) s x) (λ z. objects_ran b s z)) (taken_over (suc a) s x (sym e))
        ∙ sym (ap (λ (r : OrRefusal Objects). objects_then r (λ z. objects_ran b s z)) (ran_over true (suc a) s x (omega arith) (sym e))))

ran_one : (s : List ℕ) (x y : Objects) → step.Next y ≡ next_of true s x → ran_of true 1 s x ≡ good y
unfolding ran_of
ran_one s x y e = ran_next true 0 s x y e

take_first : (n : ℕ) (xs ys : List Object) → length xs ≡ n → take n (xs ++ ys) ≡ xs
take_first n xs ys e = take-append-le n xs ys (omega (arith, e)) ∙ take_all n xs (omega (arith, e))

take_more : (n : ℕ) (xs : List Object) (o : Object) (ys : List Object) → length xs ≡ n → take (n + 1) (xs ++ (o ∷ ys)) ≡ xs ++ (o ∷ [])
take_more n xs o ys e =
    let l = length-append xs (o ∷ []) in
    ap (take (n + 1)) (sym (append_assoc xs (o ∷ []) ys)) ∙ take_first (n + 1) (xs ++ (o ∷ [])) ys (omega (arith, l, e))

-- ---- the states of a map that was read whole
module _ (s : List ℕ) (f : File) (x : Objects) (k : Keeps s f x) (none_yet : f.map.objects ≡ []) where
  fresh_count : count_of x ≡ 0
  fresh_count = state_count k.state ∙ ap length none_yet

  taken : (g : File) {more : List Object} → Follows s f g x more → g.map.objects ≡ more
  taken g {more = more} w = w.objects ∙ ap (λ (l : List Object). l ++ more) none_yet

  -- reading on from a state comes to the same end
  pub reads_on : (n : ℕ) (y : Objects) → n ≤ max_objects → good y ≡ ran_of true n s x → Ends s (count_of x + n) y → ran_of true (max_objects - count_of y) s y ≡ ran_of true max_objects s x
  reads_on n y h e ends =
      go ends
      ∙ sym (ap (λ (m : ℕ). ran_of true m s x) whole ∙ ran_append true n (max_objects - n) s x ∙ ap (λ (r : OrRefusal Objects). ran_then r (λ z. ran_of true (max_objects - n) s z)) (sym e))
    where
      whole : max_objects ≡ n + (max_objects - n)
      whole = omega (arith, h)

      go : Ends s (count_of x + n) y → ran_of true (max_objects - count_of y) s y ≡ ran_of true (max_objects - n) s y
      go (full q) = let z = fresh_count in let m : max_objects - count_of y ≡ max_objects - n = omega (arith, q, z) in ap (λ (i : ℕ). ran_of true i s y) m
      go (stopped q p) = sym (ran_stop true (max_objects - count_of y) s y p) ∙ ran_stop true (max_objects - n) s y p

  module _ (all : Objects) (g : File) (e : good all ≡ ran_of true max_objects s x) (w : Follows s f g x (objects_ran max_objects s x)) where
    whole_is : (n : ℕ) → n ≤ max_objects → g.map.objects ≡ objects_ran n s x ++ objects_then (ran_of true n s x) (λ y. objects_ran (max_objects - n) s y)
    whole_is n h =
        let m : max_objects ≡ n + (max_objects - n) = omega (arith, h) in
        taken g w ∙ ap (λ (i : ℕ). objects_ran i s x) m ∙ objects-append n (max_objects - n) s x

    never_over : (n at : ℕ) → n ≤ max_objects → refused (refusal_at BONUS at) ≡ ran_of true n s x → ⊥
    never_over n at h q =
        let m : max_objects ≡ n + (max_objects - n) = omega (arith, h) in
        let z : good all ≡ refused (refusal_at BONUS at) = e ∙ ap (λ (i : ℕ). ran_of true i s x) m ∙ ran_append true n (max_objects - n) s x ∙ ap (λ (r : OrRefusal Objects). ran_then r (λ y. ran_of true (max_objects - n) s y)) (sym q) in
        cc

    pub ran_states : (n : ℕ) → n ≤ max_objects → RanTo (take n g.map.objects) (ran_of true n s x)
    ran_states n h = go (ran_of true n s x) refl (keeps_ran n s f x k (let z = fresh_count in omega (arith, h, z)))
      where
        go : (r : OrRefusal Objects) → ran_of true n s x ≡ r → RanFile s f x n r → RanTo (take n g.map.objects) r
        go (refused r) q (over i p l) = absurd (never_over n r.offset h (sym q))
        go (good y) q (to i ki v ends) = ran_to (subst (λ (l : List Object). StateOf l y) (sym (cut ends)) ki.state)
          where
            is : i.map.objects ≡ objects_ran n s x
            is = taken i v

            parts : g.map.objects ≡ i.map.objects ++ objects_ran (max_objects - n) s y
            parts = whole_is n h ∙ ap (λ (r : OrRefusal Objects). objects_ran n s x ++ objects_then r (λ z. objects_ran (max_objects - n) s z)) q ∙ ap (λ (l : List Object). l ++ objects_ran (max_objects - n) s y) (sym is)

            cut : Ends s (count_of x + n) y → take n g.map.objects ≡ i.map.objects
            cut (full p) =
                let z = fresh_count in
                let size : length i.map.objects ≡ n = sym (state_count ki.state) ∙ p ∙ omega (arith, z) in
                ap (take n) parts ∙ take-append-le n i.map.objects (objects_ran (max_objects - n) s y) (omega (arith, size)) ∙ take_all n i.map.objects (omega (arith, size))
            cut (stopped p c) =
                let z = fresh_count in
                let size = state_count ki.state in
                ap (take n) (parts ∙ ap (λ (l : List Object). i.map.objects ++ l) (taken_stop (max_objects - n) s y c) ∙ append-nil i.map.objects) ∙ take_all n i.map.objects (omega (arith, size, p, z))

    -- the object behind n others
    module _ (n : ℕ) (h : n < length g.map.objects) (few : length g.map.objects ≤ max_objects) where
      room : n + 1 ≤ max_objects
      room = omega (arith, h, few)

      pub ran_nexts : NextIs s x g.map.objects n
      ran_nexts = go (ran_of true n s x) refl (keeps_ran n s f x k (let z = fresh_count in omega (arith, h, few, z)))
        where
          go : (r : OrRefusal Objects) → ran_of true n s x ≡ r → RanFile s f x n r → NextIs s x g.map.objects n
          go (refused r) q (over i p l) = absurd (never_over n r.offset (omega (arith, room)) (sym q))
          go (good y) q (to i ki v ends) = by_step (next_of true s y) refl (answered true s y) (count_is ends)
            where
              is : i.map.objects ≡ objects_ran n s x
              is = taken i v

              size : length i.map.objects ≡ count_of y
              size = sym (state_count ki.state)

              parts : g.map.objects ≡ i.map.objects ++ objects_ran (max_objects - n) s y
              parts = whole_is n (omega (arith, room)) ∙ ap (λ (r : OrRefusal Objects). objects_ran n s x ++ objects_then r (λ z. objects_ran (max_objects - n) s z)) q ∙ ap (λ (l : List Object). l ++ objects_ran (max_objects - n) s y) (sym is)

              -- a run that stops there has no more objects
              no_more : objects_ran (max_objects - n) s y ≡ [] → count_of y ≤ n → ⊥
              no_more e c =
                  let l = ap length (parts ∙ ap (λ (l : List Object). i.map.objects ++ l) e ∙ append-nil i.map.objects) in
                  let m = size in
                  omega (arith, l, m, c, h)

              count_is : Ends s (count_of x + n) y → count_of y ≡ n
              count_is (full p) = let z = fresh_count in omega (arith, p, z)
              count_is (stopped p c) = let z = fresh_count in absurd (no_more (taken_stop (max_objects - n) s y c) (omega (arith, p, z)))

              one_more : (e : OrRefusal Objects) → ran_of true 1 s y ≡ e → ran_of true (n + 1) s x ≡ e
              one_more e w = ran_append true n 1 s x ∙ ap (λ (r : OrRefusal Objects). ran_then r (λ z. ran_of true 1 s z)) q ∙ w

              by_step : (a : Stepped) → next_of true s y ≡ a → Answered true s y a → count_of y ≡ n → NextIs s x g.map.objects n
              by_step (step.Next z) e (took t) c =
                  let m : max_objects - n ≡ suc (max_objects - (n + 1)) = omega (arith, room) in
                  let rest = objects_ran (max_objects - (n + 1)) s z in
                  let cut : g.map.objects ≡ i.map.objects ++ (t.o ∷ rest) = parts ∙ ap (λ (l : List Object). i.map.objects ++ l) (ap (λ (j : ℕ). objects_ran j s y) m ∙ taken_next (max_objects - (n + 1)) s y z (sym e) t) in
                  let l : length i.map.objects ≡ n = size ∙ c in
                  record {
                    x = y;
                    here = sym q;
                    inside = t.long;
                    o = t.o;
                    size = t.size;
                    found = t.found;
                    next = ap good (sym t.same) ∙ sym (one_more (good z) (ran_one s y z (sym e)));
                    more = ap (take (n + 1)) cut ∙ take_more n i.map.objects t.o rest l ∙ ap (λ (a : List Object). a ++ (t.o ∷ [])) (sym (ap (take n) cut ∙ take_first n i.map.objects (t.o ∷ rest) l));
                  }
              by_step step.Stop e a c = absurd (no_more (taken_stop (max_objects - n) s y (sym e)) (omega (arith, c)))
              by_step step.OverBonus e a c = absurd (never_over (n + 1) y.at room (sym (one_more (refused (refusal_at BONUS y.at)) (sym (ran_over true 1 s y (omega arith) (sym e))))))
