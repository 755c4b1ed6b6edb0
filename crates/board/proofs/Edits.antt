-- The steps of an edit: each refusal in its turn, then the object's own entry and start are put.
use Rattle.rules.specs.declared.refusal.Rule.{Rule}
use Prim.Native.Nat.{ℕ, ◌≤◌, ◌<◌}
use mathlib.Core.Path.{◌≡◌, refl, sym, ap, ◌∙◌, subst}
use mathlib.Core.Bool.{true}
use mathlib.Core.List.{List, [], ◌∷◌}
use native.Mathlib.Omega.{arith}
use borrow.Author.Tests.{lt-leb, le-leb}
use lib.Ieee.{Float}
use Rattle.rules.specs.Limits.{max_bonus}
use Rattle.numbers.specs.Words.{word_at}
use Rattle.rules.specs.Refusals.{Checked, good, refused, ◌>>=◌, at_0, CUT, MARK, PLACE}
use Rattle.records.specs.Objects.{Object, object_view, bonus}
use Rattle.records.specs.Records.{Content, header, break, object, play, object_of}
use Rattle.records.specs.declared.hit_object.HitObject.{HitObject}
use Rattle.rules.proofs.Laws.{never}
use Rattle.rules.proofs.All.{All, all_out}
use Rattle.encoding.specs.Limits.{ObjectWithin, Each, one}
use Rattle.encoding.specs.Limits as limits
use Rattle.encoding.proofs.Accepted.{object_within}
use Rattle.entries.specs.Entry.{entry_of, in_limits, own_entry}
use Rattle.entries.proofs.Accepted.{entry_within, object_bonus}
use Rattle.entries.proofs.Runs.{entry_own}
use Rattle.entries.specs.declared.entry.Entry.{Entry}
use Rattle.tree.specs.Size.{levels_of}
use Rattle.board.specs.Place.{room_for, Holds, put_place, put_left, written_left}
use Rattle.board.specs.Edit.{object_only, object_in, alone_of, edit_of}
use Rattle.board.proofs.Binds.{bound, passed, bind_good, bind_refused, then_good, when_true, when_false}

-- ---- an object that was read alone is within its limits
pub alone_within : (r : List ℕ) (o : Object) → object_in r ≡ good o → ObjectWithin o
unfolding object_in
alone_within r o e =
    let a = passed MARK _ _ o e in
    let b = passed CUT _ _ o a.1 in
    let c = bound (object_of r (word_at r 0 2)) _ o b.1 in
    let d = bound (object_only c.value.0) _ o c.second in
    let f = passed MARK _ _ o d.second in
    by c.value c.first d.value d.first (f.1)
  where
    by : (x : Content × ℕ) → object_of r (word_at r 0 2) ≡ good x → (u : Object) → object_only x.0 ≡ good u → ◌≡◌ {A = Checked Object} (good u) (good o) → ObjectWithin o
    by (header s, n) q u h k = never (cc)
    by (break b, n) q u h k = never (cc)
    by (object v, n) q u h k =
        let same : v ≡ o = cc in
        subst ObjectWithin same (all_out (subst (All _) q (object_within r (word_at r 0 2))))
    by (play p, n) q u h k = never (cc)

pub record IsAlone (r : List ℕ) (h : HitObject) : Type 0 where
  pub found : Object
  pub read : object_in r ≡ good found
  pub same : h ≡ object_view found
  pub within : ObjectWithin found

-- what the code was told
pub is_alone : (r : List ℕ) (h : HitObject) → good h ≡ alone_of (object_in r) → IsAlone r h
unfolding ◌>>=◌
is_alone r h e = go (object_in r) refl e
  where
    go : (x : Checked Object) → object_in r ≡ x → good h ≡ alone_of x → IsAlone r h
    go (refused n) q e = never (cc)
    go (good o) q e = record { found = o; read = q; same = cc; within = alone_within r o q }

pub not_alone : (r : List ℕ) (n : Rule) → refused n ≡ alone_of (object_in r) → object_in r ≡ refused n
unfolding ◌>>=◌
not_alone r n e = go (object_in r) e
  where
    go : (x : Checked Object) → refused n ≡ alone_of x → x ≡ refused n
    go (refused m) e = let k : n ≡ m = cc in ap refused (sym k)
    go (good o) e = never (cc)

-- its own entry
bonus_low : (o : Object) → ObjectWithin o → bonus (o ∷ []) ≤ max_bonus
unfolding bonus
bonus_low o w = let low = object_bonus o.kind w.kind in omega (arith, low)

own_is : (r : List ℕ) (h : HitObject) (a : IsAlone r h) → own_entry h.kind ≡ entry_of (a.found ∷ [])
own_is r h a = ap (λ (x : HitObject). own_entry x.kind) a.same ∙ entry_own a.found

pub own_within : (r : List ℕ) (h : HitObject) → IsAlone r h → in_limits (own_entry h.kind) ≡ true
own_within r h a =
    ap in_limits (own_is r h a) ∙ entry_within (a.found ∷ []) (one a.within limits.none) (omega arith) (bonus_low a.found a.within)

-- ---- the put behind the checks
-- the answer of a put, as an edit gives it
written_left_lem : (x : Checked (List ℕ × List Float)) (b : List ℕ) (ts : List Float)
    → (at_0 (put_left x b ts).0, (put_left x b ts).1, (put_left x b ts).2) ≡ written_left x b ts
written_left_lem (refused n) b ts = refl
written_left_lem (good w) b ts = refl

-- ---- the steps
module _ (b : List ℕ) (ts : List Float) (n place : ℕ) (r : List ℕ) where
  module _ (room : room_for b ts n ≡ good tt) where
    pub past : n ≤ place → edit_of b ts n place r ≡ refused PLACE
    unfolding edit_of
    past h = then_good (room_for b ts n) _ tt room ∙ when_true PLACE _ _ (le-leb n place h)

    module _ (inside : place < n) where
      checked : edit_of b ts n place r
          ≡ (object_in r >>= (λ o. put_place (levels_of n) place (entry_of (o ∷ [])) o.start b ts))
      unfolding edit_of
      checked = then_good (room_for b ts n) _ tt room ∙ when_false PLACE _ _ (lt-leb n place inside)

      pub bad_record : (k : Rule) → object_in r ≡ refused k → edit_of b ts n place r ≡ refused k
      bad_record k e = checked ∙ bind_refused (object_in r) _ k e

      pub puts : (o : Object) → object_in r ≡ good o
          → edit_of b ts n place r ≡ put_place (levels_of n) place (entry_of (o ∷ [])) o.start b ts
      puts o e = checked ∙ bind_good (object_in r) _ o e

      -- the same as the code puts it
      module _ (size : ℕ) (holds : Holds size n b ts) (h : HitObject) (a : IsAlone r h) (v : Entry) (own : v ≡ own_entry h.kind) where
        put_is : put_place size place v h.start_time b ts ≡ edit_of b ts n place r
        put_is =
            rw (holds.levels, own, own_is r h a, a.same) (sym (puts a.found a.read))

        pub left : (done : Checked (Unit {0})) (b' : List ℕ) (ts' : List Float) → (done, b', ts') ≡ put_left (put_place size place v h.start_time b ts) b ts
            → (at_0 done, b', ts') ≡ written_left (edit_of b ts n place r) b ts
        left done b' ts' e =
            ap (λ (z : Checked (Unit {0}) × List ℕ × List Float). (at_0 z.0, z.1, z.2)) e
            ∙ written_left_lem (put_place size place v h.start_time b ts) b ts
            ∙ ap (λ (x : Checked (List ℕ × List Float)). written_left x b ts) put_is
