-- A chain of checks that refuses nothing passed each of them.
use Rattle.rules.specs.declared.refusal.Rule.{Rule}
use mathlib.Core.Path.{◌≡◌, refl, ap}
use mathlib.Core.Bool.{Bool, true, false}
use Rattle.rules.specs.Refusals.{Checked, good, refused, ◌>>=◌, ◌>>◌, refuse◌when◌}
use Rattle.rules.proofs.Laws.{never}

pub record Bound {A B : Type 0} (x : Checked A) (f : A → Checked B) (b : B) : Type 0 where
  pub value : A
  pub first : x ≡ good value
  pub second : f value ≡ good b

pub bound : {A B : Type 0} (x : Checked A) (f : A → Checked B) (b : B) → (x >>= f) ≡ good b → Bound x f b
unfolding ◌>>=◌
bound (refused n) f b e = never (cc)
bound (good a) f b e = record { value = a; first = refl; second = e }

-- a check that did not refuse
pub passed : {A : Type 0} (n : Rule) (t : Bool) (x : Checked A) (a : A) → ((refuse n when t) >> x) ≡ good a → (t ≡ false) × (x ≡ good a)
unfolding ◌>>◌ refuse◌when◌
passed n true x a e = never (cc)
passed n false x a e = (refl, e)

pub bind_good : {A B : Type 0} (x : Checked A) (f : A → Checked B) (a : A) → x ≡ good a → (x >>= f) ≡ f a
unfolding ◌>>=◌
bind_good x f a e = ap (λ (y : Checked _). y >>= f) e

pub bind_refused : {A B : Type 0} (x : Checked A) (f : A → Checked B) (n : Rule) → x ≡ refused n → (x >>= f) ≡ refused n
unfolding ◌>>=◌
bind_refused x f n e = ap (λ (y : Checked _). y >>= f) e

pub then_good : {A B : Type 0} (x : Checked A) (y : Checked B) (a : A) → x ≡ good a → (x >> y) ≡ y
unfolding ◌>>◌
then_good x y a e = ap (λ (z : Checked _). z >> y) e

pub when_true : {A : Type 0} (n : Rule) (t : Bool) (x : Checked A) → t ≡ true → ((refuse n when t) >> x) ≡ refused n
unfolding ◌>>◌ refuse◌when◌
when_true n t x e = ap (λ (s : Bool). (refuse n when s) >> x) e

pub when_false : {A : Type 0} (n : Rule) (t : Bool) (x : Checked A) → t ≡ false → ((refuse n when t) >> x) ≡ x
unfolding ◌>>◌ refuse◌when◌
when_false n t x e = ap (λ (s : Bool). (refuse n when s) >> x) e
