-- A step of a `do` block at a value and at a refusal: with these the check follows a chain of `?` against its definition.
use mathlib.Core.Path.{◌≡◌, refl}
use mathlib.Core.Bool.{true, false}
use Rattle.std.specs.Prelude.{Result}
use Rattle.rules.specs.declared.refusal.Rule.{Rule}
use Rattle.rules.specs.Refusals.{Checked, good, refused, ◌>>=◌, ◌>>◌, refuse◌when◌}

pub bind_good : {A B E : Type 0} (a : A) (f : A → Result B E) → (good a >>= f) ≡ f a
unfolding ◌>>=◌
bind_good a f = refl

pub bind_refused : {A B E : Type 0} (n : E) (f : A → Result B E) → (refused n >>= f) ≡ refused n
unfolding ◌>>=◌
bind_refused n f = refl

pub when_true : {B : Type 0} (n : Rule) (y : Checked B) → ((refuse n when true) >> y) ≡ refused n
unfolding ◌>>◌ refuse◌when◌
when_true n y = refl

pub when_false : {B : Type 0} (n : Rule) (y : Checked B) → ((refuse n when false) >> y) ≡ y
unfolding ◌>>◌ refuse◌when◌
when_false n y = refl

pub ruleset steps = (bind_good, bind_refused, when_true, when_false)
