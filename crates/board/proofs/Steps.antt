-- The steps of a board's `do` blocks, of which the first is the check for room.
use mathlib.Core.Path.{◌≡◌, refl}
use mathlib.Core.Bool.{true, false}
use Rattle.rules.specs.declared.refusal.Rule.{Rule}
use Rattle.rules.specs.Refusals.{Checked, good, refused, ◌>>◌, refuse◌when◌}
use Rattle.rules.proofs.Steps.{bind_good, bind_refused, when_true, when_false}

pub then_good : {A B : Type 0} (a : A) (y : Checked B) → (good a >> y) ≡ y
unfolding ◌>>◌
then_good a y = refl

pub then_refused : {B : Type 0} (n : Rule) (y : Checked B) → (◌>>◌ {A = Unit {0}} (refused n) y) ≡ refused n
unfolding ◌>>◌
then_refused n y = refl

pub last_true : (n : Rule) → (refuse n when true) ≡ refused n
unfolding refuse◌when◌
last_true n = refl

pub last_false : (n : Rule) → (refuse n when false) ≡ good tt
unfolding refuse◌when◌
last_false n = refl

pub ruleset steps = (then_good, then_refused, last_true, last_false, bind_good, bind_refused, when_true, when_false)
