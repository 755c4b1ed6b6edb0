-- What holds of a checked value where it is good, through the steps of a `do` block.
use mathlib.Core.Path.{◌≡◌, refl}
use mathlib.Core.Bool.{Bool, true, false}
use Rattle.rules.specs.Refusals.{Checked, good, refused, ◌>>=◌, ◌>>◌, refuse◌when◌, pick}
use Rattle.rules.specs.declared.refusal.Rule.{Rule}

pub data All {A : Type 0} (P : A → Type 0) : Checked A → Type 0 where
  none : {n : Rule} → All P (refused n)
  that : {a : A} → P a → All P (good a)

pub all_bind : {A B : Type 0} {P : A → Type 0} {Q : B → Type 0} (x : Checked A) (f : A → Checked B) → All P x → ((a : A) → P a → All Q (f a)) → All Q (x >>= f)
unfolding ◌>>=◌
all_bind (refused n) f none k = none
all_bind (good a) f (that p) k = k a p

pub all_any : {A B : Type 0} {Q : B → Type 0} (x : Checked A) (f : A → Checked B) → ((a : A) → All Q (f a)) → All Q (x >>= f)
unfolding ◌>>=◌
all_any (refused n) f k = none
all_any (good a) f k = k a

pub all_when : {B : Type 0} {Q : B → Type 0} (n : Rule) (b : Bool) (y : Checked B) → (b ≡ false → All Q y) → All Q ((refuse n when b) >> y)
unfolding ◌>>◌ refuse◌when◌
all_when n true y k = none
all_when n false y k = k refl

pub all_pick : {A : Type 0} {Q : A → Type 0} (b : Bool) {x y : Checked A} → (b ≡ true → All Q x) → (b ≡ false → All Q y) → All Q (pick b x y)
all_pick true p q = p refl
all_pick false p q = q refl

pub all_map : {A : Type 0} {P Q : A → Type 0} (x : Checked A) → All P x → ((a : A) → P a → Q a) → All Q x
all_map (refused n) none k = none
all_map (good a) (that p) k = that (k a p)

-- the fact, of a value that is known
pub all_out : {A : Type 0} {P : A → Type 0} {a : A} → All P (good a) → P a
all_out (that p) = p
