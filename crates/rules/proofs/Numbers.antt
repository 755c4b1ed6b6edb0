-- No rule has the number of a good call.
use Prim.Native.Nat.{◌≤◌}
use native.Mathlib.Omega.{arith}
use Rattle.rules.specs.Refusals.{number_of}
use Rattle.rules.specs.declared.refusal.Rule.{Rule}
use Rattle.rules.specs.declared.refusal.Rule.TheVariants as rule

pub number_above_0 : (n : Rule) → 1 ≤ number_of n
number_above_0 rule.Input = omega arith
number_above_0 n = omega arith
