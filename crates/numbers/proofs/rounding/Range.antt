-- What is above 2 ^ 31 does not matter to an i32. Assumes nothing.
use Rattle.std.proofs.Common.{◌≡◌, ℕ, ◌^◌, min, Bool, true, false, pos, neg_ℤ, ap, arith}
use Rattle.numbers.specs.Rounding.{saturated}

pub saturated_min : (s : Bool) (n : ℕ) → saturated s (min n (2 ^ 31)) ≡ saturated s n
saturated_min true n = ap (λ (k : ℕ). neg_ℤ (pos k)) (omega arith)
saturated_min false n = ap pos (omega arith)
