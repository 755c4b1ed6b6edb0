-- Document 01, "The board": "C is the smallest power of two not below max(1, object count)".
use Rattle.std.specs.Prelude.{ℕ, zero, suc, ◌^◌, cond, leb}
use Rattle.rules.specs.Limits.{max_levels}

-- the least l, of at most k more, with n ≤ 2 ^ l
unfoldable pub levels_from : ℕ → ℕ → ℕ → ℕ
levels_from zero n l = l
levels_from (suc k) n l = cond (leb n (2 ^ l)) l (levels_from k n (suc l))

unfoldable pub levels_of : ℕ → ℕ
levels_of n = levels_from max_levels n 0

abbrev pub cap_of : ℕ → ℕ
cap_of n = 2 ^ levels_of n
