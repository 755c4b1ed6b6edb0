-- Document 01, "The board": "A read of p passed objects reads the largest entries that together cover just the first p places, from the left".
use Rattle.std.specs.Prelude.{ℕ, zero, suc, ◌+◌, ◌-◌, ◌*◌, ◌/◌, ◌^◌, cond, List, leb, ltb}
use Rattle.rules.specs.Refusals.{Checked, good, ◌>>=◌}
use Rattle.entries.specs.Words.{entry_at}
use Rattle.entries.specs.declared.entry.Entry.{Entry}
use Rattle.tree.specs.Limited.{after_of}
use Rattle.tree.specs.declared.first.Prefix.{Prefix}

-- a, and then the entries that cover the first p places from entry x of level n - 1 on, the largest first
unfoldable pub walked : ℕ → List ℕ → ℕ → ℕ → Entry → Checked Entry
walked zero b x p a = good a
walked (suc n) b x p a = cond (leb (2 ^ n) p) (after_of a (entry_at b x) >>= (λ u. walked n b ((x + 1) * 2) (p - 2 ^ n) u)) (walked n b (x * 2) p a)

-- ---- one level, as the code takes it
abbrev pub turned_of : List ℕ → Prefix → Checked Prefix
turned_of b t = cond (ltb t.rest t.width)
    (good (record { x = t.x * 2; width = t.width / 2; rest = t.rest; sum = t.sum }))
    (after_of t.sum (entry_at b t.x) >>= (λ u. good (record { x = (t.x + 1) * 2; width = t.width / 2; rest = t.rest - t.width; sum = u })))
