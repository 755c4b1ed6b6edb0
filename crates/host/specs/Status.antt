-- What the calls on a board take and answer: how much memory is lent, and a number and an offset.
use Rattle.std.specs.Prelude.{ℕ, ◌*◌, List, ltb, Float}
use Rattle.rules.specs.Limits.{max_objects}
use Rattle.entries.specs.Entry.{place_words}
use Rattle.rules.specs.Refusals.{OrRefusal, good, refused, number_of, pick}
use Rattle.rules.specs.declared.refusal.Refusal.{Refusal}
use Rattle.tree.specs.Size.{cap_of}
use Rattle.host.specs.declared.status.Status.{Status}

-- "11: the board has fewer than 26 × C words": that many. No map has more than 8,192 objects, and there it is 0
abbrev pub board_words : ℕ → ℕ
board_words n = pick (ltb max_objects n) 0 (place_words * cap_of n)

-- of a refused call
abbrev pub status_refused : Refusal → Status
status_refused r = record { status = number_of r.rule; offset = r.offset }

-- of a call: 0, or the number of its refusal and the offset
abbrev pub status_of : {A : Type 0} → OrRefusal A → Status
status_of (good _) = record { status = 0; offset = 0 }
status_of (refused r) = status_refused r

-- that, with what the board and the start table hold at last
abbrev pub status_left : OrRefusal (Unit {0}) × List ℕ × List Float → Status × List ℕ × List Float
status_left (w, b, ts) = (status_of w, b, ts)
