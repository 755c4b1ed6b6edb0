-- What a list leaves, by name: the end of the claim for a whole list. Assumes nothing.
use Rattle.rules.specs.Refusals.{good}
use mathlib.Core.List.{List, [], ◌∷◌}
use mathlib.Core.Path.{◌≡◌}
use Prim.Native.Nat.{ℕ, ◌*◌}
use lib.Ieee.{Float}
use lib.ListN.{length, drop}
use Rattle.map_file.specs.File.{Map, file_of}
use Rattle.scoring.specs.Scores.{scores_of}
use Rattle.entries.specs.Entry.{place_words}
use Rattle.tree.specs.Size.{cap_of}
use Rattle.board_build.specs.Build.{built}
use Rattle.demands.specs.Calls.{AcceptedMap, map_in, Lent, lent_for, lent_by, Call, lent_after, lent_after_all, map_after, map_after_all, MayStand, Right}
use Rattle.demands.proofs.CallsRight.{calls_right}

-- of any map and memory from which every call is right
pub left_at_last : (words : List ℕ) (numbers : List Float) (cs : List Call) (m : Map) (l : Lent) → Right words numbers cs m l
    → AcceptedMap (map_after_all cs m) × (lent_after_all cs l ≡ lent_for (map_after_all cs m) words numbers)
left_at_last words numbers [] m l r = r
left_at_last words numbers (c ∷ cs) m l r = left_at_last words numbers cs (map_after c m) (lent_after c l) r.1

-- "after it the board is, entry for entry, and the start table, number for number, that of the map as the list has left it", which is accepted; what
-- lay beyond both is as it was
pub left_by_a_list : (s : List ℕ) (b : List ℕ) (ts : List Float) (cs : List Call)
    → (built (scores_of (file_of s)) b ts).0 ≡ good tt
    → MayStand cs (map_in (file_of s)) (lent_by s b ts)
    → AcceptedMap (map_after_all cs (map_in (file_of s)))
    × (lent_after_all cs (lent_by s b ts)
    ≡ lent_for (map_after_all cs (map_in (file_of s))) (drop (place_words * cap_of (length (map_in (file_of s)).objects)) b) (drop (length (map_in (file_of s)).objects) ts))
left_by_a_list s b ts cs e stand = left_at_last _ _ cs (map_in (file_of s)) (lent_by s b ts) (calls_right s b ts cs e stand)
