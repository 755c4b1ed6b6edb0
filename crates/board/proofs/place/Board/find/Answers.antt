-- The sum is of a board with room for the map.
use native.Mathlib.Omega.{arith}
use mathlib.Core.Path.{ap}
use Prim.Native.Nat.{ℕ, ◌^◌}
use Rattle.tree.proofs.Levels.{levels_hold}
use Rattle.board.proofs.place.Board.find.Goals as goal

pub quick_sum_of_first-requires : goal.quick_sum_of_first-requires
quick_sum_of_first-requires c =
    let room = c.args.self.now.holds in
    let places = levels_hold c.args.self.now.count room.few in
    let cap = ap (λ (l : ℕ). 2 ^ l) room.levels in
    let words = room.words in
    (omega (arith, cap, places, c.requires), omega (arith, cap, words))
