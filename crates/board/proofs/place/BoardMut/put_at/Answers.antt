-- A place below the count has its entry, its words and its start.
use native.Mathlib.Omega.{arith}
use mathlib.Core.Path.{ap}
use Prim.Native.Nat.{ℕ, ◌^◌}
use Rattle.tree.proofs.Levels.{levels_hold}
use Rattle.board.proofs.place.BoardMut.put_at.Goals as goal

pub put_at-requires : goal.put_at-requires
put_at-requires c =
    let room = c.args.self.now.holds in
    let places = levels_hold c.args.self.now.count room.few in
    let cap = ap (λ (l : ℕ). 2 ^ l) room.levels in
    let words = room.words in
    omega (arith, c.cap-cap.ensures, cap, places, words, c.requires)
