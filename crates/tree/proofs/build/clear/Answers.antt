-- `clear` is right since n zero entries are a run of zeros.
use Prim.Native.Nat.{ℕ}
use mathlib.Core.Path.{refl, ap, ◌∙◌}
use native.Mathlib.Omega.{arith}
use lib.ListN.{replicate, length-drop}
use Rattle.std.proofs.lemmas.List.{length-take-le}
use Rattle.tree.proofs.Builds.{filled_zeros}
use Rattle.tree.proofs.build.clear.Goals as goal

pub returns : goal.returns
returns c =
    let zeros = c.fill.ensures.after (λ y h. h) in
    filled_zeros c.args.e c.args.n c.args.b.now _ _ _ refl (omega arith) (zeros ∙ ap (λ (m : ℕ). replicate m 0) (length-take-le _ _ (rw length-drop (omega arith)))) (omega arith)
