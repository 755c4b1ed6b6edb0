-- `fill` is right since its three steps are those of the definition, in its order.
use Prim.Native.Nat.{◌+◌, ◌-◌}
use mathlib.Core.Path.{◌≡◌, sym, ap, ◌∙◌, subst}
use borrow.Author.Rules.{rules}
use Rattle.tree.specs.Build.{cleared, emptied, raised, Raises, filled}
use Rattle.tree.proofs.build.fill.Goals as goal
use Rattle.tree.proofs.build.fill.Goals.{After-clear-2}

-- the words once the last entry is cleared
emptied_all : (c : After-clear-2) → c.clear-2.new.b ≡ emptied c.args.cap c.args.count c.args.b.now
unfolding cleared
emptied_all c = c.clear-2.ensures ∙ ap (cleared (c.args.cap + c.args.count) (c.args.cap - c.args.count)) c.clear.ensures

pub raise-requires : goal.raise-requires
raise-requires c =
    (search rules, subst (Raises (c.args.cap - 1)) (sym (emptied_all (goal.at.raise-requires c).After-clear-2)) c.requires.3)

pub returns : goal.returns
unfolding filled
returns c = c.raise.ensures ∙ ap (raised (c.args.cap - 1)) (emptied_all (goal.at.returns c).After-clear-2)
