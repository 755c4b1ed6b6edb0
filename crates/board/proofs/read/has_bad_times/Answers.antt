-- `any` over the times with the definition's test, which recurses as the definition does.
use Rattle.std.proofs.Common.{◌∙◌, ◌||◌, refl, rules, tests}
use Rattle.std.specs.List.{list_any}
use Rattle.std.proofs.lemmas.Iterator.{YieldsList-from_slice}
use Rattle.std.proofs.lemmas.Iterator.Search.{any_from_yields_List}
use Rattle.std.proofs.lemmas.List.Recursion.{same_from_clauses}
use Rattle.board.specs.Search.{time_bad}
use Rattle.board.specs.Read.{times_bad}
use Rattle.board.proofs.read.has_bad_times.Goals as goal

pub returns : goal.returns
unfolding times_bad
returns c =
    let times = c.args.times.now in
    any_from_yields_List time_bad _ _ _ c.any.ensures.ran (YieldsList-from_slice times cc) (λ x b q k. search (rules, tests))
    ∙ same_from_clauses (list_any time_bad) times_bad (λ x b. time_bad x || b) refl (λ _ _. refl) (λ _ _. refl) times
