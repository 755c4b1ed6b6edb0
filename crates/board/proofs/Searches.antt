-- The steps of a search; what it finds passed the last check.
use Prim.Native.Nat.{ℕ, ◌+◌}
use mathlib.Core.Path.{◌≡◌, sym, ap, ◌∙◌}
use mathlib.Core.Bool.{false}
use mathlib.Core.List.{List}
use lib.Ieee.{Float}
use Rattle.rules.specs.Refusals.{Checked, good, refused, BOARD}
use Rattle.entries.specs.Entry.{none}
use Rattle.entries.specs.Scores.{unsound}
use Rattle.entries.specs.declared.entry.Entry.{Entry}
use Rattle.tree.specs.Size.{levels_of}
use Rattle.tree.specs.First.{walked}
use Rattle.board.specs.Search.{starts_in, found_of}
use Rattle.board.specs.declared.search.Starts.{Starts}
use Rattle.board.specs.declared.search.Found.{Found}
use Rattle.board.proofs.Binds.{bound, passed, bind_good, when_false}

abbrev sum_of : Checked Found → Entry
sum_of (refused k) = none
sum_of (good x) = x.sum

-- ---- the steps
module _ (b : List ℕ) (ts : List Float) (n p : ℕ) where
  module _ (sum : Entry) (e : walked (levels_of n + 1) b 1 p none ≡ good sum) where
    module _ (s : Starts) (q : starts_in ts n p ≡ good s) where
      pub finds : unsound sum ≡ false → found_of b ts n p ≡ good (record { sum = sum; starts = s })
      unfolding found_of
      finds h = bind_good (walked (levels_of n + 1) b 1 p none) _ sum e ∙ bind_good (starts_in ts n p) _ s q ∙ when_false BOARD (unsound sum) _ h

  pub found_in : (f : Found) → found_of b ts n p ≡ good f → unsound f.sum ≡ false
  unfolding found_of
  found_in f e =
      let a = bound (walked (levels_of n + 1) b 1 p none) _ f e in
      let c = bound (starts_in ts n p) _ f a.second in
      let d = passed BOARD (unsound a.value) _ f c.second in
      let same : a.value ≡ f.sum = ap (λ (x : Checked Found). sum_of x) d.1 in
      ap unsound (sym same) ∙ d.0
