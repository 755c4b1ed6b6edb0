-- The bonus of a record by its content, and by what the code keeps of it; one without any passes its check.
use mathlib.Core.Path.{◌≡◌, refl}
use native.Mathlib.Omega.{arith}
use Prim.Native.Nat.{◌+◌, ◌≤◌}
use borrow.Author.Tests.{le-ltb}
use Rattle.rules.specs.Limits.{max_bonus}
use Rattle.rules.specs.Refusals.{good, refused, ◌>>=◌, ◌>>◌, refuse◌when◌, BONUS}
use Rattle.rules.proofs.All.{All, all_out}
use Rattle.records.specs.Objects.{circle, slider, spinner, Kind, kind_view, kind_bonus}
use Rattle.records.specs.Records.{Content, header, break, object, play, FoundRecord, content_view}
use Rattle.map_file.specs.Order.{over_bonus, content_bonus}
use Rattle.map_file.specs.declared.file.Counts.{Counts}
use Rattle.map_file.specs.View.{bonus_in, kind_bonus_in}

pub bonus_kept : (x : Content) → bonus_in (content_view x) ≡ content_bonus x
bonus_kept (header s) = refl
bonus_kept (break b) = refl
bonus_kept (object o) = kept o.kind
  where
    kept : (k : Kind) → kind_bonus_in (kind_view k) ≡ kind_bonus k
    kept circle = refl
    kept (slider is) = refl
    kept (spinner d) = refl
bonus_kept (play p) = refl

pub no_bonus : (c : Counts) → c.bonus ≤ max_bonus → (x : FoundRecord) → All (λ f. content_bonus f.0 ≡ 0) x
    → (x >>= (λ f. (refuse BONUS when over_bonus c (content_bonus f.0)) >> good f)) ≡ x
unfolding ◌>>=◌ ◌>>◌ refuse◌when◌
no_bonus c low (refused n) a = refl
no_bonus c low (good f) a = rw (le-ltb max_bonus (c.bonus + content_bonus f.0) (omega (arith, all_out a, low)))
