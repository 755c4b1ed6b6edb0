-- The check of an entry as read, and what goes on with the entry behind it.
use mathlib.Core.Path.{◌≡◌, refl}
use mathlib.Core.Bool.{Bool, true, false, not}
use Rattle.rules.specs.Refusals.{Checked, good, ◌>>=◌, ◌>>◌, refuse◌when◌, BOARD}
use Rattle.rules.proofs.Laws.{never}
use Rattle.entries.specs.Entry.{in_limits, checked}
use Rattle.entries.specs.declared.entry.Entry.{Entry}

pub check_first : {B : Type 0} (e : Entry) (f : Entry → Checked B) → ((refuse BOARD when not (in_limits e)) >> f e) ≡ (checked e >>= f)
unfolding checked ◌>>=◌ ◌>>◌ refuse◌when◌
check_first e f = go (in_limits e)
  where
    go : (t : Bool) → ((refuse BOARD when not t) >> f e) ≡ (((refuse BOARD when not t) >> good e) >>= f)
    go true = refl
    go false = refl

pub record Passed (e u : Entry) : Type 0 where
  pub within : in_limits e ≡ true
  pub same : u ≡ e

pub passed : (e u : Entry) → good u ≡ checked e → Passed e u
unfolding checked ◌>>◌ refuse◌when◌
passed e u h = go (in_limits e) refl h
  where
    go : (t : Bool) → in_limits e ≡ t → good u ≡ ((refuse BOARD when not t) >> good e) → Passed e u
    go false q h = never (cc)
    go true q h = record { within = q; same = cc }
