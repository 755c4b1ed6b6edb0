-- Each return is a step of the definition; the object's own entry is within the limits.
use Rattle.std.proofs.Common.{rules}
use mathlib.Core.Path.{◌≡◌, sym, ap, ◌∙◌, subst}
use Prim.Native.Nat.{◌≤◌}
use Rattle.rules.specs.Limits.{max_nested}
use Rattle.rules.specs.Refusals.{good}
use Rattle.records.specs.declared.hit_object.HitObject.{HitObject}
use Rattle.rules.proofs.Laws.{so}
use Rattle.simulator.specs.Limits.{nested_count}
use Rattle.simulator.proofs.Few.{kind_few}
use Rattle.entries.specs.Entry.{in_limits}
use Rattle.board.specs.Edit.{edit_of}
use Rattle.board.proofs.Steps.{steps}
use Rattle.board.proofs.Rooms.{told_refused, told_is}
use Rattle.board.proofs.Edits as edits
use Rattle.board.proofs.edit.edit.Goals as goal

pub returns-in_err-size : goal.returns-in_err-size
unfolding edit_of
returns-in_err-size c =
    let room = told_refused c.args.board.now c.args.starts.now c.args.count _ (so c.in_err-size.was c.room_for.ensures) in
    search (rules, steps)

pub returns-in_err-object : goal.returns-in_err-object
unfolding edit_of
returns-in_err-object c =
    let room = told_is c.args.board.now c.args.starts.now c.args.count _ (so c.in_ok-size.was c.room_for.ensures) in
    let bad = edits.not_alone c.args.bytes.now _ (so c.in_err-object.was c.read_alone.ensures) in
    search (rules, steps)

pub own-requires : goal.own-requires
own-requires c =
    let found = edits.is_alone c.args.bytes.now _ (so c.in_ok-object.was c.read_alone.ensures) in
    subst (λ (h : HitObject). nested_count h.kind ≤ max_nested) (sym found.same) (kind_few found.found.kind found.within.kind)

pub invariant_of-entry : goal.invariant_of-entry
invariant_of-entry c =
    let found = edits.is_alone c.args.bytes.now _ (so c.in_ok-object.was c.read_alone.ensures) in
    ap in_limits c.own.ensures ∙ edits.own_within c.args.bytes.now _ found

pub invariant_of-lent : goal.invariant_of-lent
invariant_of-lent c = record {
  holds = (told_is c.args.board.now c.args.starts.now c.args.count _ (so c.in_ok-size.was c.room_for.ensures)).1;
}

pub returns-in_err-put_at : goal.returns-in_err-put_at
returns-in_err-put_at c =
    let room = told_is c.args.board.now c.args.starts.now c.args.count _ (so c.in_ok-size.was c.room_for.ensures) in
    let found = edits.is_alone c.args.bytes.now _ (so c.in_ok-object.was c.read_alone.ensures) in
    let left = edits.left c.args.board.now c.args.starts.now c.args.count c.args.place c.args.bytes.now room.0 c.if-count-place.false _ room.1 _ found _ c.own.ensures _ _ _ c.put_at.ensures.value in
    search rules

pub returns : goal.returns
returns c =
    let room = told_is c.args.board.now c.args.starts.now c.args.count _ (so c.in_ok-size.was c.room_for.ensures) in
    let found = edits.is_alone c.args.bytes.now _ (so c.in_ok-object.was c.read_alone.ensures) in
    let done : c.put_at.result ≡ good tt = search rules in
    let left = rw done at (edits.left c.args.board.now c.args.starts.now c.args.count c.args.place c.args.bytes.now room.0 c.if-count-place.false _ room.1 _ found _ c.own.ensures _ _ _ c.put_at.ensures.value) in
    search rules
