use native.Mathlib.Omega.{arith}
use Rattle.map_file.proofs.Steps.{rest_is}
use Rattle.board_build.proofs.LayingRight.{laying_start, laying_inside, laying_room, laying_ahead, laying_object, laying_end}
use Rattle.board_build.proofs.lay.Goals as goal

pub loop-place-init : goal.loop-place-init
loop-place-init c = laying_start c.requires _ c.objects_from-at.ensures

pub slice_bounds-r-start : goal.slice_bounds-r-start
slice_bounds-r-start c = let i = laying_inside c.loop-place.invariant c.loop-place-test.true in omega (arith, i)

pub slice_bounds-r-count : goal.slice_bounds-r-count
slice_bounds-r-count c = let i = laying_inside c.loop-place.invariant c.loop-place-test.true in omega (arith, i)

pub lay_object-at-requires : goal.lay_object-at-requires
lay_object-at-requires c =
    laying_room c.loop-place.invariant c.loop-place-test.true (rest_is c.args.file.now c.loop-place.at)

pub overflow_add-at : goal.overflow_add-at
overflow_add-at c =
    let i = laying_ahead c.loop-place.invariant c.loop-place-test.true (rest_is c.args.file.now c.loop-place.at) c.lay_object-at.ensures in
    omega (arith, i)

pub loop-place-preserved : goal.loop-place-preserved
loop-place-preserved c =
    laying_object c.loop-place.invariant c.loop-place-test.true (rest_is c.args.file.now c.loop-place.at) c.lay_object-at.ensures

pub returns : goal.returns
returns c = laying_end c.loop-place.invariant c.loop-place-test.false
