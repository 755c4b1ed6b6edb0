-- `build` is right since nothing is written before the last check, and then the objects' own entries, their starts and what lies above.
use Rattle.std.proofs.Common.{◌≡◌, rules}
use Rattle.rules.specs.Refusals.{refused, refusal_at}
use Rattle.rules.proofs.Laws.{so}
use Rattle.board_build.proofs.BuiltRight.{no_room, build_lays, build_fills, build_done}
use Rattle.board_build.proofs.build.Goals as goal

pub returns-in_err-size : goal.returns-in_err-size
returns-in_err-size c =
    let up : c.from_residual-in_err-size.result ≡ refused (refusal_at c.in_err-size.field-0.0 0) = search rules in
    rw up (no_room c.args.file.now c.args.board.now c.args.starts.now c.in_ok-map.ensures _ (so c.in_err-size.was c.room_for.ensures))

pub lay-requires : goal.lay-requires
lay-requires c =
    build_lays c.args.file.now c.args.board.now c.args.starts.now c.in_ok-map.ensures _ _ c.cap-cap.ensures.0 (so c.in_ok-size.was c.room_for.ensures)

pub fill-requires : goal.fill-requires
fill-requires c =
    build_fills c.args.file.now c.args.board.now c.args.starts.now c.in_ok-map.ensures _ _ c.cap-cap.ensures.0 (so c.in_ok-size.was c.room_for.ensures) _ _ c.lay.ensures

pub returns : goal.returns
returns c =
    build_done c.args.file.now c.args.board.now c.args.starts.now c.in_ok-map.ensures _ _ c.cap-cap.ensures.0 (so c.in_ok-size.was c.room_for.ensures) _ _ c.lay.ensures _ c.fill.ensures
