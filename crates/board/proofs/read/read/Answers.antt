-- Settings that pass are in their range, there is room for the board, and a call that is refused refuses the read.
use Rattle.std.proofs.Common.{rules}
use Rattle.rules.proofs.Laws.{so}
use Rattle.board.specs.Read.{read_of}
use Rattle.board.proofs.Steps.{steps}
use Rattle.board.proofs.Rooms.{told_refused, told_is}
use Rattle.board.proofs.Readings.{settings_pass}
use Rattle.board.proofs.read.read.Goals as goal

pub returns-in_err-size-clause-value : goal.returns-in_err-size-clause-value
unfolding read_of
returns-in_err-size-clause-value c =
    let room = told_refused c.args.board.now c.args.starts.now c.args.count _ (so c.in_err-size.was c.room_for.ensures) in
    search (rules, steps)

pub invariant_of-map : goal.invariant_of-map
invariant_of-map c = record {
  in_range = settings_pass c.args.settings c.args.breaks.now (so c.has_bad_arguments.ensures c.if-has_bad_arguments.false);
  few = c.if-breaks-gt-MAX_BREAK_TIMES.false;
}

pub invariant_of-lent : goal.invariant_of-lent
invariant_of-lent c = record {
  holds = (told_is c.args.board.now c.args.starts.now c.args.count _ (so c.in_ok-size.was c.room_for.ensures)).1;
}

pub returns-in_err-read_in-clause-value : goal.returns-in_err-read_in-clause-value
unfolding read_of
returns-in_err-read_in-clause-value c =
    let room = told_is c.args.board.now c.args.starts.now c.args.count _ (so c.in_ok-size.was c.room_for.ensures) in
    search (rules, steps)
