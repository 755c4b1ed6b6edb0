use Rattle.std.proofs.Common.{arith}
use Rattle.map_file.specs.File.{file_of}
use Rattle.heat.proofs.Loop.{one_more, all_done}
use Rattle.popejoanplum.proofs.pjp_heat.Goals as goal

pub loop-i-preserved : goal.loop-i-preserved
loop-i-preserved c =
    one_more (file_of c.args.file.now) c.args.plays.now c.args.outcomes.now c.heat_start-start.result c.heat_start-start.ensures c.due-n.result c.due-n.ensures
    c.loop-i.i _ c.loop-i.outcomes c.heat_one.result (omega arith) c.loop-i.invariant c.heat_one.ensures

pub returns : goal.returns
returns c =
    all_done (file_of c.args.file.now) c.args.plays.now c.args.outcomes.now c.heat_start-start.result c.heat_start-start.ensures c.due-n.result c.due-n.ensures
    c.loop-i.i c.loop-i.outcomes c.heat_status.result (omega arith) c.loop-i-test.false c.loop-i.invariant c.heat_status.ensures
