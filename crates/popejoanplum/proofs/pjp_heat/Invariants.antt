-- Each turn puts the next play's answer, which is the single call's, over its outcome, and a turn runs for each play that is due (`Loop` of the crate
-- `heat`). Assumes nothing.
use Rattle.std.proofs.Common.{◌≡◌}
use Rattle.map_file.specs.File.{file_of}
use Rattle.scoring.specs.Scores.{scores_of}
use Rattle.heat.proofs.Loop.{outcomes_after}
use Rattle.popejoanplum.proofs.pjp_heat.Given as goal

abbrev pub invariant-loop-i : goal.invariant-loop-i
invariant-loop-i l = l.outcomes ≡ outcomes_after (scores_of (file_of l.file)) l.plays l.initial.outcomes l.i
