use Rattle.std.proofs.Common.{◌≡◌, ◌∙◌, ◌-◌, ◌/◌, arith, rules}
use Rattle.rules.specs.Refusals.{refused}
use Rattle.tree.specs.Put.{climbed}
use Rattle.tree.proofs.Climbs.{climbing, told_stop}
use Rattle.tree.proofs.put.+climb.Goals as goal

pub returns-in_err-climb-clause-value : goal.returns-in_err-climb-clause-value
returns-in_err-climb-clause-value t c =
    let up : c.from_residual-in_err-climb.result ≡ refused c.in_err-climb.field-0.0 = search rules in
    let stop = told_stop (climbed (c.args.levels - 1) c.args.b.now (c.args.e / 2) c.in_ok-joined.joined) c.in_err-climb.field-0.0 (search rules) in
    up ∙ grind (arith, climbing)
