use Rattle.std.proofs.Common.{arith}
use Rattle.std.proofs.lemmas.Grind.{common_steps}
use Rattle.billing.specs.Zones.{SplitsPool}
use Rattle.billing.proofs.Balance.{balances}
use Rattle.billing.proofs.Pools.{pool_is}
use Rattle.billing.proofs.zone.settle_zone.Goals as goal

pub returns-clause-settled : goal.returns-clause-settled
returns-clause-settled g c = grind (arith, common_steps, pool_is)

pub returns-clause-balances : goal.returns-clause-balances
returns-clause-balances g c =
    let share = g.R.SharingRule.sharing c.args.rule.now in
    let posted : SplitsPool share c.args.carried c.args.nets.now c.left_of.result c.share.new.shares c.bill.new.billed = grind (arith, common_steps, pool_is) in
    balances share (g.met.R.SharingRule.keeps_law c.args.rule.now) _ _ _ _ _ posted
