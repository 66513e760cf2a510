use Rattle.std.proofs.Common.{◌-◌, length}
use Rattle.settlement.proofs.Stepping.{entered}
use Rattle.settlement.proofs.step.enter.Goals as goal

pub returns-clause-done : goal.returns-clause-done
returns-clause-done g c =
    entered (g.R.SharingRule.sharing c.args.book.now.rule) (g.T.Tariff.price c.args.book.now.tariff) (length c.args.out.now - c.args.at) c.args.entry c.args.book.now.group c.enter.new.self.group c.args.out.now c.args.at
    c.in_ok-enter.ensures.group
