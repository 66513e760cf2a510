use Rattle.settlement.proofs.Settling.{settled}
use Rattle.settlement.proofs.setup.settle.Goals as goal

pub returns : goal.returns
returns g c =
    settled g.R.SharingRule.sharing g.T.Tariff.price c.args.setup c.in_ok-book.book c.run.new.book c.args.journal.now c.args.out.now c.run.result c.run.new.out c.in_ok-book.ensures.opened c.run.ensures.outcome c.run.ensures.terms c.run.ensures.balance
