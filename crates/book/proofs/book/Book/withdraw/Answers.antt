use Rattle.std.proofs.Common.{refl}
use Rattle.balance.proofs.Theorem.{quiet_goes_on}
use Rattle.balance.specs.Histories.{Withdrawing}
use Rattle.book.proofs.book.Book.withdraw.Goals as goal

pub returns : goal.returns
returns g c = record {
  balance = quiet_goes_on g.R.SharingRule.sharing g.T.Tariff.price g.met.R.SharingRule.keeps_law c.args.self.now (Withdrawing c.args.draft) refl;
}
