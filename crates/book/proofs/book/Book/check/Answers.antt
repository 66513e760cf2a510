use Rattle.std.proofs.Common.{arith, refl}
use Rattle.std.proofs.lemmas.Grind.{common_steps}
use Rattle.balance.proofs.Theorem.{quiet_goes_on}
use Rattle.balance.specs.Histories.{Checking}
use Rattle.book.proofs.book.Book.check.Goals as goal

pub returns-clause-balance : goal.returns-clause-balance
returns-clause-balance g c = quiet_goes_on g.R.SharingRule.sharing g.T.Tariff.price g.met.R.SharingRule.keeps_law c.args.self.now (Checking c.args.draft c.is_current-current.result) (grind (arith, common_steps), refl)
