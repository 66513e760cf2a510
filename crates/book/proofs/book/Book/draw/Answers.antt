use Rattle.std.proofs.Common.{◌≡◌, Ok, arith, length, refl, rules}
use Rattle.std.proofs.lemmas.Grind.{common_steps}
use Rattle.balance.proofs.Theorem.{quiet_goes_on}
use Rattle.balance.specs.Balances.{bills_in}
use Rattle.balance.specs.Histories.{Drawing}
use Rattle.book.proofs.Posted.{drawing_is}
use Rattle.book.proofs.book.Book.draw.Goals as goal

pub returns-in_err-month-clause-balance : goal.returns-in_err-month-clause-balance
returns-in_err-month-clause-balance g c =
    quiet_goes_on g.R.SharingRule.sharing g.T.Tariff.price g.met.R.SharingRule.keeps_law c.args.self.now (Drawing _ _) (search rules)

pub returns-clause-balance : goal.returns-clause-balance
returns-clause-balance g c =
    let book = c.args.self.now in
    let same : c.self.inside.group ≡ book.group = grind (arith, common_steps) in
    let draws = drawing_is (g.R.SharingRule.sharing book.rule) (g.T.Tariff.price book.tariff) (length c.args.bills.now) book.group c.in_ok-month.month c.write_bills.new.bills c.args.bills.now c.of.result (grind (arith, common_steps)) (grind (arith, common_steps)) (grind (arith, common_steps)) in
    quiet_goes_on g.R.SharingRule.sharing g.T.Tariff.price g.met.R.SharingRule.keeps_law book (Drawing (length c.args.bills.now) (Ok (c.of.result, bills_in book.group c.write_bills.new.bills))) (draws, refl)
