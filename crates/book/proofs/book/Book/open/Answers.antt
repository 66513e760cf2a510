use Rattle.std.proofs.Common.{Ok, arith, rules, sym, ◌≡◌}
use Rattle.std.proofs.lemmas.Grind.{common_steps}
use Rattle.balance.proofs.Theorem.{moved_goes_on, quiet_goes_on}
use Rattle.balance.specs.Histories.{Opening}
use Rattle.group.proofs.OpeningSound.{opening_sound}
use Rattle.book.proofs.Calls.{opening_goes}
use Rattle.book.proofs.book.Book.open.Goals as goal

pub invariant_of-self : goal.invariant_of-self
invariant_of-self g c = opening_sound c.args.number c.in_ok-month.month c.args.holder c.args.records.now _ (sym c.in_ok-self-inside.ensures)

pub returns-in_err-month-clause-balance : goal.returns-in_err-month-clause-balance
returns-in_err-month-clause-balance g c =
    quiet_goes_on g.R.SharingRule.sharing g.T.Tariff.price g.met.R.SharingRule.keeps_law c.args.self.now (Opening c.args.number c.args.start c.args.holder c.args.records.now _) (search rules)

pub returns-in_err-self-inside-clause-balance : goal.returns-in_err-self-inside-clause-balance
returns-in_err-self-inside-clause-balance g c =
    quiet_goes_on g.R.SharingRule.sharing g.T.Tariff.price g.met.R.SharingRule.keeps_law c.args.self.now (Opening c.args.number c.args.start c.args.holder c.args.records.now _) (search rules)

pub returns-clause-balance : goal.returns-clause-balance
returns-clause-balance g c =
    let same : c.args.self.now.group ≡ c.self.inside.group = grind (arith, common_steps) in
    let goes = opening_goes c.args.number c.args.start c.args.holder c.args.records.now c.args.self.now.group c.in_ok-self-inside.field-0 c.in_ok-month.month (sym c.in_ok-month.ensures.answer) (sym c.in_ok-self-inside.ensures) in
    moved_goes_on g.R.SharingRule.sharing g.T.Tariff.price g.met.R.SharingRule.keeps_law c.args.self.now c.self.inside.rule c.self.inside.tariff c.self.inside.group c.in_ok-self-inside.field-0 (Opening c.args.number c.args.start c.args.holder c.args.records.now (Ok tt)) c.self.view_is (grind (arith, common_steps, goes, same))
