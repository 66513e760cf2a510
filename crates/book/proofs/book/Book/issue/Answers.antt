use Rattle.std.proofs.Common.{◌≡◌, ◌∙◌, true, Ok, arith, length, rules, subst, sym}
use Rattle.std.proofs.lemmas.Grind.{common_steps}
use Rattle.balance.proofs.Theorem.{moved_goes_on, quiet_goes_on}
use Rattle.balance.specs.Balances.{bills_in}
use Rattle.balance.specs.Histories.{Issuing}
use Rattle.group.specs.Drafts.{drawing_month, is_current}
use Rattle.group.specs.declared.group.Group.{Group}
use Rattle.group.specs.declared.group.Phase.TheVariants.{Open}
use Rattle.book.proofs.Calls.{issue_goes}
use Rattle.group.proofs.MonthsSound.{month_sound}
use Rattle.group.specs.Sound.{IsSound}
use Rattle.book.proofs.Posted.{issued_told}
use Rattle.book.proofs.book.Book.issue.Goals as goal

-- no issue leaves the ranges of the figures
pub invariant_of-self : goal.invariant_of-self
invariant_of-self g c =
    let rule = c.self.inside.rule in
    let tariff = c.self.inside.tariff in
    let group = c.self.inside.group in
    let month = c.in_ok-month.month in
    let share = g.R.SharingRule.sharing rule in
    let prices = g.T.Tariff.price tariff in
    let same : c.args.self.now.group ≡ group = grind (arith, common_steps) in
    let opened : group.phase ≡ Open month = subst (λ (g : Group). g.phase ≡ Open month) same c.in_ok-month.ensures.phase.0 in
    let P : Group → Type 0 = λ g. IsSound g in
    subst P (sym c.issue_bills.ensures.group) (month_sound share (g.met.R.SharingRule.keeps_law rule) prices month (g.met.T.Tariff.bounded tariff month) group opened c.self.invariant)

pub returns-in_err-month-clause-balance : goal.returns-in_err-month-clause-balance
returns-in_err-month-clause-balance g c =
    quiet_goes_on g.R.SharingRule.sharing g.T.Tariff.price g.met.R.SharingRule.keeps_law c.args.self.now (Issuing c.args.draft _ _) (search rules)

pub returns-clause-balance : goal.returns-clause-balance
returns-clause-balance g c =
    let group = c.self.inside.group in
    let month = c.in_ok-month.month in
    let share = g.R.SharingRule.sharing c.self.inside.rule in
    let prices = g.T.Tariff.price c.self.inside.tariff in
    let same : group ≡ c.args.self.now.group = grind (arith, common_steps) in
    let (draws, current) = issue_goes (length c.args.bills.now) c.is_current-current.result c.args.self.now.group month (sym c.in_ok-month.ensures.answer) in
    let goes = subst (λ (g : Group). drawing_month (length c.args.bills.now) g ≡ Ok month) (sym same) draws in
    let now : is_current group c.args.draft ≡ true = subst (λ (g : Group). is_current g c.args.draft ≡ true) (sym same) (sym c.is_current-current.ensures ∙ current) in
    let told = issued_told share prices c.args.draft (length c.args.bills.now) group c.args.self.now.group month c.issue_bills.new.bills c.args.bills.now c.issue_bills.new.group same goes now c.issue_bills.ensures.bills c.issue_bills.ensures.group in
    moved_goes_on g.R.SharingRule.sharing g.T.Tariff.price g.met.R.SharingRule.keeps_law c.args.self.now c.self.inside.rule c.self.inside.tariff group c.issue_bills.new.group (Issuing c.args.draft (length c.args.bills.now) (Ok (bills_in c.args.self.now.group c.issue_bills.new.bills))) c.self.view_is told
