use Rattle.std.proofs.Common.{◌≡◌, Ok, subst, arith, rules}
use Rattle.std.proofs.lemmas.Grind.{common_steps}
use Rattle.group.specs.declared.group.Group.{Group}
use Rattle.group.specs.declared.group.Phase.TheVariants.{YearEnd}
use Rattle.group.proofs.Changes.{closing_alters}
use Rattle.group.proofs.YearsSound.{year_sound}
use Rattle.group.specs.Sound.{IsSound}
use Rattle.balance.proofs.Theorem.{moved_goes_on, quiet_goes_on}
use Rattle.balance.specs.Histories.{Closing}
use Rattle.book.proofs.Paid.{closed_is}
use Rattle.book.proofs.book.Book.close_year.Goals as goal

-- no closing leaves the ranges of the figures
pub invariant_of-self : goal.invariant_of-self
invariant_of-self g c =
    let tariff = c.self.inside.tariff in
    let group = c.self.inside.group in
    let prices = g.T.Tariff.price tariff in
    let december = c.in_ok-december.december in
    let is = closed_is prices december group c.post_year.new.group c.year_end.result.1 c.post_year.ensures c.year_end.ensures.holder in
    let same : c.args.self.now.group ≡ group = grind (arith, common_steps) in
    let ended : group.phase ≡ YearEnd december = subst (λ (g : Group). g.phase ≡ YearEnd december) same c.in_ok-december.ensures.phase in
    let P : Group → Type 0 = λ g. IsSound g in
    subst P is (year_sound prices december (g.met.T.Tariff.bounded tariff december) group c.self.invariant ended)

pub returns-in_err-december-clause-balance : goal.returns-in_err-december-clause-balance
returns-in_err-december-clause-balance g c = quiet_goes_on g.R.SharingRule.sharing g.T.Tariff.price g.met.R.SharingRule.keeps_law c.args.self.now (Closing _) (search rules)

pub returns-clause-balance : goal.returns-clause-balance
returns-clause-balance g c =
    moved_goes_on g.R.SharingRule.sharing g.T.Tariff.price g.met.R.SharingRule.keeps_law c.args.self.now c.self.inside.rule c.self.inside.tariff c.self.inside.group c.post_year.new.group (Closing (Ok c.year_end.result.0)) c.self.view_is (grind (arith, common_steps))

pub returns-clause-holder : goal.returns-clause-holder
returns-clause-holder g c =
    closing_alters (g.T.Tariff.price c.args.self.now.tariff) c.args.self.now.group c.post_year.new.group (Ok c.year_end.result.0) (grind (arith, common_steps))
