use Rattle.std.proofs.Common.{◌≡◌, ℤ, arith, of_z, rules, subst, to_z, w32}
use Rattle.std.proofs.lemmas.Grind.{common_steps}
use Rattle.std.proofs.lemmas.Int.{to_z-of_z}
use Rattle.balance.proofs.Theorem.{moved_goes_on, quiet_goes_on}
use Rattle.balance.specs.Histories.{Entering}
use Rattle.group.proofs.Changes.{entry_alters}
use Rattle.group.proofs.EntriesSound.{entry_follows, open_follows}
use Rattle.group.specs.Changes.{EntersOne}
use Rattle.group.specs.Groups.{entry_result}
use Rattle.group.specs.declared.group.Group.{Group}
use Rattle.group.specs.Members.{on_register}
use Rattle.group.specs.Registers.{with_correction}
use Rattle.group.specs.Results.{Follows}
use Rattle.ledger.specs.declared.entry.Entry.TheVariants.{Reading, Change, Correction, Payment}
use Rattle.book.proofs.book.Book.enter.Goals as goal

-- no entry leaves the ranges of the figures
pub invariant_of-self : goal.invariant_of-self
invariant_of-self g c =
    let e = c.in-Open-Reading in
    let entry = Reading e.register e.day e.value in
    entry_follows entry c.self.inside.group _ _ c.self.invariant (open_follows entry _ c.self.inside.group _ _ e.is-0 c.enter_reading.ensures)

pub invariant_of-self-in-Open-Change : goal.invariant_of-self-in-Open-Change
invariant_of-self-in-Open-Change g c =
    let e = c.in-Open-Change in
    let entry = Change e.register e.day e.value e.start in
    entry_follows entry c.self.inside.group _ _ c.self.invariant (open_follows entry _ c.self.inside.group _ _ e.is-0 c.enter_reading-in-Open-Change.ensures)

pub invariant_of-self-in-Open-Correction : goal.invariant_of-self-in-Open-Correction
invariant_of-self-in-Open-Correction g c =
    let e = c.in-Open-Correction in
    let group = c.self.inside.group in
    let same : to_z w32 (of_z w32 e.quantity) ≡ e.quantity = grind (arith, common_steps, to_z-of_z) in
    let P : ℤ → Type 0 = λ kwh. Follows (entry_result e.register.place (on_register e.register (with_correction kwh)) group) group c.enter_correction.result c.enter_correction.new.self in
    let entry = Correction e.register e.quantity in
    entry_follows entry group _ _ c.self.invariant (open_follows entry _ group _ _ e.is-0 (subst P same c.enter_correction.ensures))

pub invariant_of-self-in-Open-Payment : goal.invariant_of-self-in-Open-Payment
invariant_of-self-in-Open-Payment g c =
    let e = c.in-Open-Payment in
    let entry = Payment e.place e.drams in
    entry_follows entry c.self.inside.group _ _ c.self.invariant (open_follows entry _ c.self.inside.group _ _ e.is-0 c.enter_payment.ensures)

pub returns-in-Open-Reading-clause-balance : goal.returns-in-Open-Reading-clause-balance
returns-in-Open-Reading-clause-balance g c =
    let e = c.in-Open-Reading in
    let entry = Reading e.register e.day e.value in
    let book = c.self.inside in
    rw e.is-1 (moved_goes_on g.R.SharingRule.sharing g.T.Tariff.price g.met.R.SharingRule.keeps_law c.args.self.now book.rule book.tariff book.group c.enter_reading.new.self (Entering entry c.enter_reading.result) c.self.view_is (open_follows entry _ book.group _ _ e.is-0 c.enter_reading.ensures))

pub returns-in-Open-Change-clause-balance : goal.returns-in-Open-Change-clause-balance
returns-in-Open-Change-clause-balance g c =
    let e = c.in-Open-Change in
    let entry = Change e.register e.day e.value e.start in
    let book = c.self.inside in
    rw e.is-1 (moved_goes_on g.R.SharingRule.sharing g.T.Tariff.price g.met.R.SharingRule.keeps_law c.args.self.now book.rule book.tariff book.group c.enter_reading-in-Open-Change.new.self (Entering entry c.enter_reading-in-Open-Change.result) c.self.view_is (open_follows entry _ book.group _ _ e.is-0 c.enter_reading-in-Open-Change.ensures))

pub returns-in-Open-Correction-clause-balance : goal.returns-in-Open-Correction-clause-balance
returns-in-Open-Correction-clause-balance g c =
    let e = c.in-Open-Correction in
    let book = c.self.inside in
    let same : to_z w32 (of_z w32 e.quantity) ≡ e.quantity = grind (arith, common_steps, to_z-of_z) in
    let P : ℤ → Type 0 = λ kwh. Follows (entry_result e.register.place (on_register e.register (with_correction kwh)) book.group) book.group c.enter_correction.result c.enter_correction.new.self in
    let entry = Correction e.register e.quantity in
    rw e.is-1 (moved_goes_on g.R.SharingRule.sharing g.T.Tariff.price g.met.R.SharingRule.keeps_law c.args.self.now book.rule book.tariff book.group c.enter_correction.new.self (Entering entry c.enter_correction.result) c.self.view_is (open_follows entry _ book.group _ _ e.is-0 (subst P same c.enter_correction.ensures)))

pub returns-in-Open-Payment-clause-balance : goal.returns-in-Open-Payment-clause-balance
returns-in-Open-Payment-clause-balance g c =
    let e = c.in-Open-Payment in
    let entry = Payment e.place e.drams in
    let book = c.self.inside in
    rw e.is-1 (moved_goes_on g.R.SharingRule.sharing g.T.Tariff.price g.met.R.SharingRule.keeps_law c.args.self.now book.rule book.tariff book.group c.enter_payment.new.self (Entering entry c.enter_payment.result) c.self.view_is (open_follows entry _ book.group _ _ e.is-0 c.enter_payment.ensures))

pub returns-in-Blank-default-clause-balance : goal.returns-in-Blank-default-clause-balance
returns-in-Blank-default-clause-balance g c =
    quiet_goes_on g.R.SharingRule.sharing g.T.Tariff.price g.met.R.SharingRule.keeps_law c.args.self.now (Entering c.args.entry _) (search rules)

pub returns-in-Open-Reading-clause-one : goal.returns-in-Open-Reading-clause-one
returns-in-Open-Reading-clause-one g c =
    let e = c.in-Open-Reading in
    let entry = Reading e.register e.day e.value in
    let group = c.self.inside.group in
    let same : group ≡ c.args.self.now.group = grind (arith, common_steps) in
    subst (λ (old : Group). EntersOne c.args.entry old c.enter_reading.new.self) same (rw e.is-1 (entry_alters entry group _ _ (open_follows entry _ group _ _ e.is-0 c.enter_reading.ensures)))

pub returns-in-Open-Change-clause-one : goal.returns-in-Open-Change-clause-one
returns-in-Open-Change-clause-one g c =
    let e = c.in-Open-Change in
    let entry = Change e.register e.day e.value e.start in
    let group = c.self.inside.group in
    let same : group ≡ c.args.self.now.group = grind (arith, common_steps) in
    subst (λ (old : Group). EntersOne c.args.entry old c.enter_reading-in-Open-Change.new.self) same (rw e.is-1 (entry_alters entry group _ _ (open_follows entry _ group _ _ e.is-0 c.enter_reading-in-Open-Change.ensures)))

pub returns-in-Open-Correction-clause-one : goal.returns-in-Open-Correction-clause-one
returns-in-Open-Correction-clause-one g c =
    let e = c.in-Open-Correction in
    let entry = Correction e.register e.quantity in
    let group = c.self.inside.group in
    let same : group ≡ c.args.self.now.group = grind (arith, common_steps) in
    let exact : to_z w32 (of_z w32 e.quantity) ≡ e.quantity = grind (arith, common_steps, to_z-of_z) in
    let P : ℤ → Type 0 = λ kwh. Follows (entry_result e.register.place (on_register e.register (with_correction kwh)) group) group c.enter_correction.result c.enter_correction.new.self in
    subst (λ (old : Group). EntersOne c.args.entry old c.enter_correction.new.self) same (rw e.is-1 (entry_alters entry group _ _ (open_follows entry _ group _ _ e.is-0 (subst P exact c.enter_correction.ensures))))

pub returns-in-Open-Payment-clause-one : goal.returns-in-Open-Payment-clause-one
returns-in-Open-Payment-clause-one g c =
    let e = c.in-Open-Payment in
    let entry = Payment e.place e.drams in
    let group = c.self.inside.group in
    let same : group ≡ c.args.self.now.group = grind (arith, common_steps) in
    subst (λ (old : Group). EntersOne c.args.entry old c.enter_payment.new.self) same (rw e.is-1 (entry_alters entry group _ _ (open_follows entry _ group _ _ e.is-0 c.enter_payment.ensures)))
