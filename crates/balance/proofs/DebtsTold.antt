-- What bills and year ends tell of debts.
use Rattle.std.proofs.Common.{◌≡◌, ℕ, ◌+◌, length, slice_get, Some, Ok, ◌-ℤ◌, refl, sym, ap, ◌∙◌, subst, arith}
use Rattle.std.proofs.lemmas.Int.{ints}
use Rattle.std.proofs.lemmas.Option.{slice_get-get_or}
use Rattle.std.specs.Option.{ok_or}
use Rattle.billing.specs.declared.supply.Supply.{Supply}
use Rattle.ledger.specs.declared.bill.Bill.{Bill}
use Rattle.ledger.specs.declared.bill.YearEnd.{YearEnd}
use Rattle.ledger.specs.declared.zone.ByZone.{ByZone}
use Rattle.group.proofs.Stepping.{made_ok}
use Rattle.group.specs.Members.{nobody}
use Rattle.group.specs.Results.{result_map}
use Rattle.group.specs.declared.group.Group.{Group}
use Rattle.group.specs.declared.member.Member.{Member}
use Rattle.group.specs.declared.refusal.BookRefusal.TheVariants as refused
use Rattle.group.proofs.Lists.{length-by_place}
use Rattle.group.proofs.YearsSound.{holder_inside}
use Rattle.group.specs.Drafts.{after_month}
use Rattle.group.specs.Months.{Prices, Share, bill_of, billed_member, bills_of, supplies_at}
use Rattle.group.specs.Years.{after_year, credited_account, holder_of, open_year, year_figures}
use Rattle.balance.proofs.Found.{by_place_at, found_by_place, found_set}
use Rattle.balance.proofs.Theorem.{ended_in, issued_is}
use Rattle.balance.specs.Debts.{IssuesTellDebts, TellsDebt, YearEndsTellDebts, debt_at}

-- the debt of a member that is found
debt_found : (place : ℕ) (group : Group) (member : Member) → slice_get group.members.items place ≡ Some member → debt_at place group ≡ Ok member.account.debt
debt_found place group member found = ap (λ o. result_map (λ (m : Member). m.account.debt) (ok_or o refused.Place)) found

-- a bill has the debt of the record after it
line_debt : (price : Prices) (member : Member) (supplies : ByZone Supply) → (bill_of price member supplies).debt ≡ (billed_member price member supplies).account.debt
unfolding bill_of billed_member
line_debt price member supplies = refl

-- and the drams that the debt went up by
line_drams : (price : Prices) (member : Member) (supplies : ByZone Supply) → (bill_of price member supplies).drams ≡ (bill_of price member supplies).debt -ℤ member.account.debt
unfolding bill_of
line_drams price member supplies = omega (arith, ints)

month_told : (share : Share) (prices : ℕ → Prices) (month : ℕ) (old : Group) (place : ℕ) (bill : Bill) → slice_get (bills_of share (prices month) old) place ≡ Some bill → TellsDebt place old (after_month share prices month old) bill.drams bill.debt
month_told share prices month old place bill there =
    let price = prices month in
    let members = old.members.items in
    let f = λ (p : ℕ) (m : Member). bill_of price m (supplies_at share old p) in
    let g = λ (p : ℕ) (m : Member). billed_member price m (supplies_at share old p) in
    let (member, found, is) = found_by_place f 0 members place bill there in
    let supplies = supplies_at share old (0 + place) in
    let after = by_place_at g 0 members place member found in
    let told : TellsDebt place old (after_month share prices month old) (bill_of price member supplies).drams (bill_of price member supplies).debt = (
      debt_found place (after_month share prices month old) (g (0 + place) member) after ∙ ap Ok (sym (line_debt price member supplies)),
      (member.account.debt, debt_found place old member found, line_drams price member supplies),
    ) in
    subst (λ (l : Bill). TellsDebt place old (after_month share prices month old) l.drams l.debt) is told

pub issues_tell_debts : IssuesTellDebts
issues_tell_debts share prices stamp places old new bills is =
    let (month, opens, writes, becomes) = issued_is share prices stamp places old new bills is in
    let price = prices month in
    let many = length-by_place (λ (p : ℕ) (m : Member). bill_of price m (supplies_at share old p)) 0 old.members.items in (
      ap length (sym writes) ∙ many,
      λ place bill there. subst (λ g. TellsDebt place old g bill.drams bill.debt) becomes
          (month_told share prices month old place bill (ap (λ l. slice_get l place) writes ∙ there)),
    )

year_drams : (price : Prices) (group : Group) → (year_figures price group).drams ≡ (year_figures price group).debt -ℤ (holder_of group).account.debt
unfolding year_figures
year_drams price group = omega (arith, ints)

year_debt : (price : Prices) (group : Group) → (year_figures price group).debt ≡ (credited_account price group).debt
unfolding year_figures
year_debt price group = refl

pub year_ends_tell_debts : YearEndsTellDebts
year_ends_tell_debts prices old new figures sound is =
    let (december, ends, same) = made_ok (λ (d : ℕ). (year_figures (prices d) old, after_year prices d old)) (open_year old.phase) (figures, new) is in
    let one : year_figures (prices december) old ≡ figures = ap (λ (p : YearEnd × Group). p.0) same in
    let two : after_year prices december old ≡ new = ap (λ (p : YearEnd × Group). p.1) same in
    let inside = holder_inside december old sound (ended_in old.phase december ends) in
    let members = old.members.items in
    let paid : Member = record (holder_of old) { account = credited_account (prices december) old } in
    let after = found_set members old.holder paid inside in
    let told : TellsDebt old.holder old (after_year prices december old) (year_figures (prices december) old).drams (year_figures (prices december) old).debt = (
      debt_found old.holder (after_year prices december old) paid after ∙ ap Ok (sym (year_debt (prices december) old)),
      ((holder_of old).account.debt, debt_found old.holder old (holder_of old) (slice_get-get_or members old.holder nobody inside), year_drams (prices december) old),
    ) in
    subst (λ g. TellsDebt old.holder old g figures.drams figures.debt) two
    (subst (λ (f : YearEnd). TellsDebt old.holder old (after_year prices december old) f.drams f.debt) one told)
