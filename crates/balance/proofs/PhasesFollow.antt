-- What follows a month that is issued, and a year that is closed.
use Rattle.std.proofs.Common.{◌≡◌, ◌≢◌, ℕ, ◌+◌, ◌/◌, ◌%◌, ◌≤◌, length, ap, subst, arith}
use Rattle.std.proofs.lemmas.Bool.Decides.{nat_tests}
use Rattle.calendar.specs.Dates.{date_in}
use Rattle.calendar.specs.declared.date.Date.{Date}
use Rattle.ledger.specs.declared.bill.YearEnd.{YearEnd}
use Rattle.group.proofs.Stepping.{made_ok}
use Rattle.group.specs.declared.group.Group.{Group}
use Rattle.group.specs.declared.group.Phase.TheVariants.{Open, YearEnd as AtYearEnd, Over}
use Rattle.group.specs.Drafts.{next_phase}
use Rattle.group.specs.Sound.{IsSoundPhase}
use Rattle.group.specs.Years.{after_year, next_year, open_year, year_figures}
use Rattle.balance.proofs.Theorem.{ended_in, issued_is}
use Rattle.balance.specs.Phases.{FollowsMonth, FollowsYear, MonthsFollow, YearsFollow, last_december}

ends_december : (month : ℕ) → next_phase month ≡ AtYearEnd month → month % 12 ≡ 11
ends_december month is = grind (arith, nat_tests)

december_ends : (month : ℕ) → month % 12 ≡ 11 → next_phase month ≡ AtYearEnd month
december_ends month is = grind (arith, nat_tests)

other_opens : (month : ℕ) → month % 12 ≢ 11 → next_phase month ≡ Open (month + 1)
other_opens month is = grind (arith, nat_tests)

month_follows : (month : ℕ) → FollowsMonth month (next_phase month)
month_follows month = record {
  december = (λ is. omega (arith, ends_december month is), λ is. december_ends month (omega (arith, is)));
  other = λ not. other_opens month (λ is. not (omega (arith, is)));
}

pub months_follow : MonthsFollow
months_follow share prices stamp places old new bills is =
    let (month, opens, writes, becomes) = issued_is share prices stamp places old new bills is in
    (month, opens, subst (λ (g : Group). FollowsMonth month g.phase) becomes (month_follows month))

over_last : (december : ℕ) → next_year december ≡ Over → 1199 ≤ december
over_last december is = grind (arith, nat_tests)

last_over : (december : ℕ) → december ≡ 1199 → next_year december ≡ Over
last_over december is = grind (arith, nat_tests)

opens_next : (december : ℕ) → december ≢ 1199 → december ≤ 1199 → next_year december ≡ Open (december + 1)
opens_next december other within = grind (arith, nat_tests)

last_is : (december : ℕ) → date_in december 0 ≡ last_december → december ≡ 1199
last_is december is =
    let year : 2000 + december / 12 ≡ 2099 = ap (λ (d : Date). d.year) is in
    let month : december % 12 + 1 ≡ 12 = ap (λ (d : Date). d.month) is in
    omega (arith, year, month)

is_last : (december : ℕ) → december ≡ 1199 → date_in december 0 ≡ last_december
is_last december is = ap (λ n. date_in n 0) is

year_follows : (december : ℕ) → december ≤ 1199 → december % 12 ≡ 11 → FollowsYear december (next_year december)
year_follows december within is = record {
  of_a_december = omega (arith, is);
  last = (λ over. is_last december (omega (arith, within, over_last december over)), λ date. last_over december (last_is december date));
  other = λ not. (opens_next december (λ e. not (is_last december e)) within, omega (arith, is));
}

pub years_follow : YearsFollow
years_follow prices old new figures sound is =
    let (december, ends, same) = made_ok (λ (d : ℕ). (year_figures (prices d) old, after_year prices d old)) (open_year old.phase) (figures, new) is in
    let two : after_year prices december old ≡ new = ap (λ (p : YearEnd × Group). p.1) same in
    let phase = ended_in old.phase december ends in
    let last : IsSoundPhase (AtYearEnd december) old.holder (length old.members.items) = subst (λ p. IsSoundPhase p old.holder (length old.members.items)) phase sound.phase in
    (december, phase, subst (λ (g : Group). FollowsYear december g.phase) two (year_follows december last.0 last.1))
