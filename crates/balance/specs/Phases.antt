-- What follows a month that is issued, and a year that is closed, by the calendar.
use Rattle.std.specs.Prelude.{◌≡◌, ◌≢◌, ◌↔◌, ℕ, ◌+◌, List, Ok}
use Rattle.calendar.specs.Dates.{date_in}
use Rattle.calendar.specs.declared.date.Date.{Date}
use Rattle.ledger.specs.declared.bill.Bill.{Bill}
use Rattle.ledger.specs.declared.bill.YearEnd.{YearEnd}
use Rattle.group.specs.declared.group.Group.{Group}
use Rattle.group.specs.declared.group.Phase.{Phase}
use Rattle.group.specs.declared.group.Phase.TheVariants.{Open, YearEnd as AtYearEnd, Over}
use Rattle.group.specs.Drafts.{Stamp, issue_result}
use Rattle.group.specs.Months.{Prices, Share}
use Rattle.group.specs.Sound.{IsSound}
use Rattle.group.specs.Years.{closing_result}

-- the first day of a month lies in a month of this name, 1 for January
abbrev pub IsCalled : (name month : ℕ) → Type 0
IsCalled name month = (date_in month 0).month ≡ name

-- the first day of the last December
abbrev pub last_december : Date
last_december = record { year = 2099; month = 12; day = 1 }

-- the year end of a month follows exactly where it is a December, and the next month opens where it is not
pub record FollowsMonth (month : ℕ) (phase : Phase) : Type 0 where
  pub december : (phase ≡ AtYearEnd month) ↔ IsCalled 12 month
  pub other : (IsCalled 12 month → ⊥) → phase ≡ Open (month + 1)

-- the book is over exactly after December 2099, and the next January opens after any other
pub record FollowsYear (december : ℕ) (phase : Phase) : Type 0 where
  pub of_a_december : IsCalled 12 december
  pub last : (phase ≡ Over) ↔ (date_in december 0 ≡ last_december)
  pub other :
      date_in december 0 ≢ last_december
      → (phase ≡ Open (december + 1)) × IsCalled 1 (december + 1)

-- so it is after every accepted issue, which is of the open month
abbrev pub MonthsFollow : Type 0
MonthsFollow =
    (share : Share) (prices : ℕ → Prices) (stamp : Stamp) (places : ℕ)
    (old new : Group) (bills : List Bill)
    → issue_result share prices stamp places old ≡ Ok (bills, new)
    → (month : ℕ) × (old.phase ≡ Open month) × FollowsMonth month new.phase

-- and after every closing, which is of the year that has ended
abbrev pub YearsFollow : Type 0
YearsFollow =
    (prices : ℕ → Prices) (old new : Group) (figures : YearEnd)
    → IsSound old → closing_result prices old ≡ Ok (figures, new)
    → (december : ℕ) × (old.phase ≡ AtYearEnd december) × FollowsYear december new.phase
