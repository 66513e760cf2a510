-- The drams and the debt that bills and year ends tell are those of the members' records.
use Rattle.std.specs.Prelude.{◌≡◌, ℕ, List, length, ℤ, ◌-ℤ◌, slice_get, Ok, Result, Some}
use Rattle.ledger.specs.declared.bill.Bill.{Bill}
use Rattle.ledger.specs.declared.bill.YearEnd.{YearEnd}
use Rattle.group.specs.Groups.{member_at}
use Rattle.group.specs.Results.{result_map}
use Rattle.group.specs.declared.group.Group.{Group}
use Rattle.group.specs.declared.refusal.BookRefusal.{BookRefusal}
use Rattle.group.specs.Drafts.{Stamp, issue_result}
use Rattle.group.specs.Months.{Prices, Share}
use Rattle.group.specs.Sound.{IsSound}
use Rattle.group.specs.Years.{closing_result}

-- the debt of the member at a place
abbrev pub debt_at : (place : ℕ) → Group → Result ℤ BookRefusal
debt_at place group = result_map (λ member. member.account.debt) (member_at place group)

-- the debt is that of the member at a place after a call, and the drams are that less the debt before
abbrev pub TellsDebt : (place : ℕ) → (old new : Group) → (drams debt : ℤ) → Type 0
TellsDebt place old new drams debt =
    (debt_at place new ≡ Ok debt)
    × ((before : ℤ) × (debt_at place old ≡ Ok before) × (drams ≡ debt -ℤ before))

-- an issue tells the debt of each member by the bill at its place, and has no other bills
abbrev pub IssuesTellDebts : Type 0
IssuesTellDebts =
    (share : Share) (prices : ℕ → Prices) (stamp : Stamp) (places : ℕ)
    (old new : Group) (bills : List Bill)
    → issue_result share prices stamp places old ≡ Ok (bills, new)
    → (length bills ≡ length old.members.items)
    × ((place : ℕ) (bill : Bill)
    → slice_get bills place ≡ Some bill → TellsDebt place old new bill.drams bill.debt)

-- the closing of a year tells the debt of the holder
abbrev pub YearEndsTellDebts : Type 0
YearEndsTellDebts =
    (prices : ℕ → Prices) (old new : Group) (figures : YearEnd)
    → IsSound old → closing_result prices old ≡ Ok (figures, new)
    → TellsDebt old.holder old new figures.drams figures.debt
