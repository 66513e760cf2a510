-- The journal of a December with its year's end, line by line.
use Rattle.std.proofs.Common.{◌≡◌, ℕ, ◌-◌, ◌++◌, List, [], ◌∷◌, length, ℤ, pos, negsuc, Ok, codes, refl, sym, subst, arith, lit≤}
use Rattle.std.specs.Fmt.{digits}
use Rattle.std.specs.List.{concat}
use Rattle.calendar.specs.Dates.{date_after, date_of_day}
use Rattle.group.specs.Members.{opened_member}
use Rattle.group.specs.Registers.{opened_register, quantity}
use Rattle.group.specs.declared.group.Group.{Group}
use Rattle.group.specs.declared.member.Member.{Member}
use Rattle.group.specs.declared.member.OpeningRecord.{OpeningRecord}
use Rattle.group.specs.declared.register.Register.{Register}
use Rattle.journal.specs.Lines.{IsLine}
use Rattle.ledger.specs.declared.entry.Entry.TheVariants.{Change, Correction, Payment}
use Rattle.ledger.specs.declared.zone.Flow.TheVariants.{Consumed, Delivered}
use Rattle.ledger.specs.declared.zone.Zone.TheVariants.{Day, Night}
use Rattle.journal.specs.declared.line.Line.{Line}
use Rattle.journal.specs.declared.line.Line.TheVariants.{Enter, Issue, Year}
use Rattle.worked_cases.proofs.Months.{issue_read, left, reading}
use Rattle.worked_cases.proofs.Running.{Lines, body_alone, line_done}
use Rattle.worked_cases.specs.Runs.{SettlesYear, december, year_bills}
use Rattle.settlement.specs.Laws.{HasOneOutcome}
use Rattle.settlement.specs.Runs.{RunResult, after_text, ended_run}
use Rattle.settlement.specs.Steps.{after_line}
use Rattle.settlement.specs.Texts.{text_lines}
use Rattle.sharing.specs.Rules.{proportion}
use Rattle.group.specs.Drafts.{after_month}
use Rattle.group.specs.Months.{bill_of, billed_member}
use Rattle.group.specs.Years.{after_year, year_figures}
use Rattle.two.specs.Two.{household, prices, producer}

-- ---- the lines

-- the meter of the household is changed
abbrev change : Line
change = Enter (Change (record { place = 1; zone = Day; flow = Consumed }) 8744 300 5)

-- what a member consumed by night is corrected
abbrev correction : (place : ℕ) → (kwh : ℤ) → Line
correction place kwh = Enter (Correction (record { place = place; zone = Night; flow = Consumed }) kwh)

given_read : IsLine (codes "READ,0,DAY,GIVE,500,-,2023-12-31\n") ((reading 0 Day Delivered 8765 500))
unfolding digits date_of_day date_after
given_read = ((omega arith, omega arith, omega arith), refl)

change_read : IsLine (codes "SWAP,1,DAY,USE,300,5,2023-12-10\n") change
unfolding digits date_of_day date_after
change_read = ((omega arith, omega arith, omega arith, omega arith), refl)

used_read : IsLine (codes "READ,1,DAY,USE,105,-,2023-12-31\n") ((reading 1 Day Consumed 8765 105))
unfolding digits date_of_day date_after
used_read = ((omega arith, omega arith, omega arith), refl)

more_read : IsLine (codes "CORR,1,NIGHT,USE,33,-,-\n") ((correction 1 (pos 33)))
unfolding digits
more_read = ((omega arith, lit≤ tt), refl)

less_read : IsLine (codes "CORR,0,NIGHT,USE,-7,-,-\n") ((correction 0 (negsuc 6)))
unfolding digits
less_read = ((omega arith, lit≤ tt), refl)

payment_read : IsLine (codes "PAY,1,-,-,1000,-,-\n") ((Enter (Payment 1 1000)))
unfolding digits
payment_read = ((omega arith, omega arith), refl)

year_read : IsLine (codes "YEAR,-,-,-,-,-,-\n") Year
year_read = (tt, refl)

-- ---- the group after each

-- a register that stands so, with this tally
abbrev register : (standing : ℕ) → (tally : ℤ) → Register
register standing tally = record { standing = standing; tally = tally }

-- the record of a member with these registers by day and this tally of what it consumed by night, that owes so many drams
abbrev member : OpeningRecord → (consumed delivered : Register) → (night debt : ℤ) → Member
member opening consumed delivered night debt = record (opened_member opening) {
  registers = record {
    day = record { consumed = consumed; delivered = delivered };
    night = record { consumed = register 0 night; delivered = opened_register 0 };
  };
  account = record { debt = debt; fraction = 0 };
}

-- the group after so many entries, by what the household's register by day is, both tallies by night, and its debt
abbrev after_entries : (entries : ℕ) → Register → (night night_of_0 debt : ℤ) → Group
after_entries entries day night night_of_0 debt = record december {
  members = record {
    items = member producer (opened_register 0) (register 500 (pos 500)) night_of_0 (pos 0)
        ∷ member household day (opened_register 0) night debt ∷ [];
  };
  entries = entries;
}

-- so after the first, and after each later one
abbrev after_given : Group
after_given = after_entries 1 (register 0 (pos 0)) (pos 0) (pos 0) (pos 0)

abbrev after_change : Group
after_change = after_entries 2 (register 5 (pos 300)) (pos 0) (pos 0) (pos 0)

abbrev after_used : Group
after_used = after_entries 3 (register 105 (pos 400)) (pos 0) (pos 0) (pos 0)

abbrev after_more : Group
after_more = after_entries 4 (register 105 (pos 400)) (pos 33) (pos 0) (pos 0)

abbrev after_less : Group
after_less = after_entries 5 (register 105 (pos 400)) (pos 33) (negsuc 6) (pos 0)

abbrev after_payment : Group
after_payment = after_entries 6 (register 105 (pos 400)) (pos 33) (negsuc 6) (negsuc 999)

-- what a line does with so many bytes left
abbrev Does : (room : ℕ) → Line → (group : Group) → List ℕ → (new : Group) → Type 0
Does room line group written new = after_line proportion (λ month. prices) room line group ≡ Ok (written, new)

given_done : Does left (reading 0 Day Delivered 8765 500) december [] after_given
unfolding quantity
given_done = refl

change_done : Does left change after_given [] after_change
unfolding quantity
change_done = refl

used_done : Does left (reading 1 Day Consumed 8765 105) after_change [] after_used
unfolding quantity
used_done = refl

more_done : Does left (correction 1 (pos 33)) after_used [] after_more
more_done = refl

less_done : Does left (correction 0 (negsuc 6)) after_more [] after_less
less_done = refl

payment_done : Does left (Enter (Payment 1 1000)) after_less [] after_payment
payment_done = refl

-- the group after the issue, and at the end
abbrev issued_group : Group
issued_group = after_month proportion (λ month. prices) 287 after_payment

abbrev closed_group : Group
closed_group = after_year (λ month. prices) 287 issued_group

-- the lines of both bills, and that of the year's end
abbrev bills : List ℕ
bills = codes "BILL,2023-12,0,0,0,0,0,0,0\n" ++ (codes "BILL,2023-12,1,0,0,400,33,4330,3330\n" ++ [])

abbrev figures : List ℕ
figures = codes "YEAR,2023-12,0,200,14,-,-,-4210,-4210\n"

issue_done : Does left Issue after_payment bills issued_group
unfolding digits bill_of
issue_done = refl

year_done : Does (left - length bills) Year issued_group figures closed_group
unfolding digits billed_member year_figures
year_done = refl

-- ---- the run

-- the lines of the body, from each on
abbrev from_year : List (List ℕ)
from_year = codes "YEAR,-,-,-,-,-,-\n" ∷ []

abbrev from_issue : List (List ℕ)
from_issue = codes "ISSUE,-,-,-,-,-,-\n" ∷ from_year

abbrev from_payment : List (List ℕ)
from_payment = codes "PAY,1,-,-,1000,-,-\n" ∷ from_issue

abbrev from_less : List (List ℕ)
from_less = codes "CORR,0,NIGHT,USE,-7,-,-\n" ∷ from_payment

abbrev from_more : List (List ℕ)
from_more = codes "CORR,1,NIGHT,USE,33,-,-\n" ∷ from_less

abbrev from_used : List (List ℕ)
from_used = codes "READ,1,DAY,USE,105,-,2023-12-31\n" ∷ from_more

abbrev from_change : List (List ℕ)
from_change = codes "SWAP,1,DAY,USE,300,5,2023-12-10\n" ∷ from_used

abbrev from_given : List (List ℕ)
from_given = codes "READ,0,DAY,GIVE,500,-,2023-12-31\n" ∷ from_change

-- what the run comes to from the year's end on, and from the issue on
abbrev at_year : RunResult
at_year = after_text figures (ended_run closed_group)

abbrev at_issue : RunResult
at_issue = after_text bills at_year

year_run : Lines (left - length bills) 9 from_year issued_group at_year
year_run = line_done (left - length bills) 9 (codes "YEAR,-,-,-,-,-,-\n") figures [] Year issued_group closed_group (ended_run closed_group) year_read year_done refl

issue_run : Lines left 8 from_issue after_payment at_issue
issue_run = line_done left 8 (codes "ISSUE,-,-,-,-,-,-\n") bills from_year Issue after_payment issued_group at_year issue_read issue_done year_run

payment_run : Lines left 7 from_payment after_less at_issue
payment_run = line_done left 7 (codes "PAY,1,-,-,1000,-,-\n") [] from_issue (Enter (Payment 1 1000)) after_less after_payment at_issue payment_read payment_done issue_run

less_run : Lines left 6 from_less after_more at_issue
less_run = line_done left 6 (codes "CORR,0,NIGHT,USE,-7,-,-\n") [] from_payment (correction 0 (negsuc 6)) after_more after_less at_issue less_read less_done payment_run

more_run : Lines left 5 from_more after_used at_issue
more_run = line_done left 5 (codes "CORR,1,NIGHT,USE,33,-,-\n") [] from_less (correction 1 (pos 33)) after_used after_more at_issue more_read more_done less_run

used_run : Lines left 4 from_used after_change at_issue
used_run = line_done left 4 (codes "READ,1,DAY,USE,105,-,2023-12-31\n") [] from_more (reading 1 Day Consumed 8765 105) after_change after_used at_issue used_read used_done more_run

change_run : Lines left 3 from_change after_given at_issue
change_run = line_done left 3 (codes "SWAP,1,DAY,USE,300,5,2023-12-10\n") [] from_used change after_given after_change at_issue change_read change_done used_run

given_run : Lines left 2 from_given december at_issue
given_run = line_done left 2 (codes "READ,0,DAY,GIVE,500,-,2023-12-31\n") [] from_change (reading 0 Day Delivered 8765 500) december after_given at_issue given_read given_done change_run

parted : text_lines (concat from_given) ≡ from_given
parted = refl

pub year_settled : HasOneOutcome → SettlesYear
year_settled one =
    body_alone one 65536 december (concat from_given) year_bills [] at_issue (lit≤ tt) (lit≤ tt)
    (subst (λ lines. Lines left 2 lines december at_issue) (sym parted) given_run)
    (refl, refl)
