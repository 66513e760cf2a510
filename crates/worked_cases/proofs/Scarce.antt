-- The journal of a month whose pool does not reach, line by line.
use Rattle.std.proofs.Common.{◌≡◌, ℕ, ◌++◌, List, [], ◌∷◌, pos, Ok, codes, refl, sym, subst, arith, lit≤}
use Rattle.std.specs.Fmt.{digits}
use Rattle.std.specs.List.{concat}
use Rattle.calendar.specs.Dates.{date_after, date_of_day}
use Rattle.group.specs.Drafts.{after_month}
use Rattle.group.specs.Members.{opened_member}
use Rattle.group.specs.Months.{bill_of}
use Rattle.group.specs.Registers.{opened_register, quantity}
use Rattle.group.specs.declared.group.Group.{Group}
use Rattle.group.specs.declared.member.Member.{Member}
use Rattle.group.specs.declared.member.OpeningRecord.{OpeningRecord}
use Rattle.journal.specs.Lines.{IsLine}
use Rattle.journal.specs.declared.line.Line.{Line}
use Rattle.journal.specs.declared.line.Line.TheVariants.{Issue}
use Rattle.ledger.specs.declared.zone.Flow.TheVariants.{Consumed}
use Rattle.ledger.specs.declared.zone.Zone.TheVariants.{Day}
use Rattle.worked_cases.proofs.Months.{issue_read, left, reading}
use Rattle.worked_cases.proofs.Running.{Lines, body_alone, line_done}
use Rattle.worked_cases.specs.Runs.{SettlesScarceMonth, scarce, scarce_bills}
use Rattle.settlement.specs.Laws.{HasOneOutcome}
use Rattle.settlement.specs.Runs.{RunResult, after_text, ended_run}
use Rattle.settlement.specs.Steps.{after_line}
use Rattle.settlement.specs.Texts.{text_lines}
use Rattle.sharing.specs.Rules.{proportion}
use Rattle.two.specs.Two.{household, prices, producer}

-- the reading of 3 kWh at a place
abbrev three_used : (place : ℕ) → Line
three_used place = reading place Day Consumed 8765 3

first_read : IsLine (codes "READ,0,DAY,USE,3,-,2023-12-31\n") (three_used 0)
unfolding digits date_of_day date_after
first_read = ((omega arith, omega arith, omega arith), refl)

second_read : IsLine (codes "READ,1,DAY,USE,3,-,2023-12-31\n") (three_used 1)
unfolding digits date_of_day date_after
second_read = ((omega arith, omega arith, omega arith), refl)

-- the record of a member after a reading of so many kWh that it consumed by day
abbrev consuming : OpeningRecord → (kwh : ℕ) → Member
consuming opening kwh = record (opened_member opening) {
  registers = record {
    day = record { consumed = record { standing = kwh; tally = pos kwh }; delivered = opened_register 0 };
    night = record { consumed = opened_register 0; delivered = opened_register 0 };
  };
}

-- the group after so many readings, of what place 0 and what place 1 consumed
abbrev after_readings : (readings of_0 of_1 : ℕ) → Group
after_readings readings of_0 of_1 = record scarce {
  members = record { items = consuming producer of_0 ∷ consuming household of_1 ∷ [] };
  entries = readings;
}

first_done : after_line proportion (λ month. prices) left (three_used 0) scarce ≡ Ok ([], after_readings 1 3 0)
unfolding quantity
first_done = refl

second_done : after_line proportion (λ month. prices) left (three_used 1) (after_readings 1 3 0) ≡ Ok ([], after_readings 2 3 3)
unfolding quantity
second_done = refl

-- the group after the issue
abbrev issued_group : Group
issued_group = after_month proportion (λ month. prices) 287 (after_readings 2 3 3)

-- the lines of both bills
abbrev bills : List ℕ
bills = codes "BILL,2023-12,0,1,0,2,0,65,65\n" ++ (codes "BILL,2023-12,1,0,0,3,0,30,30\n" ++ [])

issue_done : after_line proportion (λ month. prices) left Issue (after_readings 2 3 3) ≡ Ok (bills, issued_group)
unfolding digits bill_of
issue_done = refl

-- the lines of the body, from the first and from each later one on
abbrev from_issue : List (List ℕ)
from_issue = codes "ISSUE,-,-,-,-,-,-\n" ∷ []

abbrev from_second : List (List ℕ)
from_second = codes "READ,1,DAY,USE,3,-,2023-12-31\n" ∷ from_issue

abbrev from_first : List (List ℕ)
from_first = codes "READ,0,DAY,USE,3,-,2023-12-31\n" ∷ from_second

-- what the run comes to from the issue on, and from each line before it
abbrev at_issue : RunResult
at_issue = after_text bills (ended_run issued_group)

issue_run : Lines left 4 from_issue (after_readings 2 3 3) at_issue
issue_run = line_done left 4 (codes "ISSUE,-,-,-,-,-,-\n") bills [] Issue (after_readings 2 3 3) issued_group (ended_run issued_group) issue_read issue_done refl

second_run : Lines left 3 from_second (after_readings 1 3 0) at_issue
second_run = line_done left 3 (codes "READ,1,DAY,USE,3,-,2023-12-31\n") [] from_issue (three_used 1) (after_readings 1 3 0) (after_readings 2 3 3) at_issue second_read second_done issue_run

first_run : Lines left 2 from_first scarce at_issue
first_run = line_done left 2 (codes "READ,0,DAY,USE,3,-,2023-12-31\n") [] from_second (three_used 0) scarce (after_readings 1 3 0) at_issue first_read first_done second_run

parted : text_lines (concat from_first) ≡ from_first
parted = refl

pub scarce_settled : HasOneOutcome → SettlesScarceMonth
scarce_settled one =
    body_alone one 65536 scarce (concat from_first) scarce_bills [] at_issue (lit≤ tt) (lit≤ tt)
    (subst (λ lines. Lines left 2 lines scarce at_issue) (sym parted) first_run)
    (refl, refl)
