-- The journal of a month, line by line.
use Rattle.std.proofs.Common.{◌≡◌, ℕ, ◌++◌, List, [], ◌∷◌, pos, Ok, codes, refl, sym, subst, arith, lit≤}
use Rattle.std.specs.Fmt.{digits}
use Rattle.std.specs.List.{concat}
use Rattle.calendar.specs.Dates.{date_after, date_of_day}
use Rattle.group.specs.Members.{opened_member}
use Rattle.group.specs.Registers.{quantity}
use Rattle.group.specs.declared.group.Group.{Group}
use Rattle.group.specs.declared.member.OpeningRecord.{OpeningRecord}
use Rattle.group.specs.declared.member.Member.{Member}
use Rattle.group.specs.declared.register.Register.{Register}
use Rattle.journal.specs.Lines.{IsLine}
use Rattle.ledger.specs.declared.entry.Entry.TheVariants.{Reading}
use Rattle.ledger.specs.declared.zone.Flow.{Flow}
use Rattle.ledger.specs.declared.zone.Flow.TheVariants.{Consumed, Delivered}
use Rattle.ledger.specs.declared.zone.Zone.{Zone}
use Rattle.ledger.specs.declared.zone.Zone.TheVariants.{Day, Night}
use Rattle.journal.specs.declared.line.Line.{Line}
use Rattle.journal.specs.declared.line.Line.TheVariants.{Enter, Issue}
use Rattle.worked_cases.proofs.Running.{Lines, body_alone, line_done}
use Rattle.worked_cases.specs.Runs.{SettlesMonth, month_bills}
use Rattle.settlement.specs.Laws.{HasOneOutcome}
use Rattle.settlement.specs.Runs.{RunResult, after_text, ended_run}
use Rattle.settlement.specs.Steps.{after_line}
use Rattle.settlement.specs.Texts.{text_lines}
use Rattle.sharing.specs.Rules.{proportion}
use Rattle.group.specs.Drafts.{after_month}
use Rattle.group.specs.Months.{bill_of}
use Rattle.two.specs.Two.{household, prices, producer, group_of_two}

-- ---- the lines

abbrev pub reading : (place : ℕ) → Zone → Flow → (day value : ℕ) → Line
reading place zone flow day value = Enter (Reading (record { place = place; zone = zone; flow = flow }) day value)

given_read : IsLine (codes "READ,0,DAY,GIVE,900,-,2024-01-31\n") ((reading 0 Day Delivered 8796 900))
unfolding digits date_of_day date_after
given_read = ((omega arith, omega arith, omega arith), refl)

used_read : IsLine (codes "READ,0,DAY,USE,200,-,2024-01-31\n") ((reading 0 Day Consumed 8796 200))
unfolding digits date_of_day date_after
used_read = ((omega arith, omega arith, omega arith), refl)

by_day_read : IsLine (codes "READ,1,DAY,USE,1000,-,2024-01-31\n") ((reading 1 Day Consumed 8796 1000))
unfolding digits date_of_day date_after
by_day_read = ((omega arith, omega arith, omega arith), refl)

by_night_read : IsLine (codes "READ,1,NIGHT,USE,33,-,2024-01-31\n") ((reading 1 Night Consumed 8796 33))
unfolding digits date_of_day date_after
by_night_read = ((omega arith, omega arith, omega arith), refl)

pub issue_read : IsLine (codes "ISSUE,-,-,-,-,-,-\n") Issue
issue_read = (tt, refl)

-- ---- the group after each

-- a register that opened at 0, after a reading
abbrev read_at : (value : ℕ) → Register
read_at value = record { standing = value; tally = pos value }

-- the record of a member after readings of what it consumes, and of what it delivers by day
abbrev member_read : OpeningRecord → (day given night : ℕ) → Member
member_read opening day given night = record (opened_member opening) {
  registers = record {
    day = record { consumed = read_at day; delivered = read_at given };
    night = record { consumed = read_at night; delivered = read_at 0 };
  };
}

-- the group of two after so many readings: of what place 0 delivers and uses, and of what place 1 uses by day and by night
abbrev after_readings : (readings given used by_day by_night : ℕ) → Group
after_readings readings given used by_day by_night = record group_of_two {
  members = record { items = member_read producer used given 0 ∷ member_read household by_day 0 by_night ∷ [] };
  entries = readings;
}

-- the bytes that the output has left behind its line of names
abbrev pub left : ℕ
left = 65484

given_done : after_line proportion (λ month. prices) left (reading 0 Day Delivered 8796 900) group_of_two ≡ Ok ([], after_readings 1 900 0 0 0)
unfolding quantity
given_done = refl

used_done : after_line proportion (λ month. prices) left (reading 0 Day Consumed 8796 200) (after_readings 1 900 0 0 0) ≡ Ok ([], after_readings 2 900 200 0 0)
unfolding quantity
used_done = refl

by_day_done : after_line proportion (λ month. prices) left (reading 1 Day Consumed 8796 1000) (after_readings 2 900 200 0 0) ≡ Ok ([], after_readings 3 900 200 1000 0)
unfolding quantity
by_day_done = refl

by_night_done : after_line proportion (λ month. prices) left (reading 1 Night Consumed 8796 33) (after_readings 3 900 200 1000 0) ≡ Ok ([], after_readings 4 900 200 1000 33)
unfolding quantity
by_night_done = refl

-- the group after the issue
abbrev issued_group : Group
issued_group = after_month proportion (λ month. prices) 288 (after_readings 4 900 200 1000 33)

-- the lines of both bills
abbrev bills : List ℕ
bills = codes "BILL,2024-01,0,0,0,0,0,0,0\n" ++ (codes "BILL,2024-01,1,300,33,700,0,21657,21657\n" ++ [])

issue_done : after_line proportion (λ month. prices) left Issue (after_readings 4 900 200 1000 33) ≡ Ok (bills, issued_group)
unfolding digits bill_of
issue_done = refl

-- the lines of the body, from the first and from each later one on
abbrev issue_line : List (List ℕ)
issue_line = codes "ISSUE,-,-,-,-,-,-\n" ∷ []

abbrev from_night : List (List ℕ)
from_night = codes "READ,1,NIGHT,USE,33,-,2024-01-31\n" ∷ issue_line

abbrev from_day : List (List ℕ)
from_day = codes "READ,1,DAY,USE,1000,-,2024-01-31\n" ∷ from_night

abbrev from_used : List (List ℕ)
from_used = codes "READ,0,DAY,USE,200,-,2024-01-31\n" ∷ from_day

abbrev from_given : List (List ℕ)
from_given = codes "READ,0,DAY,GIVE,900,-,2024-01-31\n" ∷ from_used

-- what is left of the run at the issue, and at each line before it
abbrev at_issue : RunResult
at_issue = after_text bills (ended_run issued_group)

issue_run : Lines left 6 issue_line (after_readings 4 900 200 1000 33) at_issue
issue_run = line_done left 6 (codes "ISSUE,-,-,-,-,-,-\n") bills [] Issue (after_readings 4 900 200 1000 33) issued_group (ended_run issued_group) issue_read issue_done refl

night_run : Lines left 5 from_night (after_readings 3 900 200 1000 0) at_issue
night_run = line_done left 5 (codes "READ,1,NIGHT,USE,33,-,2024-01-31\n") [] issue_line (reading 1 Night Consumed 8796 33) (after_readings 3 900 200 1000 0) (after_readings 4 900 200 1000 33) at_issue by_night_read by_night_done issue_run

day_run : Lines left 4 from_day (after_readings 2 900 200 0 0) at_issue
day_run = line_done left 4 (codes "READ,1,DAY,USE,1000,-,2024-01-31\n") [] from_night (reading 1 Day Consumed 8796 1000) (after_readings 2 900 200 0 0) (after_readings 3 900 200 1000 0) at_issue by_day_read by_day_done night_run

used_run : Lines left 3 from_used (after_readings 1 900 0 0 0) at_issue
used_run = line_done left 3 (codes "READ,0,DAY,USE,200,-,2024-01-31\n") [] from_day (reading 0 Day Consumed 8796 200) (after_readings 1 900 0 0 0) (after_readings 2 900 200 0 0) at_issue used_read used_done day_run

given_run : Lines left 2 from_given group_of_two at_issue
given_run = line_done left 2 (codes "READ,0,DAY,GIVE,900,-,2024-01-31\n") [] from_used (reading 0 Day Delivered 8796 900) group_of_two (after_readings 1 900 0 0 0) at_issue given_read given_done used_run

parted : text_lines (concat from_given) ≡ from_given
parted = refl

pub month_settled : HasOneOutcome → SettlesMonth
month_settled one =
    body_alone one 65536 group_of_two (concat from_given) month_bills [] at_issue (lit≤ tt) (lit≤ tt)
    (subst (λ lines. Lines left 2 lines group_of_two at_issue) (sym parted) given_run)
    (refl, refl)
