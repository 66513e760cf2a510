-- The book's refusals: the number of each, what it stands for in words, and the test of the input by which it stands.
-- In which order the tests come, each call's own definition says, and that a call refuses by these very tests, `Standing`.
use Rattle.std.specs.Prelude.{ℕ, ℤ, Bool, List, codes}
use Rattle.billing.specs.declared.account.Account.{Account}
use Rattle.ledger.specs.declared.entry.Entry.{Entry}
use Rattle.group.specs.Books.{was_opened}
use Rattle.group.specs.Drafts.{Stamp, draft_is_out_of_date, slice_is_too_short}
use Rattle.group.specs.Entries.{amount_is_outside, no_month_is_open}
use Rattle.group.specs.Groups.{count_is_outside, holder_produces_nothing, is_over_capacity, month_is_full, place_has_no_record, some_register_over, start_is_too_late}
use Rattle.group.specs.Payments.{debt_would_be_too_low}
use Rattle.group.specs.Registers.{day_is_outside, is_beyond, value_is_below}
use Rattle.group.specs.Years.{no_year_has_ended}
use Rattle.group.specs.declared.group.Group.{Group}
use Rattle.group.specs.declared.group.Phase.{Phase}
use Rattle.group.specs.declared.member.OpeningRecord.{OpeningRecord}
use Rattle.group.specs.declared.refusal.BookRefusal.{BookRefusal}
use Rattle.group.specs.declared.refusal.BookRefusal.TheVariants.{Opened, Count, Start, Capacity, Holder, Register, NoMonth, NoYearEnd, Place, Full, Day, Value, Below, Tally, Debt, Bills, Draft}

-- a refusal's number, and what it stands for in words
pub record Meaning : Type 0 where
  pub number : ℕ
  pub words : List ℕ

-- the refusals of the book's calls
abbrev pub meaning : BookRefusal → Meaning
meaning Opened = record { number = 1; words = codes "the book has been opened already" }
meaning Count = record { number = 2; words = codes "a group has 1 to 32 members" }
meaning Start = record { number = 3; words = codes "no book opens after December 2099" }
meaning Capacity = record { number = 4; words = codes "a member has over 150 kW, or all together have over 1050 kW" }
meaning Holder = record { number = 5; words = codes "nobody with a capacity is at the place of the holder" }
meaning Register = record { number = 6; words = codes "a register opens with more than seven digits" }
meaning NoMonth = record { number = 11; words = codes "no month is open" }
meaning NoYearEnd = record { number = 12; words = codes "no year waits for its closing" }
meaning Place = record { number = 13; words = codes "nobody has this place" }
meaning Full = record { number = 14; words = codes "the month has its 1000 entries already" }
meaning Day = record { number = 15; words = codes "the day is not one of the open month" }
meaning Value = record { number = 16; words = codes "the value, the correction or the payment is out of its range" }
meaning Below = record { number = 17; words = codes "the register stands higher already" }
meaning Tally = record { number = 18; words = codes "the register would have over 1000000 kWh in the month, either way" }
meaning Debt = record { number = 19; words = codes "the payment would leave the member over 1000000000 drams in credit" }
meaning Bills = record { number = 20; words = codes "there are more members than places for bills" }
meaning Draft = record { number = 21; words = codes "the draft is out of date" }

-- what the test of each refusal looks at
abbrev pub Test : BookRefusal → Type 0
Test Opened = Phase → Bool
Test Count = List OpeningRecord → Bool
Test Start = (start : ℕ) → Bool
Test Capacity = List OpeningRecord → Bool
Test Holder = (holder : ℕ) → List OpeningRecord → Bool
Test Register = List OpeningRecord → Bool
Test NoMonth = Phase → Bool
Test NoYearEnd = Phase → Bool
Test Place = (place : ℕ) → Group → Bool
Test Full = Group → Bool
Test Day = (month day : ℕ) → Bool
Test Value = Entry → Bool
Test Below = (standing value : ℕ) → Bool
Test Tally = (sum : ℤ) → Bool
Test Debt = (drams : ℕ) → Account → Bool
Test Bills = (places : ℕ) → Group → Bool
Test Draft = Group → Stamp → Bool

-- the test of the input by which each refusal stands
abbrev pub test_of : (refusal : BookRefusal) → Test refusal
test_of Opened = was_opened
test_of Count = count_is_outside
test_of Start = start_is_too_late
test_of Capacity = is_over_capacity
test_of Holder = holder_produces_nothing
test_of Register = some_register_over
test_of NoMonth = no_month_is_open
test_of NoYearEnd = no_year_has_ended
test_of Place = place_has_no_record
test_of Full = month_is_full
test_of Day = day_is_outside
test_of Value = amount_is_outside
test_of Below = value_is_below
test_of Tally = is_beyond
test_of Debt = debt_would_be_too_low
test_of Bills = slice_is_too_short
test_of Draft = draft_is_out_of_date

-- the number of a refusal
abbrev pub book_refusal_number : BookRefusal → ℕ
book_refusal_number refusal = (meaning refusal).number
