-- What an entry makes of a group, or why it is refused.
use Rattle.std.specs.Prelude.{ℕ, Bool, Ok, Err, Result, is_err}
use Rattle.ledger.specs.declared.entry.Entry.{Entry}
use Rattle.ledger.specs.declared.entry.Entry.TheVariants.{Reading, Change, Correction, Payment}
use Rattle.group.specs.Groups.{entry_result}
use Rattle.group.specs.Members.{on_account, on_register}
use Rattle.group.specs.Payments.{with_payment, payment_is_outside}
use Rattle.group.specs.Registers.{with_correction, is_beyond, is_over, with_reading, value_is_too_large}
use Rattle.group.specs.Results.{and_then}
use Rattle.group.specs.declared.group.Group.{Group}
use Rattle.group.specs.declared.group.Phase.{Phase}
use Rattle.group.specs.declared.group.Phase.TheVariants.{Blank, Open, YearEnd, Over}
use Rattle.group.specs.declared.member.Member.{Member}
use Rattle.group.specs.declared.refusal.BookRefusal.{BookRefusal}
use Rattle.group.specs.declared.refusal.BookRefusal.TheVariants.{NoMonth}

-- the month that is open
abbrev pub open_month : Phase → Result ℕ BookRefusal
open_month Blank = Err NoMonth
open_month (Open month) = Ok month
open_month (YearEnd december) = Err NoMonth
open_month Over = Err NoMonth

-- no month is open
abbrev pub no_month_is_open : Phase → Bool
no_month_is_open phase = is_err (open_month phase)

-- a register value, a correction or a payment is out of its range
abbrev pub amount_is_outside : Entry → Bool
amount_is_outside (Reading at day value) = is_over value
amount_is_outside (Change at day value start) = value_is_too_large value start
amount_is_outside (Correction at kwh) = is_beyond kwh
amount_is_outside (Payment place drams) = payment_is_outside drams

-- the place that an entry is for
abbrev pub place_of : Entry → ℕ
place_of (Reading at day value) = at.place
place_of (Change at day value start) = at.place
place_of (Correction at kwh) = at.place
place_of (Payment place drams) = place

-- what an entry of an open month makes of the record that it is for: a reading counts on from its value, and a change from the start value
abbrev pub recorded_member : (month : ℕ) → Entry → Member → Result Member BookRefusal
recorded_member month (Reading at day value) = on_register at (with_reading month day value value)
recorded_member month (Change at day value start) = on_register at (with_reading month day value start)
recorded_member month (Correction at kwh) = on_register at (with_correction kwh)
recorded_member month (Payment place drams) = on_account (with_payment drams)

-- what an entry makes of a group
abbrev pub after_entry : Entry → Group → Result Group BookRefusal
after_entry entry group =
    and_then (open_month group.phase) (λ month. entry_result (place_of entry) (recorded_member month entry) group)
