-- What a history posts, and the sums of it, told by its calls and their answers alone.
use Rattle.std.specs.Prelude.{ℕ, ◌+◌, ◌-◌, ◌*◌, Bool, true, false, ◌&&◌, if◌then◌else◌, List, [], ◌∷◌, ◌++◌, map, ℤ, pos, ◌+ℤ◌, ◌-ℤ◌, ◌==◌, slice_get, sum, Ok, Err, Option, Some, None}
use Rattle.std.specs.Option.{option_map_or}
use Rattle.ledger.specs.Zones.{in_zone}
use Rattle.ledger.specs.declared.bill.Bill.{Bill}
use Rattle.ledger.specs.declared.bill.YearEnd.{YearEnd}
use Rattle.ledger.specs.declared.entry.Entry.{Entry}
use Rattle.ledger.specs.declared.entry.Entry.TheVariants.{Reading, Change, Correction, Payment}
use Rattle.ledger.specs.declared.entry.MemberRegister.{MemberRegister}
use Rattle.ledger.specs.declared.zone.Flow.{Flow}
use Rattle.ledger.specs.declared.zone.Flow.TheVariants.{Consumed, Delivered}
use Rattle.ledger.specs.declared.zone.Zone.{Zone}
use Rattle.ledger.specs.declared.zone.Zone.TheVariants.{Day, Night}
use Rattle.tariff.specs.declared.class.Class.{Class}
use Rattle.tariff.specs.declared.class.Class.TheVariants.{Other}
use Rattle.tariff.specs.declared.service.Service.{Service}
use Rattle.tariff.specs.declared.service.Service.TheVariants as service
use Rattle.group.specs.Members.{class_of, standing_at}
use Rattle.group.specs.declared.member.OpeningRecord.{OpeningRecord}
use Rattle.group.specs.Months.{Prices}
use Rattle.balance.specs.Histories.{Event, Opening, Entering, Drawing, Checking, Issuing, Withdrawing, Closing}

-- what an accepted call posts
pub data AcceptedCall : Type 0 where
  Opened : (start holder : ℕ) → List OpeningRecord → AcceptedCall
  Entered : Entry → AcceptedCall
  Issued : List Bill → AcceptedCall
  YearPaid : YearEnd → AcceptedCall

-- what a call posts: refused calls, drawings, checks and withdrawals post nothing
abbrev pub accepted_call : Event → List AcceptedCall
accepted_call (Opening number start holder records (Ok done)) = Opened start holder records ∷ []
accepted_call (Opening number start holder records (Err refusal)) = []
accepted_call (Entering entry (Ok done)) = Entered entry ∷ []
accepted_call (Entering entry (Err refusal)) = []
accepted_call (Drawing places answer) = []
accepted_call (Checking stamp current) = []
accepted_call (Issuing stamp places (Ok bills)) = Issued bills ∷ []
accepted_call (Issuing stamp places (Err refusal)) = []
accepted_call (Withdrawing stamp) = []
accepted_call (Closing (Ok figures)) = YearPaid figures ∷ []
accepted_call (Closing (Err refusal)) = []

-- what a history posts, the latest first
abbrev pub accepted_calls : List Event → List AcceptedCall
accepted_calls [] = []
accepted_calls (event ∷ history) = accepted_call event ++ accepted_calls history

-- whether two zones are the same
abbrev pub same_zone : Zone → Zone → Bool
same_zone Day Day = true
same_zone Day Night = false
same_zone Night Day = false
same_zone Night Night = true

-- whether two flows are the same
abbrev pub same_flow : Flow → Flow → Bool
same_flow Consumed Consumed = true
same_flow Consumed Delivered = false
same_flow Delivered Consumed = false
same_flow Delivered Delivered = true

-- whether two registers are the same
abbrev pub same_register : MemberRegister → MemberRegister → Bool
same_register a b = a.place == b.place && (same_zone a.zone b.zone && same_flow a.flow b.flow)

-- the opening value of a register
abbrev opening_value : List OpeningRecord → MemberRegister → ℕ
opening_value records at = option_map_or (standing_at at) (slice_get records at.place) 0

-- the value that the latest accepted reading or change of a register left, or its opening value
abbrev pub last_value : List AcceptedCall → MemberRegister → ℕ
last_value [] at = 0
last_value (Opened start holder records ∷ earlier) at = opening_value records at
last_value (Entered (Reading of day value) ∷ earlier) at = if same_register of at then value else last_value earlier at
last_value (Entered (Change of day value start) ∷ earlier) at = if same_register of at then start else last_value earlier at
last_value (other ∷ earlier) at = last_value earlier at

-- the kWh that a meter counts from the last value to another
abbrev pub counted_between : (last value : ℕ) → ℤ
counted_between last value = pos value -ℤ pos last

-- the register and the kWh of an entry after those that were posted before it: a reading's or a final value's count from the last value, and a correction is its own; a payment has none
abbrev pub energy_of : List AcceptedCall → Entry → Option (MemberRegister × ℤ)
energy_of earlier (Reading of day value) = Some (of, counted_between (last_value earlier of) value)
energy_of earlier (Change of day value start) = Some (of, counted_between (last_value earlier of) value)
energy_of earlier (Correction of kwh) = Some (of, kwh)
energy_of earlier (Payment place drams) = None

-- the kWh of an entry in a zone and a flow
abbrev pub energy_part : Zone → Flow → Option (MemberRegister × ℤ) → ℤ
energy_part zone flow None = pos 0
energy_part zone flow (Some (of, kwh)) = if same_zone of.zone zone && same_flow of.flow flow then kwh else pos 0

-- the kWh of all entries in a zone and a flow
abbrev pub entered_kwh : Zone → Flow → List AcceptedCall → ℤ
entered_kwh zone flow [] = pos 0
entered_kwh zone flow (Entered entry ∷ earlier) =
    entered_kwh zone flow earlier +ℤ energy_part zone flow (energy_of earlier entry)
entered_kwh zone flow (other ∷ earlier) = entered_kwh zone flow earlier

-- the kWh of the entries since the last issue in a zone and a flow
abbrev pub open_kwh : Zone → Flow → List AcceptedCall → ℤ
open_kwh zone flow [] = pos 0
open_kwh zone flow (Entered entry ∷ earlier) =
    open_kwh zone flow earlier +ℤ energy_part zone flow (energy_of earlier entry)
open_kwh zone flow (Issued bills ∷ earlier) = pos 0
open_kwh zone flow (other ∷ earlier) = open_kwh zone flow earlier

-- the kWh that are billed in a zone by bills
abbrev pub kwh_billed_by : Zone → List Bill → ℕ
kwh_billed_by zone bills = sum (map (λ bill. in_zone bill.billed zone) bills)

-- the kWh that all issues billed in a zone
abbrev pub billed_kwh : Zone → List AcceptedCall → ℕ
billed_kwh zone [] = 0
billed_kwh zone (Issued bills ∷ earlier) = billed_kwh zone earlier + kwh_billed_by zone bills
billed_kwh zone (other ∷ earlier) = billed_kwh zone earlier

-- the kWh that all year ends paid in a zone
abbrev pub kwh_paid : Zone → List AcceptedCall → ℕ
kwh_paid zone [] = 0
kwh_paid zone (YearPaid figures ∷ earlier) = kwh_paid zone earlier + in_zone figures.paid zone
kwh_paid zone (other ∷ earlier) = kwh_paid zone earlier

-- the holder's place, as the opening told it
abbrev pub holder_in : List AcceptedCall → ℕ
holder_in [] = 0
holder_in (Opened start holder records ∷ earlier) = holder
holder_in (other ∷ earlier) = holder_in earlier

-- the class of the member at a place, by its opening record
abbrev pub class_at : (place : ℕ) → List AcceptedCall → Class
class_at place [] = Other
class_at place (Opened start holder records ∷ earlier) = option_map_or class_of (slice_get records place) Other
class_at place (other ∷ earlier) = class_at place earlier

-- the month after the last issue: the start month, and one more for each issue
abbrev pub month_after : List AcceptedCall → ℕ
month_after [] = 0
month_after (Opened start holder records ∷ earlier) = start
month_after (Issued bills ∷ earlier) = month_after earlier + 1
month_after (other ∷ earlier) = month_after earlier

-- what a bill charges, in hundredths of a dram: billed kWh at the zone's energy price and covered ones at that of distribution
abbrev pub charge : (Service → ℕ) → Bill → ℕ
charge price bill =
    (bill.billed.day * price (service.Energy Day) + bill.covered.day * price service.Distribution)
    + (bill.billed.night * price (service.Energy Night) + bill.covered.night * price service.Distribution)

-- what a year's end credits, in hundredths of a dram: each zone's kWh at its year-end price
abbrev pub credit : (Service → ℕ) → YearEnd → ℕ
credit price figures =
    figures.paid.day * price (service.YearEnd Day) + figures.paid.night * price (service.YearEnd Night)

-- the prices of a month for a class
abbrev pub prices_for : (ℕ → Prices) → (month : ℕ) → Class → Service → ℕ
prices_for prices month class service' = prices month service' class

-- what the member at a place owes, in hundredths of a dram: what the bills charge at the prices of their month,
-- less its payments, less, for the holder, what the year ends credit at the prices of the December issued before
abbrev pub amount_owed : (ℕ → Prices) → (place : ℕ) → List AcceptedCall → ℤ
amount_owed prices place [] = pos 0
amount_owed prices place (Entered (Payment payer drams) ∷ earlier) =
    amount_owed prices place earlier -ℤ pos (if payer == place then 100 * drams else 0)
amount_owed prices place (Issued bills ∷ earlier) =
    let price = prices_for prices (month_after earlier) (class_at place earlier) in
    amount_owed prices place earlier +ℤ pos (option_map_or (charge price) (slice_get bills place) 0)
amount_owed prices place (YearPaid figures ∷ earlier) =
    let price = prices_for prices (month_after earlier - 1) (class_at place earlier) in
    amount_owed prices place earlier -ℤ pos (if holder_in earlier == place then credit price figures else 0)
amount_owed prices place (other ∷ earlier) = amount_owed prices place earlier
