-- A call answers a refusal where the test of that refusal holds of the call's input, and is accepted where none does.
use Rattle.std.specs.Prelude.{◌≡◌, ℕ, ◌-◌, Bool, true, false, List, pos, ◌+ℤ◌, slice_get, Ok, Err}
use Rattle.std.specs.Option.{option_map_or}
use Rattle.ledger.specs.declared.bill.Bill.{Bill}
use Rattle.ledger.specs.declared.bill.YearEnd.{YearEnd}
use Rattle.ledger.specs.declared.entry.Entry.{Entry}
use Rattle.ledger.specs.declared.entry.Entry.TheVariants.{Reading, Change, Correction, Payment}
use Rattle.group.specs.Books.{after_opening}
use Rattle.group.specs.Drafts.{Stamp, drawing_result, issue_result}
use Rattle.group.specs.Entries.{after_entry, place_of}
use Rattle.group.specs.Members.{register_at}
use Rattle.group.specs.Months.{Prices, Share}
use Rattle.group.specs.Refusals.{test_of}
use Rattle.group.specs.Groups.{member_at}
use Rattle.group.specs.Years.{closing_result, preview_result}
use Rattle.group.specs.declared.group.Group.{Group}
use Rattle.group.specs.declared.group.Phase.{Phase}
use Rattle.group.specs.declared.group.Phase.TheVariants.{Blank, Open, YearEnd as AtYearEnd, Over}
use Rattle.group.specs.declared.member.Member.{Member}
use Rattle.group.specs.declared.member.OpeningRecord.{OpeningRecord}
use Rattle.group.specs.declared.refusal.BookRefusal.{BookRefusal}
use Rattle.group.specs.declared.refusal.BookRefusal.TheVariants as refused

-- a test holds of the month that is open
abbrev pub holds_of_month : (ℕ → Bool) → Phase → Bool
holds_of_month test Blank = false
holds_of_month test (Open month) = test month
holds_of_month test (AtYearEnd december) = false
holds_of_month test Over = false

-- a test holds of the record at a place
abbrev pub holds_of_member : (Member → Bool) → (place : ℕ) → Group → Bool
holds_of_member test place group = option_map_or test (slice_get group.members.items place) false

-- the test of the day that an entry tells
abbrev pub day_stands : Entry → (month : ℕ) → Bool
day_stands (Reading at day value) month = test_of refused.Day month day
day_stands (Change at day value start) month = test_of refused.Day month day
day_stands (Correction at kwh) month = false
day_stands (Payment place drams) month = false

-- the test of what the register stands at
abbrev pub below_stands : Entry → Member → Bool
below_stands (Reading at day value) member =
    test_of refused.Below (register_at at member).standing value
below_stands (Change at day value start) member =
    test_of refused.Below (register_at at member).standing value
below_stands (Correction at kwh) member = false
below_stands (Payment place drams) member = false

-- the test of the tally that the register would have
abbrev pub tally_stands : Entry → Member → Bool
tally_stands (Reading at day value) member =
    let register = register_at at member in
    test_of refused.Tally (register.tally +ℤ pos (value - register.standing))
tally_stands (Change at day value start) member =
    let register = register_at at member in
    test_of refused.Tally (register.tally +ℤ pos (value - register.standing))
tally_stands (Correction at kwh) member =
    test_of refused.Tally ((register_at at member).tally +ℤ kwh)
tally_stands (Payment place drams) member = false

-- the test of the debt that a payment would leave
abbrev pub debt_stands : Entry → Member → Bool
debt_stands (Reading at day value) member = false
debt_stands (Change at day value start) member = false
debt_stands (Correction at kwh) member = false
debt_stands (Payment place drams) member = test_of refused.Debt drams member.account

-- the test of a refusal holds of an entry into a group
abbrev pub stands_for_entry : BookRefusal → Entry → Group → Bool
stands_for_entry refused.NoMonth entry group = test_of refused.NoMonth group.phase
stands_for_entry refused.Place entry group = test_of refused.Place (place_of entry) group
stands_for_entry refused.Full entry group = test_of refused.Full group
stands_for_entry refused.Day entry group = holds_of_month (day_stands entry) group.phase
stands_for_entry refused.Value entry group = test_of refused.Value entry
stands_for_entry refused.Below entry group =
    holds_of_member (below_stands entry) (place_of entry) group
stands_for_entry refused.Tally entry group =
    holds_of_member (tally_stands entry) (place_of entry) group
stands_for_entry refused.Debt entry group =
    holds_of_member (debt_stands entry) (place_of entry) group
stands_for_entry other entry group = false

-- so it does of an opening
abbrev pub stands_for_opening : BookRefusal → (start holder : ℕ) → List OpeningRecord → Group → Bool
stands_for_opening refused.Opened start holder records group = test_of refused.Opened group.phase
stands_for_opening refused.Count start holder records group = test_of refused.Count records
stands_for_opening refused.Start start holder records group = test_of refused.Start start
stands_for_opening refused.Capacity start holder records group = test_of refused.Capacity records
stands_for_opening refused.Holder start holder records group = test_of refused.Holder holder records
stands_for_opening refused.Register start holder records group = test_of refused.Register records
stands_for_opening other start holder records group = false

-- so it does of a drawing
abbrev pub stands_for_drawing : BookRefusal → (places : ℕ) → Group → Bool
stands_for_drawing refused.NoMonth places group = test_of refused.NoMonth group.phase
stands_for_drawing refused.Bills places group = test_of refused.Bills places group
stands_for_drawing other places group = false

-- so it does of an issue, which looks at the draft, too
abbrev pub stands_for_issue : BookRefusal → Stamp → (places : ℕ) → Group → Bool
stands_for_issue refused.Draft stamp places group = test_of refused.Draft group stamp
stands_for_issue other stamp places group = stands_for_drawing other places group

-- so it does of the closing of a year
abbrev pub stands_for_closing : BookRefusal → Group → Bool
stands_for_closing refused.NoYearEnd group = test_of refused.NoYearEnd group.phase
stands_for_closing other group = false

-- so it does of asking for a record
abbrev pub stands_for_member : BookRefusal → (place : ℕ) → Group → Bool
stands_for_member refused.Place place group = test_of refused.Place place group
stands_for_member other place group = false

-- a refused entry is one of which the test of the refusal holds, and of an accepted one none does
pub record EntriesStandByTests : Type 0 where
  pub refused :
      (entry : Entry) (group : Group) (refusal : BookRefusal)
      → after_entry entry group ≡ Err refusal → stands_for_entry refusal entry group ≡ true
  pub accepted :
      (entry : Entry) (old new : Group) (refusal : BookRefusal)
      → after_entry entry old ≡ Ok new → stands_for_entry refusal entry old ≡ false

-- so it is of an opening
pub record OpeningsStandByTests : Type 0 where
  pub refused :
      (number start holder : ℕ) (records : List OpeningRecord)
      (group : Group) (refusal : BookRefusal)
      → after_opening number start holder records group ≡ Err refusal
      → stands_for_opening refusal start holder records group ≡ true
  pub accepted :
      (number start holder : ℕ) (records : List OpeningRecord)
      (old new : Group) (refusal : BookRefusal)
      → after_opening number start holder records old ≡ Ok new
      → stands_for_opening refusal start holder records old ≡ false

-- so it is of a drawing
pub record DrawingsStandByTests : Type 0 where
  pub refused :
      (share : Share) (prices : ℕ → Prices) (places : ℕ) (group : Group) (refusal : BookRefusal)
      → drawing_result share prices places group ≡ Err refusal
      → stands_for_drawing refusal places group ≡ true
  pub accepted :
      (share : Share) (prices : ℕ → Prices) (places : ℕ) (group : Group) (refusal : BookRefusal)
      (drawn : Stamp × List Bill)
      → drawing_result share prices places group ≡ Ok drawn
      → stands_for_drawing refusal places group ≡ false

-- so it is of an issue
pub record IssuesStandByTests : Type 0 where
  pub refused :
      (share : Share) (prices : ℕ → Prices) (stamp : Stamp) (places : ℕ)
      (group : Group) (refusal : BookRefusal)
      → issue_result share prices stamp places group ≡ Err refusal
      → stands_for_issue refusal stamp places group ≡ true
  pub accepted :
      (share : Share) (prices : ℕ → Prices) (stamp : Stamp) (places : ℕ)
      (group : Group) (refusal : BookRefusal) (issued : List Bill × Group)
      → issue_result share prices stamp places group ≡ Ok issued
      → stands_for_issue refusal stamp places group ≡ false

-- so it is of the closing of a year, and asking for its figures is refused just so
pub record ClosingsStandByTests : Type 0 where
  pub refused :
      (prices : ℕ → Prices) (group : Group) (refusal : BookRefusal)
      → closing_result prices group ≡ Err refusal → stands_for_closing refusal group ≡ true
  pub accepted :
      (prices : ℕ → Prices) (group : Group) (refusal : BookRefusal) (closed : YearEnd × Group)
      → closing_result prices group ≡ Ok closed → stands_for_closing refusal group ≡ false
  pub previewed :
      (prices : ℕ → Prices) (group : Group) (refusal : BookRefusal)
      → preview_result prices group ≡ Err refusal → stands_for_closing refusal group ≡ true

-- so it is of asking for a record
pub record MembersStandByTests : Type 0 where
  pub refused :
      (place : ℕ) (group : Group) (refusal : BookRefusal)
      → member_at place group ≡ Err refusal → stands_for_member refusal place group ≡ true
  pub accepted :
      (place : ℕ) (group : Group) (refusal : BookRefusal) (member : Member)
      → member_at place group ≡ Ok member → stands_for_member refusal place group ≡ false
