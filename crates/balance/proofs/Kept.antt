-- What every history keeps of the group that it leads to, from which the balance follows.
use Rattle.std.proofs.Common.{◌≡◌, ℕ, suc, List, [], slice_get, Some}
use Rattle.billing.specs.Accounts.{worth}
use Rattle.ledger.specs.declared.entry.MemberRegister.{MemberRegister}
use Rattle.ledger.specs.declared.zone.Flow.{Flow}
use Rattle.ledger.specs.declared.zone.Zone.{Zone}
use Rattle.group.specs.Members.{register_at}
use Rattle.group.specs.declared.group.Group.{Group}
use Rattle.group.specs.declared.group.Phase.{Phase}
use Rattle.group.specs.declared.group.Phase.TheVariants.{Blank, Open, YearEnd, Over}
use Rattle.group.specs.declared.member.Member.{Member}
use Rattle.group.specs.Months.{Prices}
use Rattle.balance.proofs.Found.{sum_of}
use Rattle.balance.proofs.Slots.{tally_in}
use Rattle.balance.specs.Balances.{EnergyBalances}
use Rattle.balance.specs.Postings.{AcceptedCall, class_at, holder_in, last_value, month_after, open_kwh, amount_owed}

-- the month that is open, or follows the December whose year is not closed yet, is the one after the last issue
abbrev pub MonthKept : Phase → List AcceptedCall → Type 0
MonthKept Blank posted = posted ≡ []
MonthKept (Open month) posted = month ≡ month_after posted
MonthKept (YearEnd december) posted = suc december ≡ month_after posted
MonthKept Over posted = Unit {0}

-- each register stands where the last reading or change left it, the tallies are the entries since the last issue, and each account and each balance is what was posted
pub record Kept (prices : ℕ → Prices) (posted : List AcceptedCall) (group : Group) : Type 0 where
  pub standings : (at : MemberRegister) (member : Member) → slice_get group.members.items at.place ≡ Some member → (register_at at member).standing ≡ last_value posted at
  pub tallies : (zone : Zone) (flow : Flow) → sum_of (tally_in zone flow) group.members.items ≡ open_kwh zone flow posted
  pub energy : (zone : Zone) → EnergyBalances zone posted group
  pub money : (place : ℕ) (member : Member) → slice_get group.members.items place ≡ Some member → worth member.account ≡ amount_owed prices place posted
  pub classes : (place : ℕ) (member : Member) → slice_get group.members.items place ≡ Some member → member.class ≡ class_at place posted
  pub holder : group.holder ≡ holder_in posted
  pub month : MonthKept group.phase posted
