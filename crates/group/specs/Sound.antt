-- What holds of the group in every book: the ranges of its figures, so that no call leaves what numbers can hold, and that it is blank before its opening.
use Rattle.std.specs.Prelude.{◌≡◌, ℕ, ◌+◌, ◌*◌, ◌%◌, ◌<◌, ◌≤◌, All, length, nat_abs}
use Rattle.calendar.specs.Gregorian.{last_month}
use Rattle.ledger.specs.Zones.{in_zone}
use Rattle.ledger.specs.declared.zone.ByFlow.{ByFlow}
use Rattle.billing.specs.declared.account.Account.{Account}
use Rattle.billing.specs.declared.supply.Supply.{Supply}
use Rattle.ledger.specs.declared.zone.ByZone.{ByZone}
use Rattle.ledger.specs.declared.zone.Zone.{Zone}
use Rattle.group.specs.Groups.{blank, most_in_month, most_members}
use Rattle.group.specs.Payments.{most_in_advance}
use Rattle.group.specs.Registers.{most_standing, most_tally}
use Rattle.group.specs.declared.group.Group.{Group}
use Rattle.group.specs.declared.group.Phase.{Phase}
use Rattle.group.specs.declared.group.Phase.TheVariants.{Blank, Open, YearEnd, Over}
use Rattle.group.specs.declared.member.Member.{Member}
use Rattle.group.specs.declared.register.Register.{Register}

-- a register of seven digits, and a tally of up to 1,000,000 kWh either way
pub record IsSoundRegister (register : Register) : Type 0 where
  pub standing : register.standing ≤ most_standing
  pub tally : nat_abs register.tally ≤ most_tally

-- both registers of a zone
pub record AreSoundFlows (flows : ByFlow Register) : Type 0 where
  pub consumed : IsSoundRegister flows.consumed
  pub delivered : IsSoundRegister flows.delivered

-- a record whose registers and fraction are in their ranges, and whose debt is at most so many drams either way
pub record IsSoundMember (owed : ℕ) (member : Member) : Type 0 where
  pub day : AreSoundFlows member.registers.day
  pub night : AreSoundFlows member.registers.night
  pub fraction : member.account.fraction < 100
  pub debt : nat_abs member.account.debt ≤ owed

-- the most that a member owes or is owed in a phase: a payment leaves a debt of -1,000,000,000 drams at the lowest,
-- a month moves a debt by less than 100,000,000,000, and a year's end by less than 1,900,000,000,000
abbrev pub most_owed : Phase → ℕ
most_owed Blank = 0
most_owed (Open month) = most_in_advance + 2000000000000 * month
most_owed (YearEnd december) = most_in_advance + 100000000000 + 2000000000000 * december
most_owed Over = most_in_advance + 2000000000000 * 1200

-- the most that a zone carries in a phase: 32 members have at most 64,000,000 kWh over in each month since January
abbrev pub most_carried : Phase → ℕ
most_carried Blank = 0
most_carried (Open month) = 64000000 * (month % 12)
most_carried (YearEnd december) = 768000000
most_carried Over = 0

-- the most entries in a phase: an open month takes up to 1,000, and elsewhere there are none
abbrev pub most_entries : Phase → ℕ
most_entries Blank = 0
most_entries (Open month) = most_in_month
most_entries (YearEnd december) = 0
most_entries Over = 0

-- the months are those of the calendar, and the holder is a member once the group is opened
abbrev pub IsSoundPhase : Phase → (holder members : ℕ) → Type 0
IsSoundPhase Blank holder members = Unit {0}
IsSoundPhase (Open month) holder members = (month ≤ last_month) × (holder < members)
IsSoundPhase (YearEnd december) holder members = (december ≤ last_month) × (december % 12 ≡ 11) × (holder < members)
IsSoundPhase Over holder members = holder < members

-- the figures of the group are in their ranges, its phase has the months and the members that it may have, and before its opening it is the blank one
pub record IsSound (group : Group) : Type 0 where
  pub few : length group.members.items ≤ most_members
  pub each : All (IsSoundMember (most_owed group.phase)) group.members.items
  pub carried : (zone : Zone) → in_zone group.carried zone ≤ most_carried group.phase
  pub entries : group.entries ≤ most_entries group.phase
  pub phase : IsSoundPhase group.phase group.holder (length group.members.items)
  pub unopened : group.phase ≡ Blank → group ≡ blank

-- what a member got in a month is at most 2,000,000 kWh of each kind
pub record AreSmallSupplies (supplies : ByZone Supply) : Type 0 where
  pub day_billed : supplies.day.billed ≤ 2000000
  pub day_covered : supplies.day.covered ≤ 2000000
  pub night_billed : supplies.night.billed ≤ 2000000
  pub night_covered : supplies.night.covered ≤ 2000000

-- an account to which a month's cost or a year's credit can be posted
pub record IsPostable (account : Account) : Type 0 where
  pub fraction : account.fraction < 100
  pub debt : nat_abs account.debt ≤ 2500000000000000
