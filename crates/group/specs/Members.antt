-- The record of a member, its registers and its account.
use Rattle.std.specs.Prelude.{ℕ, Bool, ◌||◌, pos, Result}
use Rattle.billing.specs.declared.account.Account.{Account}
use Rattle.ledger.specs.Zones.{in_flow, in_zone, with_flow, with_zone}
use Rattle.ledger.specs.declared.zone.ByFlow.{ByFlow}
use Rattle.ledger.specs.declared.zone.ByZone.{ByZone}
use Rattle.ledger.specs.declared.entry.MemberRegister.{MemberRegister}
use Rattle.tariff.specs.declared.class.Class.{Class}
use Rattle.tariff.specs.declared.class.Class.TheVariants.{Other}
use Rattle.group.specs.Registers.{is_over, opened_register}
use Rattle.group.specs.Results.{result_map}
use Rattle.group.specs.declared.member.Member.{Member}
use Rattle.group.specs.declared.member.OpeningRecord.{OpeningRecord}
use Rattle.group.specs.declared.refusal.BookRefusal.{BookRefusal}
use Rattle.group.specs.declared.register.Register.{Register}

-- the register of a zone and a flow
abbrev pub register_at : MemberRegister → Member → Register
register_at at member = in_flow (in_zone member.registers at.zone) at.flow

-- the record with another value of that register
abbrev pub with_register : MemberRegister → Register → Member → Member
with_register at register member =
    let flows = with_flow at.flow register (in_zone member.registers at.zone) in
    record member { registers = with_zone at.zone flows member.registers }

-- what a step on one register does to the record
abbrev pub on_register : MemberRegister → (Register → Result Register BookRefusal) → Member → Result Member BookRefusal
on_register at step member =
    result_map (λ register. with_register at register member) (step (register_at at member))

-- what a step on the account does to the record
abbrev pub on_account : (Account → Result Account BookRefusal) → Member → Result Member BookRefusal
on_account step member = result_map (λ account. record member { account = account }) (step member.account)

-- a record as a group opens
abbrev pub opening_record : (capacity : ℕ) → Class → ByZone (ByFlow ℕ) → OpeningRecord
opening_record capacity class standings = record { capacity = capacity; class = class; standings = standings }

-- its capacity in kW
abbrev pub capacity_of : OpeningRecord → ℕ
capacity_of opening = opening.capacity

-- its class
abbrev pub class_of : OpeningRecord → Class
class_of opening = opening.class

-- what its register of a zone and a flow stands at
abbrev pub standing_at : MemberRegister → OpeningRecord → ℕ
standing_at at opening = in_flow (in_zone opening.standings at.zone) at.flow

-- one of both registers of a zone opens over 9,999,999 kWh
abbrev pub one_over : ByFlow ℕ → Bool
one_over standings = is_over standings.consumed || is_over standings.delivered

-- a register opens over 9,999,999 kWh
abbrev pub has_register_over : OpeningRecord → Bool
has_register_over opening = one_over opening.standings.day || one_over opening.standings.night

-- both registers of a zone as they open
abbrev pub opened_flows : ByFlow ℕ → ByFlow Register
opened_flows standings = record {
  consumed = opened_register standings.consumed;
  delivered = opened_register standings.delivered;
}

-- the record of a member as the group opens: it owes nothing and nothing is tallied
abbrev pub opened_member : OpeningRecord → Member
opened_member opening = record {
  capacity = opening.capacity;
  class = opening.class;
  registers = record {
    day = opened_flows opening.standings.day;
    night = opened_flows opening.standings.night;
  };
  account = record { debt = pos 0; fraction = 0 };
}

-- a record of nobody, as stands where a table of members has a place left over
abbrev pub nobody : Member
nobody = opened_member (opening_record 0 Other (record {
  day = record { consumed = 0; delivered = 0 };
  night = record { consumed = 0; delivered = 0 };
}))
