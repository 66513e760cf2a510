-- The group of two, and what a journal over it comes to.
use Rattle.std.specs.Prelude.{◌≡◌, ℕ, ◌*◌, List, [], ◌∷◌, Ok}
use Rattle.balance.specs.Histories.{Event, Opening}
use Rattle.group.specs.Members.{opened_member, opening_record}
use Rattle.group.specs.declared.group.Group.{Group}
use Rattle.group.specs.declared.group.Phase.TheVariants.{Open}
use Rattle.group.specs.declared.member.OpeningRecord.{OpeningRecord}
use Rattle.ledger.specs.declared.zone.ByFlow.{ByFlow}
use Rattle.ledger.specs.declared.zone.ByZone.{ByZone}
use Rattle.ledger.specs.declared.zone.Zone.TheVariants.{Day, Night}
use Rattle.settlement.specs.Setups.{SettlesFrom}
use Rattle.settlement.specs.declared.runs.Outcome.{Outcome}
use Rattle.settlement.specs.declared.setup.Setup.{Setup}
use Rattle.sharing.specs.Rules.{proportion}
use Rattle.sharing.specs.declared.proportion.Proportion.{Proportion}
use Rattle.group.specs.Months.{Prices}
use Rattle.tariff.specs.Charges.{charged_price}
use Rattle.tariff.specs.declared.class.Class.{Class}
use Rattle.tariff.specs.declared.class.Class.TheVariants.{Household, Other}
use Rattle.tariff.specs.declared.fixed.FixedTariff.{FixedTariff}
use Rattle.tariff.specs.declared.service.Service.{Service}
use Rattle.tariff.specs.declared.service.Service.TheVariants.{Distribution, Energy, YearEnd}

-- every register opens at 0
abbrev at_0 : ByZone (ByFlow ℕ)
at_0 = record { day = record { consumed = 0; delivered = 0 }; night = record { consumed = 0; delivered = 0 } }

-- the member at place 0, with 100 kW
abbrev pub producer : OpeningRecord
producer = opening_record 100 Other at_0

-- the member at place 1
abbrev pub household : OpeningRecord
household = opening_record 0 Household at_0

-- the prices in hundredths of a dram for each kWh, in every month and class
abbrev pub prices : Prices
prices (Energy Day) class = 4500
prices (Energy Night) class = 3507
prices Distribution class = 1000
prices (YearEnd Day) class = 2000
prices (YearEnd Night) class = 1500

-- group 7 from January 2024 on, of these two members, of whom the first is the holder, at these prices
pub record IsTwo (setup : Setup Proportion FixedTariff) : Type 0 where
  pub number : setup.number ≡ 7
  pub start : setup.start ≡ 24 * 12
  pub holder : setup.holder ≡ 0
  pub records : setup.records.now ≡ producer ∷ household ∷ []
  pub priced : (service : Service) (class : Class) → charged_price setup.tariff.prices service class ≡ prices service class

-- that group with its first month open
abbrev pub group_of_two : Group
group_of_two = record {
  number = 7;
  holder = 0;
  members = record { items = opened_member producer ∷ opened_member household ∷ [] };
  carried = record { day = 0; night = 0 };
  phase = Open (24 * 12);
  entries = 0;
}

-- the call that opens it
abbrev pub opening_of_two : Event
opening_of_two = Opening 7 (24 * 12) 0 (producer ∷ household ∷ []) (Ok tt)

-- a journal is run over a book of that group, settled by proportion at these prices, and the history of its opening and of
-- the calls of the accepted lines leads to what that leaves, balanced at its start and after each of its calls
abbrev pub SettlesTwo : (journal old : List ℕ) → Outcome → (new : List ℕ) → Type 0
SettlesTwo journal old outcome new =
    (after : Group) × SettlesFrom proportion (λ month. prices) opening_of_two journal (old, group_of_two) outcome (new, after)
