-- What a history tells of the group that it leads to besides its balance: how many entries its month has, and who its members are.
use Rattle.std.specs.Prelude.{◌≡◌, ℕ, ◌+◌, List, [], ◌∷◌, map}
use Rattle.tariff.specs.declared.class.Class.{Class}
use Rattle.group.specs.declared.group.Group.{Group}
use Rattle.group.specs.declared.member.Member.{Member}
use Rattle.group.specs.declared.member.OpeningRecord.{OpeningRecord}
use Rattle.group.specs.Months.{Prices, Share}
use Rattle.balance.specs.Histories.{Event, Leads}
use Rattle.balance.specs.Postings.{AcceptedCall, Entered, Issued, Opened, accepted_calls}

-- how many entries were posted since the last issue
abbrev pub entries_since : List AcceptedCall → ℕ
entries_since [] = 0
entries_since (Opened start holder records ∷ earlier) = 0
entries_since (Entered entry ∷ earlier) = entries_since earlier + 1
entries_since (Issued bills ∷ earlier) = 0
entries_since (other ∷ earlier) = entries_since earlier

-- the records that the group opened with
abbrev pub records_in : List AcceptedCall → List OpeningRecord
records_in [] = []
records_in (Opened start holder records ∷ earlier) = records
records_in (other ∷ earlier) = records_in earlier

-- the capacity and the class of a member
abbrev pub capacity_and_class : Member → ℕ × Class
capacity_and_class member = (member.capacity, member.class)

-- those of an opening record
abbrev pub opening_capacity_and_class : OpeningRecord → ℕ × Class
opening_capacity_and_class opening = (opening.capacity, opening.class)

-- a group counts just the entries that were posted since the last issue
abbrev pub EntriesAreCounted : Type 0
EntriesAreCounted =
    (share : Share) (prices : ℕ → Prices) (history : List Event) (group : Group)
    → Leads share prices history group → group.entries ≡ entries_since (accepted_calls history)

-- a group has a member for each record that it opened with, of the same capacity and class
abbrev pub CapacitiesAndClassesStay : Type 0
CapacitiesAndClassesStay =
    (share : Share) (prices : ℕ → Prices) (history : List Event) (group : Group)
    → Leads share prices history group
    → map capacity_and_class group.members.items ≡ map opening_capacity_and_class (records_in (accepted_calls history))
