-- A group: how it opens, and what an entry changes in it.
use Rattle.std.specs.Prelude.{ℕ, ◌+◌, Bool, not, ◌&&◌, ◌||◌, if◌then◌else◌, List, [], map, length, nat_le, nat_lt, slice_get, sum_by, false, is_none, Ok, Err, Result}
use Rattle.std.specs.List.{list_all, list_any}
use Rattle.std.specs.Option.{ok_or, option_map_or}
use Rattle.calendar.specs.Gregorian.{last_month}
use Rattle.arrayvec.specs.ArrayVec.{with_item}
use Rattle.group.specs.Members.{capacity_of, has_register_over, opened_member}
use Rattle.group.specs.Results.{and_then, result_map}
use Rattle.group.specs.declared.group.Group.{Group}
use Rattle.group.specs.declared.group.Phase.TheVariants.{Blank, Open}
use Rattle.group.specs.declared.member.Member.{Member}
use Rattle.group.specs.declared.member.OpeningRecord.{OpeningRecord}
use Rattle.group.specs.declared.refusal.BookRefusal.{BookRefusal}
use Rattle.group.specs.declared.refusal.BookRefusal.TheVariants as refused

-- the group that was never opened: it has no member, and carries nothing
abbrev pub blank : Group
blank = record {
  number = 0;
  holder = 0;
  members = record { items = [] };
  carried = record { day = 0; night = 0 };
  phase = Blank;
  entries = 0;
}

-- the most members of a group
abbrev pub most_members : ℕ
most_members = 32

-- the largest capacity of a member, and the largest sum of them, in kW
abbrev pub most_capacity : ℕ
most_capacity = 150

abbrev pub most_capacities : ℕ
most_capacities = 1050

-- the most entries of a month
abbrev pub most_in_month : ℕ
most_in_month = 1000

-- the list of records is empty, or longer than a group may be
abbrev pub count_is_outside : List OpeningRecord → Bool
count_is_outside records = nat_lt (length records) 1 || nat_lt most_members (length records)

-- the start month is after December 2099
abbrev pub start_is_too_late : (start : ℕ) → Bool
start_is_too_late start = nat_lt last_month start

-- no capacity is over 150 kW, and their sum is not over 1,050 kW
abbrev pub capacities_fit : List OpeningRecord → Bool
capacities_fit records =
    list_all (λ opening. nat_le (capacity_of opening) most_capacity) records
    && nat_le (sum_by capacity_of records) most_capacities

-- a capacity is over its limit, or their sum is
abbrev pub is_over_capacity : List OpeningRecord → Bool
is_over_capacity records = not (capacities_fit records)

-- somebody stands at this place, and has at least 1 kW
abbrev pub is_producer : (place : ℕ) → List OpeningRecord → Bool
is_producer place records = option_map_or (λ opening. nat_lt 0 (capacity_of opening)) (slice_get records place) false

-- whoever is named for the holder makes nothing, or is nobody
abbrev pub holder_produces_nothing : (holder : ℕ) → List OpeningRecord → Bool
holder_produces_nothing holder records = not (is_producer holder records)

-- a register opens over 9,999,999 kWh
abbrev pub some_register_over : List OpeningRecord → Bool
some_register_over records = list_any has_register_over records

-- whether a group may open so: the first refusal that stands, or none
abbrev pub opening_check : (start holder : ℕ) → List OpeningRecord → Result (Unit {0}) BookRefusal
opening_check start holder records =
    if count_is_outside records then Err refused.Count
    else (if start_is_too_late start then Err refused.Start
    else (if is_over_capacity records then Err refused.Capacity
    else (if holder_produces_nothing holder records then Err refused.Holder
    else (if some_register_over records then Err refused.Register
    else Ok tt))))

-- the records of the members as a group opens
abbrev pub members_of : List OpeningRecord → List Member
members_of records = map opened_member records

-- a group as it opens
abbrev pub opening_result : (number start holder : ℕ) → List OpeningRecord → Result Group BookRefusal
opening_result number start holder records =
    result_map (λ done. record blank {
      number = number;
      holder = holder;
      members = record { items = members_of records };
      phase = Open start;
    }) (opening_check start holder records)

-- the record of the member at a place, where there is one
abbrev pub member_at : (place : ℕ) → Group → Result Member BookRefusal
member_at place group = ok_or (slice_get group.members.items place) refused.Place

-- nobody stands at the place
abbrev pub place_has_no_record : (place : ℕ) → Group → Bool
place_has_no_record place group = is_none (slice_get group.members.items place)

-- the month has no room for one more entry
abbrev pub month_is_full : Group → Bool
month_is_full group = nat_le most_in_month group.entries

-- whether the month has room for one more entry
abbrev pub room_for_entry : Group → Result (Unit {0}) BookRefusal
room_for_entry group = if month_is_full group then Err refused.Full else Ok tt

-- the group with one more entry, which made this of the record at a place
abbrev pub entry_group : (place : ℕ) → Member → Group → Group
entry_group place member group = record group {
  members = with_item group.members place member;
  entries = group.entries + 1;
}

-- the group after an entry that does a step on the record at a place
abbrev pub entry_result : (place : ℕ) → (Member → Result Member BookRefusal) → Group → Result Group BookRefusal
entry_result place step group =
    and_then (member_at place group) (λ member.
    and_then (room_for_entry group) (λ room.
    result_map (λ after. entry_group place after group) (step member)))
