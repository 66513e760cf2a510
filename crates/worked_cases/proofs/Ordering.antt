-- What calls come to, in the order of their tests and at the edges of them.
use Rattle.std.proofs.Common.{refl}
use Rattle.group.specs.Registers.{quantity}
use Rattle.worked_cases.specs.Orders.{AmountsHaveEdges, ChangeRefusesInOrder, OpeningHasEdges, PhasesFollowInOrder, ReadingRefusesInOrder, ValuesHaveEdges}

pub reading_in_order : ReadingRefusesInOrder
unfolding quantity
reading_in_order = record { no_month = refl; place = refl; full = refl; day = refl; value = refl; below = refl; tally = refl; accepted = refl }

pub change_in_order : ChangeRefusesInOrder
unfolding quantity
change_in_order = record { no_month = refl; place = refl; full = refl; day = refl; start = refl; value = refl; below = refl; tally = refl; accepted = refl }

pub opening_at_edges : OpeningHasEdges
opening_at_edges = record {
  no_record = refl;
  one_record = refl;
  records_of_32 = refl;
  records_of_33 = refl;
  last_month = refl;
  no_month_more = refl;
  capacity_of_151 = refl;
  capacities_of_1050 = refl;
  capacities_of_1051 = refl;
  holder_of_0 = refl;
  registers = refl;
  day_consumed = refl;
  day_delivered = refl;
  night_consumed = refl;
  night_delivered = refl;
}

pub amounts_at_edges : AmountsHaveEdges
amounts_at_edges = record {
  payment_of_0 = refl;
  payment_of_1 = refl;
  largest_payment = refl;
  larger_payment = refl;
  too_far_ahead = refl;
  most_added = refl;
  more_added = refl;
  most_taken = refl;
  more_taken = refl;
}

pub values_at_edges : ValuesHaveEdges
unfolding quantity
values_at_edges = record { largest = refl; larger = refl; largest_start = refl; larger_start = refl }

pub phases_in_order : PhasesFollowInOrder
phases_in_order = record { november = refl; december = refl; last_november = refl; last_december = refl; next_year = refl; no_next_year = refl }
