use Rattle.std.proofs.Common.{◌≡◌, ◌*◌, ◌≤◌, sum_by, take, true, nat_le}
use Rattle.std.specs.List.{list_all}
use Rattle.group.specs.Members.{capacity_of}
use Rattle.group.proofs.group.capacities_fit.Given as goal

abbrev pub invariant-loop-record : goal.invariant-loop-record
invariant-loop-record l = record {
  each : list_all (λ opening. nat_le (capacity_of opening) 150) (take l.record-index l.records) ≡ true;
  together : l.sum ≡ sum_by capacity_of (take l.record-index l.records);
  bound : l.sum ≤ 150 * l.record-index;
}
