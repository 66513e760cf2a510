use Rattle.std.proofs.Common.{leb, rules}
use Rattle.std.proofs.lemmas.List.Sorted.{IsPartitionPoint-from_clause, IsPartitionedBy-leb}
use Rattle.calendar.proofs.Entries.{later, later_rise, month_found}
use Rattle.calendar.proofs.days.month_with.Goals as goal

pub returns : goal.returns
returns c =
    let day = c.args.day in
    let call = c.partition_point-month in
    let split = IsPartitionPoint-from_clause (λ first. leb first day) later call.result call.ensures.partitioned (IsPartitionedBy-leb (λ first. first) later day later_rise) (λ a r f' k. search rules) in
    month_found day call.result call.ensures.bound split c.requires
