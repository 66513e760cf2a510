use Rattle.std.proofs.Common.{◌≡◌, take}
use Rattle.group.specs.Groups.{members_of}
use Rattle.group.proofs.group.members_of.Given as goal

abbrev pub invariant-loop-record : goal.invariant-loop-record
invariant-loop-record l = l.members.items ≡ members_of (take l.record-index l.records)
