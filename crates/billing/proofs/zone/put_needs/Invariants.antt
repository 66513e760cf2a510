use Rattle.std.proofs.Common.{◌≡◌, take}
use Rattle.billing.specs.Zones.{needs_of}
use Rattle.billing.proofs.zone.put_needs.Given as goal

abbrev pub invariant-loop-net : goal.invariant-loop-net
invariant-loop-net l = l.needs.items ≡ needs_of (take l.net-index l.nets)
