use Rattle.std.proofs.Common.{drop}
use Rattle.sharing.specs.Law.{less}
use Rattle.sharing.proofs.Writing.{Begun}
use Rattle.billing.proofs.zone.bill.Given as goal

abbrev pub invariant-loop-place : goal.invariant-loop-place
invariant-loop-place l = Begun l.billed l.place (less (drop l.place l.needs) (drop l.place l.covered)) (less l.needs l.covered)
