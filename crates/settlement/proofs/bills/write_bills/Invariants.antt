use Rattle.settlement.proofs.Billing.{SoFar}
use Rattle.settlement.proofs.bills.write_bills.Given as goal

abbrev pub invariant-loop-place : goal.invariant-loop-place
invariant-loop-place l = SoFar l.month l.bills l.place l.fn.out l.at l.out l.end
