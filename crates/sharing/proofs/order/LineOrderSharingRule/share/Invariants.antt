use Rattle.std.proofs.Common.{drop}
use Rattle.sharing.specs.Rules.{line_order}
use Rattle.sharing.proofs.Writing.{Begun}
use Rattle.sharing.proofs.order.LineOrderSharingRule.share.Given as goal

abbrev pub invariant-loop-place : goal.invariant-loop-place
invariant-loop-place l = Begun l.shares l.place (line_order l.left (drop l.place l.needs)) (line_order l.pool l.needs)
