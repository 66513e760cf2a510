use Rattle.settlement.proofs.Order.{output_in_order}
use Rattle.settlement.proofs.law.output_in_order.Goals as goal

pub returns : goal.returns
returns c = output_in_order
