use Rattle.sharing.proofs.Single.{serves_in_order}
use Rattle.sharing.proofs.law.serves_in_order.Goals as goal

pub returns : goal.returns
returns c = serves_in_order
