use Rattle.settlement.proofs.Single.{one_outcome}
use Rattle.settlement.proofs.law.one_outcome.Goals as goal

pub returns : goal.returns
returns c = one_outcome
