use Rattle.settlement.proofs.Onward.{journals_go_on}
use Rattle.settlement.proofs.law.journals_go_on.Goals as goal

pub returns : goal.returns
returns c = journals_go_on
