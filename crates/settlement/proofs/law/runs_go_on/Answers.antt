use Rattle.settlement.proofs.Onward.{runs_go_on}
use Rattle.settlement.proofs.law.runs_go_on.Goals as goal

pub returns : goal.returns
returns c = runs_go_on
