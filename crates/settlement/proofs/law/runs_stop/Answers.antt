use Rattle.settlement.proofs.Onward.{runs_stop}
use Rattle.settlement.proofs.law.runs_stop.Goals as goal

pub returns : goal.returns
returns c = runs_stop
