use Rattle.sharing.proofs.Single.{rounds_running_sums}
use Rattle.sharing.proofs.law.rounds_running_sums.Goals as goal

pub returns : goal.returns
returns c = rounds_running_sums
