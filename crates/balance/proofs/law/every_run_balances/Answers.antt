use Rattle.balance.proofs.WholeRuns as whole
use Rattle.balance.proofs.law.every_run_balances.Goals as goal

pub returns : goal.returns
returns c = whole.every_run_balances
