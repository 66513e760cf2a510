use Rattle.balance.proofs.HistoriesTold as told
use Rattle.balance.proofs.law.entries_are_counted.Goals as goal

pub returns : goal.returns
returns c = told.entries_are_counted
