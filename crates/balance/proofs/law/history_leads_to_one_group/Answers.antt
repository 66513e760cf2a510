use Rattle.balance.proofs.OneGroup as one
use Rattle.balance.proofs.law.history_leads_to_one_group.Goals as goal

pub returns : goal.returns
returns c = one.leads_to_one_group
