use Rattle.balance.proofs.IssuesTold as issues
use Rattle.balance.proofs.law.issues_share_by_the_rule.Goals as goal

pub returns : goal.returns
returns c = record { by_zones = issues.issues_share; by_nets = issues.nets_split }
