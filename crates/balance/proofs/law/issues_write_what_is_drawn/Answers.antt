use Rattle.balance.proofs.IssuesTold as issues
use Rattle.balance.proofs.law.issues_write_what_is_drawn.Goals as goal

pub returns : goal.returns
returns c = issues.issues_write_drawings
