use Rattle.group.proofs.Changes as changes
use Rattle.group.proofs.law.entries_alter_one.Goals as goal

pub returns : goal.returns
returns c = changes.entries_alter_one
