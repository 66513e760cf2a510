use Rattle.group.proofs.Changes as changes
use Rattle.group.proofs.law.years_alter_the_holder.Goals as goal

pub returns : goal.returns
returns c = changes.years_alter_the_holder
