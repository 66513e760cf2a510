use Rattle.worked_cases.proofs.LeapDays.{read_or_refused}
use Rattle.worked_cases.proofs.lines_stand.Goals as goal

pub returns : goal.returns
returns c = read_or_refused
