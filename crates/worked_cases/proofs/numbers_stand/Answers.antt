use Rattle.worked_cases.proofs.Numbering.{numbered, roomed}
use Rattle.worked_cases.proofs.numbers_stand.Goals as goal

pub returns-clause-numbered : goal.returns-clause-numbered
returns-clause-numbered c = numbered

pub returns-clause-roomed : goal.returns-clause-roomed
returns-clause-roomed c = roomed
