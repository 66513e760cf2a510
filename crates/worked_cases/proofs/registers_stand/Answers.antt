use Rattle.worked_cases.proofs.Readings.{read_again, tallied}
use Rattle.worked_cases.proofs.registers_stand.Goals as goal

pub returns-clause-read_again : goal.returns-clause-read_again
returns-clause-read_again c = read_again

pub returns-clause-tallied : goal.returns-clause-tallied
returns-clause-tallied c = tallied
