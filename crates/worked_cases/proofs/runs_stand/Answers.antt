use Rattle.worked_cases.proofs.Faults.{fault_told, length_at_edge, lines_in_order}
use Rattle.worked_cases.proofs.Months.{month_settled}
use Rattle.worked_cases.proofs.Scarce.{scarce_settled}
use Rattle.worked_cases.proofs.Years.{year_settled}
use Rattle.worked_cases.proofs.runs_stand.Goals as goal

pub returns-clause-month_settled : goal.returns-clause-month_settled
returns-clause-month_settled c = month_settled c.one_outcome.ensures

pub returns-clause-fault_told : goal.returns-clause-fault_told
returns-clause-fault_told c = fault_told c.one_outcome.ensures

pub returns-clause-lines_in_order : goal.returns-clause-lines_in_order
returns-clause-lines_in_order c = lines_in_order c.one_outcome.ensures

pub returns-clause-year_settled : goal.returns-clause-year_settled
returns-clause-year_settled c = year_settled c.one_outcome.ensures

pub returns-clause-scarce_settled : goal.returns-clause-scarce_settled
returns-clause-scarce_settled c = scarce_settled c.one_outcome.ensures

pub returns-clause-length_at_edge : goal.returns-clause-length_at_edge
returns-clause-length_at_edge c = length_at_edge c.one_outcome.ensures
