use Rattle.worked_cases.proofs.Ordering.{amounts_at_edges, change_in_order, opening_at_edges, phases_in_order, reading_in_order, values_at_edges}
use Rattle.worked_cases.proofs.orders_stand.Goals as goal

pub returns-clause-reading_in_order : goal.returns-clause-reading_in_order
returns-clause-reading_in_order c = reading_in_order

pub returns-clause-change_in_order : goal.returns-clause-change_in_order
returns-clause-change_in_order c = change_in_order

pub returns-clause-opening_at_edges : goal.returns-clause-opening_at_edges
returns-clause-opening_at_edges c = opening_at_edges

pub returns-clause-amounts_at_edges : goal.returns-clause-amounts_at_edges
returns-clause-amounts_at_edges c = amounts_at_edges

pub returns-clause-values_at_edges : goal.returns-clause-values_at_edges
returns-clause-values_at_edges c = values_at_edges

pub returns-clause-phases_in_order : goal.returns-clause-phases_in_order
returns-clause-phases_in_order c = phases_in_order
