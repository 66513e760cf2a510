use Rattle.balance.proofs.DebtsTold as told
use Rattle.balance.proofs.law.debts_are_told.Goals as goal

pub returns : goal.returns
returns c = record { by_bills = told.issues_tell_debts; by_year_ends = told.year_ends_tell_debts }
