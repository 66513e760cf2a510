use Rattle.balance.proofs.HistoriesTold as told
use Rattle.balance.proofs.law.capacities_and_classes_stay.Goals as goal

pub returns : goal.returns
returns c = told.terms_stay
