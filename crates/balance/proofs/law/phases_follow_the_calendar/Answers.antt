use Rattle.balance.proofs.PhasesFollow as phases
use Rattle.balance.proofs.law.phases_follow_the_calendar.Goals as goal

pub returns : goal.returns
returns c = record { by_months = phases.months_follow; by_years = phases.years_follow }
