use Rattle.comparison.proofs.Once as once
use Rattle.comparison.proofs.law.one_reading.Goals as goal

pub returns-clause-question : goal.returns-clause-question
returns-clause-question c = once.one_question

pub returns-clause-fault : goal.returns-clause-fault
returns-clause-fault c = once.one_fault
