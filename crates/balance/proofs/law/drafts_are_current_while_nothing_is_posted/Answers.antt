use Rattle.balance.proofs.CurrentDrafts as drafts
use Rattle.balance.proofs.law.drafts_are_current_while_nothing_is_posted.Goals as goal

pub returns : goal.returns
returns c = record { by_call = drafts.drafts_by_call; by_history = drafts.drafts_by_history }
