use Rattle.std.proofs.Common.{refl, lit<}
use Rattle.journal.proofs.words.FlowWorded.all.Goals as goal
use Rattle.ledger.specs.declared.zone.Flow.TheVariants.{Consumed, Delivered}

pub returns : goal.returns
returns c = elim [ Consumed ↦ (0, lit< tt, refl) | Delivered ↦ (1, lit< tt, refl) ]
