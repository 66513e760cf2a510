use Rattle.std.proofs.Common.{refl, lit<}
use Rattle.journal.proofs.words.ZoneWorded.all.Goals as goal
use Rattle.ledger.specs.declared.zone.Zone.TheVariants.{Day, Night}

pub returns : goal.returns
returns c = elim [ Day ↦ (0, lit< tt, refl) | Night ↦ (1, lit< tt, refl) ]
