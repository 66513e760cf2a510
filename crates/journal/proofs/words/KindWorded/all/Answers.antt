use Rattle.std.proofs.Common.{refl, lit<}
use Rattle.journal.proofs.words.KindWorded.all.Goals as goal
use Rattle.journal.specs.declared.kind.Kind.TheVariants.{Change, Correction, Issue, Payment, Reading, Year}

pub returns : goal.returns
returns c =
    elim [
      | Reading ↦ (0, lit< tt, refl)
      | Change ↦ (1, lit< tt, refl)
      | Correction ↦ (2, lit< tt, refl)
      | Payment ↦ (3, lit< tt, refl)
      | Issue ↦ (4, lit< tt, refl)
      | Year ↦ (5, lit< tt, refl)
    ]
