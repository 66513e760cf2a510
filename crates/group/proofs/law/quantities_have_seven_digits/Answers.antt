use Rattle.group.proofs.Quantities.{seven_digits}
use Rattle.group.proofs.law.quantities_have_seven_digits.Goals as goal

pub returns : goal.returns
returns c = seven_digits
