use Rattle.tariff.proofs.InForce.{is_in_force}
use Rattle.tariff.proofs.law.in_force_by_rows.Goals as goal

pub returns : goal.returns
returns c = is_in_force
