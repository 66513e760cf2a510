use Rattle.sharing.proofs.Single.{parts_add_to_rest}
use Rattle.sharing.proofs.law.parts_add_to_rest.Goals as goal

pub returns : goal.returns
returns c = parts_add_to_rest
