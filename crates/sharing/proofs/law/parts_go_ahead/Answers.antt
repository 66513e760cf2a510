use Rattle.sharing.proofs.Single.{parts_go_ahead}
use Rattle.sharing.proofs.law.parts_go_ahead.Goals as goal

pub returns : goal.returns
returns c = parts_go_ahead
