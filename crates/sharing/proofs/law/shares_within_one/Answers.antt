use Rattle.sharing.proofs.Single.{shares_within_one}
use Rattle.sharing.proofs.law.shares_within_one.Goals as goal

pub returns : goal.returns
returns c = shares_within_one
