use Rattle.balance.proofs.Sampled as sampled
use Rattle.balance.proofs.law.sample_tells.Goals as goal

pub returns : goal.returns
returns c = sampled.sample_tells
