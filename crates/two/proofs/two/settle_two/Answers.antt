use Rattle.two.proofs.Opens.{settled_two}
use Rattle.two.proofs.two.settle_two.Goals as goal

pub returns : goal.returns
returns c = settled_two c.two.result c.args.journal.now c.args.out.now c.in-Ok.outcome c.settle.new.out c.two.ensures c.in-Ok.ensures
