use Rattle.std.proofs.Common.{[], arith}
use Rattle.std.proofs.lemmas.Grind.{common_steps}
use Rattle.settlement.proofs.setup.Setup.open.Goals as goal

pub returns : goal.returns
returns g c =
    let goes_on = c.in_ok-open.ensures.balance [] c.new-book.ensures.balance.0 in
    record { opened = (grind (arith, common_steps), grind (arith, common_steps), grind (arith, common_steps), goes_on.1) }
