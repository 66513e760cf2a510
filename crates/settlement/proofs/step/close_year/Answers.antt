use Rattle.std.proofs.Common.{arith}
use Rattle.std.proofs.lemmas.Grind.{common_steps}
use Rattle.settlement.proofs.Stepping.{year_written}
use Rattle.settlement.proofs.step.close_year.Goals as goal

pub returns-clause-done : goal.returns-clause-done
returns-clause-done g c =
    year_written (g.R.SharingRule.sharing c.args.book.now.rule) (g.T.Tariff.price c.args.book.now.tariff) _ c.args.book.now.group _ c.in_ok-figures.figures c.in-YearEnd.december c.holder-holder.result _ _ _ _
    c.in_ok-figures.ensures.group (grind (arith, common_steps)) (grind (arith, common_steps)) (grind (arith, common_steps))
    c.write_whole.ensures.end c.write_whole.ensures.text
