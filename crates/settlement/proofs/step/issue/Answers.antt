use Rattle.std.proofs.Common.{arith, replicate}
use Rattle.std.proofs.lemmas.Grind.{common_steps}
use Rattle.settlement.proofs.Stepping.{issue_written}
use Rattle.settlement.proofs.step.issue.Goals as goal

pub returns-clause-done : goal.returns-clause-done
returns-clause-done g c =
    issue_written (g.R.SharingRule.sharing c.args.book.now.rule) (g.T.Tariff.price c.args.book.now.tariff) _ c.args.book.now.group _ c.in_ok-draft.draft c.month-month.result c.members-members.result (replicate 32 c.default-bills.result) c.draw.new.bills c.issue.new.bills _ _ _ _
    c.in_ok-draft.ensures.drawing c.in_ok-issue.ensures.group (grind (arith, common_steps)) (grind (arith, common_steps)) (grind (arith, common_steps)) (grind (arith, common_steps)) (grind (arith, common_steps))
    c.write_bills.ensures.end c.write_bills.ensures.text
