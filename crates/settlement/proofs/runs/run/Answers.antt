use Rattle.std.proofs.Common.{arith, refl}
use Rattle.std.proofs.lemmas.Grind.{common_steps}
use Rattle.settlement.proofs.Beginning.{goes_on_after_1, stops_at_1}
use Rattle.settlement.proofs.Histories.{run_leads_on}
use Rattle.settlement.proofs.runs.run.Goals as goal

pub returns-in-Ok-clause-outcome : goal.returns-in-Ok-clause-outcome
returns-in-Ok-clause-outcome g c =
    let (begins, room, names) = c.in-Ok.ensures in
    goes_on_after_1 _ _ _ _ _ _ _ _ _ _ _ begins room names (grind (arith, common_steps)) c.run_body.ensures.done

pub returns-in-Err-clause-outcome : goal.returns-in-Err-clause-outcome
returns-in-Err-clause-outcome g c = stops_at_1 _ _ _ _ _ _ c.in-Err.fault c.in-Err.ensures

pub returns-in-Ok-clause-balance : goal.returns-in-Ok-clause-balance
returns-in-Ok-clause-balance g c =
    run_leads_on g.R.SharingRule.sharing g.T.Tariff.price g.met.R.SharingRule.keeps_law c.args.journal.now (c.args.out.now, c.args.book.now) (c.run_body.new.out, c.run_body.new.book) c.run_body.result c.run_body.ensures.terms (returns-in-Ok-clause-outcome g c)

pub returns-in-Err-clause-balance : goal.returns-in-Err-clause-balance
returns-in-Err-clause-balance g c =
    run_leads_on g.R.SharingRule.sharing g.T.Tariff.price g.met.R.SharingRule.keeps_law c.args.journal.now (c.args.out.now, c.args.book.now) (c.begin.new.out, c.args.book.now) _ (record { rule = refl; tariff = refl }) (returns-in-Err-clause-outcome g c)
