use Rattle.std.proofs.Common.{◌∙◌, rules, tests}
use Rattle.std.proofs.lemmas.Iterator.Adapters.{YieldsList-from_rev_slice}
use Rattle.std.proofs.lemmas.Iterator.Search.{find_from_yields_List}
use Rattle.tariff.proofs.Rows.{last_of_all}
use Rattle.tariff.specs.Schedules.{has_begun}
use Rattle.tariff.proofs.schedule.Schedule.row_in_force.Goals as goal

pub returns : goal.returns
returns c =
    let rows = c.args.self.now.rows.now in
    let found = find_from_yields_List (has_begun c.args.month) _ _ c.find.result c.find.ensures.ran (YieldsList-from_rev_slice rows cc) (λ x b q k. search (rules, tests)) in
    c.copied.ensures ∙ found ∙ last_of_all (has_begun c.args.month) rows
