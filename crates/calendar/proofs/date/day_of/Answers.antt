use Rattle.calendar.proofs.Numbered.{told_by_month}
use Rattle.calendar.proofs.date.day_of.Goals as goal

pub returns : goal.returns
returns c =
    let month = c.in_ok-month_in.ensures in
    told_by_month c.args.date month.0.0 month.0.1 month.0.2 month.0.3 c.in_ok-month_in.field-0 month.1 c.day_in.result c.day_in.ensures
