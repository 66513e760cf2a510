use Rattle.fields.proofs.Dating.{day_read, no_day}
use Rattle.fields.proofs.dates.day.Goals as goal

pub returns-in_err-date : goal.returns-in_err-date
returns-in_err-date c = rw c.from_residual.ensures (no_day c.args.part.now c.in_err-date.ensures)

pub returns : goal.returns
returns c =
    day_read c.args.part.now _ c.in_ok-date.ensures c.day_of.result c.day_of.ensures
