use Rattle.std.proofs.Common.{arith}
use Rattle.calendar.proofs.Entries.{entry_is}
use Rattle.calendar.proofs.days.first.Goals as goal

pub returns : goal.returns
returns c = entry_is c.args.month 0 (omega arith)
