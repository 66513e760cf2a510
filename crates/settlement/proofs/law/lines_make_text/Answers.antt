use Rattle.settlement.proofs.Parting.{lines_make_text}
use Rattle.settlement.proofs.law.lines_make_text.Goals as goal

pub returns : goal.returns
returns c = lines_make_text
