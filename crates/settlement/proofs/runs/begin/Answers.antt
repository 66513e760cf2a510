use Rattle.std.proofs.Common.{arith}
use Rattle.std.proofs.lemmas.Grind.{common_steps}
use Rattle.settlement.proofs.Beginning.{no_journal_begun, no_room_begun}
use Rattle.settlement.proofs.runs.begin.Goals as goal

pub returns-in_default : goal.returns-in_default
returns-in_default c =
    no_journal_begun c.args.journal.now c.args.out.now c.new-in_default.result (λ body begins. c.in_default.ensures body begins.1) c.new-in_default.ensures

pub returns-in_err-check_room : goal.returns-in_err-check_room
returns-in_err-check_room c =
    no_room_begun c.args.journal.now c.args.out.now c.in-Some.body.now c.from_residual.result c.in_err-check_room.field-0.0 (grind (arith, common_steps), c.in-Some.ensures) c.in_err-check_room.ensures.answer (grind (arith, common_steps))
