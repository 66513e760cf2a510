use Rattle.std.proofs.Common.{length, arith, false-eqb}
use Rattle.std.proofs.lemmas.Result.{err_from_is_err_and}
use Rattle.comparison.proofs.Asking.{parts_endless, parts_no_row, parts_third}
use Rattle.comparison.proofs.question.read_parts.Goals as goal

pub returns-in_default : goal.returns-in_default
returns-in_default c =
    let text = c.args.text.now in
    let some = false-eqb (length text) 0 c.if-is_empty.ensures in
    parts_endless text _ c.wrong_at.ensures (omega arith) c.in_default.ensures

pub returns-in_err-parts : goal.returns-in_err-parts
returns-in_err-parts c =
    let p = err_from_is_err_and c.from_residual.result c.from_residual.ensures.1 in
    rw (p.1, p.2) (parts_no_row c.args.text.now _ _ c.in-Some.ensures _ c.in_err-parts.ensures)

pub returns-then-not-is_empty : goal.returns-then-not-is_empty
returns-then-not-is_empty c =
    let more = false-eqb (length c.in-Some.rest.now) 0 c.if-not-is_empty.ensures in
    parts_third c.args.text.now _ c.in-Some.rest.now c.in-Some.ensures _ c.wrong_at-then-not-is_empty.ensures _ c.in_ok-parts.ensures (omega arith)
