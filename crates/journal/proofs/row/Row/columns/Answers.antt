use Rattle.std.proofs.Common.{arith}
use Rattle.std.proofs.lemmas.Result.{err_from_is_err_and}
use Rattle.journal.proofs.row.Row.columns.Goals as goal

pub returns-in_err-flow : goal.returns-in_err-flow
returns-in_err-flow g c =
    let wrong = c.in_err-flow.ensures in
    let p = err_from_is_err_and c.from_residual-in_err-flow.result c.from_residual-in_err-flow.ensures.1 in
    rw (p.1, p.2) (omega (arith, wrong.0), (2, (omega (arith, wrong.1), (c.in_ok-member.ensures.0, (c.in_ok-zone.ensures.0, wrong.2)))))

pub returns-in_err-value : goal.returns-in_err-value
returns-in_err-value g c =
    let wrong = c.in_err-value.ensures in
    let p = err_from_is_err_and c.from_residual-in_err-value.result c.from_residual-in_err-value.ensures.1 in
    rw (p.1, p.2) (omega (arith, wrong.0), (3, (omega (arith, wrong.1), (c.in_ok-member.ensures.0, (c.in_ok-zone.ensures.0, (c.in_ok-flow.ensures.0, wrong.2))))))

pub returns-in_err-second : goal.returns-in_err-second
returns-in_err-second g c =
    let wrong = c.in_err-second.ensures in
    let p = err_from_is_err_and c.from_residual-in_err-second.result c.from_residual-in_err-second.ensures.1 in
    rw (p.1, p.2) (omega (arith, wrong.0), (4, (omega (arith, wrong.1), (c.in_ok-member.ensures.0, (c.in_ok-zone.ensures.0, (c.in_ok-flow.ensures.0, (c.in_ok-value.ensures.0, wrong.2)))))))

pub returns-in_err-date : goal.returns-in_err-date
returns-in_err-date g c =
    let wrong = c.in_err-date.ensures in
    let p = err_from_is_err_and c.from_residual-in_err-date.result c.from_residual-in_err-date.ensures.1 in
    rw (p.1, p.2) (omega (arith, wrong.0), (5, (omega (arith, wrong.1), (c.in_ok-member.ensures.0, (c.in_ok-zone.ensures.0, (c.in_ok-flow.ensures.0, (c.in_ok-value.ensures.0, (c.in_ok-second.ensures.0, wrong.2))))))))
