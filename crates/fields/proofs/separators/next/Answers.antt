use Rattle.std.proofs.Common.{◌+◌, Some, None, arith}
use Rattle.fields.proofs.Separating.{first_byte, found_from, none_from}
use Rattle.fields.specs.Separators.{IsNext}
use Rattle.fields.proofs.separators.next.Goals as goal

pub returns-in_err-ahead : goal.returns-in_err-ahead
returns-in_err-ahead c =
    let part = c.in_ok-rest.ensures.lookup.0 in
    rw c.from_residual-in_err-ahead.ensures
    (none_from c.args.separator c.args.from c.args.text.now c.in_ok-rest.rest.now part.2 part.3 (first_byte c.args.separator c.in_ok-rest.rest.now None c.in_err-ahead.ensures))

found : (c : goal.In_ok-ahead) → IsNext c.args.separator c.args.text.now c.args.from (Some (c.args.from + c.in_ok-ahead.ahead))
found c =
    let part = c.in_ok-rest.ensures.lookup.0 in
    found_from c.args.separator c.args.from c.args.text.now c.in_ok-rest.rest.now part.2 part.3 c.in_ok-ahead.ahead
    (first_byte c.args.separator c.in_ok-rest.rest.now (Some c.in_ok-ahead.ahead) c.in_ok-ahead.ensures)

pub overflow_add-result : goal.overflow_add-result
overflow_add-result c = omega (arith, (found c).1)

pub returns : goal.returns
returns c = found c
