use Rattle.std.proofs.Common.{rules}
use Rattle.fields.proofs.Signs.{no_digits, with_digits}
use Rattle.fields.proofs.numbers.signed_number.Goals as goal

pub returns-in_err-number-in-45 : goal.returns-in_err-number-in-45
returns-in_err-number-in-45 c =
    rw c.from_residual.ensures
    (no_digits c.args.part.now c.args.most (search rules) (search rules) (search rules) c.in_err-number-in-45.ensures)

pub returns-in_ok-number-in-45 : goal.returns-in_ok-number-in-45
returns-in_ok-number-in-45 c =
    let told = c.in_ok-number-in-45.ensures in
    with_digits c.args.part.now c.args.most (search rules) (search rules) (search rules)
    _ _ told.0 told.1 c.below_zero.ensures
