use Rattle.std.proofs.Common.{length, sym, ap, arith}
use Rattle.cells.proofs.Figures.{digits_by_power}
use Rattle.cells.proofs.texts.digits.Goals as goal
use Rattle.std.proofs.lemmas.Fmt.{decimal_digit}

pub returns-in-Some-clause-digits : goal.returns-in-Some-clause-digits
returns-in-Some-clause-digits c =
    let power = c.in-Some.ensures in
    sym (digits_by_power c.in-Some.power c.args.n power.power_le power.next_power_gt (omega arith))

pub returns-in-None-clause-digits : goal.returns-in-None-clause-digits
returns-in-None-clause-digits c = sym (ap length (decimal_digit c.args.n (omega (arith, c.in-None.ensures.none))))
