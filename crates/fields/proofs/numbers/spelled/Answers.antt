use Rattle.std.proofs.Common.{arith, rules}
use Rattle.fields.proofs.Reading.{by_digits, no_empty, no_zero}
use Rattle.fields.proofs.numbers.spelled.Goals as goal

pub returns-in_default : goal.returns-in_default
returns-in_default c = by_digits c.args.part.now _ (grind arith) (grind arith) c.value_of.ensures

pub returns-in-empty : goal.returns-in-empty
returns-in-empty c = no_empty c.args.part.now (omega arith)

pub returns-in-empty-2 : goal.returns-in-empty-2
returns-in-empty-2 c = no_zero c.args.part.now (omega arith) (search rules)
