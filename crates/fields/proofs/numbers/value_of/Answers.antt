use Rattle.std.proofs.Common.{arith}
use Rattle.fields.proofs.Reading.{read_all, read_none}
use Rattle.fields.proofs.numbers.value_of.Goals as goal

pub returns-in_err-value : goal.returns-in_err-value
returns-in_err-value c =
    rw c.from_residual.ensures (read_none c.args.digits.now c.loop-byte.byte-index c.loop-byte.value c.loop-byte.invariant (omega arith) c.in_err-value.ensures)

pub returns : goal.returns
returns c = read_all c.args.digits.now c.loop-byte.byte-index c.loop-byte.value c.loop-byte.invariant (omega arith)
