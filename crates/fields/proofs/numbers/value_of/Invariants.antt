use Rattle.fields.proofs.Reading.{ReadSoFar}
use Rattle.fields.proofs.numbers.value_of.Given as goal

abbrev pub invariant-loop-byte : goal.invariant-loop-byte
invariant-loop-byte l = ReadSoFar l.digits l.byte-index l.value
