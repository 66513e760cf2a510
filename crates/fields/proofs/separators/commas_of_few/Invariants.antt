use Rattle.std.proofs.Common.{◌≡◌, ◌==◌, take}
use Rattle.std.specs.List.{count_by}
use Rattle.fields.specs.Bytes.{comma}
use Rattle.fields.proofs.separators.commas_of_few.Given as goal

abbrev pub invariant-loop-byte : goal.invariant-loop-byte
invariant-loop-byte l = l.total ≡ count_by (λ byte. byte == comma) (take l.byte-index l.text)
