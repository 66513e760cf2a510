use Rattle.std.proofs.Common.{◌≡◌, ◌*◌, take}
use Rattle.fields.proofs.Counting.{commas_in}
use Rattle.fields.proofs.separators.has_commas.Given as goal

abbrev pub invariant-loop-block : goal.invariant-loop-block
invariant-loop-block l = l.total ≡ commas_in (take (16 * l.block) l.text)
