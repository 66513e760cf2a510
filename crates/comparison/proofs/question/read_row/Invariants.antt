use Rattle.std.proofs.Common.{length, vec_items}
use Rattle.comparison.proofs.Lines.{Sofar}
use Rattle.comparison.proofs.question.read_row.Given as goal

abbrev pub invariant-loop-field : goal.invariant-loop-field
invariant-loop-field l = Sofar l.most l.text (length l.yielded) (vec_items l.found)
