use Rattle.std.proofs.Common.{length}
use Rattle.group.specs.Books.{KeepsTerms}
use Rattle.settlement.proofs.Going.{Going}
use Rattle.settlement.proofs.runs.run_body.Given as goal

abbrev pub invariant-loop-text : goal.invariant-loop-text
invariant-loop-text g l =
    Going (g.R.SharingRule.sharing l.fn.book.rule) (g.T.Tariff.price l.fn.book.tariff) l.fn.body l.fn.at l.fn.out l.fn.book.group l.written l.line l.rest l.out l.book.group
    × KeepsTerms l.fn.book l.book

abbrev pub decreases-loop-text : goal.decreases-loop-text
decreases-loop-text g l = length l.rest
