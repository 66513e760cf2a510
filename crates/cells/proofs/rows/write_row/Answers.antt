use Rattle.std.proofs.Common.{[], ◌∷◌, ◌++◌, ◌∙◌, take, sym, ap, arith}
use Rattle.cells.proofs.Joining.{joined, joined_first, joined_later}
use Rattle.cells.proofs.Overwriting.{put_as, put_more}
use Rattle.cells.proofs.rows.write_row.Goals as goal
use Rattle.cells.proofs.rows.write_row.Goals.{else-i-gt0, then-i-gt0}

pub loop-i-preserved : goal.loop-i-preserved
loop-i-preserved c =
    let cells = c.args.cells.now in
    let i = c.loop-i.i in
    elim c.if-i-gt0.branch [
      | then-i-gt0 w ↦
          put_as
          (ap (λ text. joined (take i cells) ++ (44 ∷ []) ++ text) c.text.ensures ∙ sym (joined_later cells i w.if-i-gt0.true c.loop-i-test.true))
          (put_more (put_more c.loop-i.invariant w.put-end.ensures (omega arith)) (rw (w.out-is, w.end-is) at c.put-end-in-loop-i.ensures) (omega arith))
      | else-i-gt0 w ↦
          put_as
          (ap (λ text. joined (take i cells) ++ text) c.text.ensures ∙ sym (joined_first cells i w.if-i-gt0.false c.loop-i-test.true))
          (put_more c.loop-i.invariant (rw (w.out-is, w.end-is) at c.put-end-in-loop-i.ensures) (omega arith))
    ]
