use Rattle.std.proofs.Common.{◌≡◌, take}
use Rattle.cells.proofs.Joining.{marked_length}
use Rattle.cells.proofs.rows.row_length.Given as goal

abbrev pub invariant-loop-cell : goal.invariant-loop-cell
invariant-loop-cell l = l.length ≡ marked_length (take l.cell-index l.cells)
