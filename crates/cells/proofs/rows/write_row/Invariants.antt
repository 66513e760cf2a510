use Rattle.std.proofs.Common.{map, take}
use Rattle.cells.proofs.rows.write_row.Given as goal
use Rattle.cells.specs.Cells.{Puts, cell_text}
use Rattle.fields.specs.Rows.{texts_row}

abbrev pub invariant-loop-i : goal.invariant-loop-i
invariant-loop-i l = Puts l.initial.out l.at (texts_row (map cell_text (take l.i l.cells))) l.out l.end
