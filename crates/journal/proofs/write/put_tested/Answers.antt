use Rattle.std.proofs.Common.{◌≤◌, List, ℕ, length, refl, subst, arith, rules}
use Rattle.cells.proofs.Overwriting.{written_whole}
use Rattle.cells.specs.Cells.{WritesWhereItFits}
use Rattle.fields.specs.Rows.{line_of}
use Rattle.journal.proofs.Lengths.{short_line}
use Rattle.journal.proofs.write.put_tested.Goals as goal
use Rattle.journal.specs.Lines.{IsWritable, line_text}
use Rattle.journal.specs.declared.refusal.WriteRefusal.TheVariants.{Room}

pub returns : goal.returns
returns c =
    let fine : IsWritable c.args.line = search rules in
    let room : 64 ≤ length c.args.out.now = search rules in
    let short = short_line c.args.line fine in
    let P : List (List ℕ) → Type 0 = λ texts. WritesWhereItFits c.args.out.now 0 (line_of texts) c.write_row.new.out c.write_row.result in
    let written = subst P c.cells_of.ensures c.write_row.ensures in
    let done =
    written_whole Room (line_text c.args.line) c.args.out.now c.write_row.new.out c.write_row.result c.ok_or.result
    (omega arith) written c.ok_or.ensures.value in
    rw done.0 (fine, room, refl, done.1)
