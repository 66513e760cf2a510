-- What is written is read again, and what is read is written again.
use Rattle.std.proofs.Common.{◌≡◌, ℕ, List, length, take, Ok, Err, Result, sym, ap, ◌∙◌, arith}
use Rattle.cells.specs.Cells.{overwritten_text}
use Rattle.journal.proofs.Forms.{one_answer}
use Rattle.journal.specs.Lines.{IsLine, line_text}
use Rattle.journal.specs.Writing.{WritesLine, WritesBackRead, ReadsBackWritten}
use Rattle.journal.specs.declared.line.Line.{Line}
use Rattle.journal.specs.declared.refusal.WriteRefusal.{WriteRefusal}
use Rattle.journal.specs.declared.refusal.WriteRefusal.TheVariants.{Form, Room}
use Rattle.std.proofs.lemmas.List.{take_at}

-- the front of the slice is the text that was written there
front_is : (text old new : List ℕ) (end : ℕ) → end ≡ length text → new ≡ overwritten_text old 0 text → take end new ≡ text
front_is text old new end long e = ap (take end) e ∙ take_at text _ end (sym long)

pub written_then_read : (line : Line) (old new : List ℕ) (r : Result ℕ WriteRefusal) → WritesLine line old new r → ReadsBackWritten line new r
written_then_read line old new (Ok end) is =
    λ number.
    let read : IsLine (take end new) line = (is.0, front_is (line_text line) old new end is.2 is.3) in
    (read, λ answer other. one_answer (take end new) number answer (Ok line) other read)
written_then_read line old new (Err Form) is = tt
written_then_read line old new (Err Room) is = tt

pub read_then_written : (line : Line) (old new : List ℕ) (r : Result ℕ WriteRefusal) → WritesLine line old new r → WritesBackRead line old new r
read_then_written line old new (Ok end) is =
    λ bs read room.
    let long : end ≡ length bs = is.2 ∙ sym (ap length read.1) in (
      ap Ok long,
      ap (λ n. take n new) (sym long) ∙ front_is (line_text line) old new end is.2 is.3 ∙ sym read.1,
    )
read_then_written line old new (Err Form) is = λ bs read room. absurd (is.0 read.0)
read_then_written line old new (Err Room) is = λ bs read room. absurd (omega (arith, is.1))
