-- What the writer of a journal's line answers and leaves.
use Rattle.std.specs.Prelude.{◌≡◌, ℕ, ◌<◌, ◌≤◌, List, length, take, Ok, Err, Result}
use Rattle.cells.specs.Cells.{overwritten_text}
use Rattle.journal.specs.Lines.{IsLine, ReadsLine, IsWritable, line_text}
use Rattle.journal.specs.declared.line.Line.{Line}
use Rattle.journal.specs.declared.refusal.LineFault.{LineFault}
use Rattle.journal.specs.declared.refusal.WriteRefusal.{WriteRefusal}
use Rattle.journal.specs.declared.refusal.WriteRefusal.TheVariants.{Form, Room}

-- what the writer of a line of a journal answers and leaves: first it refuses a line with a number or a day out
-- of its range, then a slice under 64 bytes; else the line stands at the slice's start
abbrev pub WritesLine : Line → List ℕ → List ℕ → Result ℕ WriteRefusal → Type 0
WritesLine line old new (Ok end) =
    IsWritable line × (64 ≤ length old)
    × (end ≡ length (line_text line)) × (new ≡ overwritten_text old 0 (line_text line))
WritesLine line old new (Err Form) = (IsWritable line → ⊥) × (new ≡ old)
WritesLine line old new (Err Room) = IsWritable line × (length old < 64) × (new ≡ old)

-- the line that was written is read as the same line, whatever its number, and as no other
abbrev pub ReadsBackWritten : Line → List ℕ → Result ℕ WriteRefusal → Type 0
ReadsBackWritten line new (Ok end) =
    (number : ℕ)
    → ReadsLine (take end new) number (Ok line)
    × ((answer : Result Line LineFault) → ReadsLine (take end new) number answer → answer ≡ Ok line)
ReadsBackWritten line new (Err refusal) = Unit {0}

-- bytes that were read as this line are written again where there is the room
abbrev pub WritesBackRead : Line → List ℕ → List ℕ → Result ℕ WriteRefusal → Type 0
WritesBackRead line old new r =
    (bs : List ℕ) → IsLine bs line → 64 ≤ length old
    → (r ≡ Ok (length bs)) × (take (length bs) new ≡ bs)
