-- The number of each refusal, and the room that a run and the writers of a line ask for.
use Rattle.std.specs.Prelude.{◌≡◌, ◌↔◌, ℕ, ◌<◌, List, [], ◌∷◌, map, length, Err, Result}
use Rattle.group.specs.Refusals.{book_refusal_number as book_number}
use Rattle.group.specs.declared.refusal.BookRefusal.{BookRefusal}
use Rattle.group.specs.declared.refusal.BookRefusal.TheVariants as book
use Rattle.journal.specs.Lines.{IsWritable}
use Rattle.journal.specs.Writing.{WritesLine}
use Rattle.ledger.specs.declared.entry.Entry.{Entry}
use Rattle.ledger.specs.declared.entry.Entry.TheVariants.{Payment}
use Rattle.journal.specs.Refusals.{read_refusal_number, write_refusal_number}
use Rattle.journal.specs.declared.line.Line.{Line}
use Rattle.journal.specs.declared.line.Line.TheVariants.{Enter, Issue, Year}
use Rattle.journal.specs.declared.refusal.ReadRefusal.{ReadRefusal}
use Rattle.journal.specs.declared.refusal.ReadRefusal.TheVariants as reading
use Rattle.journal.specs.declared.refusal.WriteRefusal.{WriteRefusal}
use Rattle.journal.specs.declared.refusal.WriteRefusal.TheVariants as writing
use Rattle.settlement.specs.Faults.{WritesFault}
use Rattle.settlement.specs.Output.{output_refusal_number}
use Rattle.settlement.specs.declared.fault.RunFault.{RunFault}
use Rattle.settlement.specs.declared.refusal.OutputRefusal.{OutputRefusal}
use Rattle.settlement.specs.declared.refusal.OutputRefusal.TheVariants as output
use Rattle.settlement.specs.Faults.{run_refusal_number as run_number}
use Rattle.settlement.specs.Steps.{output_room, room_for}
use Rattle.settlement.specs.declared.fault.RunRefusal.TheVariants as run
use Rattle.sharing.specs.Refusals.{meaning, parts_meaning}
use Rattle.sharing.specs.declared.parts_refusal.PartsRefusal.TheVariants.{Parts}
use Rattle.sharing.specs.declared.refusal.ShareRefusal.{ShareRefusal}
use Rattle.sharing.specs.declared.refusal.ShareRefusal.TheVariants as sharing

-- the refusals of opening
abbrev opening_refusals : List BookRefusal
opening_refusals =
    book.Opened ∷ book.Count ∷ book.Start ∷ book.Capacity ∷ book.Holder ∷ book.Register ∷ []

-- those of the book's other calls
abbrev call_refusals : List BookRefusal
call_refusals =
    book.NoMonth ∷ book.NoYearEnd ∷ book.Place ∷ book.Full ∷ book.Day ∷ book.Value
    ∷ book.Below ∷ book.Tally ∷ book.Debt ∷ book.Bills ∷ book.Draft ∷ []

-- the number of a refusal of a rule's call
abbrev share_number : ShareRefusal → ℕ
share_number refusal = (meaning refusal).number

-- each refusal has its number
pub record NumbersRefusals : Type 0 where
  pub opening : map book_number opening_refusals ≡ 1 ∷ 2 ∷ 3 ∷ 4 ∷ 5 ∷ 6 ∷ []
  pub sharing : map share_number (sharing.Count ∷ sharing.Size ∷ []) ≡ 7 ∷ 8 ∷ []
  pub parts : (parts_meaning Parts).number ≡ 9
  pub calls : map book_number call_refusals
      ≡ 11 ∷ 12 ∷ 13 ∷ 14 ∷ 15 ∷ 16 ∷ 17 ∷ 18 ∷ 19 ∷ 20 ∷ 21 ∷ []
  pub running : map run_number (run.Journal ∷ run.Room ∷ []) ≡ 24 ∷ 27 ∷ []
  pub reading : (field : ℕ)
      → map read_refusal_number (reading.Fields ∷ reading.Form field ∷ []) ≡ 25 ∷ 26 ∷ []
  pub writing : map write_refusal_number (writing.Form ∷ writing.Room ∷ []) ≡ 26 ∷ 27 ∷ []
  pub output : output_refusal_number output.Room ≡ 27
  pub book_in_a_run : (refusal : BookRefusal) → run_number (run.Book refusal) ≡ book_number refusal
  pub line_in_a_run : (refusal : ReadRefusal) → run_number (run.Line refusal) ≡ read_refusal_number refusal

-- a payment of ten digits, which no line tells
abbrev ten_digits : Line
ten_digits = Enter (Payment 0 1000000000)

-- a run asks for 4,096 bytes where it writes, and the writers of a line and of a fault for 64; a line that has not its form
-- is refused for that first
pub record AsksForRoom : Type 0 where
  pub run : output_room ≡ 4096
  pub entry : (entry : Entry) → room_for (Enter entry) ≡ 0
  pub issue : room_for Issue ≡ 4096
  pub year : room_for Year ≡ 4096
  pub line : (line : Line) (old new : List ℕ) (answer : Result ℕ WriteRefusal) → IsWritable line
      → WritesLine line old new answer → (answer ≡ Err writing.Room) ↔ (length old < 64)
  pub fault : (fault : RunFault) (old new : List ℕ) (answer : Result ℕ OutputRefusal)
      → WritesFault fault old new answer → (answer ≡ Err output.Room) ↔ (length old < 64)
  pub form_first : (old new : List ℕ) (answer : Result ℕ WriteRefusal) → length old < 64
      → WritesLine ten_digits old new answer → answer ≡ Err writing.Form
