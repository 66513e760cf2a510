-- When the writers of single lines refuse for want of room.
use Rattle.std.proofs.Common.{◌≡◌, ◌↔◌, ℕ, ◌<◌, List, length, Ok, Err, Result, is_ok, refl, sym, ap, arith}
use Rattle.std.proofs.lemmas.Bool.{false≢true}
use Rattle.journal.specs.Lines.{IsWritable}
use Rattle.journal.specs.Writing.{WritesLine}
use Rattle.ledger.specs.declared.entry.Entry.TheVariants.{Payment}
use Rattle.journal.specs.declared.line.Line.{Line}
use Rattle.journal.specs.declared.line.Line.TheVariants.{Enter}
use Rattle.journal.specs.declared.refusal.WriteRefusal.{WriteRefusal}
use Rattle.journal.specs.declared.refusal.WriteRefusal.TheVariants.{Form, Room}
use Rattle.worked_cases.specs.Numbers.{NumbersRefusals, AsksForRoom}
use Rattle.settlement.specs.Faults.{WritesFault}
use Rattle.settlement.specs.declared.fault.RunFault.{RunFault}
use Rattle.settlement.specs.declared.refusal.OutputRefusal.{OutputRefusal}
use Rattle.settlement.specs.declared.refusal.OutputRefusal.TheVariants as output

line_room : (line : Line) (old new : List ℕ) (answer : Result ℕ WriteRefusal) → IsWritable line → WritesLine line old new answer → (answer ≡ Err Room) ↔ (length old < 64)
line_room line old new (Ok end) fine written = (λ e. absurd (false≢true (sym (ap is_ok e))), λ short. absurd (omega (arith, written.1)))
line_room line old new (Err Form) fine written = absurd (written.0 fine)
line_room line old new (Err Room) fine written = (λ e. written.1, λ short. refl)

fault_room : (fault : RunFault) (old new : List ℕ) (answer : Result ℕ OutputRefusal) → WritesFault fault old new answer → (answer ≡ Err output.Room) ↔ (length old < 64)
fault_room fault old new (Ok end) written = (λ e. absurd (false≢true (sym (ap is_ok e))), λ short. absurd (omega (arith, written.0)))
fault_room fault old new (Err output.Room) written = (λ e. written.0, λ short. refl)

form_first : (old new : List ℕ) (answer : Result ℕ WriteRefusal) → length old < 64 → WritesLine (Enter (Payment 0 1000000000)) old new answer → answer ≡ Err Form
form_first old new (Ok end) short written = absurd (omega (arith, short, written.1))
form_first old new (Err Form) short written = refl
form_first old new (Err Room) short written = absurd (omega (arith, written.0.1))

pub numbered : NumbersRefusals
numbered = record {
  opening = refl;
  sharing = refl;
  parts = refl;
  calls = refl;
  running = refl;
  reading = λ field. refl;
  writing = refl;
  output = refl;
  book_in_a_run = λ refusal. refl;
  line_in_a_run = λ refusal. refl;
}

pub roomed : AsksForRoom
roomed = record {
  run = refl;
  entry = λ entry. refl;
  issue = refl;
  year = refl;
  line = line_room;
  fault = fault_room;
  form_first = form_first;
}
