-- What a line of a journal does: the text that it writes and the group after it, or why it is refused.
use Rattle.std.specs.Prelude.{◌≡◌, ℕ, ◌-◌, if◌then◌else◌, List, [], length, nat_lt, Ok, Err, Result}
use Rattle.group.specs.Groups.{most_members}
use Rattle.cells.specs.Cells.{Puts}
use Rattle.group.specs.Results.{and_then, result_map}
use Rattle.group.specs.declared.group.Group.{Group}
use Rattle.group.specs.declared.refusal.BookRefusal.{BookRefusal}
use Rattle.journal.specs.Lines.{ReadsLine}
use Rattle.journal.specs.declared.line.Line.{Line}
use Rattle.journal.specs.declared.line.Line.TheVariants.{Enter, Issue, Year}
use Rattle.journal.specs.declared.refusal.LineFault.{LineFault}
use Rattle.settlement.specs.Output.{year_line}
use Rattle.group.specs.Drafts.{drawing_result, issue_result}
use Rattle.group.specs.Entries.{after_entry}
use Rattle.group.specs.Months.{Prices, Share}
use Rattle.group.specs.Years.{after_year, open_year, year_figures}
use Rattle.settlement.specs.Faults.{fault_at}
use Rattle.settlement.specs.Texts.{bills_text}
use Rattle.settlement.specs.declared.fault.RunFault.{RunFault}
use Rattle.settlement.specs.declared.fault.RunRefusal.{RunRefusal}
use Rattle.settlement.specs.declared.fault.RunRefusal.TheVariants as refused

-- what a line does where nothing refuses it: an entry is entered, an issue issues a drawing made now, and a year is closed
abbrev pub line_result : Share → (ℕ → Prices) → Line → Group → Result (List ℕ × Group) BookRefusal
line_result share prices (Enter entry) group = result_map (λ new. ([], new)) (after_entry entry group)
line_result share prices Issue group =
    and_then (drawing_result share prices most_members group) (λ drawing.
    result_map (λ issue. (bills_text drawing.0.month issue.0, issue.1)) (issue_result share prices drawing.0 most_members group))
line_result share prices Year group =
    result_map (λ december.
    (year_line december group.holder (year_figures (prices december) group), after_year prices december group)) (open_year group.phase)

-- the bytes that the output must have left where a run writes
abbrev pub output_room : ℕ
output_room = 4096

-- the bytes that the output must have left for this line
abbrev pub room_for : Line → ℕ
room_for (Enter entry) = 0
room_for Issue = output_room
room_for Year = output_room

-- the same answer, with a refusal made one of the run
abbrev pub as_refusal : {A E : Type 0} → (E → RunRefusal) → Result A E → Result A RunRefusal
as_refusal refusal_of (Ok x) = Ok x
as_refusal refusal_of (Err e) = Err (refusal_of e)

-- whether the output has left the bytes that are needed
abbrev pub room_check : (room needed : ℕ) → Result (Unit {0}) RunRefusal
room_check room needed = if nat_lt room needed then Err refused.Room else Ok tt

-- a fault, of no line yet, is that of why a step is refused
abbrev pub IsRefusedBy : {A : Type 0} → Result A RunRefusal → RunFault → Type 0
IsRefusedBy step fault = (step ≡ Err fault.refusal) × (fault ≡ fault_at 0 fault.refusal)

-- what is answered on the room of the output
abbrev pub ChecksRoom : (room : ℕ) → Result (Unit {0}) RunFault → Type 0
ChecksRoom room (Ok done) = room_check room output_room ≡ Ok tt
ChecksRoom room (Err fault) = IsRefusedBy (room_check room output_room) fault

-- what a line does: the book refuses it before the output does
abbrev pub after_line : Share → (ℕ → Prices) → (room : ℕ) → Line → Group → Result (List ℕ × Group) RunRefusal
after_line share prices room line group =
    and_then (as_refusal refused.Book (line_result share prices line group)) (λ done.
    result_map (λ checked. done) (room_check room (room_for line)))

-- what is read of a line does the same, where it is a line
abbrev pub after_reading : Share → (ℕ → Prices) → (room : ℕ) → Result Line LineFault → Group → Result (List ℕ × Group) RunRefusal
after_reading share prices room reading group =
    and_then (as_refusal (λ fault. refused.Line fault.refusal) reading) (λ line. after_line share prices room line group)

-- a step is done: its text stands in the output from a place on, and the group is that of the step; or the step is refused,
-- and both are as they were
abbrev DoesStep : Result (List ℕ × Group) RunRefusal → (at : ℕ) → (old : List ℕ × Group) → Result ℕ RunFault → (new : List ℕ × Group) → Type 0
DoesStep step at old (Ok end) new = (text : List ℕ) × (step ≡ Ok (text, new.1)) × Puts old.0 at text new.0 end
DoesStep step at old (Err fault) new = IsRefusedBy step fault × (new ≡ old)

-- a line is done
abbrev pub DoesLine : Share → (ℕ → Prices) → Line → (at : ℕ) → (old : List ℕ × Group) → Result ℕ RunFault → (new : List ℕ × Group) → Type 0
DoesLine share prices line at old answer new =
    DoesStep (after_line share prices (length old.0 - at) line old.1) at old answer new

-- a step is done; or the fault is told at the line with this number
abbrev DoesStepAt : (number : ℕ) → Result (List ℕ × Group) RunRefusal → (at : ℕ) → (old : List ℕ × Group) → Result ℕ RunFault → (new : List ℕ × Group) → Type 0
DoesStepAt number step at old (Ok end) new = DoesStep step at old (Ok end) new
DoesStepAt number step at old (Err fault) new =
    ((step ≡ Err fault.refusal) × (fault ≡ fault_at number fault.refusal)) × (new ≡ old)

-- what is read of the text of the line with this number is done
abbrev pub DoesText : Share → (ℕ → Prices) → (text : List ℕ) → (number : ℕ) → (at : ℕ) → (old : List ℕ × Group) → Result ℕ RunFault → (new : List ℕ × Group) → Type 0
DoesText share prices text number at old answer new =
    (reading : Result Line LineFault) × ReadsLine text number reading
    × DoesStepAt number (after_reading share prices (length old.0 - at) reading old.1) at old answer new
