-- Why a run stops at a line.
use Rattle.std.specs.Prelude.{◌≡◌, ℕ, ◌<◌, List, [], ◌∷◌, None, Option, Some, Ok, Err, ◌⊎◌}
use Rattle.group.specs.Groups.{most_members}
use Rattle.balance.specs.Histories.{Event}
use Rattle.group.specs.declared.group.Group.{Group}
use Rattle.group.specs.declared.refusal.BookRefusal.{BookRefusal}
use Rattle.journal.specs.Lines.{IsLine, RefusesLine}
use Rattle.ledger.specs.declared.bill.Bill.{Bill}
use Rattle.journal.specs.declared.line.Line.{Line}
use Rattle.journal.specs.declared.line.Line.TheVariants.{Enter, Issue, Year}
use Rattle.journal.specs.declared.refusal.ReadRefusal.{ReadRefusal}
use Rattle.group.specs.Drafts.{Stamp, drawing_result, issue_result}
use Rattle.group.specs.Entries.{after_entry}
use Rattle.group.specs.Months.{Prices, Share}
use Rattle.group.specs.Years.{closing_result}
use Rattle.settlement.specs.Accepting.{AcceptsInTurn}
use Rattle.settlement.specs.Faults.{fault_at}
use Rattle.settlement.specs.Steps.{room_for}
use Rattle.settlement.specs.declared.fault.RunFault.{RunFault}
use Rattle.settlement.specs.declared.fault.RunRefusal.{RunRefusal}
use Rattle.settlement.specs.declared.fault.RunRefusal.TheVariants as refused

-- the book refuses what a line says: the entry, the drawing or its issue, or the closing of the year
abbrev pub BookRefuses : Share → (ℕ → Prices) → Line → Group → BookRefusal → Type 0
BookRefuses share prices (Enter entry) group refusal = after_entry entry group ≡ Err refusal
BookRefuses share prices Issue group refusal =
    (drawing_result share prices most_members group ≡ Err refusal)
    ⊎ ((drawing : Stamp × List Bill) × (drawing_result share prices most_members group ≡ Ok drawing) × (issue_result share prices drawing.0 most_members group ≡ Err refusal))
BookRefuses share prices Year group refusal = closing_result prices group ≡ Err refusal

-- why a run stops at a text, over a group and with so much room: the text is no line, the book refuses what it says, or the
-- book would accept it and the room for what it writes is short
pub data StopsAt (share : Share) (prices : ℕ → Prices) (room : ℕ) (group : Group) (text : List ℕ) : RunRefusal → Type 0 where
  no_line : (refusal : ReadRefusal) → RefusesLine text refusal → StopsAt share prices room group text (refused.Line refusal)
  by_the_book : (line : Line) (refusal : BookRefusal) → IsLine text line → BookRefuses share prices line group refusal
      → StopsAt share prices room group text (refused.Book refusal)
  short_of_room : (line : Line) (texts : List (List ℕ)) (calls : List Event) (after : Group) → IsLine text line
      → AcceptsInTurn share prices (line ∷ []) group texts calls after → room < room_for line
      → StopsAt share prices room group text refused.Room

-- the fault is that of the first of the lines that are left, and says why the run stops there; or there is none, and none is left
abbrev pub IsReason : Share → (ℕ → Prices) → (room : ℕ) → Group → (left : List (List ℕ)) → Option RunFault → Type 0
IsReason share prices room group left None = left ≡ []
IsReason share prices room group left (Some fault) =
    (text : List ℕ) × (later : List (List ℕ)) × (left ≡ text ∷ later)
    × StopsAt share prices room group text fault.refusal × (fault ≡ fault_at fault.line fault.refusal)
