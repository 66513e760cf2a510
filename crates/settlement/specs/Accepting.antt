-- The lines of a journal that a book accepts, with what they write and the calls that they make.
use Rattle.std.specs.Prelude.{◌≡◌, ℕ, List, [], ◌∷◌, ◌++◌, length, take, Ok}
use Rattle.std.specs.List.{AllZip}
use Rattle.group.specs.Groups.{most_members}
use Rattle.balance.specs.Histories.{Closing, Drawing, Entering, Event, Issuing}
use Rattle.group.specs.declared.group.Group.{Group}
use Rattle.group.specs.declared.group.Phase.TheVariants.{YearEnd as AtYearEnd}
use Rattle.journal.specs.Lines.{IsLine}
use Rattle.ledger.specs.declared.bill.Bill.{Bill}
use Rattle.ledger.specs.declared.bill.YearEnd.{YearEnd}
use Rattle.ledger.specs.declared.entry.Entry.{Entry}
use Rattle.journal.specs.declared.line.Line.{Line}
use Rattle.journal.specs.declared.line.Line.TheVariants.{Enter, Issue, Year}
use Rattle.settlement.specs.Output.{year_line}
use Rattle.group.specs.Drafts.{Stamp, drawing_result, issue_result}
use Rattle.group.specs.Entries.{after_entry}
use Rattle.group.specs.Months.{Prices, Share}
use Rattle.group.specs.Years.{closing_result}
use Rattle.settlement.specs.Texts.{bills_text}

-- these lines are what the first of the texts say
abbrev pub ReadsFirst : List (List ℕ) → List Line → Type 0
ReadsFirst texts lines = AllZip (λ text line. IsLine text line) (take (length lines) texts) lines

-- the book accepts these lines one after another, which write these texts and make these calls, the latest first: an entry is
-- entered and writes nothing; an issue draws and issues, and writes the bills of the issue; a year closing writes its figures
pub data AcceptsInTurn (share : Share) (prices : ℕ → Prices) : (lines : List Line) → (group : Group) → (texts : List (List ℕ)) → (calls : List Event) → (after : Group) → Type 0 where
  none : (group : Group) → AcceptsInTurn share prices [] group [] [] group
  an_entry : (entry : Entry) (lines : List Line) (group new after : Group) (texts : List (List ℕ)) (calls : List Event)
      → after_entry entry group ≡ Ok new → AcceptsInTurn share prices lines new texts calls after
      → AcceptsInTurn share prices (Enter entry ∷ lines) group texts (calls ++ Entering entry (Ok tt) ∷ []) after
  an_issue : (drawing : Stamp × List Bill) (bills : List Bill) (lines : List Line) (group new after : Group) (texts : List (List ℕ)) (calls : List Event)
      → drawing_result share prices most_members group ≡ Ok drawing → issue_result share prices drawing.0 most_members group ≡ Ok (bills, new)
      → AcceptsInTurn share prices lines new texts calls after
      → AcceptsInTurn share prices (Issue ∷ lines) group (bills_text drawing.0.month bills ∷ texts)
      (calls ++ Issuing drawing.0 most_members (Ok bills) ∷ Drawing most_members (Ok drawing) ∷ []) after
  a_closing : (december : ℕ) (figures : YearEnd) (lines : List Line) (group new after : Group) (texts : List (List ℕ)) (calls : List Event)
      → group.phase ≡ AtYearEnd december → closing_result prices group ≡ Ok (figures, new)
      → AcceptsInTurn share prices lines new texts calls after
      → AcceptsInTurn share prices (Year ∷ lines) group (year_line december group.holder figures ∷ texts)
      (calls ++ Closing (Ok figures) ∷ []) after
