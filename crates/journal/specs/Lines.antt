-- The lines of a journal: what the fields of each kind must be, and the text of a line.
use Rattle.std.specs.Prelude.{◌≡◌, ℕ, ◌≤◌, ◌⊎◌, List, [], ◌∷◌, replicate, Ok, Err, codes, decimal, Result, unsigned_abs}
use Rattle.calendar.specs.Gregorian.{last_day}
use Rattle.fields.specs.Columns.{AreAllRight, DateForm, Form, MissingForm, NumberForm, SignedForm}
use Rattle.fields.specs.Rows.{line_of}
use Rattle.fields.specs.Texts.{day_text}
use Rattle.ledger.specs.declared.entry.Entry.TheVariants.{Change, Correction, Payment, Reading}
use Rattle.std.specs.Fmt.{signed_decimal}
use Rattle.journal.specs.Rows.{AreFieldsOf, IsWrongOf}
use Rattle.journal.specs.Words.{FlowForm, KindForm, ZoneForm, flow_word, kind_word, zone_word}
use Rattle.journal.specs.declared.kind.Kind.{Kind}
use Rattle.journal.specs.declared.kind.Kind.TheVariants as kinds
use Rattle.journal.specs.declared.line.Line.{Line}
use Rattle.journal.specs.declared.line.Line.TheVariants.{Enter, Issue, Year}
use Rattle.journal.specs.declared.refusal.LineFault.{LineFault}
use Rattle.journal.specs.declared.refusal.ReadRefusal.{ReadRefusal}
use Rattle.journal.specs.declared.refusal.ReadRefusal.TheVariants as refusals

-- what the six fields after the kind must be
abbrev pub forms : Kind → List Form
forms kinds.Reading = NumberForm ∷ ZoneForm ∷ FlowForm ∷ NumberForm ∷ MissingForm ∷ DateForm ∷ []
forms kinds.Change = NumberForm ∷ ZoneForm ∷ FlowForm ∷ NumberForm ∷ NumberForm ∷ DateForm ∷ []
forms kinds.Correction =
    NumberForm ∷ ZoneForm ∷ FlowForm ∷ SignedForm ∷ MissingForm ∷ MissingForm ∷ []
forms kinds.Payment =
    NumberForm ∷ MissingForm ∷ MissingForm ∷ NumberForm ∷ MissingForm ∷ MissingForm ∷ []
forms kinds.Issue = replicate 6 MissingForm
forms kinds.Year = replicate 6 MissingForm

-- the bytes have the form of a line: the word of a kind, and then what the fields of this kind must be
pub record HasForm (bs : List ℕ) : Type 0 where
  pub kind : Kind
  pub rest : List (List ℕ)
  pub right : AreAllRight (forms kind) rest
  pub fields : AreFieldsOf (kind_word kind ∷ rest) bs

-- the kind of a line
abbrev pub kind_of : Line → Kind
kind_of (Enter (Reading register day value)) = kinds.Reading
kind_of (Enter (Change register day value start)) = kinds.Change
kind_of (Enter (Correction register quantity)) = kinds.Correction
kind_of (Enter (Payment place drams)) = kinds.Payment
kind_of Issue = kinds.Issue
kind_of Year = kinds.Year

-- the six fields after the kind
abbrev pub others : Line → List (List ℕ)
others (Enter (Reading register day value)) =
    decimal register.place ∷ zone_word register.zone ∷ flow_word register.flow
    ∷ decimal value ∷ codes "-" ∷ day_text day ∷ []
others (Enter (Change register day value start)) =
    decimal register.place ∷ zone_word register.zone ∷ flow_word register.flow
    ∷ decimal value ∷ decimal start ∷ day_text day ∷ []
others (Enter (Correction register quantity)) =
    decimal register.place ∷ zone_word register.zone ∷ flow_word register.flow
    ∷ signed_decimal quantity ∷ codes "-" ∷ codes "-" ∷ []
others (Enter (Payment place drams)) =
    decimal place ∷ codes "-" ∷ codes "-" ∷ decimal drams ∷ codes "-" ∷ codes "-" ∷ []
others Issue = replicate 6 (codes "-")
others Year = replicate 6 (codes "-")

-- the text of a line
abbrev pub line_text : Line → List ℕ
line_text line = line_of (kind_word (kind_of line) ∷ others line)

-- a number of up to nine digits
abbrev HasUpToNineDigits : ℕ → Type 0
HasUpToNineDigits n = n ≤ 999999999

-- the numbers of the line have up to nine digits, and its day is one of the calendar
abbrev pub IsWritable : Line → Type 0
IsWritable (Enter (Reading register day value)) =
    HasUpToNineDigits register.place × HasUpToNineDigits value × (day ≤ last_day)
IsWritable (Enter (Change register day value start)) =
    HasUpToNineDigits register.place × HasUpToNineDigits value × HasUpToNineDigits start × (day ≤ last_day)
IsWritable (Enter (Correction register quantity)) =
    HasUpToNineDigits register.place × HasUpToNineDigits (unsigned_abs quantity)
IsWritable (Enter (Payment place drams)) = HasUpToNineDigits place × HasUpToNineDigits drams
IsWritable Issue = Unit {0}
IsWritable Year = Unit {0}

-- the number of the first of the seven fields that has not its form: that of the kind where it is no kind's word
abbrev pub IsWrongAt : List (List ℕ) → ℕ → Type 0
IsWrongAt [] number = ⊥
IsWrongAt (first ∷ rest) number =
    ((number ≡ 1) × (KindForm first → ⊥))
    ⊎ ((kind : Kind) × ((first ≡ kind_word kind) × IsWrongOf (forms kind) rest number))

-- what a refusal of the reader of a line stands for
abbrev pub RefusesLine : List ℕ → ReadRefusal → Type 0
RefusesLine bs refusals.Fields = (texts : List (List ℕ)) → AreFieldsOf texts bs → ⊥
RefusesLine bs (refusals.Form field) = (texts : List (List ℕ)) × (AreFieldsOf texts bs × IsWrongAt texts field)

-- the bytes are the text of this line, whose numbers and day are in range
abbrev pub IsLine : List ℕ → Line → Type 0
IsLine bs line = IsWritable line × (bs ≡ line_text line)

-- what the reader of the line with this number answers: the line whose text the bytes are, or the number and why they
-- are no line's
abbrev pub ReadsLine : List ℕ → (number : ℕ) → Result Line LineFault → Type 0
ReadsLine bs number (Ok line) = IsLine bs line
ReadsLine bs number (Err fault) = (fault.line ≡ number) × RefusesLine bs fault.refusal
