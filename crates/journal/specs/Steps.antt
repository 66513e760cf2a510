-- What the steps of reading a line answer: for the contracts of private functions alone.
use Rattle.std.specs.Borrow.{Bor}
use Rattle.std.specs.Prelude.{◌≡◌, ℕ, List, [], ◌∷◌, length, Ok, Err, Option, Result, MatchOption, MatchResult}
use Rattle.fields.specs.Columns.{Spelling}
use Rattle.fields.specs.Partings.{IsParted}
use Rattle.fields.specs.declared.field.WrongField.{WrongField}
use Rattle.journal.specs.Lines.{IsWritable, IsWrongAt, forms, kind_of, others}
use Rattle.journal.specs.Rows.{IsOnLine, IsWrongOf, others_of, texts_of}
use Rattle.journal.specs.Words.{kind_word}
use Rattle.journal.specs.declared.kind.Kind.{Kind}
use Rattle.journal.specs.declared.kind.Kind.TheVariants as kinds
use Rattle.journal.specs.declared.line.Line.{Line}
use Rattle.journal.specs.declared.line.Line.TheVariants.{Issue}
use Rattle.journal.specs.declared.row.Row.{Row}

-- the bytes are the row, or none where they are not seven texts parted by commas
abbrev pub ReadsSevenParts : List ℕ → ℕ → Option Row → Type 0
ReadsSevenParts bs line r =
    MatchOption r ((texts : List (List ℕ)) → length texts ≡ 7 → IsParted texts bs → ⊥)
    (λ row. IsParted (texts_of row) bs × IsOnLine line row)

-- the bytes are the text of this fine value
abbrev Spells : {X : Type 0} → Spelling X → X → Bor (List ℕ) → Type 0
Spells s x part = s.fine x × (part.now ≡ s.text x)

-- what the reader of the six columns after the kind answers: a value that each field spells, or where the first field
-- stands that has not its form
abbrev pub ReadsColumns : {A B C D E F : Type 0} → Row
    → Spelling A → Spelling B → Spelling C → Spelling D → Spelling E → Spelling F
    → Result (A × B × C × D × E × F) WrongField → Type 0
ReadsColumns row member zone flow value second date r =
    MatchResult r
    (λ v.
    Spells member v.0 row.member.part × Spells zone v.1 row.zone.part
    × Spells flow v.2 row.flow.part × Spells value v.3 row.value.part
    × Spells second v.4 row.second.part × Spells date v.5 row.date.part)
    (λ wrong.
    (wrong.line ≡ row.kind.line)
    × IsWrongOf (member.form ∷ zone.form ∷ flow.form ∷ value.form ∷ second.form ∷ date.form ∷ [])
    (others_of row) wrong.number)

-- what a reader of the fields after the kind answers, on the line with this number
abbrev pub ReadsAs : Kind → (number : ℕ) → List (List ℕ) → Result Line WrongField → Type 0
ReadsAs kind number texts (Ok line) = (kind_of line ≡ kind) × IsWritable line × (texts ≡ others line)
ReadsAs kind number texts (Err wrong) =
    (wrong.line ≡ number) × IsWrongOf (forms kind) texts wrong.number

-- the same where none of them may be filled, and the line is known
abbrev pub ReadsBare : Line → (number : ℕ) → List (List ℕ) → Result Line WrongField → Type 0
ReadsBare line number texts (Ok same) = (same ≡ line) × (texts ≡ others Issue)
ReadsBare line number texts (Err wrong) =
    (wrong.line ≡ number) × IsWrongOf (forms kinds.Issue) texts wrong.number

-- what the reader of a row answers
abbrev pub ReadsRow : (number : ℕ) → List (List ℕ) → Result Line WrongField → Type 0
ReadsRow number texts (Ok line) = IsWritable line × (texts ≡ kind_word (kind_of line) ∷ others line)
ReadsRow number texts (Err wrong) = (wrong.line ≡ number) × IsWrongAt texts wrong.number
