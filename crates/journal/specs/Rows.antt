-- The seven fields of a line.
use Rattle.std.specs.Prelude.{All, ◌≡◌, ℕ, ◌+◌, List, [], ◌∷◌, length, Option, MatchOption}
use Rattle.fields.specs.Bytes.{comma}
use Rattle.fields.specs.Columns.{IsFirstWrong, Form}
use Rattle.fields.specs.Cuts.{Lacks}
use Rattle.fields.specs.Rows.{line_of}
use Rattle.journal.specs.declared.row.Row.{Row}

-- the bytes of the six fields after the kind
abbrev pub others_of : Row → List (List ℕ)
others_of row =
    row.member.part.now ∷ row.zone.part.now ∷ row.flow.part.now
    ∷ row.value.part.now ∷ row.second.part.now ∷ row.date.part.now ∷ []

-- the bytes of the seven fields
abbrev pub texts_of : Row → List (List ℕ)
texts_of row = row.kind.part.now ∷ others_of row

-- the fields are told with the number of their line
pub record IsOnLine (line : ℕ) (row : Row) : Type 0 where
  pub kind_on : row.kind.line ≡ line
  pub member_on : row.member.line ≡ line
  pub zone_on : row.zone.line ≡ line
  pub flow_on : row.flow.line ≡ line
  pub value_on : row.value.line ≡ line
  pub second_on : row.second.line ≡ line
  pub date_on : row.date.line ≡ line

-- the texts are the seven fields of the line: none has a comma, commas part them, and a line feed ends the last
pub record AreFieldsOf (texts : List (List ℕ)) (bs : List ℕ) : Type 0 where
  pub seven : length texts ≡ 7
  pub commaless : All (Lacks comma) texts
  pub whole : bs ≡ line_of texts

-- the fields of the line, or none where it has not its line feed or not seven fields
abbrev pub ReadsSevenFields : List ℕ → ℕ → Option Row → Type 0
ReadsSevenFields bs line r =
    MatchOption r ((texts : List (List ℕ)) → AreFieldsOf texts bs → ⊥)
    (λ row. AreFieldsOf (texts_of row) bs × IsOnLine line row)

-- the number of the first field after the kind that has not its form
abbrev pub IsWrongOf : List Form → List (List ℕ) → ℕ → Type 0
IsWrongOf forms texts number =
    (place : ℕ) × ((number ≡ place + 2) × IsFirstWrong forms texts place)
