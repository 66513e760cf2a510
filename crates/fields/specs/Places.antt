-- How a place in a text is told.
use Rattle.std.specs.Prelude.{ℕ, List, ◌++◌, None, Option, Some, codes, decimal}
use Rattle.fields.specs.declared.field.WrongField.{WrongField}

-- a line by its number, and its field where one is meant
abbrev pub place_text : (line : ℕ) → Option ℕ → List ℕ
place_text line None = codes "line " ++ decimal line
place_text line (Some field) = codes "line " ++ (decimal line ++ (codes ", field " ++ decimal field))

-- words behind their line, and behind the field where one is meant
abbrev pub place_words : (line : ℕ) → Option ℕ → (words : List ℕ) → List ℕ
place_words line field words = place_text line field ++ (codes ": " ++ words)

-- a wrong field in words: where it stands, and that it is spelled wrong
abbrev pub wrong_field_words : WrongField → List ℕ
wrong_field_words wrong =
    place_words wrong.line (Some wrong.number) (codes "this field is spelled wrong")
