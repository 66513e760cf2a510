-- What a column of a table may hold, by the text of a field.
use Rattle.std.specs.Prelude.{◌≡◌, ℕ, zero, suc, ◌<◌, ◌≤◌, true, ◌⊎◌, List, [], ◌∷◌, length, codes, Option, MatchOption, Result, MatchResult, ◌≢◌, slice_index, slice_index_or}
use Rattle.calendar.specs.Dates.{is_date}
use Rattle.calendar.specs.declared.date.Date.{Date}
use Rattle.fields.specs.Bytes.{hyphen}
use Rattle.fields.specs.Texts.{date_text}
use Rattle.fields.specs.declared.field.Field.{Field}
use Rattle.fields.specs.declared.field.WrongField.{WrongField}
use Rattle.std.specs.Int.{IsInRange}

-- a form is told by the texts that have it
abbrev pub Form : Type 1
Form = List ℕ → Type 0

-- 1 to 9 digits, of which the first is a 0 only where it stands alone
pub record NumberForm (bs : List ℕ) : Type 0 where
  pub some : 1 ≤ length bs
  pub few : length bs ≤ 9
  pub digits : (i : ℕ) → i < length bs → IsInRange 48 57 (slice_index bs i)
  pub no_needless_zero : slice_index_or bs 0 0 ≡ 48 → length bs ≡ 1

-- such a number, or a minus before one that is not 0
abbrev pub SignedForm : Form
SignedForm bs =
    NumberForm bs
    ⊎ ((number : List ℕ) × ((bs ≡ hyphen ∷ number) × NumberForm number × (number ≢ codes "0")))

-- a date of the calendar, as 2024-01-31
abbrev pub DateForm : Form
DateForm bs = (d : Date) × ((is_date d ≡ true) × (bs ≡ date_text d))

-- nothing, told by a hyphen
abbrev pub MissingForm : Form
MissingForm bs = bs ≡ codes "-"

-- how a column is spelled: the form of its texts, the values that have a text, and the text of each
pub record Spelling (X : Type 0) : Type 1 where
  pub form : Form
  pub fine : X → Type 0
  pub text : X → List ℕ

-- what the reader of a value answers: a fine value whose text the bytes are, where they have the form; or none where they
-- have not, and are the text of no fine value
abbrev pub ReadsValue : {X : Type 0} → Spelling X → List ℕ → Option X → Type 0
ReadsValue {X} s bs r =
    MatchOption r ((s.form bs → ⊥) × ((x : X) → s.fine x → bs ≢ s.text x))
    (λ x. s.form bs × (s.fine x × (bs ≡ s.text x)))

-- what the reader of a column answers: such a value of the field, or the line and the number of the wrong field
abbrev pub ReadsColumn : {X : Type 0} → Spelling X → Field → Result X WrongField → Type 0
ReadsColumn {X} s field r =
    MatchResult r (λ x. s.form field.part.now × (s.fine x × (field.part.now ≡ s.text x)))
    (λ wrong.
    (wrong.line ≡ field.line) × (wrong.number ≡ field.number)
    × (s.form field.part.now → ⊥) × ((x : X) → s.fine x → field.part.now ≢ s.text x))

-- the text at this place has not its form, and every one before it has
abbrev pub IsFirstWrong : List Form → List (List ℕ) → ℕ → Type 0
IsFirstWrong [] texts place = ⊥
IsFirstWrong (form ∷ forms) [] place = ⊥
IsFirstWrong (form ∷ forms) (text ∷ texts) zero = form text → ⊥
IsFirstWrong (form ∷ forms) (text ∷ texts) (suc place) = form text × IsFirstWrong forms texts place

-- each text has its form, and there are as many
abbrev pub AreAllRight : List Form → List (List ℕ) → Type 0
AreAllRight [] [] = Unit {0}
AreAllRight [] (text ∷ texts) = ⊥
AreAllRight (form ∷ forms) [] = ⊥
AreAllRight (form ∷ forms) (text ∷ texts) = form text × AreAllRight forms texts
