-- What a field looks like, by its bytes alone.
use Rattle.std.specs.Prelude.{◌≡◌, ℕ, ◌⊎◌, List, length, codes, ◌≢◌, slice_index, slice_index_or}
use Rattle.std.specs.Borrow.{Bor}
use Rattle.std.specs.Int.{IsInRange}
use Rattle.fields.specs.Bytes.{hyphen}
use Rattle.fields.specs.declared.field.Field.{Field}
use Rattle.fields.specs.declared.token.Token.{Token}
use Rattle.fields.specs.declared.token.Token.TheVariants.{Missing, Word, Number, Date}

-- the field is this part, with this line and number
pub record IsFieldOf (line number : ℕ) (part : Bor (List ℕ)) (field : Field) : Type 0 where
  pub on_line : field.line ≡ line
  pub by_number : field.number ≡ number
  pub whole : field.part.now ≡ part.now

-- ten bytes with hyphens where a date has them
pub record LooksLikeDate (bs : List ℕ) : Type 0 where
  pub ten : length bs ≡ 10
  pub after_the_year : slice_index_or bs 4 0 ≡ hyphen
  pub after_the_month : slice_index_or bs 7 0 ≡ hyphen

-- a digit or a minus stands first
abbrev pub LooksLikeNumber : List ℕ → Type 0
LooksLikeNumber bs = IsInRange 48 57 (slice_index bs 0) ⊎ (slice_index bs 0 ≡ hyphen)

-- all that looks like neither
abbrev pub LooksLikeWord : List ℕ → Type 0
LooksLikeWord bs = (LooksLikeDate bs → ⊥) × (LooksLikeNumber bs → ⊥)

-- the token tells the whole text, by what it looks like; a hyphen alone stands for what is missing
abbrev pub IsTokenOf : List ℕ → Token → Type 0
IsTokenOf bs Missing = bs ≡ codes "-"
IsTokenOf bs (Date part) = (part.now ≡ bs) × LooksLikeDate bs
IsTokenOf bs (Number part) = (part.now ≡ bs) × LooksLikeNumber bs × (LooksLikeDate bs → ⊥) × (bs ≢ codes "-")
IsTokenOf bs (Word part) = (part.now ≡ bs) × LooksLikeWord bs
