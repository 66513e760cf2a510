-- The text of a cell, and what a slice holds once a text is written into it.
use Rattle.std.specs.Prelude.{◌≡◌, ℕ, ◌+◌, ◌<◌, ◌≤◌, List, ◌++◌, length, take, drop, codes, decimal, Option, MatchOption}
use Rattle.std.specs.Fmt.{signed_decimal}
use Rattle.fields.specs.Texts.{date_text, month_text}
use Rattle.cells.specs.declared.rows.Cell.{Cell}
use Rattle.cells.specs.declared.rows.Cell.TheVariants.{Missing, Word, Number, Signed, Date, Month}

-- the text of a cell: numbers have just the digits and the minus that they need
abbrev pub cell_text : Cell → List ℕ
cell_text Missing = codes "-"
cell_text (Word word) = word.now
cell_text (Number n) = decimal n
cell_text (Signed z) = signed_decimal z
cell_text (Date date) = date_text date
cell_text (Month month) = month_text month

-- what a slice holds once a text stands in it from a place on, and the rest is as it was
abbrev pub overwritten_text : List ℕ → ℕ → List ℕ → List ℕ
overwritten_text old at text = take at old ++ (text ++ drop (at + length text) old)

-- what a writer with room for the text leaves: the slice with the text in it, and the place after the text
pub record Puts (old : List ℕ) (at : ℕ) (text new : List ℕ) (end : ℕ) : Type 0 where
  pub stop : end ≡ at + length text
  pub held : new ≡ overwritten_text old at text

-- what a writer of a text at a place of a slice answers: the place after it, or none exactly where there is no room;
-- and what the slice holds then
abbrev pub WritesWhereItFits : List ℕ → ℕ → List ℕ → List ℕ → Option ℕ → Type 0
WritesWhereItFits old at text new r =
    MatchOption r ((length old < at + length text) × (new ≡ old))
    (λ end. (end ≡ at + length text) × (end ≤ length old) × (new ≡ overwritten_text old at text))
