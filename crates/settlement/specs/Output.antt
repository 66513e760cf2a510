-- The lines of the output, and what their writers answer and leave.
use Rattle.std.specs.Prelude.{◌≡◌, ℕ, ◌+◌, ◌<◌, ◌≤◌, List, [], ◌∷◌, length, Ok, Err, codes, decimal, Result}
use Rattle.cells.specs.Cells.{overwritten_text}
use Rattle.fields.specs.Rows.{line_of}
use Rattle.fields.specs.Texts.{month_text}
use Rattle.ledger.specs.declared.bill.Bill.{Bill}
use Rattle.ledger.specs.declared.bill.YearEnd.{YearEnd}
use Rattle.std.specs.Fmt.{signed_decimal}
use Rattle.settlement.specs.declared.refusal.OutputRefusal.{OutputRefusal}
use Rattle.settlement.specs.declared.refusal.OutputRefusal.TheVariants.{Room}

-- the number of a refusal
abbrev pub output_refusal_number : OutputRefusal → ℕ
output_refusal_number Room = 27

-- the same refusal in words
abbrev pub output_words : OutputRefusal → List ℕ
output_words Room = codes "the slice has less room than the line asks for"

-- the line of names of the output
abbrev pub output_names : List ℕ
output_names = codes "line,month,place,dayb,nightb,dayc,nightc,drams,debt\n"

-- a member's month
abbrev pub bill_line : (month place : ℕ) → Bill → List ℕ
bill_line month place bill =
    line_of
    (codes "BILL" ∷ month_text month ∷ decimal place ∷ decimal bill.billed.day ∷ decimal bill.billed.night
    ∷ decimal bill.covered.day ∷ decimal bill.covered.night ∷ signed_decimal bill.drams ∷ signed_decimal bill.debt ∷ [])

-- the holder's year end
abbrev pub year_line : (month place : ℕ) → YearEnd → List ℕ
year_line month place year =
    line_of
    (codes "YEAR" ∷ month_text month ∷ decimal place ∷ decimal year.paid.day ∷ decimal year.paid.night
    ∷ codes "-" ∷ codes "-" ∷ signed_decimal year.drams ∷ signed_decimal year.debt ∷ [])

-- what the writer of a text at a place of the output answers and leaves: it refuses exactly where the text does not fit
abbrev pub WritesText : List ℕ → ℕ → List ℕ → List ℕ → Result ℕ OutputRefusal → Type 0
WritesText text at old new (Ok end) = (end ≡ at + length text) × (end ≤ length old) × (new ≡ overwritten_text old at text)
WritesText text at old new (Err Room) = (length old < at + length text) × (new ≡ old)
