-- The lines of a text, and the lines of the bills of a month.
use Rattle.std.specs.Borrow.{Bor}
use Rattle.std.specs.Prelude.{◌≡◌, ◌≢◌, ℕ, ◌==◌, ◌<◌, if◌then◌else◌, List, [], ◌∷◌, ◌++◌, length, Option, MatchOption, ◌⊎◌}
use Rattle.std.specs.List.{All, concat}
use Rattle.fields.specs.Bytes.{line_feed}
use Rattle.ledger.specs.declared.bill.Bill.{Bill}
use Rattle.settlement.specs.Output.{bill_line}
use Rattle.group.specs.Months.{by_place}

-- a byte before the first of some lines
abbrev pub onto_first : (byte : ℕ) → List (List ℕ) → List (List ℕ)
onto_first byte [] = (byte ∷ []) ∷ []
onto_first byte (line ∷ lines) = (byte ∷ line) ∷ lines

-- the lines of a text, each with the line feed that ends it; what follows the last line feed is a line that has none
abbrev pub text_lines : (text : List ℕ) → List (List ℕ)
text_lines [] = []
text_lines (byte ∷ text) = if byte == line_feed then (byte ∷ []) ∷ text_lines text else onto_first byte (text_lines text)

-- no line feed stands in the text
abbrev pub HasNoFeed : List ℕ → Type 0
HasNoFeed text = All (λ byte. byte ≢ line_feed) text

-- a line feed ends the line, and stands nowhere else in it
abbrev pub EndsInFeed : List ℕ → Type 0
EndsInFeed line = (front : List ℕ) × (line ≡ front ++ line_feed ∷ []) × HasNoFeed front

-- each of these ends in its only line feed; the last of them may have none, and is not empty then
abbrev pub AreLines : List (List ℕ) → Type 0
AreLines [] = Unit {0}
AreLines (line ∷ []) = EndsInFeed line ⊎ ((0 < length line) × HasNoFeed line)
AreLines (line ∷ next ∷ lines) = EndsInFeed line × AreLines (next ∷ lines)

-- the lines of the bills of a month, in order of place
abbrev pub bills_text : (month : ℕ) → List Bill → List ℕ
bills_text month bills = concat (by_place (bill_line month) 0 bills)

-- the first line of a text and what follows it, or none where there is no text
abbrev pub IsNextLine : (text : List ℕ) → Option (Bor (List ℕ) × Bor (List ℕ)) → Type 0
IsNextLine text r =
    MatchOption r (text ≡ [])
    (λ parts.
    (text ≡ parts.0.now ++ parts.1.now) × (0 < length parts.0.now)
    × (text_lines text ≡ parts.0.now ∷ text_lines parts.1.now))
