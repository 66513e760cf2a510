-- What is printed for a text: the table of what it asks, or why there is none.
use Rattle.std.specs.Prelude.{◌≡◌, ℕ, List, Ok, Err, string_bytes, Result, String}
use Rattle.comparison.specs.Columns.{MakesTable, RefusesTable, padded_parts}
use Rattle.comparison.specs.Questions.{Asks, ReadsNoQuestion}
use Rattle.comparison.specs.Tables.{table_of}
use Rattle.comparison.specs.declared.columns.Comparison.{Comparison}
use Rattle.comparison.specs.declared.problem.Problem.{Problem}
use Rattle.comparison.specs.declared.problem.Problem.TheVariants.{At, Memory, OfParts, OfRule}

-- the bytes are the table of the four columns for this pool, these needs and these parts
pub record IsTableFor (pool : ℕ) (needs parts bytes : List ℕ) : Type 0 where
  pub columns : Comparison
  pub tabled : MakesTable pool needs (padded_parts parts) columns
  pub printed : bytes ≡ table_of needs columns

-- what the printer of a question answers
abbrev pub PrintsTable : {A : Type 0} → ℕ → List ℕ → List ℕ → Result (String A) Problem → Type 0
PrintsTable pool needs parts (Ok table) = IsTableFor pool needs parts (string_bytes table)
PrintsTable pool needs parts (Err why) = RefusesTable pool needs (padded_parts parts) why

-- the bytes are the table of what the text asks
pub record AnswersQuestion (text bytes : List ℕ) : Type 0 where
  pub pool : ℕ
  pub needs : List ℕ
  pub parts : List ℕ
  pub asked : Asks text pool needs parts
  pub answered : IsTableFor pool needs parts bytes

-- what the text asks is refused
pub record RefusesQuestion (text : List ℕ) (why : Problem) : Type 0 where
  pub pool : ℕ
  pub needs : List ℕ
  pub parts : List ℕ
  pub asked : Asks text pool needs parts
  pub untabled : RefusesTable pool needs (padded_parts parts) why

-- why there is no table for the text
abbrev ReportsWhy : List ℕ → Problem → Type 0
ReportsWhy text (At fault) = ReadsNoQuestion text (At fault)
ReportsWhy text (OfRule refusal) = RefusesQuestion text (OfRule refusal)
ReportsWhy text (OfParts refusal) = RefusesQuestion text (OfParts refusal)
ReportsWhy text Memory = Unit {0}

-- what a report answers
abbrev pub Reports : {A : Type 0} → List ℕ → Result (String A) Problem → Type 0
Reports text (Ok table) = AnswersQuestion text (string_bytes table)
Reports text (Err problem) = ReportsWhy text problem
