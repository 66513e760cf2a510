-- The text of a question, and where and why a text is none.
use Rattle.std.specs.Prelude.{All, ◌≡◌, ℕ, ◌+◌, ◌<◌, ◌≤◌, List, [], ◌∷◌, ◌++◌, length, Some, None, Ok, Err, vec_items, Option, Result, Vec}
use Rattle.fields.specs.Bytes.{line_feed}
use Rattle.fields.specs.Cuts.{Lacks}
use Rattle.sharing.specs.Limits.{most_places}
use Rattle.comparison.specs.Rows.{HasUpToTenDigits, IsRowOf, Stops, numbers_row}
use Rattle.comparison.specs.declared.problem.Problem.{Problem}
use Rattle.comparison.specs.declared.problem.Problem.TheVariants.{At, Memory, OfParts, OfRule}
use Rattle.comparison.specs.declared.question.Fault.{Fault}
use Rattle.comparison.specs.declared.question.Question.{Question}
use Rattle.comparison.specs.declared.question.Wrong.{Wrong}
use Rattle.comparison.specs.declared.question.Wrong.TheVariants.{LineFeed, Missing, Line}

-- nothing where there are no parts, else a line of them
abbrev pub parts_text : List ℕ → List ℕ
parts_text [] = []
parts_text (part ∷ parts) = numbers_row (part ∷ parts) ++ (line_feed ∷ [])

-- a line with the pool and its needs, and then the parts
abbrev question_text : ℕ → List ℕ → List ℕ → List ℕ
question_text pool needs parts = numbers_row (pool ∷ needs) ++ (line_feed ∷ parts_text parts)

-- the text asks how to share this pool among these needs, with these parts: 1 to 32 needs and up to 32 parts,
-- each number of up to ten digits
pub record Asks (bs : List ℕ) (pool : ℕ) (needs parts : List ℕ) : Type 0 where
  pub text : bs ≡ question_text pool needs parts
  pub short : All HasUpToTenDigits (pool ∷ needs)
  pub short_parts : All HasUpToTenDigits parts
  pub some : 1 ≤ length needs
  pub few : length needs ≤ most_places
  pub few_parts : length parts ≤ most_places

-- the first line of the text, without its line feed, and what follows it
abbrev pub Begins : List ℕ → List ℕ → List ℕ → Type 0
Begins bs first rest = (bs ≡ first ++ (line_feed ∷ rest)) × Lacks line_feed first

-- a fault
abbrev pub at : ℕ → Option ℕ → Wrong → Fault
at line field wrong = record { line = line; field = field; wrong = wrong }

-- where and why what follows the first line is no line of parts
pub data IsNoParts (bs : List ℕ) : Fault → Type 0 where
  second_endless : 0 < length bs → Lacks line_feed bs → IsNoParts bs (at 2 None LineFeed)
  second_unread : (second rest : List ℕ) (fault : Fault)
      → Begins bs second rest → Stops 2 most_places second fault → IsNoParts bs fault
  third_line : (second rest parts : List ℕ)
      → Begins bs second rest → IsRowOf most_places second parts → 0 < length rest
      → IsNoParts bs (at 3 None Line)

-- where and why the text is no question
pub data IsNoQuestion (bs : List ℕ) : Fault → Type 0 where
  first_endless : Lacks line_feed bs → IsNoQuestion bs (at 1 None LineFeed)
  first_unread : (first rest : List ℕ) (fault : Fault)
      → Begins bs first rest → Stops 1 (most_places + 1) first fault → IsNoQuestion bs fault
  no_need : (first rest : List ℕ) (pool : ℕ)
      → Begins bs first rest → IsRowOf (most_places + 1) first (pool ∷ [])
      → IsNoQuestion bs (at 1 (Some 2) Missing)
  no_parts : (first rest : List ℕ) (pool need : ℕ) (needs : List ℕ) (fault : Fault)
      → Begins bs first rest → IsRowOf (most_places + 1) first (pool ∷ need ∷ needs)
      → IsNoParts rest fault → IsNoQuestion bs fault

-- no question has this text
abbrev pub AsksNothing : List ℕ → Type 0
AsksNothing bs = (pool : ℕ) (needs parts : List ℕ) → Asks bs pool needs parts → ⊥

-- a text asks at most one question
abbrev pub AsksOneQuestion : Type 0
AsksOneQuestion =
    (bs : List ℕ) (pool other : ℕ) (needs others parts further : List ℕ)
    → Asks bs pool needs parts → Asks bs other others further
    → (pool ≡ other) × (needs ≡ others) × (parts ≡ further)

-- a text has at most one first fault
abbrev pub HasOneFault : Type 0
HasOneFault = (bs : List ℕ) (fault other : Fault) → IsNoQuestion bs fault → IsNoQuestion bs other → fault ≡ other

-- why no question was read
abbrev pub ReadsNoQuestion : List ℕ → Problem → Type 0
ReadsNoQuestion bs (At fault) = IsNoQuestion bs fault × AsksNothing bs
ReadsNoQuestion bs (OfRule refusal) = ⊥
ReadsNoQuestion bs (OfParts refusal) = ⊥
ReadsNoQuestion bs Memory = Unit {0}

-- what the reader of a question answers
abbrev pub ReadsQuestion : List ℕ → Result Question Problem → Type 0
ReadsQuestion bs (Ok q) = Asks bs q.pool (vec_items q.needs) (vec_items q.parts)
ReadsQuestion bs (Err why) = ReadsNoQuestion bs why

-- the text after the first line has these parts
pub record HasParts (bs parts : List ℕ) : Type 0 where
  pub text : bs ≡ parts_text parts
  pub short : All HasUpToTenDigits parts
  pub few : length parts ≤ most_places

-- why no parts were read
abbrev pub ReadsNoParts : List ℕ → Problem → Type 0
ReadsNoParts bs (At fault) = IsNoParts bs fault
ReadsNoParts bs (OfRule refusal) = ⊥
ReadsNoParts bs (OfParts refusal) = ⊥
ReadsNoParts bs Memory = Unit {0}

-- what the reader of the parts answers
abbrev pub ReadsParts : {A : Type 0} → List ℕ → Result (Vec ℕ A) Problem → Type 0
ReadsParts bs (Ok v) = HasParts bs (vec_items v)
ReadsParts bs (Err why) = ReadsNoParts bs why
