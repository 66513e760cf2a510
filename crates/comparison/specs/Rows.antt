-- A line of numbers parted by commas: its text, and what is wrong with a text that is none.
use Rattle.std.specs.Prelude.{All, ◌≡◌, ℕ, ◌+◌, ◌<◌, ◌≤◌, ◌⊎◌, List, [], ◌∷◌, ◌++◌, length, Some, Ok, Err, vec_items, decimal, Result, Vec, ◌≢◌}
use Rattle.std.specs.List.{flat_map}
use Rattle.fields.specs.Bytes.{comma}
use Rattle.fields.specs.Cuts.{Lacks}
use Rattle.comparison.specs.declared.problem.Problem.{Problem}
use Rattle.comparison.specs.declared.problem.Problem.TheVariants.{At, Memory, OfParts, OfRule}
use Rattle.comparison.specs.declared.question.Fault.{Fault}
use Rattle.comparison.specs.declared.question.Wrong.{Wrong}
use Rattle.comparison.specs.declared.question.Wrong.TheVariants.{LineFeed, Number, Missing, Surplus, Line}

-- a number of up to ten digits
abbrev pub HasUpToTenDigits : ℕ → Type 0
HasUpToTenDigits n = n ≤ 9999999999

-- the numbers parted by commas
abbrev pub numbers_row : List ℕ → List ℕ
numbers_row [] = []
numbers_row (n ∷ []) = decimal n
numbers_row (n ∷ m ∷ ns) = decimal n ++ (comma ∷ numbers_row (m ∷ ns))

-- the numbers with a comma after each
abbrev pub front_of : List ℕ → List ℕ
front_of ns = flat_map (λ n. decimal n ++ (comma ∷ [])) ns

-- the text begins with a field that has no comma, and ends with it or goes on at a comma
abbrev pub Starts : List ℕ → List ℕ → Type 0
Starts field bs = Lacks comma field × ((bs ≡ field) ⊎ ((after : List ℕ) × (bs ≡ field ++ (comma ∷ after))))

-- the field spells no number of up to ten digits
abbrev pub IsNoNumber : List ℕ → Type 0
IsNoNumber field = (n : ℕ) → HasUpToTenDigits n → field ≢ decimal n

-- what is wrong with a field, of which a line may have most, after those before it
abbrev pub IsWrongField : (most before : ℕ) → List ℕ → Wrong → Type 0
IsWrongField most before field Number = (before < most) × IsNoNumber field
IsWrongField most before field Surplus = before ≡ most
IsWrongField most before field LineFeed = ⊥
IsWrongField most before field Missing = ⊥
IsWrongField most before field Line = ⊥

-- the text is no row: the fields before the faulty one are numbers, each with a comma after it
pub record Stops (line most : ℕ) (bs : List ℕ) (fault : Fault) : Type 0 where
  pub before : List ℕ
  pub rest : List ℕ
  pub text : bs ≡ front_of before ++ rest
  pub short : All HasUpToTenDigits before
  pub at_line : fault.line ≡ line
  pub at_field : fault.field ≡ Some (length before + 1)
  pub field : List ℕ
  pub starts : Starts field rest
  pub because : IsWrongField most (length before) field fault.wrong

-- the text is the row of these numbers
pub record IsRowOf (most : ℕ) (bs : List ℕ) (ns : List ℕ) : Type 0 where
  pub text : bs ≡ numbers_row ns
  pub short : All HasUpToTenDigits ns
  pub some : 1 ≤ length ns
  pub few : length ns ≤ most

-- why no row was read
abbrev pub ReadsNoRow : (line most : ℕ) → List ℕ → Problem → Type 0
ReadsNoRow line most bs (At fault) = Stops line most bs fault
ReadsNoRow line most bs (OfRule refusal) = ⊥
ReadsNoRow line most bs (OfParts refusal) = ⊥
ReadsNoRow line most bs Memory = Unit {0}

-- what the reader of a row answers
abbrev pub ReadsNumbers : {A : Type 0} (line most : ℕ) → List ℕ → Result (Vec ℕ A) Problem → Type 0
ReadsNumbers line most bs (Ok v) = IsRowOf most bs (vec_items v)
ReadsNumbers line most bs (Err why) = ReadsNoRow line most bs why

-- what one more field of a line adds to the numbers before it
abbrev pub ReadsField : (line most : ℕ) (before field : List ℕ) → Result (Unit {0}) Problem → List ℕ → Type 0
ReadsField line most before field (Ok done) after =
    (length before < most) × ((n : ℕ) × (HasUpToTenDigits n × (field ≡ decimal n) × (after ≡ before ++ (n ∷ []))))
ReadsField line most before field (Err (At fault)) after =
    (fault.line ≡ line) × (fault.field ≡ Some (length before + 1)) × IsWrongField most (length before) field fault.wrong
ReadsField line most before field (Err (OfRule refusal)) after = ⊥
ReadsField line most before field (Err (OfParts refusal)) after = ⊥
ReadsField line most before field (Err Memory) after = Unit {0}
