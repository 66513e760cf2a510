-- What a comparison holds: the shares by each rule, and what is left of the pool under each.
use Rattle.std.specs.Prelude.{◌≡◌, ℕ, ◌-◌, List, ◌++◌, length, replicate, Ok, Err, vec_items, sum, Result}
use Rattle.sharing.specs.Limits.{most_places}
use Rattle.sharing.specs.Refusals.{answer, parts_answer}
use Rattle.sharing.specs.Rules.{line_order, proportion, with_parts}
use Rattle.comparison.specs.declared.columns.Column.{Column}
use Rattle.comparison.specs.declared.columns.Comparison.{Comparison}
use Rattle.comparison.specs.declared.problem.Problem.{Problem}
use Rattle.comparison.specs.declared.problem.Problem.TheVariants.{At, Memory, OfParts, OfRule}

-- the parts of 32 places, of which those that were not given are 0
abbrev pub padded_parts : List ℕ → List ℕ
padded_parts parts = parts ++ replicate (most_places - length parts) 0

-- these shares, and what they leave of the pool
pub record Holds (pool : ℕ) (shares : List ℕ) (column : Column) : Type 0 where
  pub shares_are : vec_items column.shares ≡ shares
  pub left_is : column.left ≡ pool - sum shares

-- why there is no column of a rule
abbrev RefusesColumn : ℕ → List ℕ → Problem → Type 0
RefusesColumn pool needs (At fault) = ⊥
RefusesColumn pool needs (OfRule refusal) = answer pool needs (length needs) ≡ Err refusal
RefusesColumn pool needs (OfParts refusal) = ⊥
RefusesColumn pool needs Memory = Unit {0}

-- the column of a rule, or the refusal of its call
abbrev pub MakesColumn : (ℕ → List ℕ → List ℕ) → ℕ → List ℕ → Result Column Problem → Type 0
MakesColumn rule pool needs (Ok column) = (answer pool needs (length needs) ≡ Ok tt) × Holds pool (rule pool needs) column
MakesColumn rule pool needs (Err why) = RefusesColumn pool needs why

-- why there is no column of a layer of parts
abbrev RefusesPartsColumn : List ℕ → ℕ → List ℕ → Problem → Type 0
RefusesPartsColumn parts pool needs (At fault) = ⊥
RefusesPartsColumn parts pool needs (OfRule refusal) = answer pool needs (length needs) ≡ Err refusal
RefusesPartsColumn parts pool needs (OfParts refusal) = parts_answer parts ≡ Err refusal
RefusesPartsColumn parts pool needs Memory = Unit {0}

-- the column of a layer of parts over a rule, or the refusal of the parts or of the layer's call
abbrev pub MakesPartsColumn : (ℕ → List ℕ → List ℕ) → List ℕ → ℕ → List ℕ → Result Column Problem → Type 0
MakesPartsColumn below parts pool needs (Ok column) = (parts_answer parts ≡ Ok tt) × Holds pool (with_parts below parts pool needs) column
MakesPartsColumn below parts pool needs (Err why) = RefusesPartsColumn parts pool needs why

-- nothing is refused, and these are the four columns, those of the layers with these parts
pub record MakesTable (pool : ℕ) (needs parts : List ℕ) (c : Comparison) : Type 0 where
  pub shared : answer pool needs (length needs) ≡ Ok tt
  pub parted : parts_answer parts ≡ Ok tt
  pub by_line_order : Holds pool (line_order pool needs) c.line_order
  pub by_proportion : Holds pool (proportion pool needs) c.proportion
  pub by_parts_over_line_order : Holds pool (with_parts line_order parts pool needs) c.parts_over_line_order
  pub by_parts_over_proportion : Holds pool (with_parts proportion parts pool needs) c.parts_over_proportion

-- why there is no table: the rules' own refusals come before that of the parts
abbrev pub RefusesTable : ℕ → List ℕ → List ℕ → Problem → Type 0
RefusesTable pool needs parts (At fault) = ⊥
RefusesTable pool needs parts (OfRule refusal) = answer pool needs (length needs) ≡ Err refusal
RefusesTable pool needs parts (OfParts refusal) = (answer pool needs (length needs) ≡ Ok tt) × (parts_answer parts ≡ Err refusal)
RefusesTable pool needs parts Memory = Unit {0}

-- what a comparison answers
abbrev pub Compares : ℕ → List ℕ → List ℕ → Result Comparison Problem → Type 0
Compares pool needs parts (Ok c) = MakesTable pool needs parts c
Compares pool needs parts (Err why) = RefusesTable pool needs parts why
