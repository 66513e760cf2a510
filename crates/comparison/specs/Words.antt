-- How it is told in words why there is no table.
use Rattle.std.specs.Prelude.{ℕ, List, ◌++◌, codes}
use Rattle.fields.specs.Places.{place_words}
use Rattle.sharing.specs.Refusals.{meaning, parts_meaning, refusal_text}
use Rattle.comparison.specs.declared.problem.Problem.{Problem}
use Rattle.comparison.specs.declared.problem.Problem.TheVariants.{At, Memory, OfParts, OfRule}
use Rattle.comparison.specs.declared.question.Fault.{Fault}
use Rattle.comparison.specs.declared.question.Wrong.{Wrong}
use Rattle.comparison.specs.declared.question.Wrong.TheVariants.{LineFeed, Number, Missing, Surplus, Line}

-- what is wrong at a place
abbrev pub wrong_words : Wrong → List ℕ
wrong_words LineFeed = codes "the line does not end in a line feed"
wrong_words Number = codes "this is no number of up to ten digits without a needless zero in front"
wrong_words Missing = codes "the line ends before its first need"
wrong_words Surplus = codes "the line has more fields than it may"
wrong_words Line = codes "the text goes on after its second line"

-- a fault: its place, and what is wrong there
abbrev pub fault_words : Fault → List ℕ
fault_words fault = place_words fault.line fault.field (wrong_words fault.wrong)

-- the place of the fault, or the refusal with its number and its words
abbrev pub problem_words : Problem → List ℕ
problem_words (At fault) = fault_words fault
problem_words (OfRule refusal) = codes "refused by " ++ refusal_text (meaning refusal)
problem_words (OfParts refusal) = codes "refused by " ++ refusal_text (parts_meaning refusal)
problem_words Memory = codes "there is no memory"
