-- What the program is to print for a journal.
use Rattle.std.specs.Prelude.{◌≡◌, ℕ, List, [], ◌++◌, None, Option, Some}
use Rattle.cells.specs.Cells.{Puts}
use Rattle.settlement.specs.Faults.{fault_line}
use Rattle.settlement.specs.Runs.{RunResult, RunsOver}
use Rattle.settlement.specs.declared.fault.RunFault.{RunFault}
use Rattle.sharing.specs.Rules.{proportion}
use Rattle.two.specs.Two.{prices, group_of_two}
use Rattle.two.specs.declared.program.Lengths.{Lengths}

-- the line of a fault, where there is one
abbrev pub fault_text : Option RunFault → List ℕ
fault_text None = []
fault_text (Some fault) = fault_line fault

-- the run of a journal over the group of two, with room for 65,536 bytes, writes this text, and stops at this fault if at any
abbrev pub WritesOutput : (journal text : List ℕ) → Option RunFault → Type 0
WritesOutput journal text fault =
    (ran : RunResult) × RunsOver proportion (λ month. prices) journal 65536 group_of_two ran × (text ≡ ran.text) × (fault ≡ ran.fault)

-- for a journal is to be printed what its run writes, and then the line of the fault that it stops at
pub record PrintsOutput (journal printed : List ℕ) : Type 0 where
  pub text : List ℕ
  pub fault : Option RunFault
  pub output : WritesOutput journal text fault
  pub whole : printed ≡ text ++ fault_text fault

-- of two slices one holds what the run writes at its start and the other the line of the fault that it stops at, as long as
-- is told, and the rest of each is as it was
pub record PrintsJournal (journal : List ℕ) (old : List ℕ × List ℕ) (lengths : Lengths) (new : List ℕ × List ℕ) : Type 0 where
  pub text : List ℕ
  pub fault : Option RunFault
  pub run : WritesOutput journal text fault
  pub output : Puts old.0 0 text new.0 lengths.output
  pub line : Puts old.1 0 (fault_text fault) new.1 lengths.fault
  pub stops : lengths.stopped_at ≡ fault
