-- What a run does, by the lines of the journal: which it accepts, what these write, and where the calls that they make lead.
use Rattle.std.specs.Prelude.{◌≡◌, ℕ, List, [], ◌++◌, length, IsSomeAnd, ◌⊎◌}
use Rattle.std.specs.List.{concat}
use Rattle.balance.specs.Balances.{IsBalancedThroughout, LeadsTo}
use Rattle.balance.specs.Histories.{Event}
use Rattle.cells.specs.Cells.{Puts}
use Rattle.group.specs.declared.group.Group.{Group}
use Rattle.journal.specs.declared.line.Line.{Line}
use Rattle.group.specs.Books.{BookState}
use Rattle.group.specs.Months.{Prices, Share}
use Rattle.settlement.specs.Accepting.{AcceptsInTurn, ReadsFirst}
use Rattle.settlement.specs.Laws.{StopsBehind}
use Rattle.settlement.specs.Output.{output_names}
use Rattle.settlement.specs.Runs.{IsJournal}
use Rattle.settlement.specs.Texts.{text_lines}
use Rattle.settlement.specs.declared.runs.Outcome.{Outcome}

-- the run stopped at line 1: it accepted no line and wrote nothing
pub record WritesNothing (lines : List Line) (old : List ℕ) (answer : Outcome) (new : List ℕ) : Type 0 where
  pub none : lines ≡ []
  pub fault : IsSomeAnd answer.fault (λ fault. fault.line ≡ 1)
  pub written : answer.written ≡ 0
  pub output : new ≡ old

-- the lines are the first of the journal behind its line of names, all before the fault, and the output is its own line of
-- names and then the texts, in order
pub record WritesInOrder (journal : List ℕ) (lines : List Line) (texts : List (List ℕ)) (old : List ℕ) (answer : Outcome) (new : List ℕ) : Type 0 where
  pub body : List ℕ
  pub begins : IsJournal journal body
  pub read : ReadsFirst (text_lines body) lines
  pub stop : StopsBehind 2 (length lines) (length (text_lines body)) answer.fault
  pub output : Puts old 0 (output_names ++ concat texts) new answer.written

-- a run accepts these lines of the journal, which make these calls, and writes what these lines write
pub record AcceptsLines (share : Share) (prices : ℕ → Prices) (journal : List ℕ) (old : List ℕ × Group) (answer : Outcome) (new : List ℕ × Group) : Type 0 where
  pub lines : List Line
  pub texts : List (List ℕ)
  pub calls : List Event
  pub accepted : AcceptsInTurn share prices lines old.1 texts calls new.1
  pub written : WritesNothing lines old.0 answer new.0 ⊎ WritesInOrder journal lines texts old.0 answer new.0

-- and every history that leads to the book as it was leads with the calls of these lines to the book as it is, and balances,
-- at its start and after each of its calls
pub record LeadsOnBalanced {R T : Type 0} (share : R → Share) (prices : T → ℕ → Prices) (journal : List ℕ) (old : List ℕ × BookState R T) (answer : Outcome) (new : List ℕ × BookState R T) : Type 0 where
  pub order : AcceptsLines (share old.1.rule) (prices old.1.tariff) journal (old.0, old.1.group) answer (new.0, new.1.group)
  pub balanced : (history : List Event) → LeadsTo share prices history old.1
      → LeadsTo share prices (order.calls ++ history) new.1
      × IsBalancedThroughout (share new.1.rule) (prices new.1.tariff) (order.calls ++ history) new.1.group
