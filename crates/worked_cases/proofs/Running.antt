-- From the lines of a journal to what its run comes to.
use Rattle.std.proofs.Common.{◌≡◌, ℕ, ◌+◌, ◌-◌, ◌≤◌, List, ◌∷◌, ◌++◌, length, Ok, Err, Result, refl, sym, subst}
use Rattle.group.specs.declared.group.Group.{Group}
use Rattle.journal.specs.Lines.{IsLine, ReadsLine}
use Rattle.journal.specs.Names.{journal_names}
use Rattle.journal.specs.declared.line.Line.{Line}
use Rattle.journal.specs.declared.refusal.LineFault.{LineFault}
use Rattle.worked_cases.specs.Runs.{RunsTo, Tells, TwoRuns}
use Rattle.settlement.specs.Output.{output_names}
use Rattle.settlement.specs.Laws.{HasOneOutcome}
use Rattle.settlement.specs.Runs.{GoesOn, RunsLines, RunResult, after_text, runs, stopped_run}
use Rattle.settlement.specs.Steps.{after_line, after_reading, output_room}
use Rattle.settlement.specs.Texts.{text_lines}
use Rattle.settlement.specs.declared.fault.RunRefusal.{RunRefusal}
use Rattle.sharing.specs.Rules.{proportion}
use Rattle.two.specs.Two.{prices}

-- the run of lines by proportion and at the prices of the group of two
abbrev pub Lines : (room number : ℕ) → List (List ℕ) → Group → RunResult → Type 0
Lines room number lines group ran = RunsLines proportion (λ month. prices) room number lines group ran

-- the run of what follows a line
abbrev Rest : (room number : ℕ) → List (List ℕ) → List ℕ → Group → RunResult → Type 0
Rest room number lines text new later = Lines (room - length text) (number + 1) lines new later

-- a line that is read and done, and then the rest
pub line_done : (room number : ℕ) (text written : List ℕ) (lines : List (List ℕ)) (line : Line) (group new : Group) (later : RunResult) → IsLine text line → after_line proportion (λ month. prices) room line group ≡ Ok (written, new) → Lines (room - length written) (number + 1) lines new later → Lines room number (text ∷ lines) group (after_text written later)
line_done room number text written lines line group new later read done rest =
    (Ok line, read, subst (λ (step : Result (List ℕ × Group) RunRefusal). GoesOn number group step (Rest room number lines) (after_text written later)) (sym done) (later, rest, refl))

-- a line that is refused
pub line_refused : (room number : ℕ) (text : List ℕ) (lines : List (List ℕ)) (reading : Result Line LineFault) (group : Group) (refusal : RunRefusal) → ReadsLine text number reading → after_reading proportion (λ month. prices) room reading group ≡ Err refusal → Lines room number (text ∷ lines) group (stopped_run number refusal group)
line_refused room number text lines reading group refusal read refused =
    (reading, read, subst (λ (step : Result (List ℕ × Group) RunRefusal). GoesOn number group step (Rest room number lines) (stopped_run number refusal group)) (sym refused) refl)

-- what a run comes to is all that it comes to
pub alone : HasOneOutcome → (room : ℕ) (group : Group) (journal text fault : List ℕ) (ran : RunResult) → TwoRuns room group journal ran → Tells text fault ran → RunsTo room group journal text fault
alone one room group journal text fault ran run tells = record {
  to_this = (ran, run, tells);
  to_nothing_else = λ other too. subst (Tells text fault) (one proportion (λ month. prices) journal room group ran other run too) tells;
}

-- the same of a journal whose body is run
pub body_alone : HasOneOutcome → (room : ℕ) (group : Group) (body text fault : List ℕ) (ran : RunResult) → length (journal_names ++ body) ≤ 65536 → output_room ≤ room → Lines (room - length output_names) 2 (text_lines body) group ran → Tells text fault (after_text output_names ran) → RunsTo room group (journal_names ++ body) text fault
body_alone one room group body text fault ran short long lines tells =
    alone one room group (journal_names ++ body) text fault (after_text output_names ran) (runs body ran (short, refl) long lines) tells
