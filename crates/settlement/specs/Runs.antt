-- What a run makes of a journal: the output, the group, and the fault that it stops at.
use Rattle.std.specs.Borrow.{Bor}
use Rattle.std.specs.Prelude.{◌≡◌, ℕ, ◌+◌, ◌-◌, ◌<◌, ◌≤◌, List, [], ◌∷◌, ◌++◌, length, None, Option, Some, Ok, Err, Result}
use Rattle.cells.specs.Cells.{Puts}
use Rattle.group.specs.declared.group.Group.{Group}
use Rattle.journal.specs.Lines.{ReadsLine}
use Rattle.journal.specs.Names.{journal_names}
use Rattle.journal.specs.declared.line.Line.{Line}
use Rattle.journal.specs.declared.refusal.LineFault.{LineFault}
use Rattle.settlement.specs.Output.{output_names}
use Rattle.group.specs.Months.{Prices, Share}
use Rattle.settlement.specs.Faults.{fault_at}
use Rattle.settlement.specs.Steps.{after_reading, output_room}
use Rattle.settlement.specs.Texts.{text_lines}
use Rattle.settlement.specs.declared.fault.RunFault.{RunFault}
use Rattle.settlement.specs.declared.fault.RunRefusal.{RunRefusal}
use Rattle.settlement.specs.declared.fault.RunRefusal.TheVariants as refused
use Rattle.settlement.specs.declared.runs.Outcome.{Outcome}

-- what a run comes to
pub record RunResult : Type 0 where
  pub text : List ℕ
  pub group : Group
  pub fault : Option RunFault

-- it ends with nothing more
abbrev pub ended_run : Group → RunResult
ended_run group = record { text = []; group = group; fault = None }

-- it stops at a line
abbrev pub stopped_run : (number : ℕ) → RunRefusal → Group → RunResult
stopped_run number refusal group =
    record { text = []; group = group; fault = Some (fault_at number refusal) }

-- a text before what it comes to
abbrev pub after_text : List ℕ → RunResult → RunResult
after_text text ran = record ran { text = text ++ ran.text }

-- a line is done, and what it comes to is its text and then what the rest comes to from there; or the run stops at it
abbrev pub GoesOn : (number : ℕ) → Group → Result (List ℕ × Group) RunRefusal → (List ℕ → Group → RunResult → Type 0) → RunResult → Type 0
GoesOn number group (Ok done) Rest ran = (later : RunResult) × Rest done.0 done.1 later × (ran ≡ after_text done.0 later)
GoesOn number group (Err refusal) Rest ran = ran ≡ stopped_run number refusal group

-- the run of lines on a group, with room for so many bytes, comes to this: each line is read, and does what is read of it
abbrev pub RunsLines : Share → (ℕ → Prices) → (room number : ℕ) → List (List ℕ) → Group → RunResult → Type 0
RunsLines share prices room number [] group ran = ran ≡ ended_run group
RunsLines share prices room number (text ∷ texts) group ran =
    (reading : Result Line LineFault) × ReadsLine text number reading
    × GoesOn number group (after_reading share prices room reading group)
    (λ written new later. RunsLines share prices (room - length written) (number + 1) texts new later) ran

-- the text is a journal of at most 65,536 bytes: the line of names, and then its body
abbrev pub IsJournal : List ℕ → (body : List ℕ) → Type 0
IsJournal journal body = (length journal ≤ 65536) × (journal ≡ journal_names ++ body)

-- the run of a journal on a group, with room for so many bytes of output, comes to this
pub data RunsOver (share : Share) (prices : ℕ → Prices) (journal : List ℕ) (room : ℕ) (group : Group) : RunResult → Type 0 where
  no_journal : ((body : List ℕ) → IsJournal journal body → ⊥) → RunsOver share prices journal room group (stopped_run 1 refused.Journal group)
  no_room : (body : List ℕ) → IsJournal journal body → room < output_room → RunsOver share prices journal room group (stopped_run 1 refused.Room group)
  runs : (body : List ℕ) (ran : RunResult) → IsJournal journal body → output_room ≤ room
      → RunsLines share prices (room - length output_names) 2 (text_lines body) group ran
      → RunsOver share prices journal room group (after_text output_names ran)

-- what a run comes to is answered and done: the fault is told, the text stands in the output from a place on, the place
-- after it is told, and the group is the one that the run comes to
abbrev pub EndsRun : RunResult → (at : ℕ) → (old : List ℕ × Group) → Outcome → (new : List ℕ × Group) → Type 0
EndsRun ran at old answer new =
    (answer.fault ≡ ran.fault) × Puts old.0 at ran.text new.0 answer.written × (new.1 ≡ ran.group)

-- the lines of a body are run
abbrev pub RunsBody : Share → (ℕ → Prices) → (body : List ℕ) → (at : ℕ) → (old : List ℕ × Group) → Outcome → (new : List ℕ × Group) → Type 0
RunsBody share prices body at old answer new =
    (ran : RunResult) × RunsLines share prices (length old.0 - at) 2 (text_lines body) old.1 ran × EndsRun ran at old answer new

-- a journal is run, and what it comes to is written at the start of the output
abbrev pub RunsJournal : Share → (ℕ → Prices) → (journal : List ℕ) → (old : List ℕ × Group) → Outcome → (new : List ℕ × Group) → Type 0
RunsJournal share prices journal old answer new =
    (ran : RunResult) × RunsOver share prices journal (length old.0) old.1 ran × EndsRun ran 0 old answer new

-- why line 1 is refused: it begins no journal, or the output is too short
abbrev pub RefusesToBegin : (journal : List ℕ) → (room : ℕ) → RunRefusal → Type 0
RefusesToBegin journal room refused.Journal = (body : List ℕ) → IsJournal journal body → ⊥
RefusesToBegin journal room refused.Room = (body : List ℕ) × IsJournal journal body × (room < output_room)
RefusesToBegin journal room (refused.Line refusal) = ⊥
RefusesToBegin journal room (refused.Book refusal) = ⊥

-- line 1 is gone through: its body, and the place after the line of names that stands in the output; or it is refused
abbrev pub BeginsRun : (journal old : List ℕ) → Result (Bor (List ℕ) × ℕ) RunFault → (new : List ℕ) → Type 0
BeginsRun journal old (Ok begun) new = IsJournal journal begun.0.now × (output_room ≤ length old) × Puts old 0 output_names new begun.1
BeginsRun journal old (Err fault) new = RefusesToBegin journal (length old) fault.refusal × (fault ≡ fault_at 0 fault.refusal) × (new ≡ old)
