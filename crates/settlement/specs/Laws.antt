-- What holds of every run, by the lines alone.
use Rattle.std.specs.Prelude.{◌≡◌, ℕ, ◌<◌, ◌+◌, ◌-◌, ◌≤◌, List, [], ◌++◌, drop, length, None, Option, Some, ◌⊎◌, ◌↔◌}
use Rattle.std.specs.List.{concat}
use Rattle.balance.specs.Histories.{Event}
use Rattle.group.specs.declared.group.Group.{Group}
use Rattle.journal.specs.declared.line.Line.{Line}
use Rattle.settlement.specs.Output.{output_names}
use Rattle.group.specs.Months.{Prices, Share}
use Rattle.settlement.specs.Accepting.{AcceptsInTurn, ReadsFirst}
use Rattle.settlement.specs.Faults.{fault_at}
use Rattle.settlement.specs.Runs.{IsJournal, RunsLines, RefusesToBegin, RunResult, RunsOver, after_text}
use Rattle.settlement.specs.Stopping.{IsReason}
use Rattle.settlement.specs.Texts.{AreLines, text_lines}
use Rattle.settlement.specs.declared.fault.RunFault.{RunFault}
use Rattle.settlement.specs.declared.fault.RunRefusal.{RunRefusal}

-- the lines of a text are those that are the text when they are joined, where a line feed stands only at the end of a line,
-- and at the end of each but perhaps the last
abbrev pub LinesMakeText : Type 0
LinesMakeText =
    (text : List ℕ) (lines : List (List ℕ)) → (lines ≡ text_lines text) ↔ ((concat lines ≡ text) × AreLines lines)

-- of so many lines, which are counted from a number on, all are accepted; or the fault is at the one behind those accepted
abbrev pub StopsBehind : (first accepted all : ℕ) → Option RunFault → Type 0
StopsBehind first accepted all None = accepted ≡ all
StopsBehind first accepted all (Some fault) = (fault.line ≡ first + accepted) × (accepted < all)

-- with so much room, the first of the lines are read and accepted, all before the fault, which says why the run stops at the
-- next one, and the output is what they write, in order
pub record IsInOrder (share : Share) (prices : ℕ → Prices) (room first : ℕ) (lines : List (List ℕ)) (group : Group) (ran : RunResult) : Type 0 where
  pub accepted : List Line
  pub texts : List (List ℕ)
  pub calls : List Event
  pub read : ReadsFirst lines accepted
  pub taken : AcceptsInTurn share prices accepted group texts calls ran.group
  pub output : ran.text ≡ concat texts
  pub stop : StopsBehind first (length accepted) (length lines) ran.fault
  pub reason : IsReason share prices (room - length ran.text) ran.group (drop (length accepted) lines) ran.fault

-- the run stopped at line 1, since there is no journal or the room is short, with nothing written and nothing done
pub record StopsAt1 (journal : List ℕ) (room : ℕ) (group : Group) (ran : RunResult) : Type 0 where
  pub refusal : RunRefusal
  pub reason : RefusesToBegin journal room refusal
  pub fault : ran.fault ≡ Some (fault_at 1 refusal)
  pub text : ran.text ≡ []
  pub after : ran.group ≡ group

-- the output of a journal that is gone into is the line of names, and then what the lines of its body write, in order
pub record BodyIsInOrder (share : Share) (prices : ℕ → Prices) (journal : List ℕ) (room : ℕ) (group : Group) (ran : RunResult) : Type 0 where
  pub body : List ℕ
  pub begins : IsJournal journal body
  pub rest : RunResult
  pub order : IsInOrder share prices (room - length output_names) 2 (text_lines body) group rest
  pub names : ran ≡ after_text output_names rest

-- so every run either stops at line 1 or has its output in order
abbrev pub OutputIsInOrder : Type 0
OutputIsInOrder =
    (share : Share) (prices : ℕ → Prices) (journal : List ℕ) (room : ℕ) (group : Group) (ran : RunResult)
    → RunsOver share prices journal room group ran → StopsAt1 journal room group ran ⊎ BodyIsInOrder share prices journal room group ran

-- lines that are run to their end and more lines from there are one run of all of them
abbrev pub RunsGoOn : Type 0
RunsGoOn =
    (share : Share) (prices : ℕ → Prices) (room first : ℕ) (lines more : List (List ℕ)) (group : Group) (ran later : RunResult)
    → RunsLines share prices room first lines group ran → ran.fault ≡ None
    → RunsLines share prices (room - length ran.text) (first + length lines) more ran.group later
    → RunsLines share prices room first (lines ++ more) group (after_text ran.text later)

-- lines behind that of a fault change nothing
abbrev pub RunsStop : Type 0
RunsStop =
    (share : Share) (prices : ℕ → Prices) (room first : ℕ) (lines more : List (List ℕ)) (group : Group) (ran : RunResult) (fault : RunFault)
    → RunsLines share prices room first lines group ran → ran.fault ≡ Some fault
    → RunsLines share prices room first (lines ++ more) group ran

-- a journal that is run to its end, and then more lines, are one run of the longer journal, unless that is too long
abbrev pub JournalsGoOn : Type 0
JournalsGoOn =
    (share : Share) (prices : ℕ → Prices) (room : ℕ) (journal more : List ℕ) (group : Group) (ran later : RunResult)
    → length (journal ++ more) ≤ 65536
    → RunsOver share prices journal room group ran → ran.fault ≡ None
    → RunsLines share prices (room - length ran.text) (length (text_lines journal) + 1) (text_lines more) ran.group later
    → RunsOver share prices (journal ++ more) room group (after_text ran.text later)

-- a run comes to one thing alone
abbrev pub HasOneOutcome : Type 0
HasOneOutcome =
    (share : Share) (prices : ℕ → Prices) (journal : List ℕ) (room : ℕ) (group : Group) (ran other : RunResult)
    → RunsOver share prices journal room group ran → RunsOver share prices journal room group other → ran ≡ other
