-- Line 1 of a run.
use Rattle.std.specs.Borrow.{Bor}
use Rattle.std.proofs.Common.{◌≡◌, ℕ, ◌-◌, ◌<◌, ◌≤◌, List, [], length, Err, Some, Result, refl, sym, ap, subst, arith}
use Rattle.std.proofs.lemmas.Bool.Decides.{nat_tests}
use Rattle.cells.proofs.Overwriting.{put_more}
use Rattle.cells.specs.Cells.{Puts}
use Rattle.group.specs.declared.group.Group.{Group}
use Rattle.settlement.specs.Output.{output_names}
use Rattle.group.specs.Months.{Prices, Share}
use Rattle.settlement.proofs.Billing.{put_none}
use Rattle.settlement.specs.Faults.{fault_at}
use Rattle.settlement.specs.Runs.{BeginsRun, RunsBody, IsJournal, RunsJournal, RunsLines, RefusesToBegin, after_text, no_journal, no_room, runs, stopped_run}
use Rattle.settlement.specs.Steps.{IsRefusedBy, output_room, room_check}
use Rattle.settlement.specs.Texts.{text_lines}
use Rattle.settlement.specs.declared.fault.RunFault.{RunFault}
use Rattle.settlement.specs.declared.fault.RunRefusal.{RunRefusal}
use Rattle.settlement.specs.declared.fault.RunRefusal.TheVariants as refused
use Rattle.settlement.specs.declared.runs.Outcome.{Outcome}

pub too_short : (room needed : ℕ) (refusal : RunRefusal) → room_check room needed ≡ Err refusal → room < needed
too_short room needed refusal is = grind (arith, nat_tests)

pub of_room : (room needed : ℕ) (refusal : RunRefusal) → room_check room needed ≡ Err refusal → refusal ≡ refused.Room
of_room room needed refusal is = grind (arith, nat_tests)

-- a fault of no line yet is at the line that it is told
pub told_at : (line : ℕ) (fault : RunFault) → fault ≡ fault_at 0 fault.refusal → (let told : RunFault = record fault { line = line } in told) ≡ fault_at line fault.refusal
told_at line fault is = ap (λ (f : RunFault). let told : RunFault = record f { line = line } in told) is

-- the output is too short
pub no_room_begun : (journal old body : List ℕ) (r : Result (Bor (List ℕ) × ℕ) RunFault) (fault : RunFault) → IsJournal journal body → IsRefusedBy (room_check (length old) output_room) fault → r ≡ Err fault → BeginsRun journal old r old
no_room_begun journal old body r fault begins (checked, at_0) is =
    let short : RefusesToBegin journal (length old) refused.Room = (body, begins, too_short (length old) output_room fault.refusal checked) in
    let why = subst (λ refusal. RefusesToBegin journal (length old) refusal) (sym (of_room (length old) output_room fault.refusal checked)) short in
    subst (λ answer. BeginsRun journal old answer old) (sym is) (why, at_0, refl)

-- there is no journal
pub no_journal_begun : (journal old : List ℕ) (fault : RunFault) → ((body : List ℕ) → IsJournal journal body → ⊥) → fault ≡ fault_at 0 refused.Journal → BeginsRun journal old (Err fault) old
no_journal_begun journal old fault none is =
    subst (λ (f : RunFault). BeginsRun journal old (Err f) old) (sym is) (none, refl, refl)

-- a run that is refused at line 1 stops there
stopped_at_1 : (share : Share) (prices : ℕ → Prices) (journal old new : List ℕ) (group : Group) (refusal : RunRefusal) → RefusesToBegin journal (length old) refusal → new ≡ old → RunsJournal share prices journal (old, group) (record { written = 0; fault = Some (fault_at 1 refusal) }) (new, group)
stopped_at_1 share prices journal old new group refused.Journal none same =
    (stopped_run 1 refused.Journal group, no_journal none, (refl, subst (λ out. Puts old 0 [] out 0) (sym same) (put_none old 0), refl))
stopped_at_1 share prices journal old new group refused.Room (body, begins, short) same =
    (stopped_run 1 refused.Room group, no_room body begins short, (refl, subst (λ out. Puts old 0 [] out 0) (sym same) (put_none old 0), refl))
stopped_at_1 share prices journal old new group (refused.Line refusal) never same = absurd never
stopped_at_1 share prices journal old new group (refused.Book refusal) never same = absurd never

pub stops_at_1 : (share : Share) (prices : ℕ → Prices) (journal old new : List ℕ) (group : Group) (fault : RunFault) → BeginsRun journal old (Err fault) new → RunsJournal share prices journal (old, group) (record { written = 0; fault = Some (record fault { line = 1 }) }) (new, group)
stops_at_1 share prices journal old new group fault (why, is, same) =
    subst (λ (f : RunFault). RunsJournal share prices journal (old, group) (record { written = 0; fault = Some f }) (new, group))
    (sym (told_at 1 fault is)) (stopped_at_1 share prices journal old new group fault.refusal why same)

-- a run that is not goes on with the body
pub goes_on_after_1 : (share : Share) (prices : ℕ → Prices) (journal old mid new body : List ℕ) (at : ℕ) (group after : Group) (answer : Outcome) → IsJournal journal body → 4096 ≤ length old → Puts old 0 output_names mid at → length mid ≡ length old → RunsBody share prices body at (mid, group) answer (new, after) → RunsJournal share prices journal (old, group) answer (new, after)
goes_on_after_1 share prices journal old mid new body at group after answer begins room names wide (ran, lines, (fault, put, same)) =
    let left : length mid - at ≡ length old - length output_names = omega (arith, names.stop, wide) in (
      after_text output_names ran,
      runs body ran begins room (subst (λ n. RunsLines share prices n 2 (text_lines body) group ran) left lines),
      (fault, put_more names put (omega arith), same),
    )
