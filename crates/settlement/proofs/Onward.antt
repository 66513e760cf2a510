-- A run and then more lines.
use Rattle.std.proofs.Common.{Bool, if◌then◌else◌, get_or, ◌≡◌, ◌∙◌, ℕ, suc, ◌+◌, ◌-◌, List, [], ◌∷◌, ◌++◌, length, drop, None, Option, Some, Ok, Err, Result, append_assoc, ⊎_elim, refl, sym, ap, subst, arith}
use Rattle.std.proofs.lemmas.Bool.Decides.{eqb_tells}
use Rattle.std.proofs.lemmas.List.{length-append}
use Rattle.std.proofs.lemmas.List.Elements.{All-cons, All-head, All-nil, All-tail}
use Rattle.std.specs.List.{All}
use Rattle.group.specs.declared.group.Group.{Group}
use Rattle.fields.specs.Rows.{texts_row}
use Rattle.journal.specs.Lines.{IsLine, kind_of, others}
use Rattle.journal.specs.Words.{kind_word}
use Rattle.journal.specs.Names.{journal_names}
use Rattle.journal.specs.declared.line.Line.{Line}
use Rattle.settlement.specs.Output.{output_names}
use Rattle.group.specs.Months.{Prices, Share}
use Rattle.settlement.specs.Laws.{JournalsGoOn, RunsGoOn, RunsStop}
use Rattle.settlement.specs.Faults.{fault_at}
use Rattle.settlement.specs.Runs.{GoesOn, RunsLines, RunResult, after_text, no_journal, no_room, runs}
use Rattle.settlement.specs.Steps.{after_reading}
use Rattle.settlement.specs.Texts.{text_lines, onto_first}
use Rattle.settlement.specs.declared.fault.RunFault.{RunFault}
use Rattle.settlement.specs.declared.fault.RunRefusal.{RunRefusal}
use Rattle.settlement.specs.declared.fault.RunRefusal.TheVariants as refused

-- what is run goes on behind its text, where what is behind it does
further : (number : ℕ) (group : Group) (step : Result (List ℕ × Group) RunRefusal) (Rest Longer : List ℕ → Group → RunResult → Type 0) (ran later : RunResult) → GoesOn number group step Rest ran → ran.fault ≡ None → ((text : List ℕ) (new : Group) (first : RunResult) → ran ≡ after_text text first → Rest text new first → Longer text new (after_text first.text later)) → GoesOn number group step Longer (after_text ran.text later)
further number group (Ok done) Rest Longer ran later (first, rest, comes) ends on = (
  after_text first.text later,
  on done.0 done.1 first comes rest,
  ap (λ (r : RunResult). after_text r.text later) comes
      ∙ ap (λ t. let whole : RunResult = record later { text = t } in whole) (append_assoc done.0 first.text later.text),
)
further number group (Err refusal) Rest Longer ran later stops ends on =
    let never : ◌≡◌ {A = Option RunFault} (Some (fault_at number refusal)) None = ap (λ (r : RunResult). r.fault) (sym stops) ∙ ends in
    absurd cc

go_on : (share : Share) (prices : ℕ → Prices) (lines more : List (List ℕ)) (room first : ℕ) (group : Group) (ran later : RunResult) → RunsLines share prices room first lines group ran → ran.fault ≡ None → RunsLines share prices (room - length ran.text) (first + length lines) more ran.group later → RunsLines share prices room first (lines ++ more) group (after_text ran.text later)
go_on share prices [] more room first group ran later is ends on =
    let there = subst (λ (r : RunResult). RunsLines share prices (room - length r.text) (first + 0) more r.group later) is on in
    let here : RunsLines share prices room first more group later = subst (λ n. RunsLines share prices n first more group later) (omega arith) (subst (λ n. RunsLines share prices (room - 0) n more group later) (omega arith) there) in
    subst (λ (r : RunResult). RunsLines share prices room first more group (after_text r.text later)) (sym is) here
go_on share prices (line ∷ lines) more room first group ran later (reading, read, goes) ends on = (
  reading,
  read,
  further first group (after_reading share prices room reading group)
      (λ text new rest. RunsLines share prices (room - length text) (first + 1) lines new rest)
      (λ text new rest. RunsLines share prices (room - length text) (first + 1) (lines ++ more) new rest) ran later goes ends
      (λ text new rest comes run_rest.
      let ends_too : rest.fault ≡ None = sym (ap (λ (r : RunResult). r.fault) comes) ∙ ends in
      let left : room - length ran.text ≡ (room - length text) - length rest.text = omega (arith, ap (λ (r : RunResult). length r.text) comes, length-append text rest.text) in
      let there = subst (λ (r : RunResult). RunsLines share prices (room - length ran.text) (first + suc (length lines)) more r.group later) comes on in
      let counted = subst (λ n. RunsLines share prices (room - length ran.text) n more rest.group later) (omega arith) there in
      go_on share prices lines more (room - length text) (first + 1) new rest later run_rest ends_too
      (subst (λ n. RunsLines share prices n (first + 1 + length lines) more rest.group later) left counted)),
)

pub runs_go_on : RunsGoOn
runs_go_on share prices room first lines more group ran later is ends on = go_on share prices lines more room first group ran later is ends on

-- what stopped stays stopped
stays : (number : ℕ) (group : Group) (step : Result (List ℕ × Group) RunRefusal) (Rest Longer : List ℕ → Group → RunResult → Type 0) (ran : RunResult) → GoesOn number group step Rest ran → ((text : List ℕ) (new : Group) (first : RunResult) → ran ≡ after_text text first → Rest text new first → Longer text new first) → GoesOn number group step Longer ran
stays number group (Ok done) Rest Longer ran (first, rest, comes) on = (first, on done.0 done.1 first comes rest, comes)
stays number group (Err refusal) Rest Longer ran stops on = stops

stop : (share : Share) (prices : ℕ → Prices) (lines more : List (List ℕ)) (room first : ℕ) (group : Group) (ran : RunResult) (fault : RunFault) → RunsLines share prices room first lines group ran → ran.fault ≡ Some fault → RunsLines share prices room first (lines ++ more) group ran
stop share prices [] more room first group ran fault is stops =
    let never : ◌≡◌ {A = Option RunFault} None (Some fault) = sym (ap (λ (r : RunResult). r.fault) is) ∙ stops in
    absurd cc
stop share prices (line ∷ lines) more room first group ran fault (reading, read, goes) stops = (
  reading,
  read,
  stays first group (after_reading share prices room reading group)
      (λ text new rest. RunsLines share prices (room - length text) (first + 1) lines new rest)
      (λ text new rest. RunsLines share prices (room - length text) (first + 1) (lines ++ more) new rest) ran goes
      (λ text new rest comes run_rest. stop share prices lines more (room - length text) (first + 1) new rest fault run_rest (sym (ap (λ (r : RunResult). r.fault) comes) ∙ stops)),
)

pub runs_stop : RunsStop
runs_stop share prices room first lines more group ran fault is stops = stop share prices lines more room first group ran fault is stops

-- the line has its line feed
abbrev Whole : List ℕ → Type 0
Whole line = (front : List ℕ) × (line ≡ front ++ 10 ∷ [])

-- a line that is read has its line feed
read_whole : (bs : List ℕ) (line : Line) → IsLine bs line → Whole bs
read_whole bs line (writable, is) = (texts_row (kind_word (kind_of line) ∷ others line), is)

-- a step that is gone through goes on
went_on : (number : ℕ) (group : Group) (step : Result (List ℕ × Group) RunRefusal) (Rest : List ℕ → Group → RunResult → Type 0) (ran : RunResult) (X : Type 0) → GoesOn number group step Rest ran → ran.fault ≡ None → ((text : List ℕ) (new : Group) (first : RunResult) → ran ≡ after_text text first → Rest text new first → X) → X
went_on number group (Ok done) Rest ran X (first, rest, comes) ends on = on done.0 done.1 first comes rest
went_on number group (Err refusal) Rest ran X stops ends on =
    let never : ◌≡◌ {A = Option RunFault} (Some (fault_at number refusal)) None = ap (λ (r : RunResult). r.fault) (sym stops) ∙ ends in
    absurd cc

-- lines that are run to their end have their line feeds
gone_through : (share : Share) (prices : ℕ → Prices) (lines : List (List ℕ)) (room first : ℕ) (group : Group) (ran : RunResult) → RunsLines share prices room first lines group ran → ran.fault ≡ None → All Whole lines
gone_through share prices [] room first group ran is ends = All-nil Whole
gone_through share prices (bs ∷ lines) room first group ran (Ok line, read, goes) ends =
    All-cons Whole bs lines (read_whole bs line read)
    (went_on first group (after_reading share prices room (Ok line) group)
    (λ text new rest. RunsLines share prices (room - length text) (first + 1) lines new rest) ran (All Whole lines) goes ends
    (λ text new rest comes run_rest.
    gone_through share prices lines (room - length text) (first + 1) new rest run_rest (sym (ap (λ (r : RunResult). r.fault) comes) ∙ ends)))
gone_through share prices (bs ∷ lines) room first group ran (Err fault, read, stops) ends =
    let never : ◌≡◌ {A = Option RunFault} (Some (fault_at first (refused.Line fault.refusal))) None = ap (λ (r : RunResult). r.fault) (sym stops) ∙ ends in
    absurd cc

-- the front of a line that has its line feed is no line feed, so what follows it has it
whole_behind : (byte : ℕ) (line : List ℕ) → (byte ≡ 10 → ⊥) → Whole (byte ∷ line) → Whole line
whole_behind byte line other ([], is) = absurd (other (ap (λ l. get_or l 0 0) is))
whole_behind byte line other (first ∷ front, is) = (front, ap (drop 1) is)

no_whole : Whole [] → ⊥
no_whole (front, is) = absurd (omega (arith, ap length is, length-append front (10 ∷ [])))

-- a byte before lines of which each has its line feed, and before more lines
onto_more : (byte : ℕ) (lines more both : List (List ℕ)) → (byte ≡ 10 → ⊥) → All Whole (onto_first byte lines) → (All Whole lines → both ≡ lines ++ more) → onto_first byte both ≡ onto_first byte lines ++ more
onto_more byte [] more both other whole on = absurd (no_whole (whole_behind byte [] other (All-head Whole (byte ∷ []) [] whole)))
onto_more byte (line ∷ lines) more both other whole on = ap (onto_first byte) (on (All-cons Whole line lines (whole_behind byte line other (All-head Whole (byte ∷ line) lines whole)) (All-tail Whole (byte ∷ line) lines whole)))

-- lines that have their line feeds and the lines of a text behind them are the lines of both
lines_more : (text more : List ℕ) → All Whole (text_lines text) → text_lines (text ++ more) ≡ text_lines text ++ text_lines more
lines_more [] more whole = refl
lines_more (byte ∷ text) more whole =
    let either = λ (test : Bool). if test then (byte ∷ []) ∷ text_lines text else onto_first byte (text_lines text) in
    ⊎_elim
    (λ yes. rw yes.0 (ap (λ ls. (byte ∷ []) ∷ ls) (lines_more text more (All-tail Whole (byte ∷ []) (text_lines text) (subst (λ test. All Whole (either test)) yes.0 whole)))))
    (λ no. rw no.0 (onto_more byte (text_lines text) (text_lines more) (text_lines (text ++ more)) no.1 (subst (λ test. All Whole (either test)) no.0 whole) (lines_more text more)))
    (eqb_tells byte 10)

pub journals_go_on : JournalsGoOn
journals_go_on share prices room journal more group ran later short (no_journal none) ends on =
    let never : ran.fault ≡ None = ends in
    absurd cc
journals_go_on share prices room journal more group ran later short (no_room body begins small) ends on =
    let never : ran.fault ≡ None = ends in
    absurd cc
journals_go_on share prices room journal more group ran later short (runs body first begins long lines) ends on =
    let left : room - length (output_names ++ first.text) ≡ (room - length output_names) - length first.text = omega (arith, length-append output_names first.text) in
    let counted : length (text_lines journal) + 1 ≡ 2 + length (text_lines body) = omega (arith, ap (λ j. length (text_lines j)) begins.1) in
    let from_there = subst (λ n. RunsLines share prices n (length (text_lines journal) + 1) (text_lines more) first.group later) left on in
    let numbered = subst (λ n. RunsLines share prices ((room - length output_names) - length first.text) n (text_lines more) first.group later) counted from_there in
    let both = go_on share prices (text_lines body) (text_lines more) (room - length output_names) 2 group first later lines ends numbered in
    let body_lines = sym (lines_more body more (gone_through share prices (text_lines body) (room - length output_names) 2 group first lines ends)) in
    runs (body ++ more) (after_text first.text later) (short, ap (λ j. j ++ more) begins.1 ∙ append_assoc journal_names body more) long
    (subst (λ ls. RunsLines share prices (room - length output_names) 2 ls group (after_text first.text later)) body_lines both)
