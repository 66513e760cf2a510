-- The output of a run is what the accepted lines write, in order.
use Rattle.std.proofs.Common.{◌≡◌, ◌∙◌, ℕ, suc, ◌+◌, ◌-◌, List, [], ◌∷◌, ◌++◌, drop, length, None, Option, Some, inl, inr, ◌⊎◌, ⊎_elim, Ok, Err, Result, refl, sym, ap, subst, arith}
use Rattle.std.proofs.lemmas.List.{length-append}
use Rattle.std.specs.List.{concat}
use Rattle.balance.proofs.Theorem.{ended_in}
use Rattle.balance.specs.Histories.{Closing, Drawing, Entering, Event, Issuing}
use Rattle.group.proofs.Stepping.{and_then_ok, made_ok}
use Rattle.group.specs.Results.{and_then, result_map}
use Rattle.group.specs.declared.group.Group.{Group}
use Rattle.group.specs.declared.refusal.BookRefusal.{BookRefusal}
use Rattle.journal.specs.Lines.{IsLine, ReadsLine, RefusesLine}
use Rattle.ledger.specs.declared.bill.Bill.{Bill}
use Rattle.journal.specs.declared.line.Line.{Line}
use Rattle.journal.specs.declared.line.Line.TheVariants.{Enter, Issue, Year}
use Rattle.journal.specs.declared.refusal.LineFault.{LineFault}
use Rattle.settlement.specs.Output.{year_line}
use Rattle.group.specs.Drafts.{Stamp, drawing_result, issue_result}
use Rattle.group.specs.Entries.{after_entry}
use Rattle.group.specs.Months.{Prices, Share}
use Rattle.group.specs.Years.{after_year, open_year, year_figures}
use Rattle.settlement.proofs.Beginning.{of_room, too_short}
use Rattle.settlement.proofs.Stepping.{through}
use Rattle.settlement.specs.Accepting.{AcceptsInTurn, a_closing, an_entry, an_issue, none}
use Rattle.settlement.specs.Laws.{IsInOrder, OutputIsInOrder, StopsBehind}
use Rattle.settlement.specs.Runs.{GoesOn, RunsLines, RunResult, after_text, no_journal, no_room, runs, stopped_run}
use Rattle.settlement.specs.Steps.{after_reading, line_result, as_refusal, room_check, room_for}
use Rattle.settlement.specs.Stopping.{BookRefuses, IsReason, StopsAt, by_the_book, no_line, short_of_room}
use Rattle.settlement.specs.Texts.{bills_text, text_lines}
use Rattle.settlement.specs.declared.fault.RunFault.{RunFault}
use Rattle.settlement.specs.declared.fault.RunRefusal.{RunRefusal}
use Rattle.settlement.specs.declared.fault.RunRefusal.TheVariants as refused

-- one accepted line more in front
record More (share : Share) (prices : ℕ → Prices) (lines : List Line) (group after : Group) (output : List ℕ) : Type 0 where
  texts : List (List ℕ)
  calls : List Event
  taken : AcceptsInTurn share prices lines group texts calls after
  writes : output ≡ concat texts

more : (share : Share) (prices : ℕ → Prices) (line : Line) (lines : List Line) (group new after : Group) (text : List ℕ) (texts : List (List ℕ)) (calls : List Event) → line_result share prices line group ≡ Ok (text, new) → AcceptsInTurn share prices lines new texts calls after → More share prices (line ∷ lines) group after (text ++ concat texts)
more share prices (Enter entry) lines group new after text texts calls done rest =
    let (g, enters, pair) = made_ok (λ (h : Group). let nothing : List ℕ = [] in (nothing, h)) (after_entry entry group) (text, new) done in
    let same : g ≡ new = ap (λ (p : List ℕ × Group). p.1) pair in
    let written : [] ≡ text = ap (λ (p : List ℕ × Group). p.0) pair in
    record {
      texts = texts;
      calls = calls ++ Entering entry (Ok tt) ∷ [];
      taken = an_entry entry lines group new after texts calls (enters ∙ ap (λ h. Ok h) same) rest;
      writes = ap (λ t. t ++ concat texts) (sym written);
    }
more share prices Issue lines group new after text texts calls done rest =
    let (drawing, draws, further) = and_then_ok (drawing_result share prices 32 group) (λ (d : Stamp × List Bill). result_map (λ (i : List Bill × Group). (bills_text d.0.month i.0, i.1)) (issue_result share prices d.0 32 group)) (text, new) done in
    let (issue, issues, pair) = made_ok (λ (i : List Bill × Group). (bills_text drawing.0.month i.0, i.1)) (issue_result share prices drawing.0 32 group) (text, new) further in
    let same : issue.1 ≡ new = ap (λ (p : List ℕ × Group). p.1) pair in
    let written : bills_text drawing.0.month issue.0 ≡ text = ap (λ (p : List ℕ × Group). p.0) pair in
    record {
      texts = bills_text drawing.0.month issue.0 ∷ texts;
      calls = calls ++ Issuing drawing.0 32 (Ok issue.0) ∷ Drawing 32 (Ok drawing) ∷ [];
      taken = an_issue drawing issue.0 lines group new after texts calls draws (issues ∙ ap (λ (g : Group). Ok (issue.0, g)) same) rest;
      writes = ap (λ t. t ++ concat texts) (sym written);
    }
more share prices Year lines group new after text texts calls done rest =
    let (december, ends, pair) = made_ok (λ (d : ℕ). (year_line d group.holder (year_figures (prices d) group), after_year prices d group)) (open_year group.phase) (text, new) done in
    let figures = year_figures (prices december) group in
    let same : after_year prices december group ≡ new = ap (λ (p : List ℕ × Group). p.1) pair in
    let written : year_line december group.holder figures ≡ text = ap (λ (p : List ℕ × Group). p.0) pair in
    record {
      texts = year_line december group.holder figures ∷ texts;
      calls = calls ++ Closing (Ok figures) ∷ [];
      taken = a_closing december figures lines group new after texts calls (ended_in group.phase december ends)
          (ap (result_map (λ d. (year_figures (prices d) group, after_year prices d group))) ends ∙ ap (λ (g : Group). Ok (figures, g)) same) rest;
      writes = ap (λ t. t ++ concat texts) (sym written);
    }

-- what makes no value has its refusal from what it is made of
made_err : {A B E : Type 0} (f : A → B) (r : Result A E) (e : E) → result_map f r ≡ Err e → r ≡ Err e
made_err f (Ok a) e is = absurd cc
made_err f (Err other) e is = cc

and_then_err : {A B E : Type 0} (r : Result A E) (step : A → Result B E) (e : E) → and_then r step ≡ Err e → (r ≡ Err e) ⊎ ((a : A) × (r ≡ Ok a) × (step a ≡ Err e))
and_then_err (Ok a) step e is = inr (a, refl, is)
and_then_err (Err other) step e is = inl cc

-- what a line does is refused by a call of the book
book_refusal : (share : Share) (prices : ℕ → Prices) (line : Line) (group : Group) (refusal : BookRefusal) → line_result share prices line group ≡ Err refusal → BookRefuses share prices line group refusal
book_refusal share prices (Enter entry) group refusal is =
    made_err (λ (h : Group). let nothing : List ℕ = [] in (nothing, h)) (after_entry entry group) refusal is
book_refusal share prices Issue group refusal is =
    let told : Stamp × List Bill → List Bill × Group → List ℕ × Group = λ d i. (bills_text d.0.month i.0, i.1) in
    ⊎_elim inl
    (λ found. inr (found.0, found.1, made_err (told found.0) (issue_result share prices found.0.0 32 group) refusal found.2))
    (and_then_err (drawing_result share prices 32 group) (λ (d : Stamp × List Bill). result_map (told d) (issue_result share prices d.0 32 group)) refusal is)
book_refusal share prices Year group refusal is =
    ap (result_map (λ d. (year_figures (prices d) group, after_year prices d group)))
    (made_err (λ (d : ℕ). (year_line d group.holder (year_figures (prices d) group), after_year prices d group)) (open_year group.phase) refusal is)

stops_line : (share : Share) (prices : ℕ → Prices) (room : ℕ) (group : Group) (text : List ℕ) (line : Line) (does : Result (List ℕ × Group) BookRefusal) (refusal : RunRefusal) → IsLine text line → line_result share prices line group ≡ does → and_then (as_refusal refused.Book does) (λ (done : List ℕ × Group). result_map (λ (checked : Unit {0}). done) (room_check room (room_for line))) ≡ Err refusal → StopsAt share prices room group text refusal
stops_line share prices room group text line (Ok (written, new)) refusal read does is =
    let checked = made_err (λ (checked : Unit {0}). (written, new)) (room_check room (room_for line)) refusal is in
    let accepted = more share prices line [] group new new written [] [] does (none new) in
    subst (λ r. StopsAt share prices room group text r) (sym (of_room room (room_for line) refusal checked))
    (short_of_room line accepted.texts accepted.calls new read accepted.taken (too_short room (room_for line) refusal checked))
stops_line share prices room group text line (Err by_book) refusal read does is =
    let known : ◌≡◌ {A = Result (List ℕ × Group) RunRefusal} (Err (refused.Book by_book)) (Err refusal) = is in
    let same : refused.Book by_book ≡ refusal = cc in
    subst (λ r. StopsAt share prices room group text r) same
    (by_the_book line by_book read (book_refusal share prices line group by_book does))

-- what is refused of a reading is refused for one of three reasons
stops_at : (share : Share) (prices : ℕ → Prices) (room : ℕ) (group : Group) (text : List ℕ) (number : ℕ) (reading : Result Line LineFault) (refusal : RunRefusal) → ReadsLine text number reading → after_reading share prices room reading group ≡ Err refusal → StopsAt share prices room group text refusal
stops_at share prices room group text number (Ok line) refusal read is =
    stops_line share prices room group text line (line_result share prices line group) refusal read refl is
stops_at share prices room group text number (Err wrong) refusal read is =
    let known : ◌≡◌ {A = Result (List ℕ × Group) RunRefusal} (Err (refused.Line wrong.refusal)) (Err refusal) = is in
    let same : refused.Line wrong.refusal ≡ refusal = cc in
    subst (λ r. StopsAt share prices room group text r) same (no_line wrong.refusal read.1)

-- the stop is told from the line before on
stop_more : (first accepted all : ℕ) (fault : Option RunFault) → StopsBehind (first + 1) accepted all fault → StopsBehind first (suc accepted) (suc all) fault
stop_more first many all None is = omega (arith, is)
stop_more first many all (Some fault) is = (omega (arith, is.0), omega (arith, is.1))

in_order_more : (share : Share) (prices : ℕ → Prices) (room first : ℕ) (text_line : List ℕ) (rest : List (List ℕ)) (group new : Group) (text : List ℕ) (line : Line) (later : RunResult) → IsLine text_line line → line_result share prices line group ≡ Ok (text, new) → IsInOrder share prices (room - length text) (first + 1) rest new later → IsInOrder share prices room first (text_line ∷ rest) group (after_text text later)
in_order_more share prices room first text_line rest group new text line later read done order =
    let all = more share prices line order.accepted group new later.group text order.texts order.calls done order.taken in
    record {
      accepted = line ∷ order.accepted;
      texts = all.texts;
      calls = all.calls;
      read = (read, order.read);
      taken = all.taken;
      output = ap (λ t. text ++ t) order.output ∙ all.writes;
      stop = stop_more first (length order.accepted) (length rest) later.fault order.stop;
      reason = subst (λ n. IsReason share prices n later.group (drop (length order.accepted) rest) later.fault)
          (omega (arith, length-append text later.text)) order.reason;
    }

none_in_order : (share : Share) (prices : ℕ → Prices) (room first : ℕ) (line : List ℕ) (lines : List (List ℕ)) (group : Group) (refusal : RunRefusal) → StopsAt share prices room group line refusal → IsInOrder share prices room first (line ∷ lines) group (stopped_run first refusal group)
none_in_order share prices room first line lines group refusal why = record {
  accepted = [];
  texts = [];
  calls = [];
  read = tt;
  taken = none group;
  output = refl;
  stop = (omega arith, omega arith);
  reason = (line, lines, refl, subst (λ n. StopsAt share prices n group line refusal) (omega arith) why, refl);
}

goes_in_order : (share : Share) (prices : ℕ → Prices) (room first : ℕ) (text_line : List ℕ) (rest : List (List ℕ)) (reading : Result Line LineFault) (group : Group) (Rest : List ℕ → Group → RunResult → Type 0) (step : Result (List ℕ × Group) RunRefusal) (ran : RunResult) → ReadsLine text_line first reading → after_reading share prices room reading group ≡ step → GoesOn first group step Rest ran → ((text : List ℕ) (new : Group) (later : RunResult) → Rest text new later → IsInOrder share prices (room - length text) (first + 1) rest new later) → IsInOrder share prices room first (text_line ∷ rest) group ran
goes_in_order share prices room first text_line rest reading group Rest (Ok done) ran read is (later, behind, comes) further =
    let line = through share prices room reading group done.1 done.0 is in
    let known = subst (λ (r : Result Line LineFault). ReadsLine text_line first r) line.is read in
    subst (λ (r : RunResult). IsInOrder share prices room first (text_line ∷ rest) group r) (sym comes)
    (in_order_more share prices room first text_line rest group done.1 done.0 line.line later known line.done (further done.0 done.1 later behind))
goes_in_order share prices room first text_line rest reading group Rest (Err refusal) ran read is comes further =
    subst (λ (r : RunResult). IsInOrder share prices room first (text_line ∷ rest) group r) (sym comes)
    (none_in_order share prices room first text_line rest group refusal (stops_at share prices room group text_line first reading refusal read is))

in_order : (share : Share) (prices : ℕ → Prices) (lines : List (List ℕ)) (room first : ℕ) (group : Group) (ran : RunResult) → RunsLines share prices room first lines group ran → IsInOrder share prices room first lines group ran
in_order share prices [] room first group ran is =
    subst (λ (r : RunResult). IsInOrder share prices room first [] group r) (sym is)
    (record { accepted = []; texts = []; calls = []; read = tt; taken = none group; output = refl; stop = refl; reason = refl })
in_order share prices (line ∷ lines) room first group ran (reading, read, goes) =
    goes_in_order share prices room first line lines reading group
    (λ text new later. RunsLines share prices (room - length text) (first + 1) lines new later)
    (after_reading share prices room reading group) ran read refl goes
    (λ text new later. in_order share prices lines (room - length text) (first + 1) new later)

pub output_in_order : OutputIsInOrder
output_in_order share prices journal room group ran (no_journal begins) =
    inl (record { refusal = refused.Journal; reason = begins; fault = refl; text = refl; after = refl })
output_in_order share prices journal room group ran (no_room body begins short) =
    inl (record { refusal = refused.Room; reason = (body, begins, short); fault = refl; text = refl; after = refl })
output_in_order share prices journal room group ran (runs body rest begins long lines) =
    inr (record { body = body; begins = begins; rest = rest; order = in_order share prices (text_lines body) _ _ group rest lines; names = refl })
