-- Runs that stop at a line, and why.
use Rattle.std.proofs.Common.{◌≡◌, ℕ, ◌+◌, ◌<◌, ◌≤◌, ◌++◌, List, [], ◌∷◌, length, get_or, inr, Ok, Err, Result, codes, refl, sym, ap, subst₂, arith, lit≤}
use Rattle.std.proofs.lemmas.List.{length-append}
use Rattle.std.specs.Fmt.{digits}
use Rattle.calendar.specs.Dates.{date_after, date_of_day}
use Rattle.fields.proofs.Lacking.{lacks_by_test}
use Rattle.fields.specs.Cuts.{Lacks}
use Rattle.fields.specs.Rows.{texts_row}
use Rattle.group.specs.declared.group.Group.{Group}
use Rattle.journal.specs.Lines.{IsLine, ReadsLine, RefusesLine}
use Rattle.journal.specs.Rows.{AreFieldsOf}
use Rattle.journal.specs.declared.kind.Kind.TheVariants as kinds
use Rattle.ledger.specs.declared.zone.Flow.TheVariants.{Consumed}
use Rattle.ledger.specs.declared.zone.Zone.TheVariants.{Day}
use Rattle.journal.specs.declared.line.Line.{Line}
use Rattle.journal.specs.declared.line.Line.TheVariants.{Issue}
use Rattle.journal.specs.declared.refusal.LineFault.{LineFault}
use Rattle.journal.specs.declared.refusal.ReadRefusal.TheVariants as reads
use Rattle.group.specs.declared.refusal.BookRefusal.TheVariants.{NoMonth, Place}
use Rattle.journal.specs.Names.{journal_names}
use Rattle.worked_cases.proofs.LeapDays.{read_or_refused}
use Rattle.worked_cases.proofs.Months.{issue_read, reading}
use Rattle.worked_cases.proofs.Running.{Lines, alone, body_alone, line_done, line_refused}
use Rattle.worked_cases.specs.Orders.{LengthHasAnEdge, LineRefusesInOrder, year_end}
use Rattle.worked_cases.specs.Runs.{TellsFault, RunsTo, StopsWith}
use Rattle.settlement.specs.Faults.{fault_at, fault_line}
use Rattle.settlement.specs.Laws.{HasOneOutcome}
use Rattle.settlement.specs.Runs.{IsJournal, no_journal, no_room, stopped_run, after_text, ended_run}
use Rattle.settlement.specs.Steps.{after_line, after_reading}
use Rattle.settlement.specs.Texts.{text_lines}
use Rattle.settlement.specs.declared.fault.RunRefusal.{RunRefusal}
use Rattle.settlement.specs.declared.fault.RunRefusal.TheVariants as refused
use Rattle.sharing.specs.Rules.{proportion}
use Rattle.std.proofs.lemmas.List.Elements.{All-from_recursion}
use Rattle.group.specs.Drafts.{after_month}
use Rattle.group.specs.Months.{bill_of}
use Rattle.two.specs.Two.{prices, group_of_two}

-- ---- what is read

-- a row has a byte for each comma at least
row_long : (text : List ℕ) (texts : List (List ℕ)) → length texts ≤ length (texts_row (text ∷ texts))
row_long text [] = omega arith
row_long text (next ∷ texts) = let rest = row_long next texts in omega (arith, length-append {A = ℕ}, rest)

-- so a line under seven bytes has not seven fields
few_bytes : (bs : List ℕ) → length bs ≤ 6 → RefusesLine bs reads.Fields
few_bytes bs few = λ texts fields. seven_long texts fields
  where
    seven_long : (texts : List (List ℕ)) → AreFieldsOf texts bs → ⊥
    seven_long [] fields = omega (arith, fields.seven)
    seven_long (text ∷ texts) fields =
        let long = row_long text texts in
        let whole = ap length fields.whole in
        omega (arith, length-append {A = ℕ}, few, long, fields.seven, whole)

-- an issue with all fields filled, of which the second is the first wrong one
filled : RefusesLine (codes "ISSUE,0,0,0,0,0,0\n") (reads.Form 2)
filled = (
  codes "ISSUE" ∷ codes "0" ∷ codes "0" ∷ codes "0" ∷ codes "0" ∷ codes "0" ∷ codes "0" ∷ [],
  (
    record {
      seven = refl;
      commaless = All-from_recursion (Lacks 44) (codes "ISSUE" ∷ codes "0" ∷ codes "0" ∷ codes "0" ∷ codes "0" ∷ codes "0" ∷ codes "0" ∷ [])
          (lacks_by_test 44 (codes "ISSUE") refl, (no_comma, (no_comma, (no_comma, (no_comma, (no_comma, (no_comma, tt)))))));
      whole = refl;
    },
    inr (kinds.Issue, (refl, (0, (refl, λ same. let byte : ◌≡◌ {A = ℕ} 48 45 = ap (λ bs. get_or bs 0 0) same in omega (arith, byte))))),
  ),
)
  where
    no_comma : Lacks 44 (codes "0")
    no_comma = lacks_by_test 44 (codes "0") refl

-- a reading of place 2
of_place_2 : IsLine (codes "READ,2,DAY,USE,200,-,2024-01-31\n") (reading 2 Day Consumed 8796 200)
unfolding digits date_of_day date_after
of_place_2 = ((omega arith, omega arith, omega arith), refl)

-- ---- what the run comes to

abbrev names : List ℕ
names = codes "line,month,place,dayb,nightb,dayc,nightc,drams,debt\n"

-- a body of one line that is refused
one_line : HasOneOutcome → (room left : ℕ) (group : Group) (text fault : List ℕ) (answer : Result Line LineFault) (refusal : RunRefusal) → room ≡ left + 52 → 4096 ≤ room → room ≤ 65536 → length text ≤ 100 → text_lines text ≡ text ∷ [] → ReadsLine text 2 answer → after_reading proportion (λ month. prices) left answer group ≡ Err refusal → fault_line (fault_at 2 refusal) ≡ fault → StopsWith room group text fault
one_line one room left group text fault answer refusal is long short few parted read refuses tells =
    body_alone one room group text names fault (stopped_run 2 refusal group) (omega (arith, length-append {A = ℕ}, few)) long
    (subst₂ (λ n lines. Lines n 2 lines group (stopped_run 2 refusal group)) (omega (arith, is)) (sym parted) (line_refused left 2 text [] answer group refusal read refuses))
    (refl, tells)

pub fault_told : HasOneOutcome → TellsFault
unfolding digits
fault_told one = record {
  of_the_book = one_line one 65536 65484 group_of_two (codes "READ,2,DAY,USE,200,-,2024-01-31\n") (codes "FAULT,2,0,BOOK,13\n") (Ok (reading 2 Day Consumed 8796 200)) (refused.Book Place) refl (lit≤ tt) (lit≤ tt) (lit≤ tt) refl of_place_2 refl refl;
  of_a_field = one_line one 65536 65484 group_of_two (codes "READ,0,DAY,GIVE,900,-,2023-02-29\n") (codes "FAULT,2,7,TEXT,26\n") (Err (record { line = 2; refusal = reads.Form 7 })) (refused.Line (reads.Form 7)) refl (lit≤ tt) (lit≤ tt) (lit≤ tt) refl (read_or_refused.no_leap_day_of_2023 2) refl refl;
}

-- without the line of names there is no journal
no_names : (body : List ℕ) → IsJournal (codes "ISSUE\n") body → ⊥
no_names body is = let byte : ◌≡◌ {A = ℕ} 73 107 = ap (λ bs. get_or bs 0 0) is.1 in omega (arith, byte)

-- a run of a body of no entry is the run of an issue
abbrev issued_group : Group
issued_group = after_month proportion (λ month. prices) 288 group_of_two

abbrev bills : List ℕ
bills = codes "BILL,2024-01,0,0,0,0,0,0,0\n" ++ (codes "BILL,2024-01,1,0,0,0,0,0,0\n" ++ [])

issue_done : after_line proportion (λ month. prices) 65484 Issue group_of_two ≡ Ok (bills, issued_group)
unfolding digits bill_of
issue_done = refl

abbrev issue : List ℕ
issue = codes "ISSUE,-,-,-,-,-,-\n"

accepted : HasOneOutcome → RunsTo 65536 group_of_two (journal_names ++ issue) (names ++ bills) []
accepted one =
    body_alone one 65536 group_of_two issue (names ++ bills) [] (after_text bills (ended_run issued_group)) (lit≤ tt) (lit≤ tt)
    (line_done 65484 2 issue bills [] Issue group_of_two issued_group (ended_run issued_group) issue_read issue_done refl)
    (refl, refl)

pub lines_in_order : HasOneOutcome → LineRefusesInOrder
unfolding digits
lines_in_order one = record {
  journal = alone one 4095 year_end (codes "ISSUE\n") [] (codes "FAULT,1,0,TEXT,24\n") (stopped_run 1 refused.Journal year_end) (no_journal no_names) (refl, refl);
  room = alone one 4095 year_end (journal_names ++ codes "ISSUE\n") [] (codes "FAULT,1,0,TEXT,27\n") (stopped_run 1 refused.Room year_end) (no_room (codes "ISSUE\n") (lit≤ tt, refl) (lit≤ tt)) (refl, refl);
  fields = one_line one 4096 4044 year_end (codes "ISSUE\n") (codes "FAULT,2,0,TEXT,25\n") (Err (record { line = 2; refusal = reads.Fields })) (refused.Line reads.Fields) refl (lit≤ tt) (lit≤ tt) (lit≤ tt) refl (refl, few_bytes (codes "ISSUE\n") (lit≤ tt)) refl refl;
  form = one_line one 4096 4044 year_end (codes "ISSUE,0,0,0,0,0,0\n") (codes "FAULT,2,2,TEXT,26\n") (Err (record { line = 2; refusal = reads.Form 2 })) (refused.Line (reads.Form 2)) refl (lit≤ tt) (lit≤ tt) (lit≤ tt) refl (refl, filled) refl refl;
  book = one_line one 4096 4044 year_end issue (codes "FAULT,2,0,BOOK,11\n") (Ok Issue) (refused.Book NoMonth) refl (lit≤ tt) (lit≤ tt) (lit≤ tt) refl issue_read refl refl;
  room_later = one_line one 4096 4044 group_of_two issue (codes "FAULT,2,0,TEXT,27\n") (Ok Issue) refused.Room refl (lit≤ tt) (lit≤ tt) (lit≤ tt) refl issue_read refl refl;
  accepted = accepted one;
}

-- ---- how long a journal may be

-- a text that is too long is no journal
too_long_for_one : (body found : List ℕ) → 65536 < length (journal_names ++ body) → IsJournal (journal_names ++ body) found → ⊥
too_long_for_one body found long is = omega (arith, long, is.0)

too_long : HasOneOutcome → (body : List ℕ) → 65536 < length (journal_names ++ body) → RunsTo 65536 group_of_two (journal_names ++ body) [] (codes "FAULT,1,0,TEXT,24\n")
unfolding digits
too_long one body long = alone one 65536 group_of_two (journal_names ++ body) [] (codes "FAULT,1,0,TEXT,24\n") (stopped_run 1 refused.Journal group_of_two) (no_journal (λ found is. too_long_for_one body found long is)) (refl, refl)

longest : HasOneOutcome → (body : List ℕ) → length (journal_names ++ (10 ∷ body)) ≡ 65536 → StopsWith 65536 group_of_two (10 ∷ body) (codes "FAULT,2,0,TEXT,25\n")
unfolding digits
longest one body long =
    body_alone one 65536 group_of_two (10 ∷ body) names (codes "FAULT,2,0,TEXT,25\n") (stopped_run 2 (refused.Line reads.Fields) group_of_two) (omega (arith, long)) (lit≤ tt)
    (line_refused 65484 2 (10 ∷ []) (text_lines body) (Err (record { line = 2; refusal = reads.Fields })) group_of_two (refused.Line reads.Fields) (refl, few_bytes (10 ∷ []) (lit≤ tt)) refl)
    (refl, refl)

pub length_at_edge : HasOneOutcome → LengthHasAnEdge
length_at_edge one = record { too_long = too_long one; longest = longest one }
