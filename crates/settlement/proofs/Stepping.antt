-- What the steps of a run come to, by what the calls of the book answer.
use Rattle.std.proofs.Common.{◌≡◌, ◌∙◌, ℕ, ◌+◌, List, [], length, take, Ok, Err, Result, nat_lt, false, refl, sym, ap, ap₂, arith}
use Rattle.std.proofs.lemmas.Bool.Decides.{nat_tests}
use Rattle.std.proofs.lemmas.Grind.{common_steps}
use Rattle.balance.proofs.Theorem.{issued_is}
use Rattle.cells.proofs.Overwriting.{put_as}
use Rattle.cells.specs.Cells.{Puts, overwritten_text as put_in}
use Rattle.group.proofs.Stepping.{and_then_ok, made_ok}
use Rattle.group.specs.Results.{and_then, result_map}
use Rattle.group.specs.declared.group.Group.{Group}
use Rattle.group.specs.declared.group.Phase.TheVariants.{YearEnd as AtYearEnd}
use Rattle.group.specs.declared.refusal.BookRefusal.{BookRefusal}
use Rattle.ledger.specs.declared.bill.Bill.{Bill}
use Rattle.ledger.specs.declared.bill.YearEnd.{YearEnd}
use Rattle.ledger.specs.declared.entry.Entry.{Entry}
use Rattle.journal.specs.declared.line.Line.{Line}
use Rattle.journal.specs.declared.line.Line.TheVariants.{Enter, Issue, Year}
use Rattle.journal.specs.declared.refusal.LineFault.{LineFault}
use Rattle.settlement.specs.Output.{year_line}
use Rattle.group.proofs.Lists.{length-by_place}
use Rattle.group.specs.Drafts.{Stamp, after_drawing, after_issue, drawing_result, issue_result, overwritten_front}
use Rattle.group.specs.Entries.{after_entry}
use Rattle.group.specs.Months.{Prices, Share, bill_of, supplies_at}
use Rattle.group.specs.Years.{after_year, closing_result, open_year, year_figures}
use Rattle.settlement.proofs.Billing.{put_none}
use Rattle.settlement.specs.Steps.{after_line, after_reading, line_result, output_room, as_refusal, room_check, room_for}
use Rattle.settlement.specs.Texts.{bills_text}
use Rattle.settlement.specs.declared.fault.RunRefusal.{RunRefusal}
use Rattle.settlement.specs.declared.fault.RunRefusal.TheVariants as refused

never_below : (room : ℕ) → nat_lt room 0 ≡ false
never_below room = grind (arith, nat_tests)

pub entered : (share : Share) (prices : ℕ → Prices) (room : ℕ) (entry : Entry) (group new : Group) (out : List ℕ) (at : ℕ) → after_entry entry group ≡ Ok new → (text : List ℕ) × (after_line share prices room (Enter entry) group ≡ Ok (text, new)) × Puts out at text out at
entered share prices room entry group new out at is =
    ([], rw is (rw (never_below room) refl), put_none out at)

-- a line that the book accepts and that has the room goes through
pub goes_through : (share : Share) (prices : ℕ → Prices) (room : ℕ) (line : Line) (group new : Group) (text : List ℕ) → line_result share prices line group ≡ Ok (text, new) → room_check room (room_for line) ≡ Ok tt → after_line share prices room line group ≡ Ok (text, new)
goes_through share prices room line group new text done checked =
    ap₂ (λ (d : Result (List ℕ × Group) BookRefusal) (r : Result (Unit {0}) RunRefusal). and_then (as_refusal refused.Book d) (λ accepted. result_map (λ has. accepted) r)) done checked

-- a year that is closed in a December
year_is : (share : Share) (prices : ℕ → Prices) (group new : Group) (figures : YearEnd) (december : ℕ) → closing_result prices group ≡ Ok (figures, new) → group.phase ≡ AtYearEnd december → line_result share prices Year group ≡ Ok (year_line december group.holder figures, new)
year_is share prices group new figures december closes ended =
    let ended_at : open_year group.phase ≡ Ok december = ap open_year ended in
    let whole = sym (ap (result_map (λ d. (year_figures (prices d) group, after_year prices d group))) ended_at) ∙ closes in
    let pair : ◌≡◌ {A = YearEnd × Group} (year_figures (prices december) group, after_year prices december group) (figures, new) = cc in
    ap (result_map (λ d. (year_line d group.holder (year_figures (prices d) group), after_year prices d group))) ended_at
    ∙ ap (λ (p : YearEnd × Group). Ok (year_line december group.holder p.0, p.1)) pair

pub year_written : (share : Share) (prices : ℕ → Prices) (room : ℕ) (group new : Group) (figures : YearEnd) (december place : ℕ) (old : List ℕ) (at : ℕ) (out : List ℕ) (end : ℕ) → closing_result prices group ≡ Ok (figures, new) → group.phase ≡ AtYearEnd december → place ≡ group.holder → room_check room output_room ≡ Ok tt → end ≡ at + length (year_line december place figures) → out ≡ put_in old at (year_line december place figures) → (text : List ℕ) × (after_line share prices room Year group ≡ Ok (text, new)) × Puts old at text out end
year_written share prices room group new figures december place old at out end closes ended at_place checked stop held =
    let done = year_is share prices group new figures december closes ended ∙ ap (λ p. Ok (year_line december p figures, new)) (sym at_place) in
    (_, goes_through share prices room Year group new _ done checked, record { stop = stop; held = held })

-- an issue of a drawing made now
issue_is : (share : Share) (prices : ℕ → Prices) (group new : Group) (drawing : Stamp × List Bill) (draft : Stamp) (lines : List Bill) → drawing_result share prices 32 group ≡ Ok drawing → drawing.0 ≡ draft → issue_result share prices draft 32 group ≡ Ok (lines, new) → line_result share prices Issue group ≡ Ok (bills_text draft.month lines, new)
issue_is share prices group new drawing draft lines draws is issues =
    let told : Stamp → List Bill × Group → List ℕ × Group = λ stamp issue. (bills_text stamp.month issue.0, issue.1) in
    ap (λ d. and_then d (λ (p : Stamp × List Bill). result_map (told p.0) (issue_result share prices p.0 32 group))) draws
    ∙ (ap (λ (s : Stamp). result_map (told s) (issue_result share prices s 32 group)) is
    ∙ ap (result_map (told draft)) issues)

-- the lines of the issue are at the front of the slice
at_front : (lines slice new : List Bill) (members : ℕ) → overwritten_front lines slice ≡ new → length lines ≡ members → take members new ≡ lines
at_front lines slice new members is many = grind (arith, common_steps)

pub issue_written : (share : Share) (prices : ℕ → Prices) (room : ℕ) (group new : Group) (draft : Stamp) (month members : ℕ) (blank mid lines : List Bill) (old : List ℕ) (at : ℕ) (out : List ℕ) (end : ℕ) → after_drawing share prices group blank ≡ Ok (draft, mid) → after_issue share prices draft (group, mid) ≡ Ok (new, lines) → length blank ≡ 32 → length mid ≡ 32 → month ≡ draft.month → members ≡ length group.members.items → room_check room output_room ≡ Ok tt → end ≡ at + length (bills_text month (take members lines)) → out ≡ put_in old at (bills_text month (take members lines)) → (text : List ℕ) × (after_line share prices room Issue group ≡ Ok (text, new)) × Puts old at text out end
issue_written share prices room group new draft month members blank mid lines old at out end draws issues wide wide_too in_month as_many checked stop held =
    let (drawing, drawn_is, drawn_pair) = made_ok (λ (d : Stamp × List Bill). (d.0, overwritten_front d.1 blank)) (drawing_result share prices (length blank) group) (draft, mid) draws in
    let (issue, issued_so, issue_pair) = made_ok (λ (i : List Bill × Group). (i.1, overwritten_front i.0 mid)) (issue_result share prices draft (length mid) group) (new, lines) issues in
    let same_draft : drawing.0 ≡ draft = ap (λ (p : Stamp × List Bill). p.0) drawn_pair in
    let same_group : issue.1 ≡ new = ap (λ (p : Group × List Bill). p.0) issue_pair in
    let same_lines : overwritten_front issue.0 mid ≡ lines = ap (λ (p : Group × List Bill). p.1) issue_pair in
    let of_32 : issue_result share prices draft 32 group ≡ Ok (issue.0, new) = ap (λ n. issue_result share prices draft n group) (sym wide_too) ∙ (issued_so ∙ ap (λ (g : Group). Ok (issue.0, g)) same_group) in
    let done = issue_is share prices group new drawing draft issue.0 (ap (λ n. drawing_result share prices n group) (sym wide) ∙ drawn_is) same_draft of_32 in
    let (m, opened, writes, becomes) = issued_is share prices draft 32 group new issue.0 of_32 in
    let many : length issue.0 ≡ members = ap length (sym writes) ∙ (length-by_place (λ place member. bill_of (prices m) member (supplies_at share group place)) 0 group.members.items ∙ sym as_many) in
    let text : bills_text month (take members lines) ≡ bills_text draft.month issue.0 = ap₂ bills_text in_month (at_front issue.0 mid lines members same_lines many) in
    (_, goes_through share prices room Issue group new _ done checked, put_as text (record { stop = stop; held = held }))

accepted : {A E : Type 0} (refusal_of : E → RunRefusal) (r : Result A E) (x : A) → as_refusal refusal_of r ≡ Ok x → r ≡ Ok x
accepted refusal_of (Ok y) x is = cc
accepted refusal_of (Err e) x is = absurd cc

-- a line that goes through was read, and the book accepted it
pub record Through (share : Share) (prices : ℕ → Prices) (reading : Result Line LineFault) (group new : Group) (text : List ℕ) : Type 0 where
  pub line : Line
  pub is : reading ≡ Ok line
  pub done : line_result share prices line group ≡ Ok (text, new)

pub through : (share : Share) (prices : ℕ → Prices) (room : ℕ) (reading : Result Line LineFault) (group new : Group) (text : List ℕ) → after_reading share prices room reading group ≡ Ok (text, new) → Through share prices reading group new text
through share prices room reading group new text is =
    let (line, read, does) = and_then_ok (as_refusal (λ (fault : LineFault). refused.Line fault.refusal) reading) (λ (l : Line). after_line share prices room l group) (text, new) is in
    let (done, accepts, checked) = and_then_ok (as_refusal refused.Book (line_result share prices line group)) (λ (d : List ℕ × Group). result_map (λ has. d) (room_check room (room_for line))) (text, new) does in
    let (has, fits, same) = made_ok (λ (h : Unit {0}). done) (room_check room (room_for line)) (text, new) checked in
    record {
      line = line;
      is = accepted (λ (fault : LineFault). refused.Line fault.refusal) reading line read;
      done = accepted refused.Book (line_result share prices line group) done accepts ∙ ap (λ (d : List ℕ × Group). Ok d) same;
    }
