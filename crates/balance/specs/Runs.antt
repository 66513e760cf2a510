-- Whole lists of calls on a blank book: what each answers, and that the balance stands after each.
use Rattle.std.specs.Prelude.{ℕ, List, [], ◌∷◌, Ok, Err, Result}
use Rattle.ledger.specs.declared.entry.Entry.{Entry}
use Rattle.group.specs.Groups.{blank}
use Rattle.group.specs.declared.group.Group.{Group}
use Rattle.group.specs.declared.member.OpeningRecord.{OpeningRecord}
use Rattle.group.specs.declared.refusal.BookRefusal.{BookRefusal}
use Rattle.group.specs.Books.{after_opening}
use Rattle.group.specs.Drafts.{Stamp, drawing_result, is_current, issue_result}
use Rattle.group.specs.Entries.{after_entry}
use Rattle.group.specs.Months.{KeepsSharingLaw, Prices, Share}
use Rattle.group.specs.Years.{closing_result}
use Rattle.balance.specs.Balances.{IsBalancedThroughout}
use Rattle.balance.specs.Histories.{Event, Opening, Entering, Drawing, Checking, Issuing, Withdrawing, Closing}

-- a call; whatever three numbers a draft has, it can be handed in
pub data Call : Type 0 where
  Open : (number start holder : ℕ) → List OpeningRecord → Call
  Enter : Entry → Call
  Draw : (places : ℕ) → Call
  Check : Stamp → Call
  Issue : Stamp → (places : ℕ) → Call
  Withdraw : Stamp → Call
  Close : Call

-- a call with its answer, and the group after it, where a step gives the group or refuses
abbrev pub by_step : (Result (Unit {0}) BookRefusal → Event) → Result Group BookRefusal → (old : Group) → Event × Group
by_step event (Ok new) old = (event (Ok tt), new)
by_step event (Err refusal) old = (event (Err refusal), old)

-- the same where the step gives an answer besides
abbrev pub by_answer : {A : Type 0} → (Result A BookRefusal → Event) → Result (A × Group) BookRefusal → (old : Group) → Event × Group
by_answer event (Ok pair) old = (event (Ok pair.0), pair.1)
by_answer event (Err refusal) old = (event (Err refusal), old)

-- what a call on a group answers, and the group after it
abbrev pub answer_of_call : Share → (ℕ → Prices) → Group → Call → Event × Group
answer_of_call share prices old (Open number start holder records) =
    by_step (Opening number start holder records) (after_opening number start holder records old) old
answer_of_call share prices old (Enter entry) = by_step (Entering entry) (after_entry entry old) old
answer_of_call share prices old (Draw places) = (Drawing places (drawing_result share prices places old), old)
answer_of_call share prices old (Check stamp) = (Checking stamp (is_current old stamp), old)
answer_of_call share prices old (Issue stamp places) =
    by_answer (Issuing stamp places) (issue_result share prices stamp places old) old
answer_of_call share prices old (Withdraw stamp) = (Withdrawing stamp, old)
answer_of_call share prices old Close = by_answer Closing (closing_result prices old) old

-- the history that a list of calls makes, which goes on from another, and the group that it leads to
abbrev pub run_on : Share → (ℕ → Prices) → List Event × Group → List Call → List Event × Group
run_on share prices so_far [] = so_far
run_on share prices so_far (call ∷ calls) =
    let step = answer_of_call share prices so_far.1 call in
    run_on share prices (step.0 ∷ so_far.0, step.1) calls

-- those of a list of calls on a blank book
abbrev pub run : Share → (ℕ → Prices) → List Call → List Event × Group
run share prices calls = run_on share prices ([], blank) calls

-- any list of calls on a blank book, with any rule that keeps the law and any tariff, is balanced throughout
abbrev pub EveryRunBalances : Type 0
EveryRunBalances =
    (share : Share) → KeepsSharingLaw share → (prices : ℕ → Prices) → (calls : List Call)
    → IsBalancedThroughout share prices (run share prices calls).0 (run share prices calls).1
