-- A draft, when it is current, and what drawing and issuing make of a group.
use Rattle.std.specs.Prelude.{ℕ, ◌+◌, ◌%◌, Bool, false, not, ◌&&◌, if◌then◌else◌, List, ◌++◌, length, drop, ◌==◌, nat_lt, Ok, Err, Result}
use Rattle.ledger.specs.declared.bill.Bill.{Bill}
use Rattle.group.specs.Results.{and_then, result_map}
use Rattle.group.specs.declared.group.Group.{Group}
use Rattle.group.specs.declared.group.Phase.{Phase}
use Rattle.group.specs.declared.group.Phase.TheVariants.{Blank, Open, YearEnd, Over}
use Rattle.group.specs.declared.refusal.BookRefusal.{BookRefusal}
use Rattle.group.specs.declared.refusal.BookRefusal.TheVariants as refused
use Rattle.group.specs.Entries.{open_month}
use Rattle.group.specs.Months.{Prices, Share, billed_members, carried_in, each_zone, bills_of}

-- the three numbers of a draft: those of the group and the month that it was drawn of, and how many entries the month had
pub record Stamp : Type 0 where
  pub number : ℕ
  pub month : ℕ
  pub entries : ℕ

-- a draft of the group as it stands in a month
abbrev pub stamp_of : (month : ℕ) → Group → Stamp
stamp_of month group = record { number = group.number; month = month; entries = group.entries }

-- the three numbers are those of a draft of the group in a month
abbrev pub is_of : (month : ℕ) → Group → Stamp → Bool
is_of month group stamp =
    stamp.number == group.number && (stamp.month == month && stamp.entries == group.entries)

-- the three numbers are those of a draft of now
abbrev agrees : Phase → Group → Stamp → Bool
agrees Blank group stamp = false
agrees (Open month) group stamp = is_of month group stamp
agrees (YearEnd december) group stamp = false
agrees Over group stamp = false

-- whether a draft is current, which none is but in an open month
abbrev pub is_current : Group → Stamp → Bool
is_current group stamp = agrees group.phase group stamp

-- something was posted since the draft, or it is of elsewhere
abbrev pub draft_is_out_of_date : Group → Stamp → Bool
draft_is_out_of_date group stamp = not (is_current group stamp)

-- a slice of so many places is shorter than the group
abbrev pub slice_is_too_short : (places : ℕ) → Group → Bool
slice_is_too_short places group = nat_lt places (length group.members.items)

-- the month that is open, where a slice of so many places has room for the bills of the group
abbrev pub drawing_month : (places : ℕ) → Group → Result ℕ BookRefusal
drawing_month places group =
    and_then (open_month group.phase) (λ month.
    if slice_is_too_short places group then Err refused.Bills else Ok month)

-- a draft, and the bills of a drawing
abbrev pub drawing_result : Share → (ℕ → Prices) → (places : ℕ) → Group → Result (Stamp × List Bill) BookRefusal
drawing_result share prices places group =
    result_map (λ month. (stamp_of month group, bills_of share (prices month) group)) (drawing_month places group)

-- the phase after a month is issued: after December the year end follows, else the next month opens
abbrev pub next_phase : (month : ℕ) → Phase
next_phase month = if month % 12 == 11 then YearEnd month else Open (month + 1)

-- the group after a month is issued
abbrev pub after_month : Share → (ℕ → Prices) → (month : ℕ) → Group → Group
after_month share prices month group = record group {
  members = record { items = billed_members share (prices month) group };
  carried = each_zone (λ zone. carried_in share zone group);
  phase = next_phase month;
  entries = 0;
}

-- the bills of an issue, and the group after it
abbrev pub issue_result : Share → (ℕ → Prices) → Stamp → (places : ℕ) → Group → Result (List Bill × Group) BookRefusal
issue_result share prices stamp places group =
    and_then (drawing_month places group) (λ month.
    if is_current group stamp
    then Ok (bills_of share (prices month) group, after_month share prices month group)
    else Err refused.Draft)

-- a slice after bills are written over its front
abbrev pub overwritten_front : List Bill → List Bill → List Bill
overwritten_front bills slice = bills ++ drop (length bills) slice

-- a draft, and the slice after a drawing
abbrev pub after_drawing : Share → (ℕ → Prices) → Group → List Bill → Result (Stamp × List Bill) BookRefusal
after_drawing share prices group slice =
    result_map (λ drawing. (drawing.0, overwritten_front drawing.1 slice)) (drawing_result share prices (length slice) group)

-- the group and the slice after an issue
abbrev pub after_issue : Share → (ℕ → Prices) → Stamp → Group × List Bill → Result (Group × List Bill) BookRefusal
after_issue share prices stamp (group, slice) =
    result_map (λ issue. (issue.1, overwritten_front issue.0 slice)) (issue_result share prices stamp (length slice) group)
