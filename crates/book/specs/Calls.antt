-- The calls of a book by the phase that they ask for, and the month that each is for.
use Rattle.std.specs.Prelude.{◌≡◌, ℕ, ◌≤◌, if◌then◌else◌, length, Ok, Err, Result}
use Rattle.group.specs.Books.{blank_check}
use Rattle.group.specs.Drafts.{drawing_month}
use Rattle.group.specs.Results.{and_then, result_map}
use Rattle.group.specs.Years.{open_year}
use Rattle.group.specs.declared.group.Group.{Group}
use Rattle.group.specs.declared.group.Phase.TheVariants as phase
use Rattle.group.specs.declared.refusal.BookRefusal.{BookRefusal}
use Rattle.group.specs.declared.refusal.BookRefusal.TheVariants as refused
use Rattle.book.specs.declared.call.Call.{Call}
use Rattle.book.specs.declared.call.Call.TheVariants.{Open, Draw, Issue, Close}

-- the month that a call is for, or why the book is not in a phase for it
abbrev pub month_for : Call → Group → Result ℕ BookRefusal
month_for (Open start) group = result_map (λ done. start) (blank_check group.phase)
month_for (Draw places) group = drawing_month places group
month_for (Issue places current) group =
    and_then (drawing_month places group) (λ month. if current then Ok month else Err refused.Draft)
month_for Close group = open_year group.phase

-- the book is in the phase that a call asks for, with the month that it is for
abbrev pub IsInPhaseFor : Call → Group → (month : ℕ) → Type 0
IsInPhaseFor (Open start) group month = group.phase ≡ phase.Blank
IsInPhaseFor (Draw places) group month =
    (group.phase ≡ phase.Open month) × (length group.members.items ≤ places)
IsInPhaseFor (Issue places current) group month =
    (group.phase ≡ phase.Open month) × (length group.members.items ≤ places)
IsInPhaseFor Close group december = group.phase ≡ phase.YearEnd december
