-- Calls on a book with their answers, and which lists of them lead to which group.
use Rattle.std.specs.Prelude.{◌≡◌, ℕ, Bool, List, [], ◌∷◌, Result}
use Rattle.ledger.specs.declared.bill.Bill.{Bill}
use Rattle.ledger.specs.declared.bill.YearEnd.{YearEnd}
use Rattle.ledger.specs.declared.entry.Entry.{Entry}
use Rattle.group.specs.Groups.{blank}
use Rattle.group.specs.Results.{Answers, Follows}
use Rattle.group.specs.declared.group.Group.{Group}
use Rattle.group.specs.declared.member.OpeningRecord.{OpeningRecord}
use Rattle.group.specs.declared.refusal.BookRefusal.{BookRefusal}
use Rattle.group.specs.Books.{after_opening}
use Rattle.group.specs.Drafts.{Stamp, drawing_result, is_current, issue_result}
use Rattle.group.specs.Entries.{after_entry}
use Rattle.group.specs.Months.{Prices, Share}
use Rattle.group.specs.Years.{closing_result}

-- a call with its answer; slices for bills are told by how many places they have, and the answers have the bills that are written
pub data Event : Type 0 where
  Opening : (number start holder : ℕ) → List OpeningRecord → Result (Unit {0}) BookRefusal → Event
  Entering : Entry → Result (Unit {0}) BookRefusal → Event
  Drawing : (places : ℕ) → Result (Stamp × List Bill) BookRefusal → Event
  Checking : Stamp → Bool → Event
  Issuing : Stamp → (places : ℕ) → Result (List Bill) BookRefusal → Event
  Withdrawing : Stamp → Event
  Closing : Result YearEnd BookRefusal → Event

-- a call answers so and makes this of the group
abbrev pub Happens : Share → (ℕ → Prices) → (old : Group) → Event → (new : Group) → Type 0
Happens share prices old (Opening number start holder records answer) new =
    Follows (after_opening number start holder records old) old answer new
Happens share prices old (Entering entry answer) new = Follows (after_entry entry old) old answer new
Happens share prices old (Drawing places answer) new = (drawing_result share prices places old ≡ answer) × (new ≡ old)
Happens share prices old (Checking stamp current) new = (is_current old stamp ≡ current) × (new ≡ old)
Happens share prices old (Issuing stamp places answer) new =
    Answers (issue_result share prices stamp places old) old answer new
Happens share prices old (Withdrawing stamp) new = new ≡ old
Happens share prices old (Closing answer) new = Answers (closing_result prices old) old answer new

-- a history, its latest call first, leads from a blank book to this group
abbrev pub Leads : Share → (ℕ → Prices) → List Event → Group → Type 0
Leads share prices [] group = group ≡ blank
Leads share prices (event ∷ history) group =
    (before : Group) × Leads share prices history before × Happens share prices before event group

-- a history leads to one group alone
abbrev pub LeadsToOneGroup : Type 0
LeadsToOneGroup =
    (share : Share) (prices : ℕ → Prices) (history : List Event) (one other : Group)
    → Leads share prices history one → Leads share prices history other → one ≡ other
