-- When a draft is current: from its drawing on, while nothing is posted.
use Rattle.std.specs.Prelude.{◌≡◌, ◌≢◌, ◌↔◌, ℕ, true, false, List, [], ◌∷◌, ◌++◌, Ok}
use Rattle.ledger.specs.declared.bill.Bill.{Bill}
use Rattle.ledger.specs.declared.entry.Entry.{Entry}
use Rattle.group.specs.declared.group.Group.{Group}
use Rattle.group.specs.declared.group.Phase.TheVariants.{Open}
use Rattle.group.specs.Drafts.{Stamp, drawing_result, is_current, issue_result}
use Rattle.group.specs.Entries.{after_entry}
use Rattle.group.specs.Months.{Prices, Share}
use Rattle.balance.specs.Histories.{Event, Drawing, Happens, Leads}
use Rattle.balance.specs.Postings.{accepted_call, accepted_calls}

-- a draft that is drawn now is current
abbrev pub DrawnNowIsCurrent : Type 0
DrawnNowIsCurrent =
    (share : Share) (prices : ℕ → Prices) (places : ℕ)
    (group : Group) (stamp : Stamp) (bills : List Bill)
    → drawing_result share prices places group ≡ Ok (stamp, bills) → is_current group stamp ≡ true

-- an accepted entry leaves none current that was so
abbrev pub EntriesEndDrafts : Type 0
EntriesEndDrafts =
    (entry : Entry) (old new : Group) (stamp : Stamp)
    → after_entry entry old ≡ Ok new → is_current old stamp ≡ true → is_current new stamp ≡ false

-- nor does an accepted issue, of whatever draft
abbrev pub IssuesEndDrafts : Type 0
IssuesEndDrafts =
    (share : Share) (prices : ℕ → Prices) (issue : Stamp) (places : ℕ)
    (old new : Group) (bills : List Bill) (stamp : Stamp)
    → issue_result share prices issue places old ≡ Ok (bills, new)
    → is_current old stamp ≡ true → is_current new stamp ≡ false

-- in another phase than an open month none is current
abbrev pub NoneIsCurrentOutOfAMonth : Type 0
NoneIsCurrentOutOfAMonth =
    (group : Group) (stamp : Stamp)
    → ((month : ℕ) → group.phase ≢ Open month) → is_current group stamp ≡ false

-- none is that has the number of another group
abbrev pub NoneOfAnotherGroupIsCurrent : Type 0
NoneOfAnotherGroupIsCurrent =
    (group : Group) (stamp : Stamp) → stamp.number ≢ group.number → is_current group stamp ≡ false

-- a call that posts nothing, as a refused one, leaves a draft as current as it was
abbrev pub QuietCallsLeaveDrafts : Type 0
QuietCallsLeaveDrafts =
    (share : Share) (prices : ℕ → Prices)
    (old : Group) (event : Event) (new : Group) (stamp : Stamp)
    → Happens share prices old event new → accepted_call event ≡ []
    → is_current new stamp ≡ is_current old stamp

-- when a draft is current, by the call that is made
pub record DraftsStayByCall : Type 0 where
  pub drawn_now : DrawnNowIsCurrent
  pub by_entry : EntriesEndDrafts
  pub by_issue : IssuesEndDrafts
  pub out_of_a_month : NoneIsCurrentOutOfAMonth
  pub of_another_group : NoneOfAnotherGroupIsCurrent
  pub by_quiet_call : QuietCallsLeaveDrafts

-- and over whole histories: a draft is current just where the history posts nothing after its drawing
abbrev pub DraftsStayByHistory : Type 0
DraftsStayByHistory =
    (share : Share) (prices : ℕ → Prices) (earlier later : List Event)
    (places : ℕ) (stamp : Stamp) (bills : List Bill) (group : Group)
    → Leads share prices (later ++ Drawing places (Ok (stamp, bills)) ∷ earlier) group
    → (is_current group stamp ≡ true) ↔ (accepted_calls later ≡ [])
