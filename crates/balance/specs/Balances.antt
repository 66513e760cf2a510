-- The balance: no kWh and no hundredth of a dram is lost or invented, and no issue both bills and carries in a zone.
use Rattle.std.specs.Prelude.{◌≡◌, ℕ, List, [], ◌∷◌, length, take, Result, ◌⊎◌, ℤ, pos, ◌+ℤ◌, ◌-ℤ◌, Ok, Err}
use Rattle.billing.specs.Accounts.{worth}
use Rattle.ledger.specs.Zones.{in_zone}
use Rattle.ledger.specs.declared.bill.Bill.{Bill}
use Rattle.ledger.specs.declared.zone.Flow.TheVariants.{Consumed, Delivered}
use Rattle.ledger.specs.declared.zone.Zone.{Zone}
use Rattle.group.specs.Groups.{blank, member_at}
use Rattle.group.specs.declared.group.Group.{Group}
use Rattle.group.specs.declared.member.Member.{Member}
use Rattle.group.specs.declared.refusal.BookRefusal.{BookRefusal}
use Rattle.group.specs.Books.{BookState}
use Rattle.group.specs.Drafts.{Stamp}
use Rattle.group.specs.Months.{Prices, Share}
use Rattle.balance.specs.Histories.{Happens, Event, Leads, Issuing}
use Rattle.balance.specs.Postings.{AcceptedCall, billed_kwh, kwh_billed_by, entered_kwh, open_kwh, amount_owed, kwh_paid, accepted_calls}

-- the net delivery of entries: what is delivered less what is consumed
abbrev net_delivery : Zone → List AcceptedCall → ℤ
net_delivery zone posts = entered_kwh zone Delivered posts -ℤ entered_kwh zone Consumed posts

-- that of the entries since the last issue
abbrev open_net_delivery : Zone → List AcceptedCall → ℤ
open_net_delivery zone posts = open_kwh zone Delivered posts -ℤ open_kwh zone Consumed posts

-- no kWh is lost or invented: what was delivered less what was consumed is what is carried and was paid at year ends,
-- less what was billed, and the open month's net delivery
abbrev pub EnergyBalances : Zone → List AcceptedCall → Group → Type 0
EnergyBalances zone posts group =
    net_delivery zone posts
    ≡ ((pos (in_zone group.carried zone) +ℤ pos (kwh_paid zone posts)) -ℤ pos (billed_kwh zone posts))
    +ℤ open_net_delivery zone posts

-- no hundredth of a dram is lost or invented: 100 × debt + fraction is what was charged, less what was paid and credited
abbrev pub MoneyBalances : (ℕ → Prices) → (place : ℕ) → List AcceptedCall → Group → Type 0
MoneyBalances prices place posts group =
    (member : Member) → member_at place group ≡ Ok member → worth member.account ≡ amount_owed prices place posts

-- where the latest call issued bills, it did not both bill in a zone and carry in it
abbrev pub DoesNotBillAndCarry : Zone → List Event → Group → Type 0
DoesNotBillAndCarry zone (Issuing stamp places (Ok bills) ∷ earlier) group =
    (kwh_billed_by zone bills ≡ 0) ⊎ (in_zone group.carried zone ≡ 0)
DoesNotBillAndCarry zone history group = Unit {0}

-- the balance of a history and the group that it leads to
pub record IsBalanced (prices : ℕ → Prices) (history : List Event) (group : Group) : Type 0 where
  pub energy : (zone : Zone) → EnergyBalances zone (accepted_calls history) group
  pub money : (place : ℕ) → MoneyBalances prices place (accepted_calls history) group
  pub not_both : (zone : Zone) → DoesNotBillAndCarry zone history group

-- the history leads to the group, and at its start and after each of its calls there is balance
abbrev pub IsBalancedThroughout : Share → (ℕ → Prices) → List Event → Group → Type 0
IsBalancedThroughout share prices [] group = (group ≡ blank) × IsBalanced prices [] group
IsBalancedThroughout share prices (event ∷ history) group =
    (before : Group) × IsBalancedThroughout share prices history before
    × Happens share prices before event group × IsBalanced prices (event ∷ history) group

-- a history leads to a book, by the functions that its rule and its tariff are
abbrev pub LeadsTo : {R T : Type 0} → (R → Share) → (T → ℕ → Prices) → List Event → BookState R T → Type 0
LeadsTo share prices history book = Leads (share book.rule) (prices book.tariff) history book.group

-- for every history that leads to the book as it was, the history with this call and its answer leads to the book as it is,
-- and balances, at its start and after each of its calls
abbrev pub GoesOnBalanced : {R T : Type 0} → (R → Share) → (T → ℕ → Prices) → (old : BookState R T) → Event → (new : BookState R T) → Type 0
GoesOnBalanced share prices old event new =
    (history : List Event) → LeadsTo share prices history old
    → LeadsTo share prices (event ∷ history) new
    × IsBalancedThroughout (share new.rule) (prices new.tariff) (event ∷ history) new.group

-- the empty history leads to the book, and balances
abbrev pub BeginsBalanced : {R T : Type 0} → (R → Share) → (T → ℕ → Prices) → (book : BookState R T) → Type 0
BeginsBalanced share prices book =
    LeadsTo share prices [] book × IsBalancedThroughout (share book.rule) (prices book.tariff) [] book.group

-- the bills of a group that stand in a slice, one for each member
abbrev pub bills_in : Group → List Bill → List Bill
bills_in group slice = take (length group.members.items) slice

-- what a drawing answers, with the bills that it wrote
abbrev pub drawing_answer : Result Stamp BookRefusal → List Bill → Result (Stamp × List Bill) BookRefusal
drawing_answer (Ok stamp) bills = Ok (stamp, bills)
drawing_answer (Err refusal) bills = Err refusal

-- what an issue answers: the bills that it wrote
abbrev pub issue_answer : Result (Unit {0}) BookRefusal → List Bill → Result (List Bill) BookRefusal
issue_answer (Ok done) bills = Ok bills
issue_answer (Err refusal) bills = Err refusal
