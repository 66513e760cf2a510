-- A journal that is run over a book of a group is settled.
use Rattle.std.proofs.Common.{ℕ, List, [], ◌∷◌, ◌++◌, Ok, subst}
use Rattle.balance.specs.Balances.{IsBalancedThroughout}
use Rattle.balance.specs.Histories.{Event, Leads}
use Rattle.group.specs.declared.group.Group.{Group}
use Rattle.group.specs.Books.{BookState, KeepsTerms}
use Rattle.group.specs.Months.{Prices, Share}
use Rattle.settlement.proofs.Terms.{by_terms}
use Rattle.settlement.specs.Leading.{LeadsOnBalanced}
use Rattle.settlement.specs.Runs.{RunsJournal}
use Rattle.settlement.specs.Setups.{OpensBook, SettlesJournal, SettlesFrom, opening_event}
use Rattle.settlement.specs.declared.runs.Outcome.{Outcome}
use Rattle.settlement.specs.declared.setup.Setup.{Setup}

-- a history that is balanced throughout leads where it does
leads : (share : Share) (prices : ℕ → Prices) (history : List Event) (group : Group) → IsBalancedThroughout share prices history group → Leads share prices history group
leads share prices [] group (is, balanced) = is
leads share prices (event ∷ history) group (before, throughout, happens, balanced) = (before, leads share prices history before throughout, happens)

pub settled : {R T : Type 0} (share : R → Share) (prices : T → ℕ → Prices) (setup : Setup R T) (book after : BookState R T) (journal old : List ℕ) (outcome : Outcome) (new : List ℕ) → OpensBook share prices setup (Ok book) → RunsJournal (share book.rule) (prices book.tariff) journal (old, book.group) outcome (new, after.group) → KeepsTerms book after → LeadsOnBalanced share prices journal (old, book) outcome (new, after) → SettlesJournal share prices setup journal old (Ok outcome) new
settled {R} {T} share prices setup book after journal old outcome new (opens, rule, tariff, balanced) done same leads_on =
    let So : Share → (ℕ → Prices) → Type 0 = λ rule_of prices_of. SettlesFrom rule_of prices_of (opening_event setup) journal (old, book.group) outcome (new, after.group) in
    let order = leads_on.order in
    let (led, throughout) = leads_on.balanced (opening_event setup ∷ []) (leads (share book.rule) (prices book.tariff) (opening_event setup ∷ []) book.group balanced) in
    let of_book = by_terms share prices book after same (λ s p. IsBalancedThroughout s p (order.calls ++ opening_event setup ∷ []) after.group) throughout in
    let so : So (share book.rule) (prices book.tariff) = (done, order, of_book) in
    let by_rule = subst (λ (r : R). So (share r) (prices book.tariff)) rule so in
    (book.group, opens, after.group, subst (λ (t : T). So (share setup.rule) (prices t)) tariff by_rule)
