-- What a group is opened and settled as.
use Rattle.std.specs.Prelude.{◌≡◌, ℕ, List, [], ◌∷◌, ◌++◌, Ok, Err, Result}
use Rattle.balance.specs.Balances.{IsBalancedThroughout}
use Rattle.balance.specs.Histories.{Event, Opening}
use Rattle.group.specs.Groups.{opening_result}
use Rattle.group.specs.declared.group.Group.{Group}
use Rattle.group.specs.declared.refusal.BookRefusal.{BookRefusal}
use Rattle.group.specs.Books.{BookState}
use Rattle.group.specs.Months.{Prices, Share}
use Rattle.settlement.specs.Leading.{AcceptsLines}
use Rattle.settlement.specs.Runs.{RunsJournal}
use Rattle.settlement.specs.declared.runs.Outcome.{Outcome}
use Rattle.settlement.specs.declared.setup.Setup.{Setup}

-- the group of a setup, or why it does not open
abbrev pub group_of : {R T : Type 0} → Setup R T → Result Group BookRefusal
group_of setup = opening_result setup.number setup.start setup.holder setup.records.now

-- the call that opens the group
abbrev pub opening_event : {R T : Type 0} → Setup R T → Event
opening_event setup = Opening setup.number setup.start setup.holder setup.records.now (Ok tt)

-- a book of the group is opened, settled by its rule and its tariff, and the history of this one call leads to it, balanced;
-- or the book refuses
abbrev pub OpensBook : {R T : Type 0} → (R → Share) → (T → ℕ → Prices) → Setup R T → Result (BookState R T) BookRefusal → Type 0
OpensBook share prices setup (Ok book) =
    (group_of setup ≡ Ok book.group) × (book.rule ≡ setup.rule) × (book.tariff ≡ setup.tariff)
    × IsBalancedThroughout (share book.rule) (prices book.tariff) (opening_event setup ∷ []) book.group
OpensBook share prices setup (Err refusal) = group_of setup ≡ Err refusal

-- a journal is run over a group that an opening made, and the history of that call and of those of the accepted lines leads
-- to what the run leaves, balanced at its start and after each of its calls
abbrev pub SettlesFrom : Share → (ℕ → Prices) → (opening : Event) → (journal : List ℕ) → (old : List ℕ × Group) → Outcome → (new : List ℕ × Group) → Type 0
SettlesFrom share prices opening journal old outcome new =
    RunsJournal share prices journal old outcome new
    × (order : AcceptsLines share prices journal old outcome new)
    × IsBalancedThroughout share prices (order.calls ++ opening ∷ []) new.1

-- the journal is run over a book of the group; or the book does not open, and the output is as it was
abbrev pub SettlesJournal : {R T : Type 0} → (R → Share) → (T → ℕ → Prices) → Setup R T → (journal old : List ℕ) → Result Outcome BookRefusal → (new : List ℕ) → Type 0
SettlesJournal share prices setup journal old (Ok outcome) new =
    (group : Group) × (group_of setup ≡ Ok group)
    × (after : Group) × SettlesFrom (share setup.rule) (prices setup.tariff) (opening_event setup) journal (old, group) outcome (new, after)
SettlesJournal share prices setup journal old (Err refusal) new = (group_of setup ≡ Err refusal) × (new ≡ old)
