-- Every list of calls on a blank book is balanced throughout.
use Rattle.std.proofs.Common.{◌≡◌, ℕ, List, [], ◌∷◌, Ok, Err, Result, refl}
use Rattle.group.specs.Groups.{blank}
use Rattle.group.specs.Results.{Answers, Follows}
use Rattle.group.specs.declared.group.Group.{Group}
use Rattle.group.specs.declared.refusal.BookRefusal.{BookRefusal}
use Rattle.group.specs.Books.{after_opening}
use Rattle.group.specs.Drafts.{issue_result}
use Rattle.group.specs.Entries.{after_entry}
use Rattle.group.specs.Months.{Prices, Share}
use Rattle.group.specs.Years.{closing_result}
use Rattle.balance.proofs.Theorem.{throughout}
use Rattle.balance.specs.Histories.{Event, Opening, Entering, Happens, Issuing, Leads, Closing}
use Rattle.balance.specs.Runs.{Call, Open, Enter, Draw, Check, Issue, Withdraw, Close, EveryRunBalances, answer_of_call, by_answer, by_step, run, run_on}

-- a step that gives a group, or refuses, is followed
stepped : (event : Result (Unit {0}) BookRefusal → Event) (P : Event → Group → Type 0) (step r : Result Group BookRefusal) (old : Group) → step ≡ r → ((answer : Result (Unit {0}) BookRefusal) (new : Group) → Follows step old answer new → P (event answer) new) → P (by_step event r old).0 (by_step event r old).1
stepped event P step (Ok new) old is so = so (Ok tt) new is
stepped event P step (Err refusal) old is so = so (Err refusal) old (is, refl)

answers : {A : Type 0} (event : Result A BookRefusal → Event) (P : Event → Group → Type 0) (step r : Result (A × Group) BookRefusal) (old : Group) → step ≡ r → ((answer : Result A BookRefusal) (new : Group) → Answers step old answer new → P (event answer) new) → P (by_answer event r old).0 (by_answer event r old).1
answers event P step (Ok pair) old is so = so (Ok pair.0) pair.1 is
answers event P step (Err refusal) old is so = so (Err refusal) old (is, refl)

-- what a call answers is what happens
happens : (share : Share) (prices : ℕ → Prices) (old : Group) (call : Call) → Happens share prices old (answer_of_call share prices old call).0 (answer_of_call share prices old call).1
happens share prices old (Open number start holder records) = stepped (Opening number start holder records) (Happens share prices old) (after_opening number start holder records old) (after_opening number start holder records old) old refl (λ answer new follows. follows)
happens share prices old (Enter entry) = stepped (Entering entry) (Happens share prices old) (after_entry entry old) (after_entry entry old) old refl (λ answer new follows. follows)
happens share prices old (Draw places) = (refl, refl)
happens share prices old (Check stamp) = (refl, refl)
happens share prices old (Issue stamp places) = answers (Issuing stamp places) (Happens share prices old) (issue_result share prices stamp places old) (issue_result share prices stamp places old) old refl (λ answer new follows. follows)
happens share prices old (Withdraw stamp) = refl
happens share prices old Close = answers Closing (Happens share prices old) (closing_result prices old) (closing_result prices old) old refl (λ answer new follows. follows)

led_on : (share : Share) (prices : ℕ → Prices) (calls : List Call) (history : List Event) (group : Group) → Leads share prices history group → Leads share prices (run_on share prices (history, group) calls).0 (run_on share prices (history, group) calls).1
led_on share prices [] history group leads = leads
led_on share prices (call ∷ calls) history group leads =
    let step = answer_of_call share prices group call in
    led_on share prices calls (step.0 ∷ history) step.1 (group, leads, happens share prices group call)

-- a list of calls on a blank book leads to the group after it
pub run_leads : (share : Share) (prices : ℕ → Prices) (calls : List Call) → Leads share prices (run share prices calls).0 (run share prices calls).1
run_leads share prices calls = led_on share prices calls [] blank refl

pub every_run_balances : EveryRunBalances
every_run_balances share keeps prices calls = throughout share keeps prices _ _ (run_leads share prices calls)
