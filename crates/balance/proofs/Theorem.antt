-- The balance of every history, by induction on it.
use Rattle.std.proofs.Common.{◌≡◌, ℕ, Bool, true, false, if◌then◌else◌, List, [], ◌∷◌, ◌++◌, length, Ok, Err, nat_lt, ◌⊎◌, inl, inr, ⊎_elim, refl, sym, ap, ap₂, sum, slice_get, ◌∙◌, subst, arith}
use Rattle.std.proofs.lemmas.Bool.Decides.{nat_tests}
use Rattle.ledger.specs.Zones.{in_zone}
use Rattle.ledger.specs.declared.bill.Bill.{Bill}
use Rattle.ledger.specs.declared.bill.YearEnd.{YearEnd}
use Rattle.ledger.specs.declared.zone.Zone.{Zone}
use Rattle.ledger.specs.declared.zone.Zone.TheVariants.{Day, Night}
use Rattle.group.proofs.Stepping.{and_then_ok, made_ok, ok_or_ok}
use Rattle.group.specs.Groups.{entry_result, blank, opening_result}
use Rattle.group.specs.declared.group.Group.{Group}
use Rattle.group.specs.declared.group.Phase.{Phase}
use Rattle.group.specs.declared.group.Phase.TheVariants.{Blank, Open, YearEnd as AtYearEnd, Over}
use Rattle.group.specs.declared.refusal.BookRefusal.TheVariants as refused
use Rattle.group.specs.Books.{KeepsTerms, BookState, blank_check}
use Rattle.group.specs.Drafts.{Stamp, after_month, drawing_month, is_current, issue_result}
use Rattle.group.specs.Entries.{open_month, place_of, recorded_member}
use Rattle.group.specs.Months.{KeepsSharingLaw, Prices, Share, billed_in, carried_in, bills_of}
use Rattle.group.specs.Years.{after_year, open_year, year_figures}
use Rattle.balance.proofs.Entries.{entry_kept}
use Rattle.balance.proofs.Issues.{carried_is, issue_kept}
use Rattle.balance.proofs.Kept.{Kept, MonthKept}
use Rattle.balance.proofs.Nets.{bills_billed, zone_not_both}
use Rattle.balance.proofs.Openings.{opening_kept}
use Rattle.balance.proofs.Years.{year_kept}
use Rattle.balance.specs.Balances.{IsBalanced, IsBalancedThroughout, BeginsBalanced, EnergyBalances, GoesOnBalanced, DoesNotBillAndCarry}
use Rattle.balance.specs.Histories.{Event, Opening, Entering, Drawing, Checking, Issuing, Withdrawing, Closing, Happens, Leads}
use Rattle.balance.specs.Postings.{Issued, AcceptedCall, YearPaid, kwh_billed_by, accepted_call, accepted_calls}

-- each phase by what it answers
pub opened_in : (phase : Phase) (month : ℕ) → open_month phase ≡ Ok month → phase ≡ Open month
opened_in Blank month is = absurd cc
opened_in (Open m) month is = ap Open cc
opened_in (AtYearEnd d) month is = absurd cc
opened_in Over month is = absurd cc

pub ended_in : (phase : Phase) (december : ℕ) → open_year phase ≡ Ok december → phase ≡ AtYearEnd december
ended_in Blank december is = absurd cc
ended_in (Open m) december is = absurd cc
ended_in (AtYearEnd d) december is = ap AtYearEnd cc
ended_in Over december is = absurd cc

nothing_posted : (phase : Phase) (done : Unit {0}) (posts : List AcceptedCall) → blank_check phase ≡ Ok done → MonthKept phase posts → posts ≡ []
nothing_posted Blank done posts is kept = kept
nothing_posted (Open m) done posts is kept = absurd cc
nothing_posted (AtYearEnd d) done posts is kept = absurd cc
nothing_posted Over done posts is kept = absurd cc

if_ok : {A E : Type 0} (b : Bool) (p q : A) (e : E) → (if b then Ok p else Err e) ≡ Ok q → p ≡ q
if_ok true p q e is = cc
if_ok false p q e is = absurd cc

-- an issue's bills are those of the open month, and the group is that after it
pub issued_is : (share : Share) (prices : ℕ → Prices) (stamp : Stamp) (places : ℕ) (old new : Group) (bills : List Bill) → issue_result share prices stamp places old ≡ Ok (bills, new) → (month : ℕ) × (old.phase ≡ Open month) × (bills_of share (prices month) old ≡ bills) × (after_month share prices month old ≡ new)
issued_is share prices stamp places old new bills is =
    let (month, draws, rest) = and_then_ok (drawing_month places old) (λ (m : ℕ). if is_current old stamp then Ok (bills_of share (prices m) old, after_month share prices m old) else Err refused.Draft) (bills, new) is in
    let (m, opens, fits) = and_then_ok (open_month old.phase) (λ (n : ℕ). if nat_lt places (length old.members.items) then Err refused.Bills else Ok n) month draws in
    let same : m ≡ month = grind (arith, nat_tests) in
    let phase = opened_in old.phase m opens ∙ ap Open same in
    let drawn_now : List Bill × Group = (bills_of share (prices month) old, after_month share prices month old) in
    let same_pair = if_ok (is_current old stamp) drawn_now (bills, new) refused.Draft rest in
    (month, phase, ap (λ (p : List Bill × Group). p.0) same_pair, ap (λ (p : List Bill × Group). p.1) same_pair)

pub happens_kept : (share : Share) → KeepsSharingLaw share → (prices : ℕ → Prices) (posts : List AcceptedCall) (old : Group) (event : Event) (new : Group) → Kept prices posts old → Happens share prices old event new → Kept prices (accepted_call event ++ posts) new
happens_kept share keeps prices posts old (Opening number start holder records (Ok done)) new kept happens =
    let (fresh, is, opens) = and_then_ok (blank_check old.phase) (λ (d : Unit {0}). opening_result number start holder records) new happens in
    rw (nothing_posted old.phase fresh posts is kept.month) (opening_kept prices number start holder records new opens)
happens_kept share keeps prices posts old (Opening number start holder records (Err refusal)) new kept happens = subst (λ g. Kept prices posts g) (sym happens.1) kept
happens_kept share keeps prices posts old (Entering entry (Ok done)) new kept happens =
    let (month, is, rest) = and_then_ok (open_month old.phase) (λ (m : ℕ). entry_result (place_of entry) (recorded_member m entry) old) new happens in
    entry_kept prices posts old new month entry kept (opened_in old.phase month is) rest
happens_kept share keeps prices posts old (Entering entry (Err refusal)) new kept happens = subst (λ g. Kept prices posts g) (sym happens.1) kept
happens_kept share keeps prices posts old (Drawing places answer) new kept happens = subst (λ g. Kept prices posts g) (sym happens.1) kept
happens_kept share keeps prices posts old (Checking stamp current) new kept happens = subst (λ g. Kept prices posts g) (sym happens.1) kept
happens_kept share keeps prices posts old (Issuing stamp places (Ok bills)) new kept happens =
    let (month, is, writes, becomes) = issued_is share prices stamp places old new bills happens in
    subst (λ g. Kept prices (Issued bills ∷ posts) g) becomes (subst (λ l. Kept prices (Issued l ∷ posts) (after_month share prices month old)) writes (issue_kept share keeps prices posts old month kept is))
happens_kept share keeps prices posts old (Issuing stamp places (Err refusal)) new kept happens = subst (λ g. Kept prices posts g) (sym happens.1) kept
happens_kept share keeps prices posts old (Withdrawing stamp) new kept happens = subst (λ g. Kept prices posts g) (sym happens) kept
happens_kept share keeps prices posts old (Closing (Ok figures)) new kept happens =
    let (december, is, same) = made_ok (λ (d : ℕ). (year_figures (prices d) old, after_year prices d old)) (open_year old.phase) (figures, new) happens in
    let one : year_figures (prices december) old ≡ figures = ap (λ (p : YearEnd × Group). p.0) same in
    let two : after_year prices december old ≡ new = ap (λ (p : YearEnd × Group). p.1) same in
    subst (λ g. Kept prices (YearPaid figures ∷ posts) g) two (subst (λ f. Kept prices (YearPaid f ∷ posts) (after_year prices december old)) one (year_kept prices posts old december kept (ended_in old.phase december is)))
happens_kept share keeps prices posts old (Closing (Err refusal)) new kept happens = subst (λ g. Kept prices posts g) (sym happens.1) kept

blank_energy : (zone : Zone) → EnergyBalances zone [] blank
blank_energy Day = refl
blank_energy Night = refl

blank_kept : (prices : ℕ → Prices) → Kept prices [] blank
blank_kept prices = record {
  standings = λ at m there. absurd cc;
  tallies = λ zone flow. refl;
  energy = blank_energy;
  money = λ place m there. absurd cc;
  classes = λ place m there. absurd cc;
  holder = refl;
  month = refl;
}

led_kept : (share : Share) → KeepsSharingLaw share → (prices : ℕ → Prices) (history : List Event) (group : Group) → Leads share prices history group → Kept prices (accepted_calls history) group
led_kept share keeps prices [] group is = subst (λ g. Kept prices [] g) (sym is) (blank_kept prices)
led_kept share keeps prices (event ∷ history) group (before, leads, happens) = happens_kept share keeps prices (accepted_calls history) before event group (led_kept share keeps prices history before leads) happens

issue_not_both : (share : Share) → KeepsSharingLaw share → (prices : ℕ → Prices) (stamp : Stamp) (places : ℕ) (old new : Group) (bills : List Bill) → issue_result share prices stamp places old ≡ Ok (bills, new) → (zone : Zone) → (kwh_billed_by zone bills ≡ 0) ⊎ (in_zone new.carried zone ≡ 0)
issue_not_both share keeps prices stamp places old new bills is zone =
    let (month, opens, writes, becomes) = issued_is share prices stamp places old new bills is in
    let is_billed : kwh_billed_by zone bills ≡ sum (billed_in share zone old) = ap (kwh_billed_by zone) (sym writes) ∙ bills_billed share zone (prices month) old in
    let carries : in_zone new.carried zone ≡ carried_in share zone old = ap (λ (g : Group). in_zone g.carried zone) (sym becomes) ∙ carried_is share zone old in
    ⊎_elim (λ none. inl (is_billed ∙ none)) (λ none. inr (carries ∙ none)) (zone_not_both share keeps zone old)

led_not_both : (share : Share) → KeepsSharingLaw share → (prices : ℕ → Prices) (history : List Event) (group : Group) → Leads share prices history group → (zone : Zone) → DoesNotBillAndCarry zone history group
led_not_both share keeps prices [] group leads zone = tt
led_not_both share keeps prices (Opening number start holder records answer ∷ history) group leads zone = tt
led_not_both share keeps prices (Entering entry answer ∷ history) group leads zone = tt
led_not_both share keeps prices (Drawing places answer ∷ history) group leads zone = tt
led_not_both share keeps prices (Checking stamp current ∷ history) group leads zone = tt
led_not_both share keeps prices (Issuing stamp places (Ok bills) ∷ history) group (before, leads, happens) zone = issue_not_both share keeps prices stamp places before group bills happens zone
led_not_both share keeps prices (Issuing stamp places (Err refusal) ∷ history) group leads zone = tt
led_not_both share keeps prices (Withdrawing stamp ∷ history) group leads zone = tt
led_not_both share keeps prices (Closing answer ∷ history) group leads zone = tt

-- every history that leads to a group balances
pub led_balanced : (share : Share) → KeepsSharingLaw share → (prices : ℕ → Prices) (history : List Event) (group : Group) → Leads share prices history group → IsBalanced prices history group
led_balanced share keeps prices history group leads =
    let kept = led_kept share keeps prices history group leads in
    record {
      energy = kept.energy;
      money = λ place member there. kept.money place member (ok_or_ok (slice_get group.members.items place) refused.Place member there);
      not_both = led_not_both share keeps prices history group leads;
    }

-- a history that leads to a group is balanced throughout
pub throughout : (share : Share) → KeepsSharingLaw share → (prices : ℕ → Prices) (history : List Event) (group : Group) → Leads share prices history group → IsBalancedThroughout share prices history group
throughout share keeps prices [] group is = (is, led_balanced share keeps prices [] group is)
throughout share keeps prices (event ∷ history) group (before, leads, happens) = (before, throughout share keeps prices history before leads, happens, led_balanced share keeps prices (event ∷ history) group (before, leads, happens))

-- so a call goes on balanced
pub goes_on : {R T : Type 0} (share : R → Share) (prices : T → ℕ → Prices) → ((rule : R) → KeepsSharingLaw (share rule)) → (old : BookState R T) (event : Event) (new : BookState R T) → KeepsTerms old new → Happens (share old.rule) (prices old.tariff) old.group event new.group → GoesOnBalanced share prices old event new
goes_on {R} {T} share prices keeps old event new same happens history leads =
    let on : Leads (share old.rule) (prices old.tariff) (event ∷ history) new.group = (old.group, leads, happens) in
    let rules = ap share same.rule in
    let tariffs = ap prices same.tariff in
    let now_leads : Leads (share new.rule) (prices new.tariff) (event ∷ history) new.group = subst (λ (p : Share × (ℕ → Prices)). Leads p.0 p.1 (event ∷ history) new.group) (ap₂ (λ (s : Share) (t : ℕ → Prices). (s, t)) (sym rules) (sym tariffs)) on in
    (now_leads, throughout (share new.rule) (keeps new.rule) (prices new.tariff) (event ∷ history) new.group now_leads)

pub begins : {R T : Type 0} (share : R → Share) (prices : T → ℕ → Prices) → ((rule : R) → KeepsSharingLaw (share rule)) → (book : BookState R T) → book.group ≡ blank → BeginsBalanced share prices book
begins share prices keeps book is = (is, throughout (share book.rule) (keeps book.rule) (prices book.tariff) [] book.group is)

-- a call that leaves the book as it was
pub quiet_goes_on : {R T : Type 0} (share : R → Share) (prices : T → ℕ → Prices) → ((rule : R) → KeepsSharingLaw (share rule)) → (book : BookState R T) (event : Event) → Happens (share book.rule) (prices book.tariff) book.group event book.group → GoesOnBalanced share prices book event book
quiet_goes_on share prices keeps book event happens = goes_on share prices keeps book event book (record { rule = refl; tariff = refl }) happens

-- a call that makes another group of the book
pub moved_goes_on : {R T : Type 0} (share : R → Share) (prices : T → ℕ → Prices) → ((rule : R) → KeepsSharingLaw (share rule)) → (old : BookState R T) (rule : R) (tariff : T) (group after : Group) (event : Event) → record { rule = rule; tariff = tariff; group = group } ≡ old → Happens (share rule) (prices tariff) group event after → GoesOnBalanced share prices old event (record { rule = rule; tariff = tariff; group = after })
moved_goes_on {R} {T} share prices keeps old rule tariff group after event is happens =
    let book : BookState R T = record { rule = rule; tariff = tariff; group = group } in
    let new : BookState R T = record { rule = rule; tariff = tariff; group = after } in
    let P : BookState R T → Type 0 = λ o. GoesOnBalanced share prices o event new in
    subst P is (goes_on share prices keeps book event new (record { rule = refl; tariff = refl }) happens)
