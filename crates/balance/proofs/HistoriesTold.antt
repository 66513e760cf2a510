-- What a history tells of the entries and the members of the group that it leads to.
use Rattle.std.proofs.Common.{◌≡◌, ℕ, zero, suc, ◌+◌, List, [], ◌∷◌, ◌++◌, map, set, get_or, slice_get, Some, Ok, Err, Result, refl, sym, ap, ap₂, ◌∙◌, subst}
use Rattle.billing.specs.declared.account.Account.{Account}
use Rattle.billing.specs.declared.supply.Supply.{Supply}
use Rattle.ledger.specs.declared.bill.Bill.{Bill}
use Rattle.ledger.specs.declared.bill.YearEnd.{YearEnd}
use Rattle.ledger.specs.declared.entry.Entry.{Entry}
use Rattle.ledger.specs.declared.entry.Entry.TheVariants.{Reading, Change, Correction, Payment}
use Rattle.ledger.specs.declared.entry.MemberRegister.{MemberRegister}
use Rattle.ledger.specs.declared.zone.ByZone.{ByZone}
use Rattle.group.proofs.Stepping.{and_then_ok, made_ok}
use Rattle.group.specs.Books.{blank_check}
use Rattle.group.specs.Drafts.{after_month}
use Rattle.group.specs.Entries.{open_month, place_of, recorded_member}
use Rattle.group.specs.Groups.{entry_result, blank, entry_group, members_of, opening_result, opening_check}
use Rattle.group.specs.Members.{nobody, on_account, on_register, opened_member, register_at, with_register}
use Rattle.group.specs.Months.{Prices, Share, billed_member, by_place, supplies_at}
use Rattle.group.specs.Payments.{with_payment}
use Rattle.group.specs.Registers.{with_correction, with_reading}
use Rattle.group.specs.Years.{after_year, credited_account, holder_of, open_year, year_figures}
use Rattle.group.specs.declared.group.Group.{Group}
use Rattle.group.specs.declared.group.Phase.TheVariants.{Open}
use Rattle.group.specs.declared.member.Member.{Member}
use Rattle.group.specs.declared.member.OpeningRecord.{OpeningRecord}
use Rattle.group.specs.declared.refusal.BookRefusal.{BookRefusal}
use Rattle.group.specs.declared.register.Register.{Register}
use Rattle.balance.proofs.Entries.{altered_found}
use Rattle.balance.proofs.Theorem.{issued_is}
use Rattle.balance.specs.Histories.{Event, Opening, Entering, Drawing, Checking, Issuing, Withdrawing, Closing, Happens, Leads}
use Rattle.balance.specs.Postings.{AcceptedCall, Entered, Issued, Opened, YearPaid, accepted_call, accepted_calls}
use Rattle.balance.specs.Told.{EntriesAreCounted, CapacitiesAndClassesStay, entries_since, opening_capacity_and_class, records_in, capacity_and_class}

-- one element is replaced by one of which the same is told
told_after_set : {A B : Type 0} (f : A → B) (xs : List A) (i : ℕ) (y d : A) → f y ≡ f (get_or xs i d) → map f (set xs i y) ≡ map f xs
told_after_set f [] i y d same = refl
told_after_set f (x ∷ xs) zero y d same = ap (λ z. z ∷ map f xs) same
told_after_set f (x ∷ xs) (suc i) y d same = ap (λ l. f x ∷ l) (told_after_set f xs i y d same)

told_of_found : {A B : Type 0} (f : A → B) (xs : List A) (i : ℕ) (x y : A) → slice_get xs i ≡ Some x → f y ≡ f x → map f (set xs i y) ≡ map f xs
told_of_found f [] i x y found same = refl
told_of_found f (z ∷ zs) zero x y found same = let e : z ≡ x = cc in ap (λ w. w ∷ map f zs) (same ∙ ap f (sym e))
told_of_found f (z ∷ zs) (suc i) x y found same = ap (λ l. f z ∷ l) (told_of_found f zs i x y found same)

-- each element is replaced by one of which the same is told
told_by_place : {A B : Type 0} (f : A → B) (g : ℕ → A → A) → ((place : ℕ) (x : A) → f (g place x) ≡ f x) → (first : ℕ) (xs : List A) → map f (by_place g first xs) ≡ map f xs
told_by_place f g same first [] = refl
told_by_place f g same first (x ∷ xs) = ap₂ (λ z l. z ∷ l) (same first x) (told_by_place f g same (first + 1) xs)

told_of_opened : (records : List OpeningRecord) → map capacity_and_class (map opened_member records) ≡ map opening_capacity_and_class records
told_of_opened [] = refl
told_of_opened (record' ∷ records) = ap (λ l. opening_capacity_and_class record' ∷ l) (told_of_opened records)

billed_terms : (price : Prices) (member : Member) (supplies : ByZone Supply) → capacity_and_class (billed_member price member supplies) ≡ capacity_and_class member
unfolding billed_member
billed_terms price member supplies = refl

on_register_terms : (at : MemberRegister) (step : Register → Result Register BookRefusal) (member changed : Member) → on_register at step member ≡ Ok changed → capacity_and_class changed ≡ capacity_and_class member
on_register_terms at step member changed is =
    let (register, took, becomes) = made_ok (λ (r : Register). with_register at r member) (step (register_at at member)) changed is in
    ap capacity_and_class (sym becomes)

on_account_terms : (step : Account → Result Account BookRefusal) (member changed : Member) → on_account step member ≡ Ok changed → capacity_and_class changed ≡ capacity_and_class member
on_account_terms step member changed is =
    let (account, took, becomes) = made_ok (λ (a : Account). record member { account = a }) (step member.account) changed is in
    ap capacity_and_class (sym becomes)

recorded_terms : (month : ℕ) (entry : Entry) (member changed : Member) → recorded_member month entry member ≡ Ok changed → capacity_and_class changed ≡ capacity_and_class member
recorded_terms month (Reading at day value) member changed is = on_register_terms at (with_reading month day value value) member changed is
recorded_terms month (Change at day value start) member changed is = on_register_terms at (with_reading month day value start) member changed is
recorded_terms month (Correction at kwh) member changed is = on_register_terms at (with_correction kwh) member changed is
recorded_terms month (Payment place drams) member changed is = on_account_terms (with_payment drams) member changed is

-- what each kind of posting keeps of what a history posts and the group that it leads to
record Steps (share : Share) (prices : ℕ → Prices) (P : List AcceptedCall → Group → Type 0) : Type 0 where
  at_first : P [] blank
  opens : (posts : List AcceptedCall) (number start holder : ℕ) (records : List OpeningRecord) → P (Opened start holder records ∷ posts) (record blank { number = number; holder = holder; members = record { items = members_of records }; phase = Open start })
  enters : (posts : List AcceptedCall) (old : Group) (month : ℕ) (entry : Entry) (member changed : Member) → P posts old → slice_get old.members.items (place_of entry) ≡ Some member → recorded_member month entry member ≡ Ok changed → P (Entered entry ∷ posts) (entry_group (place_of entry) changed old)
  issues : (posts : List AcceptedCall) (old : Group) (month : ℕ) (bills : List Bill) → P posts old → P (Issued bills ∷ posts) (after_month share prices month old)
  closes : (posts : List AcceptedCall) (old : Group) (december : ℕ) (figures : YearEnd) → P posts old → P (YearPaid figures ∷ posts) (after_year prices december old)

after_call : (share : Share) (prices : ℕ → Prices) (P : List AcceptedCall → Group → Type 0) → Steps share prices P → (posts : List AcceptedCall) (old : Group) (event : Event) (new : Group) → P posts old → Happens share prices old event new → P (accepted_call event ++ posts) new
after_call share prices P steps posts old (Opening number start holder records (Ok done)) new was happens =
    let (fresh, is, opens) = and_then_ok (blank_check old.phase) (λ (d : Unit {0}). opening_result number start holder records) new happens in
    let (goes, may, same) = made_ok (λ (d : Unit {0}). record blank { number = number; holder = holder; members = record { items = members_of records }; phase = Open start }) (opening_check start holder records) new opens in
    subst (λ g. P (Opened start holder records ∷ posts) g) same (steps.opens posts number start holder records)
after_call share prices P steps posts old (Opening number start holder records (Err refusal)) new was happens = subst (λ g. P posts g) (sym happens.1) was
after_call share prices P steps posts old (Entering entry (Ok done)) new was happens =
    let (month, is, rest) = and_then_ok (open_month old.phase) (λ (m : ℕ). entry_result (place_of entry) (recorded_member m entry) old) new happens in
    let (member, changed, found, stepped, same) = altered_found (place_of entry) (recorded_member month entry) old new rest in
    subst (λ g. P (Entered entry ∷ posts) g) same (steps.enters posts old month entry member changed was found stepped)
after_call share prices P steps posts old (Entering entry (Err refusal)) new was happens = subst (λ g. P posts g) (sym happens.1) was
after_call share prices P steps posts old (Drawing places answer) new was happens = subst (λ g. P posts g) (sym happens.1) was
after_call share prices P steps posts old (Checking stamp current) new was happens = subst (λ g. P posts g) (sym happens.1) was
after_call share prices P steps posts old (Issuing stamp places (Ok bills)) new was happens =
    let (month, is, writes, becomes) = issued_is share prices stamp places old new bills happens in
    subst (λ g. P (Issued bills ∷ posts) g) becomes (steps.issues posts old month bills was)
after_call share prices P steps posts old (Issuing stamp places (Err refusal)) new was happens = subst (λ g. P posts g) (sym happens.1) was
after_call share prices P steps posts old (Withdrawing stamp) new was happens = subst (λ g. P posts g) (sym happens) was
after_call share prices P steps posts old (Closing (Ok figures)) new was happens =
    let (december, is, same) = made_ok (λ (d : ℕ). (year_figures (prices d) old, after_year prices d old)) (open_year old.phase) (figures, new) happens in
    let becomes : after_year prices december old ≡ new = ap (λ (p : YearEnd × Group). p.1) same in
    subst (λ g. P (YearPaid figures ∷ posts) g) becomes (steps.closes posts old december figures was)
after_call share prices P steps posts old (Closing (Err refusal)) new was happens = subst (λ g. P posts g) (sym happens.1) was

-- what each posting keeps, every history does
over_history : (share : Share) (prices : ℕ → Prices) (P : List AcceptedCall → Group → Type 0) → Steps share prices P → (history : List Event) (group : Group) → Leads share prices history group → P (accepted_calls history) group
over_history share prices P steps [] group is = subst (λ g. P [] g) (sym is) steps.at_first
over_history share prices P steps (event ∷ history) group (before, leads, happens) = after_call share prices P steps (accepted_calls history) before event group (over_history share prices P steps history before leads) happens

pub entries_are_counted : EntriesAreCounted
entries_are_counted share prices history group leads = over_history share prices (λ posts g. g.entries ≡ entries_since posts) (record {
  at_first = refl;
  opens = λ posts number start holder records. refl;
  enters = λ posts old month entry member changed was found stepped. ap (λ n. n + 1) was;
  issues = λ posts old month bills was. refl;
  closes = λ posts old december figures was. was;
}) history group leads

pub terms_stay : CapacitiesAndClassesStay
terms_stay share prices history group leads = over_history share prices (λ posts g. map capacity_and_class g.members.items ≡ map opening_capacity_and_class (records_in posts)) (record {
  at_first = refl;
  opens = λ posts number start holder records. told_of_opened records;
  enters = λ posts old month entry member changed was found stepped. told_of_found capacity_and_class old.members.items (place_of entry) member changed found (recorded_terms month entry member changed stepped) ∙ was;
  issues = λ posts old month bills was.
      let f = λ (place : ℕ) (member : Member). billed_member (prices month) member (supplies_at share old place) in
      told_by_place capacity_and_class f (λ place member. billed_terms (prices month) member (supplies_at share old place)) 0 old.members.items ∙ was;
  closes = λ posts old december figures was.
      let holder : Member = record (holder_of old) { account = credited_account (prices december) old } in
      told_after_set capacity_and_class old.members.items old.holder holder nobody refl ∙ was;
}) history group leads
