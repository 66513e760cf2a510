-- Every entry keeps what a history keeps.
use Rattle.std.proofs.Common.{Bool, ◌≡◌, ◌≢◌, ℕ, ◌*◌, ◌&&◌, ◌==◌, true, false, if◌then◌else◌, List, ◌∷◌, ℤ, pos, ◌+ℤ◌, ◌-ℤ◌, slice_get, Some, Ok, Result, ⊎_elim, refl, sym, ap, ap₂, ◌∙◌, subst, arith}
use Rattle.std.proofs.lemmas.Bool.Decides.{nat_tests}
use Rattle.std.proofs.lemmas.Grind.{common_steps}
use Rattle.std.proofs.lemmas.Int.{ints}
use Rattle.billing.specs.Accounts.{worth}
use Rattle.billing.specs.declared.account.Account.{Account}
use Rattle.ledger.specs.declared.entry.Entry.{Entry}
use Rattle.ledger.specs.declared.entry.Entry.TheVariants.{Reading, Change, Correction, Payment}
use Rattle.ledger.specs.declared.entry.MemberRegister.{MemberRegister}
use Rattle.ledger.specs.declared.zone.Flow.{Flow}
use Rattle.ledger.specs.declared.zone.Flow.TheVariants.{Consumed, Delivered}
use Rattle.ledger.specs.declared.zone.Zone.{Zone}
use Rattle.ledger.specs.declared.zone.Zone.TheVariants.{Day, Night}
use Rattle.group.proofs.Stepping.{made_ok}
use Rattle.group.specs.Groups.{entry_result, entry_group}
use Rattle.group.specs.Members.{on_account, on_register, register_at, with_register}
use Rattle.group.specs.Payments.{with_payment}
use Rattle.group.specs.Registers.{with_correction, quantity, with_reading}
use Rattle.group.specs.declared.refusal.BookRefusal.{BookRefusal}
use Rattle.group.specs.declared.group.Group.{Group}
use Rattle.group.specs.declared.group.Phase.{Phase}
use Rattle.group.specs.declared.group.Phase.TheVariants.{Blank, Open, YearEnd, Over}
use Rattle.group.specs.declared.member.Member.{Member}
use Rattle.group.specs.declared.register.Register.{Register}
use Rattle.group.proofs.EntriesSound.{altered_found as altered_as}
use Rattle.group.specs.Entries.{place_of, recorded_member}
use Rattle.group.specs.Months.{Prices}
use Rattle.balance.proofs.Found.{found_after_set, sum_of-set}
use Rattle.balance.proofs.Kept.{Kept, MonthKept}
use Rattle.balance.proofs.Slots.{register_replaced, slot, tally_in, tally_replaced}
use Rattle.balance.specs.Balances.{EnergyBalances}
use Rattle.balance.specs.Postings.{Entered, AcceptedCall, class_at, counted_between, energy_of, energy_part, last_value, amount_owed, same_flow, same_register, same_zone}

-- in an open month an entry moves no month
month_kept : (phase : Phase) (month : ℕ) (entry : Entry) (posted : List AcceptedCall) → phase ≡ Open month → MonthKept phase posted → MonthKept phase (Entered entry ∷ posted)
month_kept Blank month entry posted is kept = absurd cc
month_kept (Open m) month entry posted is kept = kept
month_kept (YearEnd d) month entry posted is kept = absurd cc
month_kept Over month entry posted is kept = absurd cc

-- an entry moves the deliveries of all and those of the open month alike
energy_kept : (zone : Zone) (entry : Entry) (posted : List AcceptedCall) (place : ℕ) (member : Member) (group : Group) → EnergyBalances zone posted group → EnergyBalances zone (Entered entry ∷ posted) (entry_group place member group)
energy_kept zone entry posted place member group kept = omega (arith, ints, kept)

-- which value is seen of the register that an entry is for, and of another of its member
seen : (here this : Bool) (r q : Register) (n : ℕ) → here ≡ true → q.standing ≡ n → (if this then r else q).standing ≡ (if here && this then r.standing else n)
seen true true r q n is stands = refl
seen true false r q n is stands = stands
seen false this r q n is stands = absurd cc

-- and of another member's
elsewhere : (here this : Bool) (x n : ℕ) → here ≡ false → (if here && this then x else n) ≡ n
elsewhere true this x n is = absurd cc
elsewhere false this x n is = refl

same_place : (a b : ℕ) → b ≡ a → (a == b) ≡ true
same_place a b is = grind (arith, nat_tests)

other_place : (a b : ℕ) → a ≢ b → (a == b) ≡ false
other_place a b is = grind (arith, nat_tests)

-- an entry that moves one register
pub register_entered : (prices : ℕ → Prices) (posted : List AcceptedCall) (group : Group) (entry : Entry) (month : ℕ) (of : MemberRegister) (kwh : ℤ) (member : Member) (register : Register)
    → Kept prices posted group
    → group.phase ≡ Open month
    → slice_get group.members.items of.place ≡ Some member
    → register.tally ≡ (register_at of member).tally +ℤ kwh
    → energy_of posted entry ≡ Some (of, kwh)
    → ((at : MemberRegister) → last_value (Entered entry ∷ posted) at ≡ (if same_register of at then register.standing else last_value posted at))
    → ((place : ℕ) → amount_owed prices place (Entered entry ∷ posted) ≡ amount_owed prices place posted)
    → Kept prices (Entered entry ∷ posted) (entry_group of.place (with_register of register member) group)
register_entered prices posted group entry month of kwh member register kept opened found tally is stands owes =
    let changed = with_register of register member in
    let members = group.members.items in
    record {
      standings = λ at m there.
          let this = same_zone of.zone at.zone && same_flow of.flow at.flow in
          ⊎_elim
          (λ h. ap (λ (x : Member). (register_at at x).standing) h.1
          ∙ (ap (λ (x : Register). x.standing) (register_replaced of at register member)
          ∙ (seen (of.place == at.place) this register (register_at at member) (last_value posted at) (same_place of.place at.place h.0) (kept.standings at member (subst (λ p. slice_get members p ≡ Some member) (sym h.0) found))
          ∙ sym (stands at))))
          (λ h. kept.standings at m h.1 ∙ (sym (elsewhere (of.place == at.place) this register.standing (last_value posted at) (other_place of.place at.place h.0)) ∙ sym (stands at)))
          (found_after_set members of.place changed at.place m there);
      tallies = λ zone flow.
          let one = sum_of-set (tally_in zone flow) members of.place member changed found in
          let moved = tally_replaced of zone flow register kwh member tally in
          let told = ap (energy_part zone flow) is in
          omega (arith, ints, one, moved, told, kept.tallies zone flow);
      energy = λ zone. energy_kept zone entry posted of.place changed group (kept.energy zone);
      money = λ place m there. ⊎_elim
          (λ h. ap (λ (x : Member). worth x.account) h.1 ∙ (kept.money of.place member found ∙ (sym (owes of.place) ∙ ap (λ p. amount_owed prices p (Entered entry ∷ posted)) (sym h.0))))
          (λ h. kept.money place m h.1 ∙ sym (owes place))
          (found_after_set members of.place changed place m there);
      classes = λ place m there. ⊎_elim
          (λ h. ap (λ (x : Member). x.class) h.1 ∙ (kept.classes of.place member found ∙ ap (λ p. class_at p posted) (sym h.0)))
          (λ h. kept.classes place m h.1)
          (found_after_set members of.place changed place m there);
      holder = kept.holder;
      month = month_kept group.phase month entry posted opened kept.month;
    }

-- a quantity is what a meter counts
quantity_counts : (standing value kwh : ℕ) → quantity standing value ≡ Some kwh → pos kwh ≡ counted_between standing value
unfolding quantity
quantity_counts standing value kwh is = grind (arith, ints, nat_tests)

-- a reading adds its quantity
read_adds : (month day value start : ℕ) (r after : Register) → with_reading month day value start r ≡ Ok after → (kwh : ℕ) × (quantity r.standing value ≡ Some kwh) × (after.tally ≡ r.tally +ℤ pos kwh)
read_adds month day value start r after is = grind (arith, nat_tests, common_steps)

-- so it adds what the meter counts
read_counts : (month day value start : ℕ) (r after : Register) → with_reading month day value start r ≡ Ok after → after.tally ≡ r.tally +ℤ counted_between r.standing value
read_counts month day value start r after is =
    let (kwh, is_quantity, adds) = read_adds month day value start r after is in
    adds ∙ ap (λ n. r.tally +ℤ n) (quantity_counts r.standing value kwh is_quantity)

read_stands : (month day value start : ℕ) (r after : Register) → with_reading month day value start r ≡ Ok after → after.standing ≡ start
read_stands month day value start r after is = grind (arith, nat_tests, common_steps)

corrected_counts : (kwh : ℤ) (r after : Register) → with_correction kwh r ≡ Ok after → after.tally ≡ r.tally +ℤ kwh
corrected_counts kwh r after is = grind (arith, nat_tests, common_steps)

corrected_stands : (kwh : ℤ) (r after : Register) → with_correction kwh r ≡ Ok after → after.standing ≡ r.standing
corrected_stands kwh r after is = grind (arith, nat_tests, common_steps)

-- where an entry does a step on a record, the record is found, and the group has what the step makes of it
pub altered_found : (place : ℕ) (step : Member → Result Member BookRefusal) (old new : Group) → entry_result place step old ≡ Ok new → (member : Member) × (changed : Member) × (slice_get old.members.items place ≡ Some member) × (step member ≡ Ok changed) × (entry_group place changed old ≡ new)
altered_found place step old new is =
    let (member, changed, found, room, stepped, same) = altered_as place step old new is in
    (member, changed, found, stepped, same)

zones_are : (a b : Zone) → same_zone a b ≡ true → a ≡ b
zones_are Day Day is = refl
zones_are Day Night is = absurd cc
zones_are Night Day is = absurd cc
zones_are Night Night is = refl

flows_are : (a b : Flow) → same_flow a b ≡ true → a ≡ b
flows_are Consumed Consumed is = refl
flows_are Consumed Delivered is = absurd cc
flows_are Delivered Consumed is = absurd cc
flows_are Delivered Delivered is = refl

-- registers that are the same are equal
pub registers_are : (a b : MemberRegister) → same_register a b ≡ true → a ≡ b
registers_are a b is =
    let place : a.place ≡ b.place = grind (arith, nat_tests) in
    let zone : same_zone a.zone b.zone ≡ true = grind (arith, nat_tests) in
    let flow : same_flow a.flow b.flow ≡ true = grind (arith, nat_tests) in
    ap (λ (p : ℕ). slot p a.zone a.flow) place
    ∙ (ap (λ (z : Zone). slot b.place z a.flow) (zones_are a.zone b.zone zone)
    ∙ ap (λ (f : Flow). slot b.place b.zone f) (flows_are a.flow b.flow flow))

either_way : (b : Bool) (x n : ℕ) → (b ≡ true → n ≡ x) → x ≡ (if b then n else x)
either_way true x n same = sym (same refl)
either_way false x n same = refl

-- a register that a correction leaves as it stood is seen as before
unmoved : (posted : List AcceptedCall) (of at : MemberRegister) (n : ℕ) → n ≡ last_value posted of → last_value posted at ≡ (if same_register of at then n else last_value posted at)
unmoved posted of at n is = either_way (same_register of at) (last_value posted at) n (λ same. is ∙ ap (last_value posted) (registers_are of at same))

-- an entry that reads a register, which then stands at the start value
read_kept : (prices : ℕ → Prices) (posted : List AcceptedCall) (old new : Group) (month : ℕ) (entry : Entry) (of : MemberRegister) (day value start : ℕ)
    → Kept prices posted old
    → old.phase ≡ Open month
    → entry_result of.place (on_register of (with_reading month day value start)) old ≡ Ok new
    → energy_of posted entry ≡ Some (of, counted_between (last_value posted of) value)
    → ((at : MemberRegister) → last_value (Entered entry ∷ posted) at ≡ (if same_register of at then start else last_value posted at))
    → ((place : ℕ) → amount_owed prices place (Entered entry ∷ posted) ≡ amount_owed prices place posted)
    → Kept prices (Entered entry ∷ posted) new
read_kept prices posted old new month entry of day value start kept opened is told lasts owes =
    let (member, changed, found, stepped, same) = altered_found of.place (on_register of (with_reading month day value start)) old new is in
    let (register, took, becomes) = made_ok (λ (r : Register). with_register of r member) (with_reading month day value start (register_at of member)) changed stepped in
    let stood = kept.standings of member found in
    let stands = read_stands month day value start (register_at of member) register took in
    subst (λ g. Kept prices (Entered entry ∷ posted) g) same (subst (λ m. Kept prices (Entered entry ∷ posted) (entry_group of.place m old)) becomes
    (register_entered prices posted old entry month of (counted_between (register_at of member).standing value) member register kept opened found
    (read_counts month day value start (register_at of member) register took)
    (told ∙ ap (λ n. Some (of, counted_between n value)) (sym stood))
    (λ at. lasts at ∙ ap (λ n. if same_register of at then n else last_value posted at) (sym stands))
    owes))

-- an entry that corrects a tally
corrected_kept : (prices : ℕ → Prices) (posted : List AcceptedCall) (old new : Group) (month : ℕ) (of : MemberRegister) (kwh : ℤ) → Kept prices posted old → old.phase ≡ Open month → entry_result of.place (on_register of (with_correction kwh)) old ≡ Ok new → Kept prices (Entered (Correction of kwh) ∷ posted) new
corrected_kept prices posted old new month of kwh kept opened is =
    let (member, changed, found, stepped, same) = altered_found of.place (on_register of (with_correction kwh)) old new is in
    let (register, took, becomes) = made_ok (λ (r : Register). with_register of r member) (with_correction kwh (register_at of member)) changed stepped in
    let stands = corrected_stands kwh (register_at of member) register took in
    subst (λ g. Kept prices (Entered (Correction of kwh) ∷ posted) g) same (subst (λ m. Kept prices (Entered (Correction of kwh) ∷ posted) (entry_group of.place m old)) becomes
    (register_entered prices posted old (Correction of kwh) month of kwh member register kept opened found
    (corrected_counts kwh (register_at of member) register took)
    refl
    (λ at. unmoved posted of at register.standing (stands ∙ kept.standings of member found))
    (λ place. refl)))

-- what a payment leaves
paid_worth : (drams : ℕ) (account after : Account) → with_payment drams account ≡ Ok after → worth after ≡ worth account -ℤ pos (100 * drams)
paid_worth drams account after is =
    let debt : after.debt ≡ account.debt -ℤ pos drams = grind (arith, nat_tests, common_steps) in
    let fraction : after.fraction ≡ account.fraction = grind (arith, nat_tests, common_steps) in
    omega (arith, ints, debt, fraction)

less_nothing : (z : ℤ) → z ≡ z -ℤ pos 0
less_nothing z = omega (arith, ints)

-- the payer owes less, and nobody else
owes_less : (prices : ℕ → Prices) (posted : List AcceptedCall) (payer drams place : ℕ) (z : ℤ) → (payer == place) ≡ true → z ≡ amount_owed prices place posted → z -ℤ pos (100 * drams) ≡ amount_owed prices place (Entered (Payment payer drams) ∷ posted)
owes_less prices posted payer drams place z same is = ap₂ (λ a (b : Bool). a -ℤ pos (if b then 100 * drams else 0)) is (sym same)

owes_same : (prices : ℕ → Prices) (posted : List AcceptedCall) (payer drams place : ℕ) → (payer == place) ≡ false → amount_owed prices place posted ≡ amount_owed prices place (Entered (Payment payer drams) ∷ posted)
owes_same prices posted payer drams place other = less_nothing (amount_owed prices place posted) ∙ ap (λ (b : Bool). amount_owed prices place posted -ℤ pos (if b then 100 * drams else 0)) (sym other)

-- an entry that pays
paid_kept : (prices : ℕ → Prices) (posted : List AcceptedCall) (old new : Group) (month payer drams : ℕ) → Kept prices posted old → old.phase ≡ Open month → entry_result payer (on_account (with_payment drams)) old ≡ Ok new → Kept prices (Entered (Payment payer drams) ∷ posted) new
paid_kept prices posted old new month payer drams kept opened is =
    let (member, changed, found, stepped, same) = altered_found payer (on_account (with_payment drams)) old new is in
    let (account, took, becomes) = made_ok (λ (a : Account). record member { account = a }) (with_payment drams member.account) changed stepped in
    let members = old.members.items in
    let debtor = record member { account = account } in
    subst (λ g. Kept prices (Entered (Payment payer drams) ∷ posted) g) same (subst (λ m. Kept prices (Entered (Payment payer drams) ∷ posted) (entry_group payer m old)) becomes (record {
      standings = λ at m there. ⊎_elim
          (λ h. ap (λ (x : Member). (register_at at x).standing) h.1 ∙ kept.standings at member (subst (λ p. slice_get members p ≡ Some member) (sym h.0) found))
          (λ h. kept.standings at m h.1)
          (found_after_set members payer debtor at.place m there);
      tallies = λ zone flow.
          let one = sum_of-set (tally_in zone flow) members payer member debtor found in
          omega (arith, ints, one, kept.tallies zone flow);
      energy = λ zone. energy_kept zone (Payment payer drams) posted payer debtor old (kept.energy zone);
      money = λ place m there. ⊎_elim
          (λ h. ap (λ (x : Member). worth x.account) h.1 ∙ (paid_worth drams member.account account took ∙ owes_less prices posted payer drams place (worth member.account) (same_place payer place h.0) (kept.money place member (subst (λ p. slice_get members p ≡ Some member) (sym h.0) found))))
          (λ h. kept.money place m h.1 ∙ owes_same prices posted payer drams place (other_place payer place h.0))
          (found_after_set members payer debtor place m there);
      classes = λ place m there. ⊎_elim
          (λ h. ap (λ (x : Member). x.class) h.1 ∙ kept.classes place member (subst (λ p. slice_get members p ≡ Some member) (sym h.0) found))
          (λ h. kept.classes place m h.1)
          (found_after_set members payer debtor place m there);
      holder = kept.holder;
      month = month_kept old.phase month (Payment payer drams) posted opened kept.month;
    }))

pub entry_kept : (prices : ℕ → Prices) (posted : List AcceptedCall) (old new : Group) (month : ℕ) (entry : Entry) → Kept prices posted old → old.phase ≡ Open month → entry_result (place_of entry) (recorded_member month entry) old ≡ Ok new → Kept prices (Entered entry ∷ posted) new
entry_kept prices posted old new month (Reading of day value) kept opened is = read_kept prices posted old new month (Reading of day value) of day value value kept opened is refl (λ at. refl) (λ place. refl)
entry_kept prices posted old new month (Change of day value start) kept opened is = read_kept prices posted old new month (Change of day value start) of day value start kept opened is refl (λ at. refl) (λ place. refl)
entry_kept prices posted old new month (Correction of kwh) kept opened is = corrected_kept prices posted old new month of kwh kept opened is
entry_kept prices posted old new month (Payment payer drams) kept opened is = paid_kept prices posted old new month payer drams kept opened is
