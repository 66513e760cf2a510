-- A call answers a refusal where its test holds, and an accepted entry is one of which none does.
use Rattle.std.proofs.Common.{◌≡◌, ℕ, ◌-◌, Bool, true, false, not, ◌||◌, if◌then◌else◌, List, pos, ℤ, ◌+ℤ◌, ◌-ℤ◌, Option, Some, None, is_none, slice_get, Ok, Err, Result, ap, refl, subst, ◌∙◌, arith}
use Rattle.std.proofs.lemmas.Bool.Decides.{nat_tests}
use Rattle.std.specs.Option.{ok_or, option_map_or}
use Rattle.billing.specs.declared.account.Account.{Account}
use Rattle.ledger.specs.declared.bill.Bill.{Bill}
use Rattle.ledger.specs.declared.bill.YearEnd.{YearEnd as YearFigures}
use Rattle.ledger.specs.declared.entry.Entry.{Entry}
use Rattle.ledger.specs.declared.entry.Entry.TheVariants.{Reading, Change, Correction, Payment}
use Rattle.group.proofs.Stepping.{and_then_ok, made_ok, ok_or_ok}
use Rattle.group.specs.Books.{after_opening, blank_check, was_opened}
use Rattle.group.specs.Drafts.{Stamp, after_month, drawing_month, drawing_result, draft_is_out_of_date, is_current, issue_result, slice_is_too_short, stamp_of}
use Rattle.group.specs.Entries.{after_entry, amount_is_outside, no_month_is_open, open_month, place_of, recorded_member}
use Rattle.group.specs.Groups.{blank, count_is_outside, entry_group, entry_result, holder_produces_nothing, is_over_capacity, member_at, members_of, month_is_full, opening_check, place_has_no_record, opening_result, room_for_entry, some_register_over, start_is_too_late}
use Rattle.group.specs.Members.{register_at, with_register}
use Rattle.group.specs.Months.{Prices, Share, bills_of}
use Rattle.group.specs.Payments.{debt_would_be_too_low, payment_is_outside, with_payment}
use Rattle.group.specs.Registers.{day_is_outside, is_beyond, is_over, quantity, tally_with, value_is_below, value_is_too_large, with_correction, with_reading, with_value}
use Rattle.group.specs.Results.{and_then, result_map}
use Rattle.group.specs.Standing.{ClosingsStandByTests, DrawingsStandByTests, EntriesStandByTests, IssuesStandByTests, MembersStandByTests, OpeningsStandByTests, below_stands, day_stands, debt_stands, holds_of_member, holds_of_month, stands_for_closing, stands_for_drawing, stands_for_entry, stands_for_issue, stands_for_member, stands_for_opening, tally_stands}
use Rattle.group.specs.Years.{after_year, closing_result, no_year_has_ended, open_year, preview_result, year_figures}
use Rattle.group.specs.declared.group.Group.{Group}
use Rattle.group.specs.declared.group.Phase.{Phase}
use Rattle.group.specs.declared.group.Phase.TheVariants.{Blank, Open, YearEnd, Over}
use Rattle.group.specs.declared.member.Member.{Member}
use Rattle.group.specs.declared.member.OpeningRecord.{OpeningRecord}
use Rattle.group.specs.declared.refusal.BookRefusal.{BookRefusal}
use Rattle.group.specs.declared.refusal.BookRefusal.TheVariants as refused
use Rattle.group.specs.declared.register.Register.{Register}

-- a step that tests refuses by its test, or goes on
if_err : {A : Type 0} (P : BookRefusal → Type 0) (test : Bool) (e r : BookRefusal) (rest : Result A BookRefusal) → (if test then Err e else rest) ≡ Err r → (test ≡ true → P e) → (rest ≡ Err r → P r) → P r
if_err P true e r rest is stands later = let same : e ≡ r = cc in subst P same (stands refl)
if_err P false e r rest is stands later = later is

-- and goes on where the test does not hold
if_ok : {A : Type 0} (test : Bool) (e : BookRefusal) (rest : Result A BookRefusal) (a : A) → (if test then Err e else rest) ≡ Ok a → (test ≡ false) × (rest ≡ Ok a)
if_ok true e rest a is = absurd cc
if_ok false e rest a is = (refl, is)

-- of two steps one refuses
and_then_err : {A B : Type 0} (P : Type 0) (first : Result A BookRefusal) (step : A → Result B BookRefusal) (r : BookRefusal) → and_then first step ≡ Err r → (first ≡ Err r → P) → ((a : A) → first ≡ Ok a → step a ≡ Err r → P) → P
and_then_err P (Ok a) step r is f g = g a refl is
and_then_err P (Err e) step r is f g = let same : e ≡ r = cc in f (ap Err same)

-- the step that something is made of refuses
made_err : {A B : Type 0} (f : A → B) (first : Result A BookRefusal) (r : BookRefusal) → result_map f first ≡ Err r → first ≡ Err r
made_err f (Ok a) r is = absurd cc
made_err f (Err e) r is = let same : e ≡ r = cc in ap Err same

-- there is nothing
ok_or_err : {A : Type 0} (o : Option A) (e r : BookRefusal) → ok_or o e ≡ Err r → (is_none o ≡ true) × (e ≡ r)
ok_or_err (Some x) e r is = absurd cc
ok_or_err None e r is = (refl, cc)

same_or : (b c : Bool) → (b || b) ≡ c → b ≡ c
same_or true c is = is
same_or false c is = is

quantity_is : (standing value kwh : ℕ) → quantity standing value ≡ Some kwh → kwh ≡ value - standing
unfolding quantity
quantity_is standing value kwh is = grind (arith, nat_tests)

-- what a test holds of, where a month is open
of_month : (test : ℕ → Bool) (phase : Phase) (month : ℕ) (b : Bool) → open_month phase ≡ Ok month → test month ≡ b → holds_of_month test phase ≡ b
of_month test Blank month b is holds = absurd cc
of_month test (Open m) month b is holds = let same : m ≡ month = cc in ap test same ∙ holds
of_month test (YearEnd d) month b is holds = absurd cc
of_month test Over month b is holds = absurd cc

-- and where a record is found
of_member : (test : Member → Bool) (place : ℕ) (group : Group) (member : Member) (b : Bool) → slice_get group.members.items place ≡ Some member → test member ≡ b → holds_of_member test place group ≡ b
of_member test place group member b found holds = ap (λ (o : Option Member). option_map_or test o false) found ∙ holds

no_month : (phase : Phase) (r : BookRefusal) → open_month phase ≡ Err r → (no_month_is_open phase ≡ true) × (refused.NoMonth ≡ r)
no_month Blank r is = (refl, cc)
no_month (Open m) r is = absurd cc
no_month (YearEnd d) r is = (refl, cc)
no_month Over r is = (refl, cc)

some_month : (phase : Phase) (month : ℕ) → open_month phase ≡ Ok month → no_month_is_open phase ≡ false
some_month Blank month is = absurd cc
some_month (Open m) month is = refl
some_month (YearEnd d) month is = absurd cc
some_month Over month is = absurd cc

no_year : (phase : Phase) (r : BookRefusal) → open_year phase ≡ Err r → (no_year_has_ended phase ≡ true) × (refused.NoYearEnd ≡ r)
no_year Blank r is = (refl, cc)
no_year (Open m) r is = (refl, cc)
no_year (YearEnd d) r is = absurd cc
no_year Over r is = (refl, cc)

-- the register that a reading leaves
abbrev left_register : (start : ℕ) → ℤ → Register
left_register start tally = record { standing = start; tally = tally }

tally_err : (P : BookRefusal → Type 0) (tally kwh : ℤ) (r : BookRefusal) → tally_with tally kwh ≡ Err r → (is_beyond (tally +ℤ kwh) ≡ true → P refused.Tally) → P r
tally_err P tally kwh r is beyond = if_err P (is_beyond (tally +ℤ kwh)) refused.Tally r (Ok (tally +ℤ kwh)) is beyond (λ ok. absurd cc)

value_err : (P : BookRefusal → Type 0) (value start : ℕ) (register : Register) (r : BookRefusal) → with_value value start register ≡ Err r → (value_is_below register.standing value ≡ true → P refused.Below) → (is_beyond (register.tally +ℤ pos (value - register.standing)) ≡ true → P refused.Tally) → P r
value_err P value start register r is below beyond =
    and_then_err (P r) (ok_or (quantity register.standing value) refused.Below) (λ (kwh : ℕ). result_map (λ (tally : ℤ). left_register start tally) (tally_with register.tally (pos kwh))) r is
    (λ none. let (lacks, same) = ok_or_err (quantity register.standing value) refused.Below r none in subst P same (below lacks))
    (λ kwh some rest.
    let told = quantity_is register.standing value kwh (ok_or_ok (quantity register.standing value) refused.Below kwh some) in
    let over = made_err (λ (tally : ℤ). left_register start tally) (tally_with register.tally (pos kwh)) r rest in
    tally_err P register.tally (pos kwh) r over (λ far. beyond (subst (λ (k : ℕ). is_beyond (register.tally +ℤ pos k) ≡ true) told far)))

reading_err : (P : BookRefusal → Type 0) (month day value start : ℕ) (register : Register) (r : BookRefusal) → with_reading month day value start register ≡ Err r → (day_is_outside month day ≡ true → P refused.Day) → (value_is_too_large value start ≡ true → P refused.Value) → (value_is_below register.standing value ≡ true → P refused.Below) → (is_beyond (register.tally +ℤ pos (value - register.standing)) ≡ true → P refused.Tally) → P r
reading_err P month day value start register r is outside large below beyond =
    if_err P (day_is_outside month day) refused.Day r (if value_is_too_large value start then Err refused.Value else with_value value start register) is outside (λ rest.
    if_err P (value_is_too_large value start) refused.Value r (with_value value start register) rest large (λ more.
    value_err P value start register r more below beyond))

recorded_err : (P : BookRefusal → Type 0) (month : ℕ) (entry : Entry) (member : Member) (r : BookRefusal) → recorded_member month entry member ≡ Err r → (day_stands entry month ≡ true → P refused.Day) → (amount_is_outside entry ≡ true → P refused.Value) → (below_stands entry member ≡ true → P refused.Below) → (tally_stands entry member ≡ true → P refused.Tally) → (debt_stands entry member ≡ true → P refused.Debt) → P r
recorded_err P month (Reading at day value) member r is outside large below beyond low =
    reading_err P month day value value (register_at at member) r (made_err (λ (register : Register). with_register at register member) (with_reading month day value value (register_at at member)) r is) outside (λ over. large (same_or (is_over value) true over)) below beyond
recorded_err P month (Change at day value start) member r is outside large below beyond low =
    reading_err P month day value start (register_at at member) r (made_err (λ (register : Register). with_register at register member) (with_reading month day value start (register_at at member)) r is) outside large below beyond
recorded_err P month (Correction at kwh) member r is outside large below beyond low =
    let corrected = made_err (λ (register : Register). with_register at register member) (with_correction kwh (register_at at member)) r is in
    let register = register_at at member in
    if_err P (is_beyond kwh) refused.Value r (result_map (λ (tally : ℤ). left_register register.standing tally) (tally_with register.tally kwh)) corrected large (λ rest.
    tally_err P register.tally kwh r (made_err (λ (tally : ℤ). left_register register.standing tally) (tally_with register.tally kwh) r rest) beyond)
recorded_err P month (Payment place drams) member r is outside large below beyond low =
    let account = member.account in
    let paid : Account = record account { debt = account.debt -ℤ pos drams } in
    let refuses = made_err (λ (a : Account). record member { account = a }) (with_payment drams account) r is in
    if_err P (payment_is_outside drams) refused.Value r (if debt_would_be_too_low drams account then Err refused.Debt else Ok paid) refuses large (λ rest.
    if_err P (debt_would_be_too_low drams account) refused.Debt r (Ok paid) rest low (λ ok. absurd cc))

entries_are_refused : (entry : Entry) (group : Group) (refusal : BookRefusal) → after_entry entry group ≡ Err refusal → stands_for_entry refusal entry group ≡ true
entries_are_refused entry group r is =
    let P : BookRefusal → Type 0 = λ e. stands_for_entry e entry group ≡ true in
    let place = place_of entry in
    and_then_err (P r) (open_month group.phase) (λ (m : ℕ). entry_result place (recorded_member m entry) group) r is
    (λ none. let (lacks, same) = no_month group.phase r none in subst P same lacks)
    (λ month opened rest.
    and_then_err (P r) (member_at place group) (λ (m : Member). and_then (room_for_entry group) (λ (room : Unit {0}). result_map (λ (a : Member). entry_group place a group) (recorded_member month entry m))) r rest
    (λ nobody. let (lacks, same) = ok_or_err (slice_get group.members.items place) refused.Place r nobody in subst P same lacks)
    (λ member there more.
    let found = ok_or_ok (slice_get group.members.items place) refused.Place member there in
    and_then_err (P r) (room_for_entry group) (λ (room : Unit {0}). result_map (λ (a : Member). entry_group place a group) (recorded_member month entry member)) r more
    (λ full. if_err P (month_is_full group) refused.Full r (Ok tt) full (λ stands. stands) (λ ok. absurd cc))
    (λ room has last.
    recorded_err P month entry member r (made_err (λ (a : Member). entry_group place a group) (recorded_member month entry member) r last)
    (λ outside. of_month (day_stands entry) group.phase month true opened outside)
    (λ large. large)
    (λ below. of_member (below_stands entry) place group member true found below)
    (λ beyond. of_member (tally_stands entry) place group member true found beyond)
    (λ low. of_member (debt_stands entry) place group member true found low))))

-- an opening is checked by its tests
check_err : (P : BookRefusal → Type 0) (start holder : ℕ) (records : List OpeningRecord) (r : BookRefusal) → opening_check start holder records ≡ Err r → (count_is_outside records ≡ true → P refused.Count) → (start_is_too_late start ≡ true → P refused.Start) → (is_over_capacity records ≡ true → P refused.Capacity) → (holder_produces_nothing holder records ≡ true → P refused.Holder) → (some_register_over records ≡ true → P refused.Register) → P r
check_err P start holder records r is count late capacity produces over =
    let done : Result (Unit {0}) BookRefusal = Ok tt in
    let fifth : Result (Unit {0}) BookRefusal = if some_register_over records then Err refused.Register else done in
    let fourth : Result (Unit {0}) BookRefusal = if holder_produces_nothing holder records then Err refused.Holder else fifth in
    let third : Result (Unit {0}) BookRefusal = if is_over_capacity records then Err refused.Capacity else fourth in
    let second : Result (Unit {0}) BookRefusal = if start_is_too_late start then Err refused.Start else third in
    if_err P (count_is_outside records) refused.Count r second is count (λ a.
    if_err P (start_is_too_late start) refused.Start r third a late (λ b.
    if_err P (is_over_capacity records) refused.Capacity r fourth b capacity (λ c.
    if_err P (holder_produces_nothing holder records) refused.Holder r fifth c produces (λ d.
    if_err P (some_register_over records) refused.Register r done d over (λ ok. absurd cc)))))

openings_are_refused : (number start holder : ℕ) (records : List OpeningRecord) (group : Group) (refusal : BookRefusal) → after_opening number start holder records group ≡ Err refusal → stands_for_opening refusal start holder records group ≡ true
openings_are_refused number start holder records group r is =
    let P : BookRefusal → Type 0 = λ e. stands_for_opening e start holder records group ≡ true in
    and_then_err (P r) (blank_check group.phase) (λ (done : Unit {0}). opening_result number start holder records) r is
    (λ opened. if_err P (was_opened group.phase) refused.Opened r (Ok tt) opened (λ stands. stands) (λ ok. absurd cc))
    (λ done ok rest.
    check_err P start holder records r
    (made_err (λ (d : Unit {0}). record blank { number = number; holder = holder; members = record { items = members_of records }; phase = Open start }) (opening_check start holder records) r rest)
    (λ stands. stands) (λ stands. stands) (λ stands. stands) (λ stands. stands) (λ stands. stands))

month_err : (P : BookRefusal → Type 0) (places : ℕ) (group : Group) (r : BookRefusal) → drawing_month places group ≡ Err r → (no_month_is_open group.phase ≡ true → P refused.NoMonth) → (slice_is_too_short places group ≡ true → P refused.Bills) → P r
month_err P places group r is none short =
    and_then_err (P r) (open_month group.phase) (λ (m : ℕ). if slice_is_too_short places group then Err refused.Bills else Ok m) r is
    (λ closed. let (lacks, same) = no_month group.phase r closed in subst P same (none lacks))
    (λ month opened rest. if_err P (slice_is_too_short places group) refused.Bills r (Ok month) rest short (λ ok. absurd cc))

drawings_are_refused : (share : Share) (prices : ℕ → Prices) (places : ℕ) (group : Group) (refusal : BookRefusal) → drawing_result share prices places group ≡ Err refusal → stands_for_drawing refusal places group ≡ true
drawings_are_refused share prices places group r is =
    month_err (λ e. stands_for_drawing e places group ≡ true) places group r
    (made_err (λ (month : ℕ). (stamp_of month group, bills_of share (prices month) group)) (drawing_month places group) r is)
    (λ stands. stands) (λ stands. stands)

-- a stale draft is not current
stale_err : {A : Type 0} (P : BookRefusal → Type 0) (current : Bool) (a : A) (r : BookRefusal) → (if current then Ok a else Err refused.Draft) ≡ Err r → (current ≡ false → P refused.Draft) → P r
stale_err P true a r is stale = absurd cc
stale_err P false a r is stale = let same : refused.Draft ≡ r = cc in subst P same (stale refl)

issues_are_refused : (share : Share) (prices : ℕ → Prices) (stamp : Stamp) (places : ℕ) (group : Group) (refusal : BookRefusal) → issue_result share prices stamp places group ≡ Err refusal → stands_for_issue refusal stamp places group ≡ true
issues_are_refused share prices stamp places group r is =
    let P : BookRefusal → Type 0 = λ e. stands_for_issue e stamp places group ≡ true in
    let A : ℕ → List Bill × Group = λ m. (bills_of share (prices m) group, after_month share prices m group) in
    and_then_err (P r) (drawing_month places group) (λ (m : ℕ). if is_current group stamp then Ok (A m) else Err refused.Draft) r is
    (λ none. month_err P places group r none (λ stands. stands) (λ stands. stands))
    (λ month draws rest. stale_err P (is_current group stamp) (A month) r rest (λ stale. ap (λ (b : Bool). not b) stale))

closings_are_refused : (prices : ℕ → Prices) (group : Group) (refusal : BookRefusal) → closing_result prices group ≡ Err refusal → stands_for_closing refusal group ≡ true
closings_are_refused prices group r is =
    let (lacks, same) = no_year group.phase r (made_err (λ (d : ℕ). (year_figures (prices d) group, after_year prices d group)) (open_year group.phase) r is) in
    subst (λ (e : BookRefusal). stands_for_closing e group ≡ true) same lacks

value_ok : (value start : ℕ) (register after : Register) → with_value value start register ≡ Ok after → (value_is_below register.standing value ≡ false) × (is_beyond (register.tally +ℤ pos (value - register.standing)) ≡ false)
value_ok value start register after is =
    let (kwh, some, rest) = and_then_ok (ok_or (quantity register.standing value) refused.Below) (λ (k : ℕ). result_map (λ (tally : ℤ). left_register start tally) (tally_with register.tally (pos k))) after is in
    let there = ok_or_ok (quantity register.standing value) refused.Below kwh some in
    let (tally, near, same) = made_ok (λ (t : ℤ). left_register start t) (tally_with register.tally (pos kwh)) after rest in
    let (within, told) = if_ok (is_beyond (register.tally +ℤ pos kwh)) refused.Tally (Ok (register.tally +ℤ pos kwh)) tally near in
    (ap (λ (o : Option ℕ). is_none o) there, subst (λ (k : ℕ). is_beyond (register.tally +ℤ pos k) ≡ false) (quantity_is register.standing value kwh there) within)

-- no test of what an entry makes of a record holds
record NoneStands (month : ℕ) (entry : Entry) (member : Member) : Type 0 where
  day : day_stands entry month ≡ false
  value : amount_is_outside entry ≡ false
  below : below_stands entry member ≡ false
  tally : tally_stands entry member ≡ false
  debt : debt_stands entry member ≡ false

reading_ok : (month day value start : ℕ) (register after : Register) → with_reading month day value start register ≡ Ok after → (day_is_outside month day ≡ false) × (value_is_too_large value start ≡ false) × (value_is_below register.standing value ≡ false) × (is_beyond (register.tally +ℤ pos (value - register.standing)) ≡ false)
reading_ok month day value start register after is =
    let (inside, rest) = if_ok (day_is_outside month day) refused.Day (if value_is_too_large value start then Err refused.Value else with_value value start register) after is in
    let (small, more) = if_ok (value_is_too_large value start) refused.Value (with_value value start register) after rest in
    let (above, near) = value_ok value start register after more in
    (inside, small, above, near)

recorded_ok : (month : ℕ) (entry : Entry) (member changed : Member) → recorded_member month entry member ≡ Ok changed → NoneStands month entry member
recorded_ok month (Reading at day value) member changed is =
    let (register, read_register, same) = made_ok (λ (r : Register). with_register at r member) (with_reading month day value value (register_at at member)) changed is in
    let (inside, small, above, near) = reading_ok month day value value (register_at at member) register read_register in
    record { day = inside; value = same_or (is_over value) false small; below = above; tally = near; debt = refl }
recorded_ok month (Change at day value start) member changed is =
    let (register, read_register, same) = made_ok (λ (r : Register). with_register at r member) (with_reading month day value start (register_at at member)) changed is in
    let (inside, small, above, near) = reading_ok month day value start (register_at at member) register read_register in
    record { day = inside; value = small; below = above; tally = near; debt = refl }
recorded_ok month (Correction at kwh) member changed is =
    let before = register_at at member in
    let (register, corrected, same) = made_ok (λ (r : Register). with_register at r member) (with_correction kwh before) changed is in
    let (small, rest) = if_ok (is_beyond kwh) refused.Value (result_map (λ (tally : ℤ). left_register before.standing tally) (tally_with before.tally kwh)) register corrected in
    let (tally, near, told) = made_ok (λ (t : ℤ). left_register before.standing t) (tally_with before.tally kwh) register rest in
    let (within, sum_is) = if_ok (is_beyond (before.tally +ℤ kwh)) refused.Tally (Ok (before.tally +ℤ kwh)) tally near in
    record { day = refl; value = small; below = refl; tally = within; debt = refl }
recorded_ok month (Payment place drams) member changed is =
    let account = member.account in
    let paid : Account = record account { debt = account.debt -ℤ pos drams } in
    let (after, pays, same) = made_ok (λ (a : Account). record member { account = a }) (with_payment drams account) changed is in
    let (small, rest) = if_ok (payment_is_outside drams) refused.Value (if debt_would_be_too_low drams account then Err refused.Debt else Ok paid) after pays in
    let (enough, told) = if_ok (debt_would_be_too_low drams account) refused.Debt (Ok paid) after rest in
    record { day = refl; value = small; below = refl; tally = refl; debt = enough }

none_stands : (month : ℕ) (entry : Entry) (member : Member) (group : Group) → open_month group.phase ≡ Ok month → slice_get group.members.items (place_of entry) ≡ Some member → month_is_full group ≡ false → NoneStands month entry member → (refusal : BookRefusal) → stands_for_entry refusal entry group ≡ false
none_stands month entry member group opened found room none refused.Opened = refl
none_stands month entry member group opened found room none refused.Count = refl
none_stands month entry member group opened found room none refused.Start = refl
none_stands month entry member group opened found room none refused.Capacity = refl
none_stands month entry member group opened found room none refused.Holder = refl
none_stands month entry member group opened found room none refused.Register = refl
none_stands month entry member group opened found room none refused.NoMonth = some_month group.phase month opened
none_stands month entry member group opened found room none refused.NoYearEnd = refl
none_stands month entry member group opened found room none refused.Place = ap (λ (o : Option Member). is_none o) found
none_stands month entry member group opened found room none refused.Full = room
none_stands month entry member group opened found room none refused.Day = of_month (day_stands entry) group.phase month false opened none.day
none_stands month entry member group opened found room none refused.Value = none.value
none_stands month entry member group opened found room none refused.Below = of_member (below_stands entry) (place_of entry) group member false found none.below
none_stands month entry member group opened found room none refused.Tally = of_member (tally_stands entry) (place_of entry) group member false found none.tally
none_stands month entry member group opened found room none refused.Debt = of_member (debt_stands entry) (place_of entry) group member false found none.debt
none_stands month entry member group opened found room none refused.Bills = refl
none_stands month entry member group opened found room none refused.Draft = refl

entries_are_accepted : (entry : Entry) (old new : Group) (refusal : BookRefusal) → after_entry entry old ≡ Ok new → stands_for_entry refusal entry old ≡ false
entries_are_accepted entry old new refusal is =
    let place = place_of entry in
    let (month, opened, rest) = and_then_ok (open_month old.phase) (λ (m : ℕ). entry_result place (recorded_member m entry) old) new is in
    let (member, there, more) = and_then_ok (member_at place old) (λ (m : Member). and_then (room_for_entry old) (λ (room : Unit {0}). result_map (λ (a : Member). entry_group place a old) (recorded_member month entry m))) new rest in
    let found = ok_or_ok (slice_get old.members.items place) refused.Place member there in
    let (room, has, last) = and_then_ok (room_for_entry old) (λ (room : Unit {0}). result_map (λ (a : Member). entry_group place a old) (recorded_member month entry member)) new more in
    let (changed, recorded, same) = made_ok (λ (a : Member). entry_group place a old) (recorded_member month entry member) new last in
    let (space, done) = if_ok (month_is_full old) refused.Full (Ok tt) room has in
    none_stands month entry member old opened found space (recorded_ok month entry member changed recorded) refusal

no_opening_stands : (start holder : ℕ) (records : List OpeningRecord) (group : Group) → was_opened group.phase ≡ false → count_is_outside records ≡ false → start_is_too_late start ≡ false → is_over_capacity records ≡ false → holder_produces_nothing holder records ≡ false → some_register_over records ≡ false → (refusal : BookRefusal) → stands_for_opening refusal start holder records group ≡ false
no_opening_stands start holder records group fresh count early small produces low refused.Opened = fresh
no_opening_stands start holder records group fresh count early small produces low refused.Count = count
no_opening_stands start holder records group fresh count early small produces low refused.Start = early
no_opening_stands start holder records group fresh count early small produces low refused.Capacity = small
no_opening_stands start holder records group fresh count early small produces low refused.Holder = produces
no_opening_stands start holder records group fresh count early small produces low refused.Register = low
no_opening_stands start holder records group fresh count early small produces low refused.NoMonth = refl
no_opening_stands start holder records group fresh count early small produces low refused.NoYearEnd = refl
no_opening_stands start holder records group fresh count early small produces low refused.Place = refl
no_opening_stands start holder records group fresh count early small produces low refused.Full = refl
no_opening_stands start holder records group fresh count early small produces low refused.Day = refl
no_opening_stands start holder records group fresh count early small produces low refused.Value = refl
no_opening_stands start holder records group fresh count early small produces low refused.Below = refl
no_opening_stands start holder records group fresh count early small produces low refused.Tally = refl
no_opening_stands start holder records group fresh count early small produces low refused.Debt = refl
no_opening_stands start holder records group fresh count early small produces low refused.Bills = refl
no_opening_stands start holder records group fresh count early small produces low refused.Draft = refl

no_drawing_stands : (places : ℕ) (group : Group) → no_month_is_open group.phase ≡ false → slice_is_too_short places group ≡ false → (refusal : BookRefusal) → stands_for_drawing refusal places group ≡ false
no_drawing_stands places group some long refused.Opened = refl
no_drawing_stands places group some long refused.Count = refl
no_drawing_stands places group some long refused.Start = refl
no_drawing_stands places group some long refused.Capacity = refl
no_drawing_stands places group some long refused.Holder = refl
no_drawing_stands places group some long refused.Register = refl
no_drawing_stands places group some long refused.NoMonth = some
no_drawing_stands places group some long refused.NoYearEnd = refl
no_drawing_stands places group some long refused.Place = refl
no_drawing_stands places group some long refused.Full = refl
no_drawing_stands places group some long refused.Day = refl
no_drawing_stands places group some long refused.Value = refl
no_drawing_stands places group some long refused.Below = refl
no_drawing_stands places group some long refused.Tally = refl
no_drawing_stands places group some long refused.Debt = refl
no_drawing_stands places group some long refused.Bills = long
no_drawing_stands places group some long refused.Draft = refl

no_issue_stands : (stamp : Stamp) (places : ℕ) (group : Group) → no_month_is_open group.phase ≡ false → slice_is_too_short places group ≡ false → draft_is_out_of_date group stamp ≡ false → (refusal : BookRefusal) → stands_for_issue refusal stamp places group ≡ false
no_issue_stands stamp places group some long current refused.Opened = refl
no_issue_stands stamp places group some long current refused.Count = refl
no_issue_stands stamp places group some long current refused.Start = refl
no_issue_stands stamp places group some long current refused.Capacity = refl
no_issue_stands stamp places group some long current refused.Holder = refl
no_issue_stands stamp places group some long current refused.Register = refl
no_issue_stands stamp places group some long current refused.NoMonth = some
no_issue_stands stamp places group some long current refused.NoYearEnd = refl
no_issue_stands stamp places group some long current refused.Place = refl
no_issue_stands stamp places group some long current refused.Full = refl
no_issue_stands stamp places group some long current refused.Day = refl
no_issue_stands stamp places group some long current refused.Value = refl
no_issue_stands stamp places group some long current refused.Below = refl
no_issue_stands stamp places group some long current refused.Tally = refl
no_issue_stands stamp places group some long current refused.Debt = refl
no_issue_stands stamp places group some long current refused.Bills = long
no_issue_stands stamp places group some long current refused.Draft = current

no_closing_stands : (group : Group) → no_year_has_ended group.phase ≡ false → (refusal : BookRefusal) → stands_for_closing refusal group ≡ false
no_closing_stands group ended refused.Opened = refl
no_closing_stands group ended refused.Count = refl
no_closing_stands group ended refused.Start = refl
no_closing_stands group ended refused.Capacity = refl
no_closing_stands group ended refused.Holder = refl
no_closing_stands group ended refused.Register = refl
no_closing_stands group ended refused.NoMonth = refl
no_closing_stands group ended refused.NoYearEnd = ended
no_closing_stands group ended refused.Place = refl
no_closing_stands group ended refused.Full = refl
no_closing_stands group ended refused.Day = refl
no_closing_stands group ended refused.Value = refl
no_closing_stands group ended refused.Below = refl
no_closing_stands group ended refused.Tally = refl
no_closing_stands group ended refused.Debt = refl
no_closing_stands group ended refused.Bills = refl
no_closing_stands group ended refused.Draft = refl

month_ok : (places : ℕ) (group : Group) (month : ℕ) → drawing_month places group ≡ Ok month → (no_month_is_open group.phase ≡ false) × (slice_is_too_short places group ≡ false)
month_ok places group month draws =
    let (m, opened, rest) = and_then_ok (open_month group.phase) (λ (m : ℕ). if slice_is_too_short places group then Err refused.Bills else Ok m) month draws in
    let (long, same) = if_ok (slice_is_too_short places group) refused.Bills (Ok m) month rest in
    (some_month group.phase m opened, long)

openings_are_accepted : (number start holder : ℕ) (records : List OpeningRecord) (old new : Group) (refusal : BookRefusal) → after_opening number start holder records old ≡ Ok new → stands_for_opening refusal start holder records old ≡ false
openings_are_accepted number start holder records old new refusal is =
    let (done, fresh, rest) = and_then_ok (blank_check old.phase) (λ (d : Unit {0}). opening_result number start holder records) new is in
    let (unopened, begun) = if_ok (was_opened old.phase) refused.Opened (Ok tt) done fresh in
    let (checked, fits, same) = made_ok (λ (d : Unit {0}). record blank { number = number; holder = holder; members = record { items = members_of records }; phase = Open start }) (opening_check start holder records) new rest in
    let fifth : Result (Unit {0}) BookRefusal = if some_register_over records then Err refused.Register else Ok tt in
    let fourth : Result (Unit {0}) BookRefusal = if holder_produces_nothing holder records then Err refused.Holder else fifth in
    let third : Result (Unit {0}) BookRefusal = if is_over_capacity records then Err refused.Capacity else fourth in
    let second : Result (Unit {0}) BookRefusal = if start_is_too_late start then Err refused.Start else third in
    let (count, a) = if_ok (count_is_outside records) refused.Count second checked fits in
    let (early, b) = if_ok (start_is_too_late start) refused.Start third checked a in
    let (small, c) = if_ok (is_over_capacity records) refused.Capacity fourth checked b in
    let (produces, d) = if_ok (holder_produces_nothing holder records) refused.Holder fifth checked c in
    let (low, e) = if_ok (some_register_over records) refused.Register (Ok tt) checked d in
    no_opening_stands start holder records old unopened count early small produces low refusal

drawings_are_accepted : (share : Share) (prices : ℕ → Prices) (places : ℕ) (group : Group) (refusal : BookRefusal) (drawn : Stamp × List Bill) → drawing_result share prices places group ≡ Ok drawn → stands_for_drawing refusal places group ≡ false
drawings_are_accepted share prices places group refusal drawn is =
    let (month, draws, same) = made_ok (λ (m : ℕ). (stamp_of m group, bills_of share (prices m) group)) (drawing_month places group) drawn is in
    let (some, long) = month_ok places group month draws in
    no_drawing_stands places group some long refusal

-- a draft is current where an issue is accepted
current_ok : {A : Type 0} (current : Bool) (a : A) (b : A) → (if current then Ok a else Err refused.Draft) ≡ Ok b → current ≡ true
current_ok true a b is = refl
current_ok false a b is = absurd cc

issues_are_accepted : (share : Share) (prices : ℕ → Prices) (stamp : Stamp) (places : ℕ) (group : Group) (refusal : BookRefusal) (issued : List Bill × Group) → issue_result share prices stamp places group ≡ Ok issued → stands_for_issue refusal stamp places group ≡ false
issues_are_accepted share prices stamp places group refusal issued is =
    let A : ℕ → List Bill × Group = λ m. (bills_of share (prices m) group, after_month share prices m group) in
    let (month, draws, rest) = and_then_ok (drawing_month places group) (λ (m : ℕ). if is_current group stamp then Ok (A m) else Err refused.Draft) issued is in
    let (some, long) = month_ok places group month draws in
    no_issue_stands stamp places group some long (ap (λ (b : Bool). not b) (current_ok (is_current group stamp) (A month) issued rest)) refusal

some_year : (phase : Phase) (december : ℕ) → open_year phase ≡ Ok december → no_year_has_ended phase ≡ false
some_year Blank december is = absurd cc
some_year (Open m) december is = absurd cc
some_year (YearEnd d) december is = refl
some_year Over december is = absurd cc

closings_are_accepted : (prices : ℕ → Prices) (group : Group) (refusal : BookRefusal) (closed : YearFigures × Group) → closing_result prices group ≡ Ok closed → stands_for_closing refusal group ≡ false
closings_are_accepted prices group refusal closed is =
    let (december, ended, same) = made_ok (λ (d : ℕ). (year_figures (prices d) group, after_year prices d group)) (open_year group.phase) closed is in
    no_closing_stands group (some_year group.phase december ended) refusal

no_member_stands : (place : ℕ) (group : Group) → place_has_no_record place group ≡ false → (refusal : BookRefusal) → stands_for_member refusal place group ≡ false
no_member_stands place group there refused.Opened = refl
no_member_stands place group there refused.Count = refl
no_member_stands place group there refused.Start = refl
no_member_stands place group there refused.Capacity = refl
no_member_stands place group there refused.Holder = refl
no_member_stands place group there refused.Register = refl
no_member_stands place group there refused.NoMonth = refl
no_member_stands place group there refused.NoYearEnd = refl
no_member_stands place group there refused.Place = there
no_member_stands place group there refused.Full = refl
no_member_stands place group there refused.Day = refl
no_member_stands place group there refused.Value = refl
no_member_stands place group there refused.Below = refl
no_member_stands place group there refused.Tally = refl
no_member_stands place group there refused.Debt = refl
no_member_stands place group there refused.Bills = refl
no_member_stands place group there refused.Draft = refl

members_are_refused : (place : ℕ) (group : Group) (refusal : BookRefusal) → member_at place group ≡ Err refusal → stands_for_member refusal place group ≡ true
members_are_refused place group refusal is =
    let (lacks, same) = ok_or_err (slice_get group.members.items place) refused.Place refusal is in
    subst (λ (e : BookRefusal). stands_for_member e place group ≡ true) same lacks

members_are_accepted : (place : ℕ) (group : Group) (refusal : BookRefusal) (member : Member) → member_at place group ≡ Ok member → stands_for_member refusal place group ≡ false
members_are_accepted place group refusal member is =
    no_member_stands place group (ap (λ (o : Option Member). is_none o) (ok_or_ok (slice_get group.members.items place) refused.Place member is)) refusal

previews_are_refused : (prices : ℕ → Prices) (group : Group) (refusal : BookRefusal) → preview_result prices group ≡ Err refusal → stands_for_closing refusal group ≡ true
previews_are_refused prices group r is =
    let (lacks, same) = no_year group.phase r (made_err (λ (d : ℕ). year_figures (prices d) group) (open_year group.phase) r is) in
    subst (λ (e : BookRefusal). stands_for_closing e group ≡ true) same lacks

pub members : MembersStandByTests
members = record { refused = members_are_refused; accepted = members_are_accepted }

pub entries : EntriesStandByTests
entries = record { refused = entries_are_refused; accepted = entries_are_accepted }

pub openings : OpeningsStandByTests
openings = record { refused = openings_are_refused; accepted = openings_are_accepted }

pub drawings : DrawingsStandByTests
drawings = record { refused = drawings_are_refused; accepted = drawings_are_accepted }

pub issues : IssuesStandByTests
issues = record { refused = issues_are_refused; accepted = issues_are_accepted }

pub closings : ClosingsStandByTests
closings = record { refused = closings_are_refused; accepted = closings_are_accepted; previewed = previews_are_refused }
