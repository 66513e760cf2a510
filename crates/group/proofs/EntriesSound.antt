-- No entry leaves the ranges of a group's figures.
use Rattle.std.proofs.Common.{Err, length-set, Some, slice_get, ap, ◌≡◌, ℕ, ◌+◌, ◌*◌, ◌<◌, ◌≤◌, Ok, Result, ℤ, nat_abs, arith, subst, sym}
use Rattle.std.proofs.lemmas.Bool.Decides.{nat_tests}
use Rattle.std.proofs.lemmas.Grind.{common_steps}
use Rattle.std.proofs.lemmas.Int.{ints}
use Rattle.billing.specs.declared.account.Account.{Account}
use Rattle.ledger.specs.declared.entry.Entry.{Entry}
use Rattle.ledger.specs.declared.entry.Entry.TheVariants.{Reading, Change, Correction, Payment}
use Rattle.ledger.specs.declared.entry.MemberRegister.{MemberRegister}
use Rattle.ledger.specs.declared.zone.ByFlow.{ByFlow}
use Rattle.ledger.specs.declared.zone.Flow.{Flow}
use Rattle.ledger.specs.declared.zone.Flow.TheVariants.{Consumed, Delivered}
use Rattle.ledger.specs.declared.zone.Zone.{Zone}
use Rattle.ledger.specs.declared.zone.Zone.TheVariants.{Day, Night}
use Rattle.group.proofs.Stepping.{and_then_ok, made_ok, ok_or_ok}
use Rattle.group.specs.Results.{Follows, and_then, result_map}
use Rattle.group.specs.declared.group.Phase.{Phase}
use Rattle.group.specs.declared.group.Phase.TheVariants.{Blank, Open, YearEnd, Over}
use Rattle.std.proofs.lemmas.List.Elements.{All-set}
use Rattle.group.specs.Groups.{entry_result, entry_group, member_at, most_in_month, room_for_entry}
use Rattle.group.specs.declared.group.Group.{Group}
use Rattle.group.specs.declared.refusal.BookRefusal.TheVariants as refused
use Rattle.group.specs.Members.{on_account, on_register, register_at, with_register}
use Rattle.group.specs.Payments.{with_payment}
use Rattle.group.specs.Registers.{with_correction, with_reading}
use Rattle.group.specs.declared.member.Member.{Member}
use Rattle.group.specs.declared.refusal.BookRefusal.{BookRefusal}
use Rattle.group.specs.declared.register.Register.{Register}
use Rattle.group.proofs.Lists.{found_all}
use Rattle.group.specs.Entries.{after_entry, open_month, place_of, recorded_member}
use Rattle.group.specs.Sound.{IsSound, AreSoundFlows, IsSoundMember, IsSoundPhase, IsSoundRegister, most_entries, most_owed}

-- what is read of a register is of seven digits, and its tally in range
read_sound : (month day value start : ℕ) (register after : Register) → with_reading month day value start register ≡ Ok after → IsSoundRegister after
read_sound month day value start register after is =
    let standing : after.standing ≤ 9999999 = grind (arith, nat_tests, common_steps) in
    let tally : nat_abs after.tally ≤ 1000000 = grind (arith, nat_tests, common_steps) in
    record { standing = standing; tally = tally }

-- so is it after a correction
corrected_sound : (kwh : ℤ) (register after : Register) → IsSoundRegister register → with_correction kwh register ≡ Ok after → IsSoundRegister after
corrected_sound kwh register after sound is =
    let standing : after.standing ≤ 9999999 = grind (arith, nat_tests, common_steps) in
    let tally : nat_abs after.tally ≤ 1000000 = grind (arith, nat_tests, common_steps) in
    record { standing = standing; tally = tally }

register_sound : (zone : Zone) (flow : Flow) (place owed : ℕ) (member : Member) → IsSoundMember owed member → IsSoundRegister (register_at (record { place = place; zone = zone; flow = flow }) member)
register_sound Day Consumed place owed member sound = sound.day.consumed
register_sound Day Delivered place owed member sound = sound.day.delivered
register_sound Night Consumed place owed member sound = sound.night.consumed
register_sound Night Delivered place owed member sound = sound.night.delivered

-- a record is sound with any sound registers
zones_sound : {day night : ByFlow Register} {owed : ℕ} {member : Member} → AreSoundFlows day → AreSoundFlows night → IsSoundMember owed member → IsSoundMember owed (record member { registers = record { day = day; night = night } })
zones_sound d n m = record { day = d; night = n; fraction = m.fraction; debt = m.debt }

-- a record stays sound where one register is replaced by a sound one
replaced_sound : (zone : Zone) (flow : Flow) (place owed : ℕ) (register : Register) (member : Member) → IsSoundRegister register → IsSoundMember owed member → IsSoundMember owed (with_register (record { place = place; zone = zone; flow = flow }) register member)
replaced_sound Day Consumed place owed register member r m = zones_sound (record { consumed = r; delivered = m.day.delivered }) m.night m
replaced_sound Day Delivered place owed register member r m = zones_sound (record { consumed = m.day.consumed; delivered = r }) m.night m
replaced_sound Night Consumed place owed register member r m = zones_sound m.day (record { consumed = r; delivered = m.night.delivered }) m
replaced_sound Night Delivered place owed register member r m = zones_sound m.day (record { consumed = m.night.consumed; delivered = r }) m

on_register_sound : (at : MemberRegister) (step : Register → Result Register BookRefusal) → ((register after : Register) → IsSoundRegister register → step register ≡ Ok after → IsSoundRegister after) → (owed : ℕ) (member after : Member) → IsSoundMember owed member → on_register at step member ≡ Ok after → IsSoundMember owed after
on_register_sound at step keeps owed member after sound is =
    let own = register_at at member in
    let (register, stepped, same) = made_ok (λ (r : Register). with_register at r member) (step own) after is in
    let kept : IsSoundRegister register = keeps own register (register_sound at.zone at.flow at.place owed member sound) stepped in
    let P : Member → Type 0 = λ m. IsSoundMember owed m in
    subst P same (replaced_sound at.zone at.flow at.place owed register member kept sound)

paid_owed : (drams owed : ℕ) (account after : Account) → 1000000000 ≤ owed → nat_abs account.debt ≤ owed → with_payment drams account ≡ Ok after → nat_abs after.debt ≤ owed
paid_owed drams owed account after enough within is = grind (arith, ints, nat_tests, common_steps)

paid_fraction : (drams : ℕ) (account after : Account) → with_payment drams account ≡ Ok after → after.fraction ≡ account.fraction
paid_fraction drams account after is = grind (arith, nat_tests, common_steps)

paid_sound : (drams owed : ℕ) (member after : Member) → 1000000000 ≤ owed → IsSoundMember owed member → on_account (with_payment drams) member ≡ Ok after → IsSoundMember owed after
paid_sound drams owed member after enough sound is =
    let (account, stepped, same) = made_ok (λ (account : Account). record member { account = account }) (with_payment drams member.account) after is in
    let P : Member → Type 0 = λ m. IsSoundMember owed m in
    let kept = paid_fraction drams member.account account stepped in
    subst P same (record {
      day = sound.day;
      night = sound.night;
      fraction = omega (arith, kept, sound.fraction);
      debt = paid_owed drams owed member.account account enough sound.debt stepped;
    })

-- no entry leaves the ranges of the record that it is for
recorded_sound : (month : ℕ) (entry : Entry) (owed : ℕ) (member after : Member) → 1000000000 ≤ owed → IsSoundMember owed member → recorded_member month entry member ≡ Ok after → IsSoundMember owed after
recorded_sound month (Reading at day value) owed member after enough sound is = on_register_sound at (with_reading month day value value) (λ register read_register _ told. read_sound month day value value register read_register told) owed member after sound is
recorded_sound month (Change at day value start) owed member after enough sound is = on_register_sound at (with_reading month day value start) (λ register read_register _ told. read_sound month day value start register read_register told) owed member after sound is
recorded_sound month (Correction at kwh) owed member after enough sound is = on_register_sound at (with_correction kwh) (corrected_sound kwh) owed member after sound is
recorded_sound month (Payment place drams) owed member after enough sound is = paid_sound drams owed member after enough sound is

open_is : (phase : Phase) (month : ℕ) → open_month phase ≡ Ok month → phase ≡ Open month
open_is Blank month is = absurd cc
open_is (Open m) month is = cc
open_is (YearEnd d) month is = absurd cc
open_is Over month is = absurd cc

-- in an open month what may be owed is at least what a payment may leave
owed_enough : (phase : Phase) (month : ℕ) → phase ≡ Open month → 1000000000 ≤ most_owed phase
owed_enough phase month is = let owed : most_owed phase ≡ 1000000000 + 2000000000000 * month = ap most_owed is in omega (arith, owed)

-- one entry more fits into the month
has_room : (group : Group) (done : Unit {0}) → room_for_entry group ≡ Ok done → group.entries < most_in_month
has_room group done is = grind (arith, nat_tests)

-- where an entry does a step on a record, the record is found, the month has room, and the group has what the step makes of it
pub altered_found : (place : ℕ) (step : Member → Result Member BookRefusal) (old new : Group) → entry_result place step old ≡ Ok new → (member : Member) × (changed : Member) × (slice_get old.members.items place ≡ Some member) × (old.entries < most_in_month) × (step member ≡ Ok changed) × (entry_group place changed old ≡ new)
altered_found place step old new is =
    let (member, found, more) = and_then_ok (member_at place old) (λ (m : Member). and_then (room_for_entry old) (λ (room : Unit {0}). result_map (λ (a : Member). entry_group place a old) (step m))) new is in
    let (room, has, rest) = and_then_ok (room_for_entry old) (λ (room : Unit {0}). result_map (λ (a : Member). entry_group place a old) (step member)) new more in
    let (changed, stepped, same) = made_ok (λ (a : Member). entry_group place a old) (step member) new rest in
    (member, changed, ok_or_ok (slice_get old.members.items place) refused.Place member found, has_room old room has, stepped, same)

-- no entry leaves the ranges of a group's figures
altered_sound : (place month : ℕ) (step : Member → Result Member BookRefusal) (group after : Group) → group.phase ≡ Open month → ((member changed : Member) → IsSoundMember (most_owed group.phase) member → step member ≡ Ok changed → IsSoundMember (most_owed group.phase) changed) → IsSound group → entry_result place step group ≡ Ok after → IsSound after
altered_sound place month step group after opened keeps sound is =
    let (member, changed, found, room, stepped, same) = altered_found place step group after is in
    let P : Member → Type 0 = λ m. IsSoundMember (most_owed group.phase) m in
    let was : IsSoundMember (most_owed group.phase) member = found_all P group.members.items place member sound.each found in
    let kept : IsSoundMember (most_owed group.phase) changed = keeps member changed was stepped in
    let as_many = length-set group.members.items place changed in
    let most : most_entries group.phase ≡ 1000 = ap most_entries opened in
    let Q : Group → Type 0 = λ g. IsSound g in
    let R : ℕ → Type 0 = λ n. IsSoundPhase group.phase group.holder n in
    subst Q same (record {
      few = omega (arith, as_many, sound.few);
      each = All-set P group.members.items place changed kept sound.each;
      carried = sound.carried;
      entries = omega (arith, room, most);
      phase = subst R (sym as_many) sound.phase;
      unopened = λ never. absurd cc;
    })

entry_sound : (entry : Entry) (group after : Group) → IsSound group → after_entry entry group ≡ Ok after → IsSound after
entry_sound entry group after sound is =
    let (month, opened, rest) = and_then_ok (open_month group.phase) (λ (m : ℕ). entry_result (place_of entry) (recorded_member m entry) group) after is in
    let is_open = open_is group.phase month opened in
    let enough = owed_enough group.phase month is_open in
    altered_sound (place_of entry) month (recorded_member month entry) group after is_open (λ member changed was stepped. recorded_sound month entry (most_owed group.phase) member changed enough was stepped) sound rest

-- an entry that follows its step leaves a sound group
pub entry_follows : (entry : Entry) (old new : Group) (r : Result (Unit {0}) BookRefusal) → IsSound old → Follows (after_entry entry old) old r new → IsSound new
entry_follows entry old new (Ok done) sound follows = entry_sound entry old new sound follows
entry_follows entry old new (Err refusal) sound follows = let P : Group → Type 0 = λ g. IsSound g in subst P (sym follows.1) sound

-- in an open month an entry does what its step does to the record that it is for
pub open_follows : (entry : Entry) (month : ℕ) (old new : Group) (r : Result (Unit {0}) BookRefusal) → old.phase ≡ Open month → Follows (entry_result (place_of entry) (recorded_member month entry) old) old r new → Follows (after_entry entry old) old r new
open_follows entry month old new r is follows =
    let same : after_entry entry old ≡ entry_result (place_of entry) (recorded_member month entry) old = ap (λ p. and_then (open_month p) (λ (m : ℕ). entry_result (place_of entry) (recorded_member m entry) old)) is in
    let P : Result Group BookRefusal → Type 0 = λ step. Follows step old r new in
    subst P (sym same) follows
