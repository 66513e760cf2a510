-- A group opens within the ranges of its figures.
use Rattle.std.proofs.Common.{◌≡◌, ℕ, suc, zero, ◌<◌, ◌≤◌, List, [], ◌∷◌, length, Ok, All, arith, subst, false, true, ◌*◌, ◌%◌}
use Rattle.std.proofs.lemmas.Bool.Decides.{nat_tests}
use Rattle.std.proofs.lemmas.List.{length-map}
use Rattle.std.specs.List.{list_any}
use Rattle.group.proofs.Stepping.{made_ok}
use Rattle.group.specs.Groups.{blank, is_producer, members_of, opening_result, opening_check, some_register_over}
use Rattle.group.specs.Members.{has_register_over, one_over, opened_flows, opened_member}
use Rattle.group.specs.declared.group.Group.{Group}
use Rattle.group.specs.declared.group.Phase.TheVariants.{Open}
use Rattle.group.specs.declared.member.OpeningRecord.{OpeningRecord}
use Rattle.ledger.specs.Zones.{in_zone}
use Rattle.ledger.specs.declared.zone.ByFlow.{ByFlow}
use Rattle.ledger.specs.declared.zone.Zone.{Zone}
use Rattle.ledger.specs.declared.zone.Zone.TheVariants.{Day, Night}
use Rattle.group.specs.Sound.{IsSound, AreSoundFlows, IsSoundMember, most_owed}

flows_open : (flows : ByFlow ℕ) → one_over flows ≡ false → AreSoundFlows (opened_flows flows)
flows_open flows is =
    let a : flows.consumed ≤ 9999999 = grind (arith, nat_tests) in
    let b : flows.delivered ≤ 9999999 = grind (arith, nat_tests) in
    record { consumed = record { standing = a; tally = omega arith }; delivered = record { standing = b; tally = omega arith } }

member_opens : (owed : ℕ) (opening : OpeningRecord) → has_register_over opening ≡ false → IsSoundMember owed (opened_member opening)
member_opens owed opening is =
    let a : one_over opening.standings.day ≡ false = grind (arith, nat_tests) in
    let b : one_over opening.standings.night ≡ false = grind (arith, nat_tests) in
    record {
      day = flows_open opening.standings.day a;
      night = flows_open opening.standings.night b;
      fraction = omega arith;
      debt = omega arith;
    }

members_open : (owed : ℕ) (records : List OpeningRecord) → list_any has_register_over records ≡ false → All (IsSoundMember owed) (members_of records)
members_open owed [] is k d inside = absurd (omega arith)
members_open owed (r ∷ rs) is zero d inside = let a : has_register_over r ≡ false = grind (arith, nat_tests) in member_opens owed r a
members_open owed (r ∷ rs) is (suc k) d inside = let a : list_any has_register_over rs ≡ false = grind (arith, nat_tests) in members_open owed rs a k d (omega arith)

-- the holder is one of the records
producer_inside : (place : ℕ) (records : List OpeningRecord) → is_producer place records ≡ true → place < length records
producer_inside place [] is = absurd cc
producer_inside zero (r ∷ rs) is = omega arith
producer_inside (suc place) (r ∷ rs) is = let h = producer_inside place rs is in omega arith

opening_holds : (start holder : ℕ) (records : List OpeningRecord) → opening_check start holder records ≡ Ok tt → (length records ≤ 32) × (start ≤ 1199) × (is_producer holder records ≡ true) × (some_register_over records ≡ false)
opening_holds start holder records is =
    let a : length records ≤ 32 = grind (arith, nat_tests) in
    let b : start ≤ 1199 = grind (arith, nat_tests) in
    let c : is_producer holder records ≡ true = grind (arith, nat_tests) in
    let d : some_register_over records ≡ false = grind (arith, nat_tests) in
    (a, b, c, d)

nothing_carried : (start : ℕ) (zone : Zone) → in_zone blank.carried zone ≤ 64000000 * (start % 12)
nothing_carried start Day = omega arith
nothing_carried start Night = omega arith

pub opening_sound : (number start holder : ℕ) (records : List OpeningRecord) (after : Group) → opening_result number start holder records ≡ Ok after → IsSound after
opening_sound number start holder records after is =
    let (done, goes, same) = made_ok (λ (done : Unit {0}). record blank { number = number; holder = holder; members = record { items = members_of records }; phase = Open start }) (opening_check start holder records) after is in
    let (few, last, producer, seven) = opening_holds start holder records goes in
    let P : Group → Type 0 = λ g. IsSound g in
    let as_many = length-map records opened_member in
    let inside = producer_inside holder records producer in
    subst P same (record {
      few = omega (arith, as_many, few);
      each = members_open (most_owed (Open start)) records seven;
      carried = nothing_carried start;
      entries = omega arith;
      phase = (last, omega (arith, as_many, inside));
      unopened = λ never. absurd cc;
    })
