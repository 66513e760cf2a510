-- Every opening keeps what a history keeps.
use Rattle.std.proofs.Common.{◌≡◌, ℕ, List, [], ◌∷◌, map, Ok, pos, refl, sym, ap, ◌∙◌, subst, arith}
use Rattle.std.proofs.lemmas.Int.{ints}
use Rattle.std.specs.Option.{option_map_or}
use Rattle.billing.specs.Accounts.{worth}
use Rattle.ledger.specs.declared.zone.Flow.{Flow}
use Rattle.ledger.specs.declared.zone.Flow.TheVariants.{Consumed, Delivered}
use Rattle.ledger.specs.declared.zone.Zone.{Zone}
use Rattle.ledger.specs.declared.zone.Zone.TheVariants.{Day, Night}
use Rattle.group.proofs.Stepping.{made_ok}
use Rattle.group.specs.Groups.{blank, members_of, opening_result, opening_check}
use Rattle.group.specs.Members.{class_of, opened_member, register_at, standing_at}
use Rattle.group.specs.declared.group.Group.{Group}
use Rattle.group.specs.declared.group.Phase.TheVariants.{Open}
use Rattle.group.specs.declared.member.Member.{Member}
use Rattle.group.specs.declared.member.OpeningRecord.{OpeningRecord}
use Rattle.group.specs.Months.{Prices}
use Rattle.tariff.specs.declared.class.Class.TheVariants.{Other}
use Rattle.balance.proofs.Found.{found_in_map, sum_of}
use Rattle.balance.proofs.Kept.{Kept}
use Rattle.balance.proofs.Slots.{slot, tally_in}
use Rattle.balance.specs.Balances.{EnergyBalances}
use Rattle.balance.specs.Postings.{Opened}

opens_at : (place : ℕ) (zone : Zone) (flow : Flow) (opening : OpeningRecord) → (register_at (slot place zone flow) (opened_member opening)).standing ≡ standing_at (slot place zone flow) opening
opens_at place Day Consumed opening = refl
opens_at place Day Delivered opening = refl
opens_at place Night Consumed opening = refl
opens_at place Night Delivered opening = refl

opens_untallied : (zone : Zone) (flow : Flow) (opening : OpeningRecord) → tally_in zone flow (opened_member opening) ≡ pos 0
opens_untallied Day Consumed opening = refl
opens_untallied Day Delivered opening = refl
opens_untallied Night Consumed opening = refl
opens_untallied Night Delivered opening = refl

untallied : (zone : Zone) (flow : Flow) (records : List OpeningRecord) → sum_of (tally_in zone flow) (map opened_member records) ≡ pos 0
untallied zone flow [] = refl
untallied zone flow (r ∷ rs) = let rest = untallied zone flow rs in omega (arith, ints, rest, opens_untallied zone flow r)

energy_opens : (zone : Zone) (start holder : ℕ) (records : List OpeningRecord) (group : Group) → group.carried ≡ record { day = 0; night = 0 } → EnergyBalances zone (Opened start holder records ∷ []) group
energy_opens Day start holder records group none = rw none (omega (arith, ints))
energy_opens Night start holder records group none = rw none (omega (arith, ints))

pub opening_kept : (prices : ℕ → Prices) (number start holder : ℕ) (records : List OpeningRecord) (new : Group) → opening_result number start holder records ≡ Ok new → Kept prices (Opened start holder records ∷ []) new
opening_kept prices number start holder records new is =
    let (done, goes, same) = made_ok (λ (done : Unit {0}). record blank { number = number; holder = holder; members = record { items = members_of records }; phase = Open start }) (opening_check start holder records) new is in
    subst (λ g. Kept prices (Opened start holder records ∷ []) g) same (record {
      standings = λ at m there.
          let (r, found, is) = found_in_map opened_member records at.place m there in
          ap (λ (x : Member). (register_at at x).standing) (sym is) ∙ (opens_at at.place at.zone at.flow r ∙ ap (λ o. option_map_or (standing_at at) o 0) (sym found));
      tallies = λ zone flow. untallied zone flow records;
      energy = λ zone. energy_opens zone start holder records (record blank { number = number; holder = holder; members = record { items = members_of records }; phase = Open start }) refl;
      money = λ place m there.
          let (r, found, is) = found_in_map opened_member records place m there in
          ap (λ (x : Member). worth x.account) (sym is) ∙ omega (arith, ints);
      classes = λ place m there.
          let (r, found, is) = found_in_map opened_member records place m there in
          ap (λ (x : Member). x.class) (sym is) ∙ ap (λ o. option_map_or class_of o Other) (sym found);
      holder = refl;
      month = refl;
    })
