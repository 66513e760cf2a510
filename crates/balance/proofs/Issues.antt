-- Every issue keeps what a history keeps.
use Rattle.std.proofs.Common.{◌≡◌, ℕ, ◌+◌, List, [], ◌∷◌, slice_get, Some, ℤ, pos, ◌+ℤ◌, refl, sym, ap, ap₂, ◌∙◌, subst, arith}
use Rattle.std.proofs.lemmas.Bool.Decides.{nat_tests}
use Rattle.std.proofs.lemmas.Int.{ints}
use Rattle.std.specs.Option.{option_map_or}
use Rattle.billing.specs.Accounts.{worth}
use Rattle.billing.specs.Costs.{month_cost}
use Rattle.ledger.specs.Zones.{in_zone}
use Rattle.ledger.specs.declared.bill.Bill.{Bill}
use Rattle.ledger.specs.declared.zone.Flow.TheVariants.{Consumed, Delivered}
use Rattle.ledger.specs.declared.zone.Zone.{Zone}
use Rattle.ledger.specs.declared.zone.Zone.TheVariants.{Day, Night}
use Rattle.group.specs.Members.{register_at}
use Rattle.group.specs.declared.group.Group.{Group}
use Rattle.group.specs.declared.group.Phase.TheVariants.{Open}
use Rattle.group.specs.declared.member.Member.{Member}
use Rattle.tariff.specs.declared.class.Class.{Class}
use Rattle.group.specs.Drafts.{after_month, next_phase}
use Rattle.group.specs.Months.{KeepsSharingLaw, Prices, Share, bill_of, billed_member, by_place, carried_in, each_zone, bills_of, supplies_at}
use Rattle.balance.proofs.Bills.{billed_class, billed_stands, billed_tally, billed_worth, line_charges}
use Rattle.balance.proofs.Found.{by_place_at, found_by_place, sum_of}
use Rattle.balance.proofs.Kept.{Kept, MonthKept}
use Rattle.balance.proofs.Nets.{bills_billed, nets_of_tallies, zone_balances}
use Rattle.balance.proofs.Slots.{tally_in}
use Rattle.balance.specs.Postings.{Issued, AcceptedCall, charge, class_at, month_after, prices_for}

-- where nothing is left of each element, nothing is left of all
nothing_left : {A B : Type 0} (f : B → ℤ) (g : ℕ → A → B) → ((place : ℕ) (x : A) → f (g place x) ≡ pos 0) → (first : ℕ) (xs : List A) → sum_of f (by_place g first xs) ≡ pos 0
nothing_left f g none first [] = refl
nothing_left f g none first (x ∷ xs) = let rest = nothing_left f g none (first + 1) xs in omega (arith, ints, rest, none first x)

pub carried_is : (share : Share) (zone : Zone) (group : Group) → in_zone (each_zone (λ z. carried_in share z group)) zone ≡ carried_in share zone group
carried_is share Day group = refl
carried_is share Night group = refl

-- the month after the one that is issued
month_kept : (month : ℕ) (posted : List AcceptedCall) (bills : List Bill) → month ≡ month_after posted → MonthKept (next_phase month) (Issued bills ∷ posted)
month_kept month posted bills is = grind (arith, nat_tests)

-- what the bill at a place charges, at the prices that the history tells
line_told : (share : Share) (prices : ℕ → Prices) (month : ℕ) (posted : List AcceptedCall) (old : Group) (place : ℕ) (member : Member) → month ≡ month_after posted → member.class ≡ class_at place posted → slice_get old.members.items place ≡ Some member
    → option_map_or (charge (prices_for prices (month_after posted) (class_at place posted))) (slice_get (bills_of share (prices month) old) place) 0 ≡ month_cost (λ service. prices month service member.class) (supplies_at share old (0 + place))
line_told share prices month posted old place member at class found =
    let bill = bill_of (prices month) member (supplies_at share old (0 + place)) in
    let there = by_place_at (λ p m. bill_of (prices month) m (supplies_at share old p)) 0 old.members.items place member found in
    ap (λ o. option_map_or (charge (prices_for prices (month_after posted) (class_at place posted))) o 0) there
    ∙ (ap₂ (λ m (c : Class). charge (prices_for prices m c) bill) (sym at) (sym class)
    ∙ line_charges (prices month) member (supplies_at share old (0 + place)))

pub issue_kept : (share : Share) → KeepsSharingLaw share → (prices : ℕ → Prices) (posted : List AcceptedCall) (old : Group) (month : ℕ) → Kept prices posted old → old.phase ≡ Open month → Kept prices (Issued (bills_of share (prices month) old) ∷ posted) (after_month share prices month old)
issue_kept share keeps prices posted old month kept opened =
    let members = old.members.items in
    let price = prices month in
    let bills = bills_of share price old in
    let at : month ≡ month_after posted = subst (λ phase. MonthKept phase posted) opened kept.month in
    let g = λ (place : ℕ) (member : Member). billed_member price member (supplies_at share old place) in
    record {
      standings = λ at m there.
          let (x, found, is) = found_by_place g 0 members at.place m there in
          ap (λ (y : Member). (register_at at y).standing) (sym is) ∙ (billed_stands at price x (supplies_at share old (0 + at.place)) ∙ kept.standings at x found);
      tallies = λ zone flow. nothing_left (tally_in zone flow) g (λ place x. billed_tally zone flow price x (supplies_at share old place)) 0 members;
      energy = λ zone.
          let before = kept.energy zone in
          let moved = zone_balances share keeps zone old in
          let nets = nets_of_tallies zone members in
          let consumed = kept.tallies zone Consumed in
          let delivered = kept.tallies zone Delivered in
          let is_billed = bills_billed share zone price old in
          let carries = carried_is share zone old in
          omega (arith, ints, before, moved, nets, consumed, delivered, is_billed, carries);
      money = λ place m there.
          let (x, found, is) = found_by_place g 0 members place m there in
          let supplies = supplies_at share old (0 + place) in
          ap (λ (y : Member). worth y.account) (sym is) ∙ (billed_worth price x supplies
          ∙ ap₂ (λ a n. a +ℤ pos n) (kept.money place x found) (sym (line_told share prices month posted old place x at (kept.classes place x found) found)));
      classes = λ place m there.
          let (x, found, is) = found_by_place g 0 members place m there in
          ap (λ (y : Member). y.class) (sym is) ∙ (billed_class price x (supplies_at share old (0 + place)) ∙ kept.classes place x found);
      holder = kept.holder;
      month = month_kept month posted bills at;
    }
