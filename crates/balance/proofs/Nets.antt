-- What the members' nets come to, and what a zone bills and carries of them.
use Rattle.std.proofs.Common.{◌≡◌, ℕ, suc, ◌+◌, List, [], ◌∷◌, length, map, drop, sum, get_or, ℤ, pos, negsuc, ◌-ℤ◌, ◌⊎◌, inl, inr, ⊎_elim, refl, ap, ◌∙◌, sym, arith, drop-cons, drop_of_length-le, add-one, ◌<◌}
use Rattle.std.proofs.lemmas.Bool.{cases_lt}
use Rattle.std.proofs.lemmas.Int.{ints}
use Rattle.sharing.specs.KeepingTheLaw.{sum_cons, sum_less}
use Rattle.billing.specs.Zones.{need, needs_of, surplus}
use Rattle.ledger.specs.Zones.{in_zone}
use Rattle.billing.specs.declared.supply.Supply.{Supply}
use Rattle.ledger.specs.declared.zone.ByZone.{ByZone}
use Rattle.ledger.specs.declared.zone.Flow.TheVariants.{Consumed, Delivered}
use Rattle.ledger.specs.declared.zone.Zone.{Zone}
use Rattle.ledger.specs.declared.zone.Zone.TheVariants.{Day, Night}
use Rattle.group.specs.declared.group.Group.{Group}
use Rattle.group.specs.declared.member.Member.{Member}
use Rattle.group.proofs.MonthsSound.{billed_length}
use Rattle.group.specs.Months.{KeepsSharingLaw, Share, Prices, bill_of, billed_in, by_place, carried_in, bills_of, net_in, nets_in, nets_of, pool_in, supplies_at}
use Rattle.balance.proofs.Bills.{bill_billed}
use Rattle.balance.proofs.Found.{sum_of}
use Rattle.balance.proofs.Slots.{tally_in}
use Rattle.balance.specs.Postings.{kwh_billed_by}

-- a net is its need less its surplus
pub net_is : (z : ℤ) → pos (need z) -ℤ pos (surplus z) ≡ z
net_is (pos n) = omega (arith, ints)
net_is (negsuc n) = omega (arith, ints)

nets_sum : (zone : Zone) (members : List Member) → pos (sum (map need (nets_of zone members))) -ℤ pos (sum (map surplus (nets_of zone members))) ≡ sum_of (net_in zone) members
nets_sum zone [] = refl
nets_sum zone (m ∷ ms) =
    let rest = nets_sum zone ms in
    let net = net_is (net_in zone m) in
    let n = sum_cons (need (net_in zone m)) (map need (nets_of zone ms)) in
    let s = sum_cons (surplus (net_in zone m)) (map surplus (nets_of zone ms)) in
    omega (arith, ints, rest, net, n, s)

net_of_tallies : (zone : Zone) (member : Member) → net_in zone member ≡ tally_in zone Consumed member -ℤ tally_in zone Delivered member
net_of_tallies Day member = refl
net_of_tallies Night member = refl

-- the nets are what is tallied as consumed less what is tallied as delivered
pub nets_of_tallies : (zone : Zone) (members : List Member) → sum_of (net_in zone) members ≡ sum_of (tally_in zone Consumed) members -ℤ sum_of (tally_in zone Delivered) members
nets_of_tallies zone [] = refl
nets_of_tallies zone (m ∷ ms) = let rest = nets_of_tallies zone ms in let one = net_of_tallies zone m in omega (arith, ints, rest, one)

-- what is carried on less what is billed is what was carried less the nets
pub zone_balances : (share : Share) → KeepsSharingLaw share → (zone : Zone) (group : Group) → pos (carried_in share zone group) -ℤ pos (sum (billed_in share zone group)) ≡ pos (in_zone group.carried zone) -ℤ sum_of (net_in zone) group.members.items
zone_balances share keeps zone group =
    let pool = pool_in zone group in
    let needs = needs_of (nets_in zone group) in
    let shares = share pool needs in
    let law = keeps pool needs in
    let rest = sum_less needs shares law.as_many law.within in
    let nets = nets_sum zone group.members.items in
    omega (arith, ints, law.whole, rest, nets)

-- a zone does not both bill and carry
pub zone_not_both : (share : Share) → KeepsSharingLaw share → (zone : Zone) (group : Group) → (sum (billed_in share zone group) ≡ 0) ⊎ (carried_in share zone group ≡ 0)
zone_not_both share keeps zone group =
    let pool = pool_in zone group in
    let needs = needs_of (nets_in zone group) in
    let shares = share pool needs in
    let law = keeps pool needs in
    let rest = sum_less needs shares law.as_many law.within in
    ⊎_elim (λ short. inr (omega (arith, law.whole, short))) (λ enough. inl (omega (arith, law.whole, rest, enough))) (cases_lt pool (sum needs))

-- the bills bill just what the zone bills
bills_bill : (zone : Zone) (price : Prices) (supply : ℕ → ByZone Supply) (billed : List ℕ) → ((place : ℕ) → (in_zone (supply place) zone).billed ≡ get_or billed place 0) → (first : ℕ) (members : List Member) → first + length members ≡ length billed → kwh_billed_by zone (by_place (λ place member. bill_of price member (supply place)) first members) ≡ sum (drop first billed)
bills_bill zone price supply billed told first [] all = sym (ap sum (drop_of_length-le billed (omega arith)))
bills_bill zone price supply billed told first (m ∷ ms) all =
    let f = λ (place : ℕ) (member : Member). bill_of price member (supply place) in
    let rest = bills_bill zone price supply billed told (first + 1) ms (omega arith) in
    let own = bill_billed zone price m (supply first).day (supply first).night ∙ told first in
    let inside : first < length billed = omega arith in
    let front = ap sum (drop-cons billed first 0 inside) ∙ sum_cons (get_or billed first 0) (drop (suc first) billed) in
    let bills = sum_cons (in_zone (f first m).billed zone) (map (λ bill. in_zone bill.billed zone) (by_place f (first + 1) ms)) in
    let next : sum (drop (first + 1) billed) ≡ sum (drop (suc first) billed) = ap (λ n. sum (drop n billed)) (add-one first) in
    omega (arith, rest, own, front, bills, next)

supplied : (share : Share) (zone : Zone) (group : Group) (place : ℕ) → (in_zone (supplies_at share group place) zone).billed ≡ get_or (billed_in share zone group) place 0
supplied share Day group place = refl
supplied share Night group place = refl

pub bills_billed : (share : Share) (zone : Zone) (price : Prices) (group : Group) → kwh_billed_by zone (bills_of share price group) ≡ sum (billed_in share zone group)
bills_billed share zone price group = bills_bill zone price (λ place. supplies_at share group place) (billed_in share zone group) (supplied share zone group) 0 group.members.items (omega (arith, billed_length share zone group))
