-- What an accepted issue makes of a month.
use Rattle.std.proofs.Common.{◌≡◌, ℕ, ◌+◌, ◌<◌, List, [], ◌∷◌, length, map, drop, sum, get_or, pos, negsuc, inl, inr, Ok, Err, true, false, Bool, if◌then◌else◌, nat_lt, refl, sym, ap, ap₂, ◌∙◌, subst, arith, drop-cons, drop_of_length-le, add-one}
use Rattle.std.proofs.lemmas.Bool.Decides.{nat_tests}
use Rattle.std.proofs.lemmas.List.{length-map}
use Rattle.sharing.specs.KeepingTheLaw.{get_or_less}
use Rattle.billing.specs.Zones.{need, needs_of}
use Rattle.ledger.specs.Zones.{in_zone}
use Rattle.ledger.specs.declared.bill.Bill.{Bill}
use Rattle.ledger.specs.declared.zone.Zone.{Zone}
use Rattle.ledger.specs.declared.zone.Zone.TheVariants.{Day, Night}
use Rattle.group.proofs.MonthsSound.{covered_length, size}
use Rattle.group.proofs.Stepping.{and_then_ok}
use Rattle.group.specs.declared.group.Group.{Group}
use Rattle.group.specs.declared.group.Phase.{Phase}
use Rattle.group.specs.declared.group.Phase.TheVariants.{Blank, Open, YearEnd as AtYearEnd, Over}
use Rattle.group.specs.declared.member.Member.{Member}
use Rattle.group.specs.declared.refusal.BookRefusal.TheVariants as refused
use Rattle.group.specs.Drafts.{Stamp, after_month, drawing_month, drawing_result, is_current, stamp_of}
use Rattle.group.specs.Entries.{open_month}
use Rattle.group.specs.Results.{result_map}
use Rattle.group.specs.Months.{KeepsSharingLaw, Prices, Share, bill_of, billed_in, by_place, covered_in, bills_of, net_in, nets_in, pool_in, supplies_at}
use Rattle.balance.proofs.Issues.{carried_is}
use Rattle.balance.proofs.Nets.{net_is}
use Rattle.balance.proofs.Theorem.{issued_is, opened_in}
use Rattle.balance.specs.Issues.{IssuesShare, IssuesWriteDrawings, NetsSplit, SharesZone, covered_of, supplied_of}

-- what is told of each element by its place is a list of it, from the first place on
told_by_place : {A B : Type 0} (f : B → ℕ) (g : ℕ → A → B) (values : List ℕ) → ((place : ℕ) (x : A) → f (g place x) ≡ get_or values place 0) → (first : ℕ) (xs : List A) → first + length xs ≡ length values → map f (by_place g first xs) ≡ drop first values
told_by_place f g values told first [] all = sym (drop_of_length-le values (omega arith))
told_by_place f g values told first (x ∷ xs) all =
    let inside : first < length values = omega arith in
    let rest = told_by_place f g values told (first + 1) xs (omega arith) in
    ap₂ (λ v l. v ∷ l) (told first x) (rest ∙ ap (λ n. drop n values) (add-one first)) ∙ sym (drop-cons values first 0 inside)

line_covered : (share : Share) (zone : Zone) (price : Prices) (group : Group) (place : ℕ) (member : Member) → in_zone (bill_of price member (supplies_at share group place)).covered zone ≡ get_or (covered_in share zone group) place 0
unfolding bill_of
line_covered share Day price group place member = refl
line_covered share Night price group place member = refl

bill_billed : (share : Share) (zone : Zone) (price : Prices) (group : Group) (place : ℕ) (member : Member) → in_zone (bill_of price member (supplies_at share group place)).billed zone ≡ get_or (billed_in share zone group) place 0
unfolding bill_of
bill_billed share Day price group place member = refl
bill_billed share Night price group place member = refl

needs_length : (zone : Zone) (group : Group) → length (needs_of (nets_in zone group)) ≡ size group
needs_length zone group = length-map (nets_in zone group) need ∙ length-map group.members.items (net_in zone)

lines_cover : (share : Share) → KeepsSharingLaw share → (zone : Zone) (price : Prices) (group : Group) → covered_of zone (bills_of share price group) ≡ covered_in share zone group
lines_cover share keeps zone price group = told_by_place (λ (of_bill : Bill). in_zone of_bill.covered zone) (λ place member. bill_of price member (supplies_at share group place)) (covered_in share zone group) (λ place member. line_covered share zone price group place member) 0 group.members.items (omega (arith, covered_length share keeps zone group))

-- billed and covered at a place are its need
line_supplies : (share : Share) → KeepsSharingLaw share → (zone : Zone) (price : Prices) (group : Group) (place : ℕ) (member : Member) → in_zone (bill_of price member (supplies_at share group place)).billed zone + in_zone (bill_of price member (supplies_at share group place)).covered zone ≡ get_or (needs_of (nets_in zone group)) place 0
line_supplies share keeps zone price group place member =
    let needs = needs_of (nets_in zone group) in
    let law = keeps (pool_in zone group) needs in
    let rest = get_or_less needs (covered_in share zone group) place in
    let within = law.within place in
    let is_billed = bill_billed share zone price group place member in
    let covers = line_covered share zone price group place member in
    omega (arith, rest, within, is_billed, covers)

lines_supply : (share : Share) → KeepsSharingLaw share → (zone : Zone) (price : Prices) (group : Group) → supplied_of zone (bills_of share price group) ≡ needs_of (nets_in zone group)
lines_supply share keeps zone price group = told_by_place (λ (of_bill : Bill). in_zone of_bill.billed zone + in_zone of_bill.covered zone) (λ place member. bill_of price member (supplies_at share group place)) (needs_of (nets_in zone group)) (λ place member. line_supplies share keeps zone price group place member) 0 group.members.items (omega (arith, needs_length zone group))

month_shares : (share : Share) → KeepsSharingLaw share → (prices : ℕ → Prices) (month : ℕ) (old : Group) (zone : Zone) → SharesZone share old (after_month share prices month old) (bills_of share (prices month) old) zone
month_shares share keeps prices month old zone =
    let price = prices month in
    let law = keeps (pool_in zone old) (needs_of (nets_in zone old)) in
    let covers = lines_cover share keeps zone price old in
    let carries = carried_is share zone old in
    let all = ap sum covers in
    record {
      covered_are = covers;
      needs_are = lines_supply share keeps zone price old;
      pool_is = omega (arith, law.whole, carries, all);
    }

pub issues_share : IssuesShare
issues_share share prices stamp places old new bills keeps is zone =
    let (month, opens, writes, becomes) = issued_is share prices stamp places old new bills is in
    subst (λ g. SharesZone share old g bills zone) becomes (subst (λ l. SharesZone share old (after_month share prices month old) l zone) writes (month_shares share keeps prices month old zone))

pub nets_split : NetsSplit
nets_split (pos n) = record { net_is = net_is (pos n); one_alone = inr refl }
nets_split (negsuc n) = record { net_is = net_is (negsuc n); one_alone = inl refl }

accepted : {A E : Type 0} (b : Bool) (p q : A) (e : E) → (if b then Ok p else Err e) ≡ Ok q → (b ≡ true) × (p ≡ q)
accepted true p q e is = (refl, cc)
accepted false p q e is = absurd cc

-- the three numbers of a draft
abbrev three : (number month entries : ℕ) → Stamp
three number month entries = record { number = number; month = month; entries = entries }

-- a draft that is current has the three numbers of one that is drawn now
current_is_stamped : (phase : Phase) (month : ℕ) (group : Group) (stamp : Stamp) → phase ≡ Open month → is_current (record group { phase = phase }) stamp ≡ true → stamp_of month group ≡ stamp
current_is_stamped Blank month group stamp is current = absurd cc
current_is_stamped (Open m) month group stamp is current =
    let same : m ≡ month = cc in
    let a : group.number ≡ stamp.number = grind (arith, nat_tests) in
    let b : m ≡ stamp.month = grind (arith, nat_tests) in
    let c : group.entries ≡ stamp.entries = grind (arith, nat_tests) in
    ap (λ n. three n month group.entries) a
    ∙ (ap (λ n. three stamp.number n group.entries) (sym same ∙ b)
    ∙ ap (λ n. three stamp.number stamp.month n) c)
current_is_stamped (AtYearEnd december) month group stamp is current = absurd cc
current_is_stamped Over month group stamp is current = absurd cc

opened_of : (places : ℕ) (group : Group) (month : ℕ) → drawing_month places group ≡ Ok month → group.phase ≡ Open month
opened_of places group month draws =
    let (m, opens, fits) = and_then_ok (open_month group.phase) (λ (n : ℕ). if nat_lt places (length group.members.items) then Err refused.Bills else Ok n) month draws in
    let same : m ≡ month = grind (arith, nat_tests) in
    opened_in group.phase m opens ∙ ap Open same

pub issues_write_drawings : IssuesWriteDrawings
issues_write_drawings share prices stamp places old new bills is =
    let (month, draws, rest) = and_then_ok (drawing_month places old) (λ (m : ℕ). if is_current old stamp then Ok (bills_of share (prices m) old, after_month share prices m old) else Err refused.Draft) (bills, new) is in
    let answer : List Bill × Group = (bills_of share (prices month) old, after_month share prices month old) in
    let (current, same) = accepted (is_current old stamp) answer (bills, new) refused.Draft rest in
    let stamps = current_is_stamped old.phase month old stamp (opened_of places old month draws) current in
    let written_are : bills_of share (prices month) old ≡ bills = ap (λ (p : List Bill × Group). p.0) same in
    subst (λ l. drawing_result share prices places old ≡ Ok (stamp, l)) written_are
    (subst (λ s. drawing_result share prices places old ≡ Ok (s, bills_of share (prices month) old)) stamps
    (ap (result_map (λ (m : ℕ). (stamp_of m old, bills_of share (prices m) old))) draws))
