-- What an accepted issue makes of a month: who is covered what by the book's rule, and which bills it writes.
use Rattle.std.specs.Prelude.{◌≡◌, ◌⊎◌, ℕ, ◌+◌, List, map, sum, ℤ, pos, ◌-ℤ◌, Ok}
use Rattle.ledger.specs.Zones.{in_zone}
use Rattle.ledger.specs.declared.bill.Bill.{Bill}
use Rattle.ledger.specs.declared.zone.Zone.{Zone}
use Rattle.billing.specs.Zones.{need, surplus}
use Rattle.group.specs.declared.group.Group.{Group}
use Rattle.group.specs.Drafts.{Stamp, drawing_result, issue_result}
use Rattle.group.specs.Months.{KeepsSharingLaw, Prices, Share, net_in}

-- the members' nets in a zone, in order of place
abbrev pub member_nets : Zone → Group → List ℤ
member_nets zone group = map (net_in zone) group.members.items

-- what each member needs in a zone
abbrev pub member_needs : Zone → Group → List ℕ
member_needs zone group = map need (member_nets zone group)

-- what a zone has to share: what it carried, and all that members have over
abbrev pub zone_pool : Zone → Group → ℕ
zone_pool zone group = in_zone group.carried zone + sum (map surplus (member_nets zone group))

-- what the bills cover in a zone, in order of place
abbrev pub covered_of : Zone → List Bill → List ℕ
covered_of zone bills = map (λ bill. in_zone bill.covered zone) bills

-- what each bill has in a zone in all, billed and covered
abbrev pub supplied_of : Zone → List Bill → List ℕ
supplied_of zone bills = map (λ bill. in_zone bill.billed zone + in_zone bill.covered zone) bills

-- the bills cover the rule's shares of a zone's pool among the needs, each has its member's whole need, and the rest of the pool is carried on
pub record SharesZone (share : Share) (old new : Group) (bills : List Bill) (zone : Zone) : Type 0 where
  pub covered_are : covered_of zone bills ≡ share (zone_pool zone old) (member_needs zone old)
  pub needs_are : supplied_of zone bills ≡ member_needs zone old
  pub pool_is : in_zone new.carried zone + sum (covered_of zone bills) ≡ zone_pool zone old

-- so every accepted issue shares each zone, by any rule that keeps the law
abbrev pub IssuesShare : Type 0
IssuesShare =
    (share : Share) (prices : ℕ → Prices) (stamp : Stamp) (places : ℕ)
    (old new : Group) (bills : List Bill)
    → KeepsSharingLaw share → issue_result share prices stamp places old ≡ Ok (bills, new)
    → (zone : Zone) → SharesZone share old new bills zone

-- a net is its need less its surplus, one of which is nothing
pub record SplitsNet (net : ℤ) : Type 0 where
  pub net_is : pos (need net) -ℤ pos (surplus net) ≡ net
  pub one_alone : (need net ≡ 0) ⊎ (surplus net ≡ 0)

-- so every net is split
abbrev pub NetsSplit : Type 0
NetsSplit = (net : ℤ) → SplitsNet net

-- an accepted issue writes the bills of a drawing that is made now, which has the three numbers of its draft
abbrev pub IssuesWriteDrawings : Type 0
IssuesWriteDrawings =
    (share : Share) (prices : ℕ → Prices) (stamp : Stamp) (places : ℕ)
    (old new : Group) (bills : List Bill)
    → issue_result share prices stamp places old ≡ Ok (bills, new)
    → drawing_result share prices places old ≡ Ok (stamp, bills)
