-- How much the members of a sound group can need and have over.
use Rattle.std.proofs.Common.{◌≡◌, ℕ, zero, suc, ◌*◌, ◌≤◌, List, [], ◌∷◌, length, map, ℤ, ◌-ℤ◌, nat_abs, All, arith, sum, false, nat_lt, refl, get_or}
use Rattle.std.proofs.lemmas.Bool.Decides.{nat_tests}
use Rattle.std.proofs.lemmas.Int.{ints}
use Rattle.std.specs.List.{list_any}
use Rattle.sharing.specs.KeepingTheLaw.{sum_cons}
use Rattle.billing.specs.Zones.{need, surplus}
use Rattle.ledger.specs.declared.zone.ByFlow.{ByFlow}
use Rattle.ledger.specs.declared.zone.Zone.{Zone}
use Rattle.ledger.specs.declared.zone.Zone.TheVariants.{Day, Night}
use Rattle.group.specs.declared.member.Member.{Member}
use Rattle.group.specs.declared.register.Register.{Register}
use Rattle.group.specs.Months.{net_in}
use Rattle.group.specs.Sound.{AreSoundFlows, IsSoundMember}

need_of_tallies : (a b : ℤ) → nat_abs a ≤ 1000000 → nat_abs b ≤ 1000000 → need (a -ℤ b) ≤ 2000000
need_of_tallies a b p q = grind (arith, ints)

surplus_of_tallies : (a b : ℤ) → nat_abs a ≤ 1000000 → nat_abs b ≤ 1000000 → surplus (a -ℤ b) ≤ 2000000
surplus_of_tallies a b p q = grind (arith, ints)

need_of_flows : (flows : ByFlow Register) → AreSoundFlows flows → need (flows.consumed.tally -ℤ flows.delivered.tally) ≤ 2000000
need_of_flows flows sound = need_of_tallies flows.consumed.tally flows.delivered.tally sound.consumed.tally sound.delivered.tally

surplus_of_flows : (flows : ByFlow Register) → AreSoundFlows flows → surplus (flows.consumed.tally -ℤ flows.delivered.tally) ≤ 2000000
surplus_of_flows flows sound = surplus_of_tallies flows.consumed.tally flows.delivered.tally sound.consumed.tally sound.delivered.tally

-- in either zone, a member needs at most 2,000,000 kWh and has at most as many over
pub need_within : (zone : Zone) (owed : ℕ) (member : Member) → IsSoundMember owed member → need (net_in zone member) ≤ 2000000
need_within Day owed member sound = need_of_flows member.registers.day sound.day
need_within Night owed member sound = need_of_flows member.registers.night sound.night

surplus_within : (zone : Zone) (owed : ℕ) (member : Member) → IsSoundMember owed member → surplus (net_in zone member) ≤ 2000000
surplus_within Day owed member sound = surplus_of_flows member.registers.day sound.day
surplus_within Night owed member sound = surplus_of_flows member.registers.night sound.night

-- together the members have at most 2,000,000 kWh each over
pub surpluses_within : (zone : Zone) (owed : ℕ) (members : List Member) → All (IsSoundMember owed) members → sum (map surplus (map (net_in zone) members)) ≤ 2000000 * length members
surpluses_within zone owed [] sound = omega arith
surpluses_within zone owed (member ∷ members) sound =
    let first = surplus_within zone owed member (sound 0 member (omega arith)) in
    let rest = surpluses_within zone owed members (λ k d inside. sound (suc k) d (omega arith)) in
    omega (arith, first, rest, sum_cons (surplus (net_in zone member)) (map surplus (map (net_in zone) members)))

-- no need is over its limit
pub needs_within : (zone : Zone) (owed : ℕ) (members : List Member) → All (IsSoundMember owed) members → list_any (nat_lt 2000000) (map need (map (net_in zone) members)) ≡ false
needs_within zone owed [] sound = refl
needs_within zone owed (member ∷ members) sound =
    let first = need_within zone owed member (sound 0 member (omega arith)) in
    let rest = needs_within zone owed members (λ k d inside. sound (suc k) d (omega arith)) in
    grind (arith, nat_tests)

-- no member needs more in either zone
pub need_at : (zone : Zone) (owed : ℕ) (members : List Member) → All (IsSoundMember owed) members → (place : ℕ) → get_or (map need (map (net_in zone) members)) place 0 ≤ 2000000
need_at zone owed [] sound place = omega arith
need_at zone owed (member ∷ members) sound zero = need_within zone owed member (sound 0 member (omega arith))
need_at zone owed (member ∷ members) sound (suc place) = need_at zone owed members (λ k d inside. sound (suc k) d (omega arith)) place
