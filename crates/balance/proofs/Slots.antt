-- Of the registers of a member.
use Rattle.std.proofs.Common.{◌≡◌, ℕ, ◌&&◌, if◌then◌else◌, ℤ, ◌+ℤ◌, Some, refl, arith}
use Rattle.std.proofs.lemmas.Int.{ints}
use Rattle.ledger.specs.Zones.{in_flow, in_zone}
use Rattle.ledger.specs.declared.entry.MemberRegister.{MemberRegister}
use Rattle.ledger.specs.declared.zone.Flow.{Flow}
use Rattle.ledger.specs.declared.zone.Flow.TheVariants.{Consumed, Delivered}
use Rattle.ledger.specs.declared.zone.Zone.{Zone}
use Rattle.ledger.specs.declared.zone.Zone.TheVariants.{Day, Night}
use Rattle.group.specs.Members.{register_at, with_register}
use Rattle.group.specs.declared.member.Member.{Member}
use Rattle.group.specs.declared.register.Register.{Register}
use Rattle.balance.specs.Postings.{energy_part, same_flow, same_zone}

-- the tally of a member in a zone and a flow
abbrev pub tally_in : Zone → Flow → Member → ℤ
tally_in zone flow member = (in_flow (in_zone member.registers zone) flow).tally

-- a register by its place, zone and flow
abbrev pub slot : ℕ → Zone → Flow → MemberRegister
slot place zone flow = record { place = place; zone = zone; flow = flow }

-- another value of one register is seen there alone
replaced : (pz : Zone) (pf : Flow) (qz : Zone) (qf : Flow) (p q : ℕ) (r : Register) (m : Member) → register_at (slot q qz qf) (with_register (slot p pz pf) r m) ≡ (if same_zone pz qz && same_flow pf qf then r else register_at (slot q qz qf) m)
replaced Day Consumed Day Consumed p q r m = refl
replaced Day Consumed Day Delivered p q r m = refl
replaced Day Consumed Night Consumed p q r m = refl
replaced Day Consumed Night Delivered p q r m = refl
replaced Day Delivered Day Consumed p q r m = refl
replaced Day Delivered Day Delivered p q r m = refl
replaced Day Delivered Night Consumed p q r m = refl
replaced Day Delivered Night Delivered p q r m = refl
replaced Night Consumed Day Consumed p q r m = refl
replaced Night Consumed Day Delivered p q r m = refl
replaced Night Consumed Night Consumed p q r m = refl
replaced Night Consumed Night Delivered p q r m = refl
replaced Night Delivered Day Consumed p q r m = refl
replaced Night Delivered Day Delivered p q r m = refl
replaced Night Delivered Night Consumed p q r m = refl
replaced Night Delivered Night Delivered p q r m = refl

pub register_replaced : (of at : MemberRegister) (r : Register) (m : Member) → register_at at (with_register of r m) ≡ (if same_zone of.zone at.zone && same_flow of.flow at.flow then r else register_at at m)
register_replaced of at r m = replaced of.zone of.flow at.zone at.flow of.place at.place r m

-- and moves one tally
tallies : (p : ℕ) (pz : Zone) (pf : Flow) (zone : Zone) (flow : Flow) (r : Register) (kwh : ℤ) (m : Member) → r.tally ≡ tally_in pz pf m +ℤ kwh → tally_in zone flow (with_register (slot p pz pf) r m) ≡ tally_in zone flow m +ℤ energy_part zone flow (Some (slot p pz pf, kwh))
tallies p Day Consumed Day Consumed r kwh m is = is
tallies p Day Consumed Day Delivered r kwh m is = omega (arith, ints)
tallies p Day Consumed Night Consumed r kwh m is = omega (arith, ints)
tallies p Day Consumed Night Delivered r kwh m is = omega (arith, ints)
tallies p Day Delivered Day Consumed r kwh m is = omega (arith, ints)
tallies p Day Delivered Day Delivered r kwh m is = is
tallies p Day Delivered Night Consumed r kwh m is = omega (arith, ints)
tallies p Day Delivered Night Delivered r kwh m is = omega (arith, ints)
tallies p Night Consumed Day Consumed r kwh m is = omega (arith, ints)
tallies p Night Consumed Day Delivered r kwh m is = omega (arith, ints)
tallies p Night Consumed Night Consumed r kwh m is = is
tallies p Night Consumed Night Delivered r kwh m is = omega (arith, ints)
tallies p Night Delivered Day Consumed r kwh m is = omega (arith, ints)
tallies p Night Delivered Day Delivered r kwh m is = omega (arith, ints)
tallies p Night Delivered Night Consumed r kwh m is = omega (arith, ints)
tallies p Night Delivered Night Delivered r kwh m is = is

pub tally_replaced : (of : MemberRegister) (zone : Zone) (flow : Flow) (r : Register) (kwh : ℤ) (m : Member) → r.tally ≡ (register_at of m).tally +ℤ kwh → tally_in zone flow (with_register of r m) ≡ tally_in zone flow m +ℤ energy_part zone flow (Some (of, kwh))
tally_replaced of zone flow r kwh m is = tallies of.place of.zone of.flow zone flow r kwh m is
