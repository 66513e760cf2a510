-- What a bill does to the record of a member, and what its bill charges.
use Rattle.std.proofs.Common.{◌≡◌, ℕ, ℤ, pos, negsuc, ◌+ℤ◌, refl, arith}
use Rattle.std.proofs.lemmas.Int.{ints}
use Rattle.billing.specs.Accounts.{sum_owed, worth}
use Rattle.billing.specs.Costs.{month_cost}
use Rattle.billing.specs.declared.account.Account.{Account}
use Rattle.billing.specs.declared.supply.Supply.{Supply}
use Rattle.ledger.specs.Zones.{in_zone}
use Rattle.ledger.specs.declared.entry.MemberRegister.{MemberRegister}
use Rattle.ledger.specs.declared.zone.ByZone.{ByZone}
use Rattle.ledger.specs.declared.zone.Flow.{Flow}
use Rattle.ledger.specs.declared.zone.Flow.TheVariants.{Consumed, Delivered}
use Rattle.ledger.specs.declared.zone.Zone.{Zone}
use Rattle.ledger.specs.declared.zone.Zone.TheVariants.{Day, Night}
use Rattle.group.specs.Members.{register_at}
use Rattle.group.specs.declared.member.Member.{Member}
use Rattle.group.specs.Months.{Prices, bill_of, billed_member, posted_account}
use Rattle.balance.proofs.Slots.{slot, tally_in}
use Rattle.balance.specs.Postings.{charge}

stands : (place : ℕ) (zone : Zone) (flow : Flow) (price : Prices) (member : Member) (supplies : ByZone Supply) → (register_at (slot place zone flow) (billed_member price member supplies)).standing ≡ (register_at (slot place zone flow) member).standing
unfolding billed_member
stands place Day Consumed price member supplies = refl
stands place Day Delivered price member supplies = refl
stands place Night Consumed price member supplies = refl
stands place Night Delivered price member supplies = refl

-- it leaves each register as it stands
pub billed_stands : (at : MemberRegister) (price : Prices) (member : Member) (supplies : ByZone Supply) → (register_at at (billed_member price member supplies)).standing ≡ (register_at at member).standing
billed_stands at price member supplies = stands at.place at.zone at.flow price member supplies

-- with nothing tallied
pub billed_tally : (zone : Zone) (flow : Flow) (price : Prices) (member : Member) (supplies : ByZone Supply) → tally_in zone flow (billed_member price member supplies) ≡ pos 0
unfolding billed_member
billed_tally Day Consumed price member supplies = refl
billed_tally Day Delivered price member supplies = refl
billed_tally Night Consumed price member supplies = refl
billed_tally Night Delivered price member supplies = refl

pub billed_class : (price : Prices) (member : Member) (supplies : ByZone Supply) → (billed_member price member supplies).class ≡ member.class
unfolding billed_member
billed_class price member supplies = refl

worth_moves : (account : Account) (amount z : ℤ) → sum_owed account amount ≡ z → worth (posted_account account amount) ≡ worth account +ℤ amount
worth_moves account amount (pos n) is = rw is (omega (arith, ints, is))
worth_moves account amount (negsuc n) is = rw is (omega (arith, ints, is))

-- an amount in hundredths of a dram moves the account by just that
pub posted_worth : (account : Account) (amount : ℤ) → worth (posted_account account amount) ≡ worth account +ℤ amount
posted_worth account amount = worth_moves account amount (sum_owed account amount) refl

-- and the account moves by what the month costs
pub billed_worth : (price : Prices) (member : Member) (supplies : ByZone Supply) → worth (billed_member price member supplies).account ≡ worth member.account +ℤ pos (month_cost (λ service. price service member.class) supplies)
unfolding billed_member
billed_worth price member supplies = posted_worth member.account (pos (month_cost (λ service. price service member.class) supplies))

-- which is what the bill charges
pub line_charges : (price : Prices) (member : Member) (supplies : ByZone Supply) → charge (λ service. price service member.class) (bill_of price member supplies) ≡ month_cost (λ service. price service member.class) supplies
unfolding bill_of
line_charges price member supplies = refl

-- the bill has what the member is billed
pub bill_billed : (zone : Zone) (price : Prices) (member : Member) (day night : Supply) → in_zone (bill_of price member (record { day = day; night = night })).billed zone ≡ (in_zone (record { day = day; night = night }) zone).billed
unfolding bill_of
bill_billed Day price member day night = refl
bill_billed Night price member day night = refl
