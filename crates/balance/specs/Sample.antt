-- One history with its figures, which balances, and the same with one kWh more on one bill, which does not.
use Rattle.std.specs.Prelude.{◌≡◌, ℕ, ◌+◌, ◌-◌, ◌*◌, ℤ, true, false, List, [], ◌∷◌, ◌++◌, take, Result, pos, negsuc, Ok, Err}
use Rattle.ledger.specs.declared.bill.Bill.{Bill}
use Rattle.ledger.specs.declared.bill.YearEnd.{YearEnd}
use Rattle.ledger.specs.declared.entry.Entry.TheVariants.{Reading, Change, Correction, Payment}
use Rattle.ledger.specs.declared.entry.MemberRegister.{MemberRegister}
use Rattle.ledger.specs.declared.zone.Flow.{Flow}
use Rattle.ledger.specs.declared.zone.Flow.TheVariants.{Consumed, Delivered}
use Rattle.ledger.specs.declared.zone.Zone.{Zone}
use Rattle.ledger.specs.declared.zone.Zone.TheVariants.{Day, Night}
use Rattle.billing.specs.declared.account.Account.{Account}
use Rattle.group.specs.Groups.{member_at}
use Rattle.group.specs.Members.{opening_record}
use Rattle.group.specs.Results.{result_map}
use Rattle.group.specs.declared.group.Group.{Group}
use Rattle.ledger.specs.declared.zone.ByZone.{ByZone}
use Rattle.group.specs.declared.member.OpeningRecord.{OpeningRecord}
use Rattle.group.specs.declared.refusal.BookRefusal.{BookRefusal}
use Rattle.group.specs.declared.refusal.BookRefusal.TheVariants.{Below, Draft, Holder}
use Rattle.sharing.specs.Rules.{line_order}
use Rattle.tariff.specs.declared.class.Class.{Class}
use Rattle.tariff.specs.declared.class.Class.TheVariants.{Household, Other, Vulnerable}
use Rattle.tariff.specs.declared.service.Service.TheVariants as service
use Rattle.group.specs.Drafts.{Stamp}
use Rattle.group.specs.Months.{Prices}
use Rattle.balance.specs.Balances.{IsBalancedThroughout, EnergyBalances, MoneyBalances, DoesNotBillAndCarry}
use Rattle.balance.specs.Histories.{Event, Opening, Entering, Drawing, Checking, Issuing, Withdrawing, Closing}
use Rattle.balance.specs.Runs.{Call, Open, Enter, Draw, Check, Issue, Withdraw, Close, run}
use Rattle.balance.specs.Postings.{accepted_calls}

-- prices that differ by month and by class
abbrev pub sample_prices : ℕ → Prices
sample_prices month (service.Energy Day) class = 4500 + month
sample_prices month (service.Energy Night) Household = 3507
sample_prices month (service.Energy Night) Vulnerable = 2503
sample_prices month (service.Energy Night) class = 3000
sample_prices month service.Distribution Household = 1000 + (month - 10) * 5
sample_prices month service.Distribution Vulnerable = 640 + month
sample_prices month service.Distribution class = 1500
sample_prices month (service.YearEnd Day) Household = 9
sample_prices month (service.YearEnd Day) class = 1990 + month
sample_prices month (service.YearEnd Night) class = 1500

-- a record whose registers stand at one value each by zone
abbrev standing : (capacity : ℕ) → Class → (day night : ℕ) → OpeningRecord
standing capacity class day night = opening_record capacity class (record {
  day = record { consumed = day; delivered = day };
  night = record { consumed = night; delivered = night };
})

-- a producer, which is the holder, a household and a vulnerable member
abbrev members : List OpeningRecord
members = standing 100 Other 50 0 ∷ standing 0 Household 20 7 ∷ standing 0 Vulnerable 30 12 ∷ []

-- a register of a member
abbrev register : (place : ℕ) → Zone → Flow → MemberRegister
register place zone flow = record { place = place; zone = zone; flow = flow }

-- a draft of group 7 in a month with so many entries
abbrev stamp : (month entries : ℕ) → Stamp
stamp month entries = record { number = 7; month = month; entries = entries }

-- the calls of November 2000 up to its first drawing: an opening that names the household for the holder, which is refused,
-- and one that does not; readings, a meter change, and a correction
abbrev entries : List Call
entries =
    Open 7 10 1 members
    ∷ Open 7 10 0 members
    ∷ Enter (Reading (register 0 Day Delivered) 305 1250)
    ∷ Enter (Reading (register 1 Day Consumed) 306 520)
    ∷ Enter (Change (register 1 Night Consumed) 307 40 5)
    ∷ Enter (Correction (register 1 Day Consumed) (pos 10))
    ∷ Enter (Reading (register 2 Day Consumed) 308 330)
    ∷ Enter (Reading (register 2 Night Consumed) 308 40)
    ∷ []

-- those of the whole month: then a drawing, a payment, a reading below its register, a check of the draft, which is stale by then,
-- another drawing, the check of its draft, and the issue
abbrev pub november : List Call
november =
    entries
    ++ Draw 3
    ∷ Enter (Payment 1 1000)
    ∷ Enter (Reading (register 1 Night Consumed) 308 4)
    ∷ Check (stamp 10 6)
    ∷ Draw 3
    ∷ Check (stamp 10 7)
    ∷ Issue (stamp 10 7) 3
    ∷ []

-- those of December: three readings, a correction that makes a consumption negative, an issue of a draft of November, which is refused,
-- one of a draft of now, the withdrawal of the stale draft, and the closing of the year
abbrev pub december : List Call
december =
    Enter (Reading (register 1 Day Consumed) 340 720)
    ∷ Enter (Reading (register 1 Night Consumed) 341 15)
    ∷ Enter (Reading (register 2 Day Consumed) 341 380)
    ∷ Enter (Correction (register 2 Night Consumed) (negsuc 2))
    ∷ Issue (stamp 10 7) 3
    ∷ Issue (stamp 11 4) 3
    ∷ Withdraw (stamp 10 6)
    ∷ Close
    ∷ []

-- the bill of a member
abbrev bill : (billed covered : ByZone ℕ) → (drams debt : ℤ) → Bill
bill billed covered drams debt = record {
  billed = billed;
  covered = covered;
  drams = drams;
  debt = debt;
}

-- so many kWh in each zone
abbrev kwh : (day night : ℕ) → ByZone ℕ
kwh day night = record { day = day; night = night }

-- the bill of who is billed nothing
abbrev nothing : Bill
nothing = bill (kwh 0 0) (kwh 0 0) (pos 0) (pos 0)

-- the household's November, with so many kWh covered by day and billed by night: of 510 kWh by day all are covered by 1,200, and 33 by night are billed;
-- 510 × 10.00 + 33 × 35.07 drams are 6,257.31, of which 1,000 were paid before
abbrev pub november_bill : (covered billed : ℕ) → Bill
november_bill covered billed = bill (kwh 0 billed) (kwh covered 0) (pos 6257) (pos 5257)

-- the same before they were paid
abbrev unpaid : Bill
unpaid = record (november_bill 510 33) { debt = pos 6257 }

-- the vulnerable member's November: 300 kWh by day are covered, which leaves 390 of the 1,200, and 28 by night are billed;
-- 300 × 6.50 + 28 × 25.03 drams are 2,650.84
abbrev vulnerable_november : Bill
vulnerable_november = bill (kwh 0 28) (kwh 300 0) (pos 2650) (pos 2650)

-- the household's December, with so many kWh billed by day: of 200 kWh by day all are covered by the 390 that were carried;
-- of 10 by night 3 are covered by those of the negative consumption, and 7 are billed;
-- 203 × 10.05 + 7 × 35.07 drams are 2,285.64, and 31 hundredths were kept
abbrev pub december_bill : (billed : ℕ) → Bill
december_bill billed = bill (kwh billed 7) (kwh 200 3) (pos 2285) (pos 7542)

-- the vulnerable member's December: 50 kWh by day are covered, which leaves 140 of the 390;
-- 50 × 6.51 drams are 325.50, and 84 hundredths were kept
abbrev vulnerable_december : Bill
vulnerable_december = bill (kwh 0 0) (kwh 50 0) (pos 326) (pos 2976)

-- the holder is paid 140 × 20.01 drams, which are 2,801.40: the debt goes down by 2,802, and 60 hundredths are kept
abbrev paid_year : YearEnd
paid_year = record { paid = kwh 140 0; drams = negsuc 2801; debt = negsuc 2801 }

-- the history of November up to the first drawing, its latest call first
abbrev entries_history : List Event
entries_history =
    Entering (Reading (register 2 Night Consumed) 308 40) (Ok tt)
    ∷ Entering (Reading (register 2 Day Consumed) 308 330) (Ok tt)
    ∷ Entering (Correction (register 1 Day Consumed) (pos 10)) (Ok tt)
    ∷ Entering (Change (register 1 Night Consumed) 307 40 5) (Ok tt)
    ∷ Entering (Reading (register 1 Day Consumed) 306 520) (Ok tt)
    ∷ Entering (Reading (register 0 Day Delivered) 305 1250) (Ok tt)
    ∷ Opening 7 10 0 members (Ok tt)
    ∷ Opening 7 10 1 members (Err Holder)
    ∷ []

-- that of the whole month, by the household's bill
abbrev november_history : Bill → List Event
november_history household =
    Issuing (stamp 10 7) 3 (Ok (nothing ∷ household ∷ vulnerable_november ∷ []))
    ∷ Checking (stamp 10 7) true
    ∷ Drawing 3 (Ok (stamp 10 7, nothing ∷ household ∷ vulnerable_november ∷ []))
    ∷ Checking (stamp 10 6) false
    ∷ Entering (Reading (register 1 Night Consumed) 308 4) (Err Below)
    ∷ Entering (Payment 1 1000) (Ok tt)
    ∷ Drawing 3 (Ok (stamp 10 6, nothing ∷ unpaid ∷ vulnerable_november ∷ []))
    ∷ entries_history

-- the history up to the issue of December, by the household's bill of each month
abbrev december_history : (november december : Bill) → List Event
december_history earlier later =
    Issuing (stamp 11 4) 3 (Ok (nothing ∷ later ∷ vulnerable_december ∷ []))
    ∷ Issuing (stamp 10 7) 3 (Err Draft)
    ∷ Entering (Correction (register 2 Night Consumed) (negsuc 2)) (Ok tt)
    ∷ Entering (Reading (register 2 Day Consumed) 341 380) (Ok tt)
    ∷ Entering (Reading (register 1 Night Consumed) 341 15) (Ok tt)
    ∷ Entering (Reading (register 1 Day Consumed) 340 720) (Ok tt)
    ∷ november_history earlier

-- the whole history
abbrev pub sample_history : (november december : Bill) → List Event
sample_history earlier later =
    Closing (Ok paid_year) ∷ Withdrawing (stamp 10 6) ∷ december_history earlier later

-- the group after the issue of December
abbrev issued_group : Group
issued_group = (run line_order sample_prices (november ++ take 6 december)).1

-- the group at the end
abbrev pub closed_group : Group
closed_group = (run line_order sample_prices (november ++ december)).1

-- a member's debt and fraction as the book tells them
abbrev account_at : (place : ℕ) → Group → Result Account BookRefusal
account_at place group = result_map (λ member. member.account) (member_at place group)

-- the calls have just this history and leave just these figures, and it balances throughout.
-- With one kWh more on one bill it does not: with one more billed the kWh no longer balance, with one more covered the hundredths no longer do,
-- and with one kWh billed by day in December, where a kWh is carried by day, that issue would both bill and carry
pub record SampleTells : Type 0 where
  pub history_is :
      (run line_order sample_prices (november ++ december)).0
      ≡ sample_history (november_bill 510 33) (december_bill 0)
  pub carries_nothing : closed_group.carried ≡ kwh 0 0
  pub holder_is_owed : account_at 0 closed_group ≡ Ok (record { debt = negsuc 2801; fraction = 60 })
  pub household_owes : account_at 1 closed_group ≡ Ok (record { debt = pos 7542; fraction = 95 })
  pub vulnerable_owes : account_at 2 closed_group ≡ Ok (record { debt = pos 2976; fraction = 34 })
  pub balances :
      IsBalancedThroughout line_order sample_prices
      (sample_history (november_bill 510 33) (december_bill 0)) closed_group
  pub no_kwh_more :
      EnergyBalances Night (accepted_calls (sample_history (november_bill 510 34) (december_bill 0))) closed_group → ⊥
  pub no_hundredth_more :
      MoneyBalances sample_prices 1
      (accepted_calls (sample_history (november_bill 511 33) (december_bill 0))) closed_group → ⊥
  pub not_both :
      DoesNotBillAndCarry Day (december_history (november_bill 510 33) (december_bill 1)) issued_group → ⊥
