-- Worked cases of the rules, each from the definitions that the contracts of the code cite.
use Rattle.std.specs.Prelude.{◌≡◌, ℕ, ◌+◌, ◌<◌, ◌≤◌, List, [], ◌∷◌, map, replicate, ℤ, pos, negsuc, Some, None, Ok, Err, codes}
use Rattle.billing.specs.declared.account.Account.{Account}
use Rattle.calendar.specs.Dates.{day_of_date}
use Rattle.calendar.specs.declared.date.Date.{Date}
use Rattle.group.specs.Months.{posted_account}
use Rattle.group.specs.Refusals.{book_refusal_number}
use Rattle.group.specs.Registers.{with_correction, opened_register, quantity, with_reading}
use Rattle.group.specs.declared.refusal.BookRefusal.TheVariants.{Below, Tally}
use Rattle.group.specs.declared.register.Register.{Register}
use Rattle.journal.specs.Lines.{ReadsLine}
use Rattle.journal.specs.Refusals.{read_refusal_number}
use Rattle.journal.specs.declared.line.Line.TheVariants.{Enter}
use Rattle.journal.specs.declared.refusal.ReadRefusal.TheVariants.{Form}
use Rattle.ledger.specs.declared.entry.Entry.TheVariants.{Reading}
use Rattle.ledger.specs.declared.entry.MemberRegister.{MemberRegister}
use Rattle.ledger.specs.declared.zone.Flow.TheVariants.{Delivered}
use Rattle.ledger.specs.declared.zone.Zone.TheVariants.{Day, Night}
use Rattle.sharing.specs.Rules.{line_order, proportion, with_parts}
use Rattle.tariff.specs.Charges.{charged_price}
use Rattle.tariff.specs.declared.class.Class.{Class}
use Rattle.tariff.specs.declared.class.Class.TheVariants.{Household, Other, Vulnerable}
use Rattle.tariff.specs.declared.prices.ClassPrices.{ClassPrices}
use Rattle.tariff.specs.declared.prices.PriceTable.{PriceTable}
use Rattle.tariff.specs.declared.service.Service.TheVariants.{Distribution, Energy, YearEnd}

-- three places that need 3 kWh each
abbrev pub needs : List ℕ
needs = 3 ∷ 3 ∷ 3 ∷ []

-- half of the pool for the first place, a quarter for each of the next two, and nothing for the other 29
abbrev pub parts : List ℕ
parts = 5000 ∷ 2500 ∷ 2500 ∷ replicate 29 0

-- a pool of 5 kWh, shared by each rule
pub record SharesAsWorked : Type 0 where
  pub by_line_order : line_order 5 needs ≡ 3 ∷ 2 ∷ 0 ∷ []
  pub by_proportion : proportion 5 needs ≡ 1 ∷ 2 ∷ 2 ∷ []
  pub by_parts_over_line_order : with_parts line_order parts 5 needs ≡ 3 ∷ 1 ∷ 1 ∷ []
  pub by_parts_over_proportion : with_parts proportion parts 5 needs ≡ 2 ∷ 1 ∷ 2 ∷ []
  pub without_a_need : proportion 5 (0 ∷ 0 ∷ []) ≡ 0 ∷ 0 ∷ []

abbrev date : (year month day : ℕ) → Date
date year month day = record { year = year; month = month; day = day }

-- days by their dates, and a 29 February that is a date beside one that is none
pub record DatesAsWorked : Type 0 where
  pub march_of_2000 : day_of_date (date 2000 3 1) ≡ Some 60
  pub march_of_2001 : day_of_date (date 2001 3 1) ≡ Some 425
  pub leap_day_of_2024 : day_of_date (date 2024 2 29) ≡ Some 8825
  pub no_leap_day_of_2023 : day_of_date (date 2023 2 29) ≡ None

-- an account that owes nothing and keeps 30 hundredths
abbrev account : Account
account = record { debt = pos 0; fraction = 30 }

-- a credit of 1,000 hundredths leaves it with a debt of -10 drams and the same 30 hundredths
abbrev pub CreditsAsWorked : Type 0
CreditsAsWorked = posted_account account (negsuc 999) ≡ record { debt = negsuc 9; fraction = 30 }

-- the register of what the member at place 0 delivers by day
abbrev pub register : MemberRegister
register = record { place = 0; zone = Day; flow = Delivered }

-- a reading on 29 February, which is a line in 2024 and wrong in its seventh field, by 26, in 2023
pub record ReadsLeapDayOnly : Type 0 where
  pub leap_day_of_2024 : (line : ℕ)
      → ReadsLine (codes "READ,0,DAY,GIVE,900,-,2024-02-29\n") line (Ok (Enter (Reading register 8825 900)))
  pub no_leap_day_of_2023 : (line : ℕ)
      → ReadsLine (codes "READ,0,DAY,GIVE,900,-,2023-02-29\n") line (Err (record { line = line; refusal = Form 7 }))
  pub by_number : read_refusal_number (Form 7) ≡ 26

-- a register that stands at some value, with nothing tallied
abbrev standing : ℕ → Register
standing value = opened_register value

-- a reading that equals its register has quantity 0 and changes nothing; one that is higher by up to 1,000,000 kWh tallies just
-- that; one that is one lower is refused by 17
pub record ReadsAgain : Type 0 where
  pub nothing_more : (value : ℕ) → quantity value value ≡ Some 0
  pub as_before : (value : ℕ) → value ≤ 9999999 → with_reading 0 0 value value (standing value) ≡ Ok (standing value)
  pub higher : (value kwh : ℕ) → kwh ≤ 1000000 → value + kwh ≤ 9999999
      → with_reading 0 0 (value + kwh) (value + kwh) (standing value) ≡ Ok (record { standing = value + kwh; tally = pos kwh })
  pub one_lower : (value : ℕ) → value < 9999999 → with_reading 0 0 value value (standing (value + 1)) ≡ Err Below
  pub by_number : book_refusal_number Below ≡ 17

-- a register that stands at 0, with this tally
abbrev with_tally : ℤ → Register
with_tally kwh = record (standing 0) { tally = kwh }

-- 999,999 kWh and one more are the most that a tally takes; the correction of a register by the next one is refused by 18,
-- and so is the reading that tells it; as far below 0 it is the same
pub record TalliesAsWorked : Type 0 where
  pub stands : with_correction (pos 1) (with_tally (pos 999999)) ≡ Ok (with_tally (pos 1000000))
  pub one_more : with_correction (pos 1) (with_tally (pos 1000000)) ≡ Err Tally
  pub one_more_read : with_reading 0 0 1 1 (with_tally (pos 1000000)) ≡ Err Tally
  pub stands_below : with_correction (negsuc 0) (with_tally (negsuc 999998))
      ≡ Ok (with_tally (negsuc 999999))
  pub one_less : with_correction (negsuc 0) (with_tally (negsuc 999999)) ≡ Err Tally
  pub by_number : book_refusal_number Tally ≡ 18

-- five prices that follow one another, in the order of the services
abbrev five_from : ℕ → ClassPrices
five_from first = record {
  energy = record { day = first; night = first + 1 };
  distribution = first + 2;
  year_end = record { day = first + 3; night = first + 4 };
}

-- fifteen stored prices, no two of them the same
abbrev fifteen : PriceTable
fifteen = record { household = five_from 1; other = five_from 6; vulnerable = five_from 11 }

-- what a class is charged by them for each service
abbrev charged_to : Class → List ℕ
charged_to class =
    map (λ service. charged_price fifteen service class)
    (Energy Day ∷ Energy Night ∷ Distribution ∷ YearEnd Day ∷ YearEnd Night ∷ [])

-- the same with another price for the distribution to a household
abbrev with_price : ℕ → PriceTable
with_price price = record fifteen { household = record (five_from 1) { distribution = price } }

-- each service and class has the price that is stored for it, and of a price over 100,000 only so much is charged
pub record ChargesByClass : Type 0 where
  pub household : charged_to Household ≡ 1 ∷ 2 ∷ 3 ∷ 4 ∷ 5 ∷ []
  pub other : charged_to Other ≡ 6 ∷ 7 ∷ 8 ∷ 9 ∷ 10 ∷ []
  pub vulnerable : charged_to Vulnerable ≡ 11 ∷ 12 ∷ 13 ∷ 14 ∷ 15 ∷ []
  pub highest : charged_price (with_price 100000) Distribution Household ≡ 100000
  pub over_the_highest : charged_price (with_price 100001) Distribution Household ≡ 100000
