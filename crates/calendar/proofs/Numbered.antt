-- A date and its day determine each other.
use Rattle.std.proofs.Common.{◌≡◌, ℕ, ◌+◌, ◌-◌, ◌/◌, ◌%◌, ◌<◌, ◌≤◌, true, get_or, Some, None, Option, sym, ap, ◌∙◌, ap₂, arith, MatchOption}
use Rattle.std.proofs.lemmas.Bool.Decides.{nat_tests}
use Rattle.std.specs.Option.{SomeIff}
use Rattle.calendar.specs.Dates.{Agree, IsDateOf, date_in, day_number, day_of_date, is_date, month_of_date}
use Rattle.calendar.specs.Gregorian.{first_day, length_of, lengths}
use Rattle.calendar.specs.declared.date.Date.{Date}
use Rattle.calendar.proofs.Months.{first_mono, first_next, last_first, one_month}

-- what makes a date
pub record Real (d : Date) : Type 0 where
  pub year_from : 2000 ≤ d.year
  pub year_to : d.year ≤ 2099
  pub month_from : 1 ≤ d.month
  pub month_to : d.month ≤ 12
  pub day_from : 1 ≤ d.day
  pub day_to : d.day ≤ get_or (lengths d.year) (d.month - 1) 0

pub real : (d : Date) → is_date d ≡ true → Real d
real d holds = record {
  year_from = grind (arith, nat_tests);
  year_to = grind (arith, nat_tests);
  month_from = grind (arith, nat_tests);
  month_to = grind (arith, nat_tests);
  day_from = grind (arith, nat_tests);
  day_to = grind (arith, nat_tests);
}

-- the length of a date's month
pub length_at : (d : Date) → 2000 ≤ d.year → 1 ≤ d.month → d.month ≤ 12 → get_or (lengths d.year) (d.month - 1) 0 ≡ length_of (month_of_date d)
length_at d year from to =
    let month = month_of_date d in
    let same_year : d.year ≡ 2000 + month / 12 = omega arith in
    let same_place : d.month - 1 ≡ month % 12 = omega arith in
    ap₂ (λ y k. get_or (lengths y) k 0) same_year same_place

-- what is the day of that month, or none, is the day of the date, or none
pub told_by_month : (d : Date) → 2000 ≤ d.year → d.year ≤ 2099 → 1 ≤ d.month → d.month ≤ 12 → (month : ℕ) → month ≡ month_of_date d → (r : Option ℕ)
    → SomeIff r ((1 ≤ d.day) × (d.day ≤ length_of month)) (first_day month + (d.day - 1)) → r ≡ day_of_date d
told_by_month d year_from year_to month_from month_to month is None no_day =
    let long = length_at d year_from month_from month_to ∙ ap length_of (sym is) in
    let no_date : is_date d ≡ true → None ≡ day_of_date d = λ holds. absurd (no_day ((real d holds).day_from, omega (arith, long, (real d holds).day_to))) in
    grind (arith, nat_tests)
told_by_month d year_from year_to month_from month_to month is (Some day) one =
    let long = length_at d year_from month_from month_to ∙ ap length_of (sym is) in
    let number : day ≡ day_number d = one.1 ∙ ap (λ m. first_day m + (d.day - 1)) is in
    grind (arith, nat_tests)

-- the day of a date lies in its month
pub record Lies (d : Date) (day : ℕ) : Type 0 where
  pub date : Real d
  pub number : day_number d ≡ day
  pub begun : first_day (month_of_date d) ≤ day
  pub ahead : day < first_day (month_of_date d + 1)

number_of : (d : Date) (day : ℕ) → day_of_date d ≡ Some day → (is_date d ≡ true) × (day_number d ≡ day)
number_of d day is = (grind (arith, nat_tests), grind (arith, nat_tests))

pub lies : (d : Date) (day : ℕ) → day_of_date d ≡ Some day → Lies d day
lies d day is =
    let told = number_of d day is in
    let r = real d told.0 in
    let long = length_at d r.year_from r.month_from r.month_to in
    record {
      date = r;
      number = told.1;
      begun = omega (arith, told.1);
      ahead = omega (arith, told.1, long, r.day_from, r.day_to, first_next (month_of_date d));
    }

-- no date lies past the last day
pub past_the_last : (day : ℕ) → 36524 < day → (e : Date) → day_of_date e ≡ Some day → ⊥
past_the_last day past e is =
    let l = lies e day is in
    let r = l.date in
    let month : month_of_date e + 1 ≤ 1200 = omega (arith, r.year_from, r.year_to, r.month_from, r.month_to) in
    omega (arith, l.ahead, first_mono (month_of_date e + 1) 1200 month, last_first)

-- two dates of one day are the same
same_date : (d e : Date) (day : ℕ) → Lies d day → Lies e day → d ≡ e
same_date d e day ld le =
    let months = one_month (month_of_date d) (month_of_date e) day ld.begun ld.ahead le.begun le.ahead in
    let first = ap first_day months in
    let rd = ld.date in
    let re = le.date in
    let years : d.year ≡ e.year = omega (arith, months, rd.year_from, rd.month_from, rd.month_to, re.year_from, re.month_from, re.month_to) in
    let places : d.month ≡ e.month = omega (arith, months, rd.year_from, rd.month_from, rd.month_to, re.year_from, re.month_from, re.month_to) in
    let days : d.day ≡ e.day = omega (arith, first, ld.number, le.number, rd.day_from, re.day_from) in
    λ i. record { year = years i; month = places i; day = days i }

pub one_date : (d : Date) (day : ℕ) → day_of_date d ≡ Some day → IsDateOf day (Some d)
one_date d day is = (is, λ e of. same_date e d day (lies e day of) (lies d day is))

pub date_found : (month day : ℕ) → month ≤ 1199 → first_day month ≤ day → day < first_day (month + 1) → IsDateOf day (Some (date_in month (day - first_day month)))
date_found month day few begun ahead =
    let d = date_in month (day - first_day month) in
    let same : month_of_date d ≡ month = omega arith in
    let in_month : d.day ≤ length_of month = omega (arith, first_next month) in
    let found = told_by_month d (omega arith) (omega arith) (omega arith) (omega arith) month (sym same) (Some day) ((omega arith, in_month), omega arith) in
    one_date d day (sym found)

pub agree : Agree
agree = record {
  day_date_day = λ day r early of. there day r early of;
  date_day_date = λ d day r is. back d day is r;
}
  where
    there : (day : ℕ) (r : Option Date) → day ≤ 36524 → IsDateOf day r → MatchOption r ⊥ (λ d. day_of_date d ≡ Some day)
    there day None early of = omega (arith, of.0)
    there day (Some d) early of = of.0

    back : (d : Date) (day : ℕ) → day_of_date d ≡ Some day → (r : Option Date) → IsDateOf day r → r ≡ Some d
    back d day is None none = absurd (none.1 d is)
    back d day is (Some e) of = ap Some (sym (of.1 d is))
