-- Dates, and the days that they are.
use Rattle.std.specs.Prelude.{◌≡◌, ℕ, zero, suc, ◌+◌, ◌-◌, ◌*◌, ◌%◌, ◌<◌, ◌≤◌, Bool, true, ◌&&◌, if◌then◌else◌, Some, None, Option, MatchOption, ◌≢◌, nat_le, nat_lt, slice_index}
use Rattle.std.specs.Option.{SomeIff}
use Rattle.calendar.specs.Gregorian.{first_day, last_day, last_month, length_of, lengths, lies_in, year_of}
use Rattle.calendar.specs.declared.date.Date.{Date}

-- a year from 2000 to 2099, a month from 1 to 12, and a day from 1 to as many as that month has
abbrev pub is_date : Date → Bool
is_date d =
    nat_le 2000 d.year && (nat_le d.year 2099
    && (nat_le 1 d.month && (nat_le d.month 12
    && (nat_le 1 d.day && nat_le d.day (slice_index (lengths d.year) (d.month - 1))))))

-- the month of a date, counted from January 2000
abbrev pub month_of_date : Date → ℕ
month_of_date d = (d.year - 2000) * 12 + (d.month - 1)

-- the month of a year, counted from January 2000, where there is one from 2000 to 2099
abbrev pub IsMonthIn : (year month : ℕ) → Option ℕ → Type 0
IsMonthIn year month r =
    SomeIff r ((2000 ≤ year) × (year ≤ 2099) × (1 ≤ month) × (month ≤ 12))
    ((year - 2000) * 12 + (month - 1))

-- the day of a date, counted from 1 January 2000
abbrev pub day_number : Date → ℕ
day_number d = first_day (month_of_date d) + (d.day - 1)

-- the day of what is a date, else none
abbrev pub day_of_date : Date → Option ℕ
day_of_date d = if is_date d then Some (day_number d) else None

-- the date in a month so many days after its first
abbrev pub date_in : (month after : ℕ) → Date
date_in month after = record { year = year_of month; month = month % 12 + 1; day = after + 1 }

-- the date so many days after the first of a month, found by letting the months go by, at most so many of them
unfoldable pub date_after : (months month after : ℕ) → Date
date_after zero month after = date_in month after
date_after (suc k) month after =
    if nat_lt after (length_of month)
    then date_in month after
    else date_after k (month + 1) (after - length_of month)

-- the date of a day
unfoldable pub date_of_day : ℕ → Date
date_of_day day = date_after last_month 0 day

-- the one month in which the day lies, or none where it lies past the last
abbrev pub IsMonthOf : ℕ → Option ℕ → Type 0
IsMonthOf day r =
    MatchOption r (last_day < day)
    (λ month. (month ≤ last_month) × (first_day month ≤ day) × (day < first_day (month + 1))
    × ((m : ℕ) → lies_in day m ≡ true → m ≡ month))

-- the one date that is this day, or none past the last day, which no date is
abbrev pub IsDateOf : ℕ → Option Date → Type 0
IsDateOf day r =
    MatchOption r ((last_day < day) × ((e : Date) → day_of_date e ≢ Some day))
    (λ d. (day_of_date d ≡ Some day) × ((e : Date) → day_of_date e ≡ Some day → e ≡ d))

-- from a day to its date and back is the same day, and from a date to its day and back the same date
pub record Agree : Type 0 where
  pub day_date_day : (day : ℕ) (r : Option Date) → day ≤ last_day → IsDateOf day r
      → MatchOption r ⊥ (λ d. day_of_date d ≡ Some day)
  pub date_day_date : (d : Date) (day : ℕ) (r : Option Date) → day_of_date d ≡ Some day → IsDateOf day r
      → r ≡ Some d
