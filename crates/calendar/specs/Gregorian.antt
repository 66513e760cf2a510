-- The Gregorian calendar, with months and days counted from 0, which is January 2000 and 1 January 2000.
use Rattle.std.specs.Prelude.{ℕ, zero, suc, ◌+◌, ◌/◌, ◌%◌, Bool, not, ◌&&◌, ◌||◌, if◌then◌else◌, List, [], ◌∷◌, ◌==◌, nat_le, nat_lt, slice_index}

-- every fourth year is a leap year, but of the hundredth years only every fourth
abbrev pub is_leap : ℕ → Bool
is_leap year = year % 4 == 0 && (not (year % 100 == 0) || year % 400 == 0)

-- how many days the months of a year have, from January to December
abbrev pub lengths : ℕ → List ℕ
lengths year =
    31 ∷ (if is_leap year then 29 else 28) ∷ 31 ∷ 30 ∷ 31 ∷ 30 ∷ 31 ∷ 31 ∷ 30 ∷ 31 ∷ 30 ∷ 31 ∷ []

-- the year of a month
abbrev pub year_of : ℕ → ℕ
year_of month = 2000 + month / 12

-- how many days a month has
abbrev pub length_of : ℕ → ℕ
length_of month = slice_index (lengths (year_of month)) (month % 12)

-- the first day of a month: that of the month before, and as many days on as that month has
abbrev pub first_day : ℕ → ℕ
first_day zero = 0
first_day (suc month) = first_day month + length_of month

-- the last month, December 2099
abbrev pub last_month : ℕ
last_month = 1199

-- the last day, 31 December 2099
abbrev pub last_day : ℕ
last_day = 36524

-- the day lies in the month, which is one of the 1,200 from January 2000 to December 2099
abbrev pub lies_in : (day month : ℕ) → Bool
lies_in day month =
    nat_le month last_month && (nat_le (first_day month) day && nat_lt day (first_day (month + 1)))
