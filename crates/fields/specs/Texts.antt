-- The texts of dates and months.
use Rattle.std.specs.Prelude.{ℕ, ◌+◌, ◌/◌, ◌%◌, ◌<◌, List, [], ◌∷◌, ◌++◌}
use Rattle.calendar.specs.Dates.{date_of_day}
use Rattle.calendar.specs.Gregorian.{year_of}
use Rattle.calendar.specs.declared.date.Date.{Date}
use Rattle.fields.specs.Bytes.{hyphen}

-- the last two digits of a number
abbrev pub two_digits : ℕ → List ℕ
two_digits n = (48 + n / 10 % 10) ∷ (48 + n % 10) ∷ []

-- the last four digits of a number
abbrev pub four_digits : ℕ → List ℕ
four_digits n = two_digits (n / 100) ++ two_digits n

-- four digits of the year, two of the month and two of the day, with hyphens between them
abbrev pub date_text : Date → List ℕ
date_text d = four_digits d.year ++ (hyphen ∷ (two_digits d.month ++ (hyphen ∷ two_digits d.day)))

-- the parts have no more digits than the text of a date has, whether or not there is such a date
abbrev pub IsSpellable : Date → Type 0
IsSpellable d = (d.year < 10000) × (d.month < 100) × (d.day < 100)

-- the text of the date of a day
abbrev pub day_text : ℕ → List ℕ
day_text day = date_text (date_of_day day)

-- four digits of the year and two of the month, which is counted from January 2000, with a hyphen between them
abbrev pub month_text : ℕ → List ℕ
month_text month = four_digits (year_of month) ++ (hyphen ∷ two_digits (month % 12 + 1))
