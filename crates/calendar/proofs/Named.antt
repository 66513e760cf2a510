-- The date of a day, as a function, is the one date that is this day.
use Rattle.std.proofs.Common.{◌≡◌, ℕ, zero, suc, ◌+◌, ◌-◌, ◌<◌, ◌≤◌, ltb, if◌then◌else◌, nat_le, Some, None, ap, subst, ⊎_elim, arith}
use Rattle.std.proofs.lemmas.Bool.{cases_lt, cond_both, ltb-false, ltb-true}
use Rattle.std.proofs.lemmas.Bool.Decides.{nat_tests}
use Rattle.calendar.proofs.Months.{first_next, last_first, usual_length}
use Rattle.calendar.proofs.Numbered.{date_found, lies, one_date, past_the_last}
use Rattle.calendar.specs.Dates.{date_after, date_in, date_of_day, day_of_date}
use Rattle.calendar.specs.Gregorian.{first_day, length_of}
use Rattle.calendar.specs.declared.date.Date.{Date}

-- letting the months go by up to the last ends at the day
found : (k month day : ℕ) → month + k ≡ 1199 → first_day month ≤ day → day ≤ 36524 → day_of_date (date_after k month (day - first_day month)) ≡ Some day
unfolding date_after
found zero month day at begun early =
    let next : month + 1 ≡ 1200 = omega arith in
    (date_found month day (omega arith) begun (omega (arith, ap first_day next, last_first))).0
found (suc k) month day at begun early =
    let after = day - first_day month in
    let next = first_next month in
    cond_both (ltb after (length_of month)) (date_in month after) (date_after k (month + 1) (after - length_of month)) (λ d. day_of_date d ≡ Some day)
    (λ within. (date_found month day (omega arith) begun (omega (arith, ltb-true after (length_of month) within))).0)
    (λ past.
    let long = ltb-false after (length_of month) past in
    let left : day - first_day (month + 1) ≡ after - length_of month = omega arith in
    subst (λ a. day_of_date (date_after k (month + 1) a) ≡ Some day) left (found k (month + 1) day (omega arith) (omega arith) early))

-- the date of a day is this day
pub dated : (day : ℕ) → day ≤ 36524 → day_of_date (date_of_day day) ≡ Some day
unfolding date_of_day
dated day early =
    let whole : day - first_day 0 ≡ day = omega arith in
    subst (λ a. day_of_date (date_after 1199 0 a) ≡ Some day) whole (found 1199 0 day (omega arith) (omega arith) early)

-- a date's day is none past the last
pub early_enough : (d : Date) (day : ℕ) → day_of_date d ≡ Some day → day ≤ 36524
early_enough d day is = ⊎_elim (λ past. absurd (past_the_last day past d is)) (λ early. early) (cases_lt 36524 day)

-- the year, the month and the day of the month that a date can have
pub in_bounds : (d : Date) (day : ℕ) → day_of_date d ≡ Some day → (d.year ≤ 2099) × (d.month ≤ 12) × (d.day ≤ 31)
in_bounds d day is =
    let r = (lies d day is).date in
    let long = usual_length d.year (d.month - 1) (omega (arith, r.month_from, r.month_to)) in
    (r.year_to, r.month_to, omega (arith, r.day_to, long.1))

-- a date is the date of its day
pub same_date : (d : Date) (day : ℕ) → day_of_date d ≡ Some day → d ≡ date_of_day day
same_date d day is = (one_date (date_of_day day) day (dated day (early_enough d day is))).1 d is

-- what is answered of a day
pub named : (d : Date) (day : ℕ) → day_of_date d ≡ Some day → Some d ≡ (if nat_le day 36524 then Some (date_of_day day) else None)
named d day is = let same = same_date d day is in let early = early_enough d day is in grind (arith, nat_tests)

pub unnamed : (day : ℕ) → 36524 < day → None ≡ (if nat_le day 36524 then Some (date_of_day day) else None)
unnamed day past = grind (arith, nat_tests)
