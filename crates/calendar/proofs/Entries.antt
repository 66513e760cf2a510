-- The table of the code follows the calendar, by one test that is computed along the whole of it.
use Rattle.std.proofs.Common.{◌≡◌, ℕ, zero, suc, ◌+◌, ◌-◌, ◌<◌, ◌≤◌, Bool, true, false, ◌&&◌, eqb, leb, List, [], ◌∷◌, length, get_or, drop, Some, sym, refl, ap, ◌∙◌, ⊎_elim, add_comm, add-zero, add-suc, suc-add, zero-add, arith}
use Rattle.std.proofs.lemmas.Bool.{and_parts, cases_lt, eqb-true, leb-false, leb-true}
use Rattle.std.proofs.lemmas.List.{get_or-drop}
use Rattle.std.specs.List.Sorted.{IsNonDecreasing, IsPartitionPoint}
use Rattle.calendar.proofs.Months.{first_mono, last_first, only_month}
use Rattle.calendar.specs.Dates.{IsMonthOf}
use Rattle.calendar.specs.Gregorian.{first_day, length_of}
use Rattle.calendar.specs.declared.table.TheConstants.{FIRST_DAYS}

-- each entry is the first day of its month, the months and the days counted on from these
abbrev follows : (month day : ℕ) → List ℕ → Bool
follows month day [] = true
follows month day (x ∷ xs) = eqb x day && follows (suc month) (day + length_of month) xs

from : (xs : List ℕ) (month : ℕ) → follows month (first_day month) xs ≡ true → (k d : ℕ) → k < length xs → get_or xs k d ≡ first_day (month + k)
from [] month holds k d within = absurd (omega arith)
from (x ∷ xs) month holds zero d within = eqb-true x (first_day month) (and_parts _ _ holds).0 ∙ ap first_day (sym (add-zero month))
from (x ∷ xs) month holds (suc k) d within =
    from xs (suc month) (and_parts (eqb x (first_day month)) _ holds).1 k d (omega arith) ∙ ap first_day (suc-add month k ∙ sym (add-suc month k))

-- the rule, computed once over the whole table
table_follows : follows 0 (first_day 0) FIRST_DAYS ≡ true
table_follows = refl

-- and carried to each entry
pub entry_is : (k d : ℕ) → k < 1201 → get_or FIRST_DAYS k d ≡ first_day k
entry_is k d within = from FIRST_DAYS 0 table_follows k d within ∙ ap first_day (zero-add k)

-- the entries from February 2000 on
abbrev pub later : List ℕ
later = drop 1 FIRST_DAYS

later_is : (k d : ℕ) → k < 1200 → get_or later k d ≡ first_day (k + 1)
later_is k d within = get_or-drop 1 FIRST_DAYS k d ∙ entry_is (1 + k) d (omega arith) ∙ ap first_day (add_comm 1 k)

pub later_rise : IsNonDecreasing later
later_rise i j d le within =
    omega (arith, later_is i d (omega arith), later_is j d (omega arith), first_mono (i + 1) (j + 1) (omega arith))

-- the month in which a day lies is as many as have begun by then
module _ (day month : ℕ) (most : month ≤ 1200) (split : IsPartitionPoint (λ first. leb first day ≡ true) (λ first. leb first day ≡ false) later month) where
  begun : first_day month ≤ day
  begun =
      ⊎_elim
      (λ first. let none : month ≡ 0 = omega arith in omega (arith, ap first_day none))
      (λ later. let before : month - 1 + 1 ≡ month = omega arith in omega (arith, ap first_day before, later_is (month - 1) 0 (omega arith), leb-true _ _ (split.0 (month - 1) 0 (omega arith) (omega arith))))
      (cases_lt month 1)

  pub month_found : day ≤ 36524 → IsMonthOf day (Some month)
  month_found early =
      let few : month ≤ 1199 = ⊎_elim (λ late. absurd (omega (arith, begun, first_mono 1200 month (omega arith), last_first))) (λ few. few) (cases_lt 1199 month) in
      let ahead : day < first_day (month + 1) = omega (arith, later_is month 0 (omega arith), leb-false _ _ (split.1 month 0 (omega arith) (omega arith))) in
      (few, begun, ahead, only_month month day begun ahead)
