-- What the digits of a text tell of the date or the month that it spells.
use Rattle.std.proofs.Common.{◌≡◌, ℕ, ◌≤◌, List, Some, None, Option, sym, ap, ◌∙◌, arith}
use Rattle.calendar.proofs.Named.{dated, early_enough, same_date}
use Rattle.calendar.specs.Dates.{date_of_day, day_of_date}
use Rattle.calendar.specs.declared.date.Date.{Date}
use Rattle.fields.proofs.Spelling.{same_date_text, short_date}
use Rattle.fields.specs.Reads.{Reads}
use Rattle.fields.specs.Texts.{IsSpellable, date_text, day_text}

-- a text that spells no date spells no day
pub no_day : (bs : List ℕ) → Reads IsSpellable date_text bs None → Reads (λ x. x ≤ 36524) day_text bs None
no_day bs none day early is = none (date_of_day day) (short_date day early) is

-- the day of the date that a text spells is the day that it spells
pub day_read : (bs : List ℕ) (d : Date) → Reads IsSpellable date_text bs (Some d) → (r : Option ℕ) → r ≡ day_of_date d → Reads (λ x. x ≤ 36524) day_text bs r
day_read bs d spelled None none = λ day early is.
    let same = same_date_text d (date_of_day day) spelled.0 (short_date day early) (sym spelled.1 ∙ is) in
    let found = none ∙ ap day_of_date same ∙ dated day early in
    let clash : ◌≡◌ {A = ℕ} 0 1 = cc in
    omega arith
day_read bs d spelled (Some day) found =
    (early_enough d day (sym found), spelled.1 ∙ ap date_text (same_date d day (sym found)))
