-- The texts of dates and months: how long they are, what bytes they have, and that they tell what they are the texts of.
use Rattle.std.proofs.Common.{◌≡◌, ℕ, ◌+◌, ◌/◌, ◌<◌, ◌≤◌, length, get_or, take, drop, Some, sym, refl, ap, ◌∙◌, arith}
use Rattle.calendar.proofs.Named.{dated, in_bounds}
use Rattle.calendar.specs.Dates.{date_of_day, day_of_date}
use Rattle.calendar.specs.declared.date.Date.{Date}
use Rattle.fields.specs.Cuts.{Lacks}
use Rattle.fields.specs.Texts.{IsSpellable, date_text, day_text, four_digits, two_digits}
use Rattle.std.proofs.lemmas.List.Elements.{All-from_recursion, All-get_or}
use Rattle.std.specs.Int.{IsInRange}

-- two digits tell a number below a hundred
pub same_two : (m n : ℕ) → m < 100 → n < 100 → two_digits m ≡ two_digits n → m ≡ n
same_two m n short-m short_n same =
    let tens = ap (λ l. get_or l 0 0) same in
    let ones = ap (λ l. get_or l 1 0) same in
    omega arith

-- four digits tell a number below ten thousand
pub same_four : (m n : ℕ) → m < 10000 → n < 10000 → four_digits m ≡ four_digits n → m ≡ n
same_four m n short-m short_n same =
    let front : m / 100 ≡ n / 100 = same_two (m / 100) (n / 100) (omega arith) (omega arith) (ap (take 2) same) in
    let tens = ap (λ l. get_or l 2 0) same in
    let ones = ap (λ l. get_or l 3 0) same in
    omega arith

-- the text of a date tells the date
pub same_date_text : (d e : Date) → IsSpellable d → IsSpellable e → date_text d ≡ date_text e → d ≡ e
same_date_text d e short-d short-e same =
    let years = same_four d.year e.year short-d.0 short-e.0 (ap (take 4) same) in
    let months = same_two d.month e.month short-d.1 short-e.1 (ap (λ l. take 2 (drop 5 l)) same) in
    let days = same_two d.day e.day short-d.2 short-e.2 (ap (drop 8) same) in
    λ i. record { year = years i; month = months i; day = days i }

-- the parts of the date of a day are short
pub short_date : (day : ℕ) → day ≤ 36524 → IsSpellable (date_of_day day)
short_date day early =
    let bounds = in_bounds (date_of_day day) day (dated day early) in
    (omega (arith, bounds.0), omega (arith, bounds.1), omega (arith, bounds.2))

-- the text of a day tells the day
pub same_day_text : (a b : ℕ) → a ≤ 36524 → b ≤ 36524 → day_text a ≡ day_text b → a ≡ b
same_day_text a b early-a early-b same =
    let dates = same_date_text (date_of_day a) (date_of_day b) (short_date a early-a) (short_date b early-b) same in
    let days : Some a ≡ Some b = sym (dated a early-a) ∙ ap day_of_date dates ∙ dated b early-b in
    cc

pub day_text_length : (day : ℕ) → length (day_text day) ≡ 10
day_text_length day = refl

-- the text of a day begins with a digit and has its hyphens at 4 and 7
pub day_text_shaped : (day : ℕ) → (get_or (day_text day) 4 0 ≡ 45) × (get_or (day_text day) 7 0 ≡ 45) × IsInRange 48 57 (get_or (day_text day) 0 0)
day_text_shaped day = (refl, refl, (omega arith, omega arith))

-- a digit and a hyphen are no comma
digit_no_comma : (n : ℕ) → 48 + n ≡ 44 → ⊥
digit_no_comma n is = omega arith

hyphen_no_comma : ◌≡◌ {A = ℕ} 45 44 → ⊥
hyphen_no_comma is = omega arith

-- no byte of the text of a date is a comma
pub date_text_commaless : (d : Date) → Lacks 44 (date_text d)
date_text_commaless d k within =
    let NoComma : ℕ → Type 0 = λ b. b ≡ 44 → ⊥ in
    All-get_or NoComma (date_text d) k 0 within
    (All-from_recursion NoComma (date_text d)
    (digit_no_comma _, (digit_no_comma _, (digit_no_comma _, (digit_no_comma _, (hyphen_no_comma, (digit_no_comma _, (digit_no_comma _, (hyphen_no_comma, (digit_no_comma _, (digit_no_comma _, tt)))))))))))

pub day_text_commaless : (day : ℕ) → Lacks 44 (day_text day)
day_text_commaless day = date_text_commaless (date_of_day day)
