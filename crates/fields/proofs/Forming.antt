-- The texts of values have the form of their column, and what has the form is the text of a value.
use Rattle.std.proofs.Common.{◌≡◌, ℕ, zero, suc, ◌^◌, ◌<◌, ◌≤◌, Bool, true, false, cond, List, ◌∷◌, length, get_or, ℤ, pos, negsuc, nat_abs, Some, None, codes, decimal, sym, refl, ap, ◌∙◌, inl, inr, arith}
use Rattle.calendar.proofs.Named.{dated, early_enough, same_date}
use Rattle.calendar.specs.Dates.{date_of_day, day_number, day_of_date, is_date}
use Rattle.fields.proofs.Reading.{own, zero_alone}
use Rattle.fields.proofs.Widths.{digits_9}
use Rattle.fields.specs.Columns.{DateForm, Form, NumberForm, SignedForm}
use Rattle.fields.specs.Texts.{date_text, day_text}
use Rattle.std.proofs.lemmas.Fmt.{decimal_digit, decimal_nonempty, decimal-digits_value, digits_decimal, decimal_injective}
use Rattle.std.proofs.lemmas.Str.Parse.{IsNumeralModel, digit_at, numerals_by_value, tells_by_index, digits_value_short}
use Rattle.std.proofs.lemmas.Bool.{cond-true}
use Rattle.std.specs.Str.Parse.{digits_value}
use Rattle.std.specs.Int.{IsInRange}
use Rattle.std.specs.Fmt.{signed_decimal}

-- ---- numbers

pub number_form : (n : ℕ) → n ≤ 999999999 → NumberForm (decimal n)
number_form n few =
    let h : n < 2 ^ 64 = omega arith in
    record {
      some = decimal_nonempty n h;
      few = digits_9 n few;
      digits = λ i within. digit_at (decimal n) i (digits_decimal own n h) within;
      no_needless_zero = zero_alone n h;
    }

by_index : IsNumeralModel (λ ds. (i : ℕ) → i < length ds → IsInRange 48 57 (get_or ds i 0)) (digits_value 10)
by_index = numerals_by_value _ tells_by_index

-- the number that a text of this form spells
pub number_spelled : (bs : List ℕ) → NumberForm bs → (n : ℕ) × ((n ≤ 999999999) × (bs ≡ decimal n))
number_spelled bs form =
    let small = digits_value_short by_index bs 9 form.digits form.few in
    (digits_value 10 bs, (omega arith, sym (decimal-digits_value by_index bs form.digits form.some form.no_needless_zero (omega arith))))

-- ---- signed numbers

nought : decimal 0 ≡ codes "0"
nought = decimal_digit 0 (omega arith)

pub signed_form : (z : ℤ) → nat_abs z ≤ 999999999 → SignedForm (signed_decimal z)
signed_form (pos n) few = inl (number_form n few)
signed_form (negsuc n) few =
    inr (decimal (suc n), (refl, number_form (suc n) few, λ zero_is. let same = decimal_injective (suc n) 0 (omega arith) (omega arith) (zero_is ∙ sym nought) in omega arith))

after_a_minus : (bs number : List ℕ) (n : ℕ) → bs ≡ 45 ∷ number → n ≤ 999999999 → number ≡ decimal n → (number ≡ codes "0" → ⊥) → (z : ℤ) × ((nat_abs z ≤ 999999999) × (bs ≡ signed_decimal z))
after_a_minus bs number zero e few is nonzero = absurd (nonzero (is ∙ nought))
after_a_minus bs number (suc n) e few is nonzero = (negsuc n, (few, e ∙ ap (λ ds. 45 ∷ ds) is))

-- the signed number that a text of this form spells
pub signed_spelled : (bs : List ℕ) → SignedForm bs → (z : ℤ) × ((nat_abs z ≤ 999999999) × (bs ≡ signed_decimal z))
signed_spelled bs (inl form) = let n = number_spelled bs form in (pos n.0, (n.1.0, n.1.1))
signed_spelled bs (inr (number, form)) =
    let n = number_spelled number form.1 in
    after_a_minus bs number n.0 form.0 n.1.0 n.1.1 form.2

-- ---- dates

told_of_date : (b : Bool) (n day : ℕ) → cond b (Some n) None ≡ Some day → b ≡ true
told_of_date true n day e = refl
told_of_date false n day e = let z : ◌≡◌ {A = ℕ} 0 1 = cc in absurd (omega arith)

pub date_form : (day : ℕ) → day ≤ 36524 → DateForm (day_text day)
date_form day early = (date_of_day day, (told_of_date _ _ _ (dated day early), refl))

-- the day of the date that a text of this form spells
pub day_spelled : (bs : List ℕ) → DateForm bs → (day : ℕ) × ((day ≤ 36524) × (bs ≡ day_text day))
day_spelled bs (d, form) =
    let day : day_of_date d ≡ Some (day_number d) = cond-true (is_date d) (Some (day_number d)) None form.0 in
    (day_number d, (early_enough d (day_number d) day, form.1 ∙ ap date_text (same_date d (day_number d) day)))

-- ---- columns

-- bytes that spell no value have not the form, where those that have it spell one; likewise of values that hold such a value
pub no_value : {A X : Type 0} (form : Form) (good : A → Type 0) (text : A → List ℕ) (held : X → A) (bs : List ℕ) → (form bs → (a : A) × (good a × (bs ≡ text a))) → ((a : A) → good a → bs ≡ text a → ⊥) → (form bs → ⊥) × ((x : X) → good (held x) → bs ≡ text (held x) → ⊥)
no_value form good text held bs spelled none =
    ((λ has. let is = spelled has in none is.0 is.1.0 is.1.1), λ x. none (held x))
