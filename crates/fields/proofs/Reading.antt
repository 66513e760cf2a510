-- What the digits of a text tell of the number that it spells.
use Rattle.std.proofs.Common.{◌≡◌, ℕ, ◌+◌, ◌-◌, ◌*◌, ◌^◌, ◌<◌, ◌≤◌, List, [], ◌∷◌, length, drop, get_or, Some, None, decimal, Option, sym, ap, ◌∙◌, subst, ⊎_elim, arith}
use Rattle.fields.specs.Digits.{SpellsNumber}
use Rattle.std.proofs.lemmas.Fmt.{decimal-digits_value, decimal_digit, decimal_injective, decimal_nonempty, digits_decimal, digits_value-decimal, first_decimal}
use Rattle.std.proofs.lemmas.Bool.{cases_lt}
use Rattle.std.proofs.lemmas.List.{at_drop_more, drop_all}
use Rattle.std.proofs.lemmas.Str.{digit_value_digit}
use Rattle.std.proofs.lemmas.Str.Parse.{IsNumeralModel, digit_at, numerals_by_value, tells_digits}
use Rattle.std.specs.Char.{digit_value}
use Rattle.std.specs.Int.{IsInRange}
use Rattle.std.specs.Option.{SomeIff}
use Rattle.std.specs.Str.Parse.{AllDigits, digits_value, digits_value_after}

pub own : IsNumeralModel (AllDigits 10) (digits_value 10)
own = numerals_by_value _ tells_digits

-- only the number zero has a zero in front
pub zero_alone : (x : ℕ) → x < 2 ^ 64 → get_or (decimal x) 0 0 ≡ 48 → length (decimal x) ≡ 1
zero_alone x h first =
    ⊎_elim
    (λ some. absurd (omega (arith, first_decimal x some h)))
    (λ none. let zero : x ≡ 0 = omega arith in ap (λ n. length (decimal n)) zero ∙ ap length (decimal_digit 0 (omega arith)))
    (cases_lt 0 x)

-- no text is empty
pub no_empty : (bs : List ℕ) → length bs ≡ 0 → SpellsNumber bs None
no_empty bs none x h e = omega (arith, ap length e, decimal_nonempty x h)

-- and none of several digits begins with a zero
pub no_zero : (bs : List ℕ) → 2 ≤ length bs → get_or bs 0 0 ≡ 48 → SpellsNumber bs None
no_zero bs more zero x h e = omega (arith, ap length e, zero_alone x h (ap (λ l. get_or l 0 0) (sym e) ∙ zero))

-- digits with no needless zero spell the number that they write
pub by_digits : (bs : List ℕ) (r : Option ℕ) → 0 < length bs → (get_or bs 0 0 ≡ 48 → length bs ≡ 1) → SomeIff r (AllDigits 10 bs × (digits_value 10 bs < 2 ^ 64)) (digits_value 10 bs) → SpellsNumber bs r
by_digits bs None some lead none = λ x h e.
    none (subst (λ l. AllDigits 10 l × (digits_value 10 l < 2 ^ 64)) (sym e) (digits_decimal own x h, omega (arith, digits_value-decimal own x h)))
by_digits bs (Some n) some lead told =
    let e : bs ≡ decimal n = sym (ap decimal told.1 ∙ decimal-digits_value own bs told.0.0 some lead told.0.1) in
    (e, λ x h too. decimal_injective x n h (omega (arith, told.1, told.0.1)) (sym too ∙ e))

-- how far the digits are read: those before i write n, and the rest decides whether all are digits
pub record ReadSoFar (ds : List ℕ) (i n : ℕ) : Type 0 where
  pub rest : AllDigits 10 (drop i ds) → AllDigits 10 ds
  pub same : digits_value_after 10 n (drop i ds) ≡ digits_value 10 ds
  pub fits : n < 2 ^ 64

at_least : (n : ℕ) (ds : List ℕ) → n ≤ digits_value_after 10 n ds
at_least n [] = omega arith
at_least n (c ∷ cs) = omega (arith, at_least (n * 10 + digit_value c) cs)

module _ (ds : List ℕ) (i n : ℕ) (so_far : ReadSoFar ds i n) (within : i < length ds) where
  value_more : IsInRange 48 57 (get_or ds i 0) → digits_value_after 10 (n * 10 + (get_or ds i 0 - 48)) (drop (i + 1) ds) ≡ digits_value 10 ds
  value_more digit =
      let value : get_or ds i 0 - 48 ≡ digit_value (get_or ds i 0) = omega (arith, digit_value_digit (get_or ds i 0) digit) in
      ap (λ d. digits_value_after 10 (n * 10 + d) (drop (i + 1) ds)) value ∙ sym (at_drop_more (digits_value_after 10 n) ds i 0 within) ∙ so_far.same

  -- a byte that cannot follow leaves no number of 64 bits
  pub read_none : (IsInRange 48 57 (get_or ds i 0) × (n * 10 + (get_or ds i 0 - 48) < 2 ^ 64) → ⊥) → AllDigits 10 ds × (digits_value 10 ds < 2 ^ 64) → ⊥
  read_none none told =
      let digit = digit_at ds i told.0 within in
      none (digit, omega (arith, told.1, value_more digit, at_least (n * 10 + (get_or ds i 0 - 48)) (drop (i + 1) ds)))

-- what is read to the end
pub read_all : (ds : List ℕ) (i n : ℕ) → ReadSoFar ds i n → length ds ≤ i → SomeIff (Some n) (AllDigits 10 ds × (digits_value 10 ds < 2 ^ 64)) (digits_value 10 ds)
read_all ds i n so_far end =
    let none = drop_all i ds end in
    let value : n ≡ digits_value 10 ds = sym (ap (digits_value_after 10 n) none) ∙ so_far.same in
    ((so_far.rest (subst (AllDigits 10) (sym none) tt), omega (arith, value, so_far.fits)), value)
