-- What a minus in front of a number's digits tells.
use Rattle.std.proofs.Common.{◌≡◌, ℕ, zero, suc, ◌^◌, ◌<◌, ◌≤◌, List, ◌∷◌, length, get_or, ℤ, pos, negsuc, nat_abs, Some, None, decimal, Option, sym, ap, ◌∙◌, subst, arith}
use Rattle.fields.specs.Digits.{NegatesPositive}
use Rattle.fields.specs.Reads.{Reads}
use Rattle.fields.proofs.Reading.{own}
use Rattle.std.proofs.lemmas.Fmt.{decimal_nonempty, digits_decimal, decimal_injective}
use Rattle.std.proofs.lemmas.Str.Parse.{digit_at}
use Rattle.std.proofs.lemmas.Slice.{first_rest}
use Rattle.std.specs.List.{between}
use Rattle.std.specs.Int.{IsInRange}
use Rattle.std.specs.Fmt.{signed_decimal}

-- a number's text begins with a digit
pub first_digit : (n : ℕ) → n < 2 ^ 64 → IsInRange 48 57 (get_or (decimal n) 0 0)
first_digit n h = digit_at (decimal n) 0 (digits_decimal own n h) (decimal_nonempty n h)

module _ (bs : List ℕ) (most : ℕ) (small : most < 2 ^ 32) (some : 0 < length bs) (minus : get_or bs 0 0 ≡ 45) where
  -- the text is a minus and then its digits
  pub after_minus : bs ≡ 45 ∷ between 1 (length bs) bs
  after_minus = first_rest bs 0 some ∙ ap (λ c. c ∷ between 1 (length bs) bs) minus

  not_above : (n : ℕ) → n ≤ most → bs ≡ decimal n → ⊥
  not_above n le e = let first = first_digit n (omega arith) in let same = ap (λ l. get_or l 0 0) e in omega arith

  digits_are : (n : ℕ) → bs ≡ 45 ∷ decimal n → between 1 (length bs) bs ≡ decimal n
  digits_are n e = let whole = after_minus in cc

  -- without digits that spell a number no signed number is spelled
  pub no_digits : ((x : ℕ) → x ≤ most → between 1 (length bs) bs ≡ decimal x → ⊥) → (z : ℤ) → nat_abs z ≤ most → bs ≡ signed_decimal z → ⊥
  no_digits none (pos n) le e = not_above n le e
  no_digits none (negsuc n) le e = none (suc n) le (digits_are (suc n) e)

  not_zero : (n : ℕ) → n ≤ most → between 1 (length bs) bs ≡ decimal n → (0 < n → ⊥) → (z : ℤ) → nat_abs z ≤ most → bs ≡ signed_decimal z → ⊥
  not_zero n le e none (pos m) within same = not_above m within same
  not_zero n le e none (negsuc m) within same =
      let alike : suc m ≡ n = decimal_injective (suc m) n (omega arith) (omega arith) (sym (digits_are (suc m) same) ∙ e) in
      none (omega arith)

  -- with such digits the number below 0 is spelled
  pub with_digits : (n : ℕ) (r : Option ℤ) → n ≤ most → between 1 (length bs) bs ≡ decimal n → NegatesPositive n r → Reads (λ z. nat_abs z ≤ most) signed_decimal bs r
  with_digits n None le e told = not_zero n le e told
  with_digits zero (Some z) le e told = absurd (omega (arith, told.0))
  with_digits (suc m) (Some z) le e told =
      subst (λ y. (nat_abs y ≤ most) × (bs ≡ signed_decimal y)) (sym told.1) (le, after_minus ∙ ap (λ ds. 45 ∷ ds) e)
