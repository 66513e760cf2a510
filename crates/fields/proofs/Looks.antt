-- What a text that is no token of a kind is not.
use Rattle.std.proofs.Common.{◌≡◌, ℕ, suc, ◌^◌, ◌<◌, ◌≤◌, List, length, get_or, ℤ, pos, negsuc, nat_abs, codes, decimal, sym, refl, ap, subst, inl, inr, arith, Bor}
use Rattle.fields.proofs.Reading.{own}
use Rattle.fields.proofs.Signs.{first_digit}
use Rattle.fields.proofs.Spelling.{day_text_length, day_text_shaped}
use Rattle.fields.specs.Texts.{day_text}
use Rattle.fields.specs.Tokens.{LooksLikeDate, LooksLikeNumber, IsTokenOf}
use Rattle.fields.specs.declared.token.Token.{Token}
use Rattle.fields.specs.declared.token.Token.TheVariants.{Missing, Word, Number, Date}
use Rattle.std.proofs.lemmas.Fmt.{decimal_nonempty, digits_decimal}
use Rattle.std.proofs.lemmas.Str.Parse.{digit_at}
use Rattle.std.specs.Fmt.{signed_decimal}

-- a text that begins with a digit or a minus, is not a minus alone and has no hyphen as its fifth byte is told as a number
abbrev Numeric : List ℕ → Type 0
Numeric bs = LooksLikeNumber bs × (bs ≡ codes "-" → ⊥) × (LooksLikeDate bs → ⊥)

told_as_number : (bs : List ℕ) (token : Token) → IsTokenOf bs token → ((part : Bor (List ℕ)) → token ≡ Number part → ⊥) → Numeric bs → ⊥
told_as_number bs Missing told other is = is.1 told
told_as_number bs (Word part) told other is = told.1.1 is.0
told_as_number bs (Number part) told other is = other part refl
told_as_number bs (Date part) told other is = is.2 told.1

numeric_decimal : (n : ℕ) → n < 2 ^ 64 → Numeric (decimal n)
numeric_decimal n h =
    let first = first_digit n h in (
      inl first,
      (λ e. let same = ap (λ bs. get_or bs 0 0) e in omega arith),
      λ like. let fifth = digit_at (decimal n) 4 (digits_decimal own n h) (omega (arith, like.ten)) in omega (arith, like.after_the_year),
    )

-- what is not told as a number spells none
pub no_number : (bs : List ℕ) (token : Token) → IsTokenOf bs token → ((part : Bor (List ℕ)) → token ≡ Number part → ⊥) → (n : ℕ) → n < 2 ^ 64 → bs ≡ decimal n → ⊥
no_number bs token told other n h e = told_as_number bs token told other (subst Numeric (sym e) (numeric_decimal n h))

numeric_signed : (most : ℕ) (z : ℤ) → most < 2 ^ 32 → nat_abs z ≤ most → Numeric (signed_decimal z)
numeric_signed most (pos n) small le = numeric_decimal n (omega arith)
numeric_signed most (negsuc n) small le =
    let h : suc n < 2 ^ 64 = omega arith in (
      inr refl,
      (λ e. let short = ap length e in let some = decimal_nonempty (suc n) h in omega arith),
      λ like. let fifth = digit_at (decimal (suc n)) 3 (digits_decimal own (suc n) h) (omega (arith, like.ten)) in omega (arith, like.after_the_year),
    )

-- nor a signed number
pub no_signed : (bs : List ℕ) (token : Token) → IsTokenOf bs token → ((part : Bor (List ℕ)) → token ≡ Number part → ⊥) → (most : ℕ) (z : ℤ) → most < 2 ^ 32 → nat_abs z ≤ most → bs ≡ signed_decimal z → ⊥
no_signed bs token told other most z small le e = told_as_number bs token told other (subst Numeric (sym e) (numeric_signed most z small le))

told_as_date : (bs : List ℕ) (token : Token) → IsTokenOf bs token → ((part : Bor (List ℕ)) → token ≡ Date part → ⊥) → LooksLikeDate bs → ⊥
told_as_date bs Missing told other like = let short = ap length told in omega (arith, like.ten)
told_as_date bs (Word part) told other like = told.1.0 like
told_as_date bs (Number part) told other like = told.2 like
told_as_date bs (Date part) told other like = other part refl

-- what is not told as a date spells none
pub no_date : (bs : List ℕ) (token : Token) → IsTokenOf bs token → ((part : Bor (List ℕ)) → token ≡ Date part → ⊥) → (day : ℕ) → bs ≡ day_text day → ⊥
no_date bs token told other day e =
    let shaped = day_text_shaped day in
    told_as_date bs token told other
    (subst LooksLikeDate (sym e) (record { ten = day_text_length day; after_the_year = shaped.0; after_the_month = shaped.1 }))
