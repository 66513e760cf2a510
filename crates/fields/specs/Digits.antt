-- What the digits of a number tell.
use Rattle.std.specs.Prelude.{◌≡◌, ℕ, ◌+◌, ◌-◌, ◌*◌, ◌^◌, ◌<◌, List, ℤ, pos, neg_ℤ, decimal, Option, MatchOption, ◌≢◌}
use Rattle.std.specs.Option.{SomeIff}
use Rattle.std.specs.Int.{IsInRange}

-- the value of a byte that is a digit
abbrev pub ReadsDigit : ℕ → Option ℕ → Type 0
ReadsDigit c r = SomeIff r (IsInRange 48 57 c) (c - 48)

-- the number that two digits write
abbrev pub ReadsTwoDigits : (tens ones : ℕ) → Option ℕ → Type 0
ReadsTwoDigits tens ones r =
    SomeIff r (IsInRange 48 57 tens × IsInRange 48 57 ones) ((tens - 48) * 10 + (ones - 48))

-- the number that four digits write
abbrev pub ReadsFourDigits : (thousands hundreds tens ones : ℕ) → Option ℕ → Type 0
ReadsFourDigits thousands hundreds tens ones r =
    SomeIff r
    (IsInRange 48 57 thousands × IsInRange 48 57 hundreds
    × IsInRange 48 57 tens × IsInRange 48 57 ones)
    ((thousands - 48) * 1000 + (hundreds - 48) * 100 + (tens - 48) * 10 + (ones - 48))

-- the one number of 64 bits whose text the bytes are, or none where there is no such number
abbrev pub SpellsNumber : List ℕ → Option ℕ → Type 0
SpellsNumber bs r =
    MatchOption r ((x : ℕ) → x < 2 ^ 64 → bs ≢ decimal x)
    (λ n. (bs ≡ decimal n) × ((x : ℕ) → x < 2 ^ 64 → bs ≡ decimal x → x ≡ n))

-- the negative of a number, or none where it is 0
abbrev pub NegatesPositive : ℕ → Option ℤ → Type 0
NegatesPositive n r = SomeIff r (0 < n) (neg_ℤ (pos n))
