-- What a payment does to an account.
use Rattle.std.specs.Prelude.{ℕ, Bool, ◌||◌, if◌then◌else◌, pos, neg_ℤ, ◌-ℤ◌, int_lt, nat_lt, Ok, Err, Result}
use Rattle.billing.specs.declared.account.Account.{Account}
use Rattle.group.specs.declared.refusal.BookRefusal.{BookRefusal}
use Rattle.group.specs.declared.refusal.BookRefusal.TheVariants.{Value, Debt}

-- the largest payment, in drams
abbrev pub most_payment : ℕ
most_payment = 100000000

-- the most that a payment may leave a member to have paid in advance, in drams
abbrev pub most_in_advance : ℕ
most_in_advance = 1000000000

-- a payment is not of 1 to 100,000,000 drams
abbrev pub payment_is_outside : (drams : ℕ) → Bool
payment_is_outside drams = nat_lt drams 1 || nat_lt most_payment drams

-- the group would owe the member too much after a payment
abbrev pub debt_would_be_too_low : (drams : ℕ) → Account → Bool
debt_would_be_too_low drams account = int_lt (account.debt -ℤ pos drams) (neg_ℤ (pos most_in_advance))

-- the account after a payment
abbrev pub with_payment : (drams : ℕ) → Account → Result Account BookRefusal
with_payment drams account =
    if payment_is_outside drams then Err Value
    else (if debt_would_be_too_low drams account then Err Debt
    else Ok (record account { debt = account.debt -ℤ pos drams }))
