-- What is known of the quantity of a reading, as it is counted.
use Rattle.std.proofs.Common.{◌≡◌, ℕ, ◌≤◌, Some, arith, sym}
use Rattle.std.proofs.lemmas.Bool.Decides.{nat_tests}
use Rattle.group.specs.Registers.{QuantitiesHaveSevenDigits, quantity}

-- it is at most the value
pub quantity_within : (standing value kwh : ℕ) → Some kwh ≡ quantity standing value → kwh ≤ value
unfolding quantity
quantity_within standing value kwh is = grind (arith, nat_tests)

pub seven_digits : QuantitiesHaveSevenDigits
seven_digits standing value kwh small is =
    let within = quantity_within standing value kwh (sym is) in omega (arith, small, within)
