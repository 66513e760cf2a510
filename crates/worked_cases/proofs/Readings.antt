-- A reading that equals its register, and one that is one lower; and the most that a tally takes.
use Rattle.std.proofs.Common.{◌≡◌, ℕ, ◌+◌, ◌<◌, ◌≤◌, pos, Some, Ok, Err, refl, arith}
use Rattle.std.proofs.lemmas.Bool.Decides.{nat_tests}
use Rattle.group.specs.Registers.{opened_register, quantity, with_reading}
use Rattle.group.specs.declared.refusal.BookRefusal.TheVariants.{Below}
use Rattle.worked_cases.specs.Cases.{ReadsAgain, TalliesAsWorked}

nothing_more : (value : ℕ) → quantity value value ≡ Some 0
unfolding quantity
nothing_more value = grind (arith, nat_tests)

as_before : (value : ℕ) → value ≤ 9999999 → with_reading 0 0 value value (opened_register value) ≡ Ok (opened_register value)
as_before value small = let none = nothing_more value in grind (arith, nat_tests, none)

higher : (value kwh : ℕ) → kwh ≤ 1000000 → value + kwh ≤ 9999999 → with_reading 0 0 (value + kwh) (value + kwh) (opened_register value) ≡ Ok (record { standing = value + kwh; tally = pos kwh })
unfolding quantity
higher value kwh few small = grind (arith, nat_tests)

one_lower : (value : ℕ) → value < 9999999 → with_reading 0 0 value value (opened_register (value + 1)) ≡ Err Below
unfolding quantity
one_lower value small = grind (arith, nat_tests)

pub read_again : ReadsAgain
read_again = record { nothing_more = nothing_more; as_before = as_before; higher = higher; one_lower = one_lower; by_number = refl }

pub tallied : TalliesAsWorked
unfolding quantity
tallied = record { stands = refl; one_more = refl; one_more_read = refl; stands_below = refl; one_less = refl; by_number = refl }
