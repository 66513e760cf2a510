-- The pool of a zone, as its surpluses are added up to the largest number.
use Rattle.std.proofs.Common.{◌≡◌, ℕ, ◌+◌, List, [], ◌∷◌, ◌++◌, ℤ, if◌then◌else◌, nat_lt, Ok, Err, arith}
use Rattle.std.proofs.lemmas.Bool.Decides.{nat_tests}
use Rattle.std.proofs.lemmas.Grind.{common_steps}
use Rattle.sharing.specs.declared.refusal.ShareRefusal.TheVariants.{Size}
use Rattle.billing.specs.Zones.{pool_of, surplus}

pub pool_more : (carried : ℕ) (before : List ℤ) (net : ℤ) → pool_of carried (before ++ net ∷ []) ≡ pool_of carried before + surplus net
pool_more carried before net = grind (arith, common_steps)

pub pool_is : (pool found : ℕ) → Ok found ≡ (if nat_lt 1000000000 pool then Err Size else Ok pool) → found ≡ pool
pool_is pool found is = grind (arith, nat_tests)
