-- A zone's month: what its members need and have over, what is covered and billed, and what is carried on.
use Rattle.std.specs.Prelude.{◌≡◌, ℕ, suc, ◌+◌, ◌-◌, Bool, ◌&&◌, if◌then◌else◌, ◌⊎◌, List, map, length, ℤ, pos, negsuc, Ok, Err, sum, Result, ◌==◌, nat_le, nat_lt}
use Rattle.sharing.specs.Law.{less, plus}
use Rattle.sharing.specs.Limits.{most_places}
use Rattle.sharing.specs.Refusals.{answer}
use Rattle.sharing.specs.declared.refusal.ShareRefusal.{ShareRefusal}
use Rattle.sharing.specs.declared.refusal.ShareRefusal.TheVariants.{Count}

-- a positive net is a need
abbrev pub need : ℤ → ℕ
need (pos n) = n
need (negsuc n) = 0

-- a negative net is a surplus
abbrev pub surplus : ℤ → ℕ
surplus (pos n) = 0
surplus (negsuc n) = suc n

-- the needs of all members, 0 where a member has none
abbrev pub needs_of : List ℤ → List ℕ
needs_of nets = map need nets

-- what there is to share: the carried balance and all surpluses
abbrev pub pool_of : ℕ → List ℤ → ℕ
pool_of carried nets = carried + sum (map surplus nets)

-- there are 1 to 32 members, with a place to cover and a place to bill for each
abbrev pub places_match : (members to_cover to_bill : ℕ) → Bool
places_match members to_cover to_bill =
    nat_lt 0 members && (nat_le members most_places && (to_cover == members && to_bill == members))

-- whether a zone is settled: 7 where there are not 1 to 32 members or not as many places in both slices, else 8 where the pool or a need is too large
abbrev pub zone_answer : (carried : ℕ) (nets : List ℤ) (to_cover to_bill : ℕ)
    → Result (Unit {0}) ShareRefusal
zone_answer carried nets to_cover to_bill =
    if places_match (length nets) to_cover to_bill
    then answer (pool_of carried nets) (needs_of nets) to_cover
    else Err Count

-- the shares of the needs are covered, what is left of them is billed, and what is left of the pool is carried on
pub record SplitsPool (share : ℕ → List ℕ → List ℕ) (carried : ℕ) (nets : List ℤ) (left : ℕ) (covered billed : List ℕ) : Type 0 where
  pub covered_is : covered ≡ share (pool_of carried nets) (needs_of nets)
  pub billed_is : billed ≡ less (needs_of nets) covered
  pub left_is : left ≡ pool_of carried nets - sum covered

-- the two slices of a call, before it and after it
pub record Slices : Type 0 where
  pub covered : List ℕ
  pub billed : List ℕ

-- what the settling of a zone answers and leaves in its slices
abbrev pub SettlesZone : (ℕ → List ℕ → List ℕ) → ℕ → List ℤ → Result ℕ ShareRefusal
    → (before after : Slices) → Type 0
SettlesZone share carried nets (Ok left) before after =
    (zone_answer carried nets (length before.covered) (length before.billed) ≡ Ok tt)
    × SplitsPool share carried nets left after.covered after.billed
SettlesZone share carried nets (Err refusal) before after =
    (zone_answer carried nets (length before.covered) (length before.billed) ≡ Err refusal)
    × (after.covered ≡ before.covered) × (after.billed ≡ before.billed)

-- no kWh is lost or invented: what is carried on and covered is the pool, and what is billed and covered is each need;
-- and a zone does not both bill and carry
pub record Balances (carried : ℕ) (nets : List ℤ) (left : ℕ) (covered billed : List ℕ) : Type 0 where
  pub of_the_pool : left + sum covered ≡ pool_of carried nets
  pub of_each_need : plus billed covered ≡ needs_of nets
  pub not_both : (left ≡ 0) ⊎ (sum billed ≡ 0)
