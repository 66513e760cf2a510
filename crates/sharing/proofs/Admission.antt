-- What the answer of a rule's call says of the pool, the needs and the places.
use Rattle.std.proofs.Common.{◌≡◌, ℕ, ◌≤◌, false, List, length, get_or, Ok, sum, mul-le-mul_right, arith}
use Rattle.std.proofs.lemmas.Bool.{le-ltb}
use Rattle.std.proofs.lemmas.Bool.Decides.{nat_tests}
use Rattle.std.specs.Prelude.{nat_lt}
use Rattle.std.proofs.lemmas.List.{get_or_past}
use Rattle.std.proofs.lemmas.List.Elements.{All-from_get_or}
use Rattle.std.proofs.lemmas.List.Sums.{sum_by-le}
use Rattle.std.proofs.lemmas.List.Folds.{list_any_at, list_any_none}
use Rattle.sharing.specs.Refusals.{answer, some_need_over}

-- the call is not refused
pub record Admitted (pool : ℕ) (needs : List ℕ) (places : ℕ) : Type 0 where
  pub some : 1 ≤ length needs
  pub few : length needs ≤ 32
  pub matching : places ≡ length needs
  pub pool_within : pool ≤ 1000000000
  pub needs_within : (place : ℕ) → get_or needs place 0 ≤ 2000000

over_none : (needs : List ℕ) → some_need_over needs ≡ false → (place : ℕ) → get_or needs place 0 ≤ 2000000
over_none needs none place = grind (arith, nat_tests, list_any_at (nat_lt 2000000) needs place 0, get_or_past needs place 0)

none_over : (needs : List ℕ) → ((place : ℕ) → get_or needs place 0 ≤ 2000000) → some_need_over needs ≡ false
none_over needs within = list_any_none _ needs (All-from_get_or (λ need. nat_lt 2000000 need ≡ false) needs 0 (λ place _. le-ltb 2000000 _ (within place)))

pub admitted : (pool : ℕ) (needs : List ℕ) (places : ℕ) → Ok tt ≡ answer pool needs places → Admitted pool needs places
admitted pool needs places ok = record {
  some = grind (arith, nat_tests);
  few = grind (arith, nat_tests);
  matching = grind (arith, nat_tests);
  pool_within = grind (arith, nat_tests);
  needs_within = over_none needs (grind (arith, nat_tests));
}

pub admits : (pool : ℕ) (needs : List ℕ) (places : ℕ) → Admitted pool needs places → answer pool needs places ≡ Ok tt
admits pool needs places a = let none = none_over needs a.needs_within in grind (arith, nat_tests)

pub sum_within : (pool : ℕ) (needs : List ℕ) (places : ℕ) → Admitted pool needs places → sum needs ≤ 64000000
sum_within pool needs places a =
    let each = sum_by-le (λ need. need) 2000000 needs (All-from_get_or (λ need. need ≤ 2000000) needs 0 (λ place _. a.needs_within place)) in
    omega (arith, each, mul-le-mul_right 2000000 a.few)
