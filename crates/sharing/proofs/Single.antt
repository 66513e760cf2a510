-- What a rule gives one place.
use Rattle.std.proofs.Common.{◌≡◌, ℕ, zero, suc, ◌+◌, ◌-◌, ◌*◌, ◌<◌, min, List, [], ◌∷◌, sum, take, sym, ap, ◌∙◌, ap₂, mul-add, mul-zero, mul-one, refl, add-one, zero-add, arith}
use Rattle.std.specs.Prelude.{slice_index}
use Rattle.std.proofs.Math.Nat.{lt-mul-div-succ, mul-div-le}
use Rattle.std.proofs.Math.Seq.{take-nil}
use Rattle.sharing.specs.Law.{less}
use Rattle.sharing.specs.KeepingTheLaw.{get_or_less, get_or_plus, length_less, portion_grows, reserved_as_many, sum_cons}
use Rattle.sharing.specs.Laws.{PartsAddToRest, PartsGoAhead, RoundsRunningSums, ServesInOrder, SharesWithinOne, IsWithinOne}
use Rattle.sharing.specs.Rules.{ahead, portion, portions, reserved}

pub serves_in_order : ServesInOrder
serves_in_order pool [] place = omega arith
serves_in_order pool (need ∷ needs) zero = omega arith
serves_in_order pool (need ∷ needs) (suc place) =
    omega (arith, serves_in_order (pool - need) needs place, sum_cons need (take place needs))

-- a difference of two portions that are rounded down is less than 1 away from the exact one
near : (given all before need : ℕ) → 0 < all → IsWithinOne given all need (portion given all (before + need) - portion given all before)
near given all before need some =
    let upto = portion given all (before + need) in
    let own = portion given all before in
    let split : upto ≡ own + (upto - own) = omega (arith, portion_grows given all before need) in
    let parted : all * upto ≡ all * own + all * (upto - own) = ap (λ n. all * n) split ∙ mul-add all own (upto - own) in
    let sum_of = mul-add given before need in
    let upto_over = lt-mul-div-succ (given * (before + need)) some in
    let own_over = lt-mul-div-succ (given * before) some in
    let upto_next = mul-add all upto 1 in
    let own_next = mul-add all own 1 in
    let once = mul-one all in
    record {
      above = omega (arith, parted, sum_of, mul-div-le (given * (before + need)) all, own_over, own_next, once);
      below = omega (arith, parted, sum_of, mul-div-le (given * before) all, upto_over, upto_next, once);
    }

each_near : (given all before : ℕ) (needs : List ℕ) (place : ℕ) → 0 < all → IsWithinOne given all (slice_index needs place) (slice_index (portions given all before needs) place)
each_near given all before [] place some = record {
  above = omega (arith, mul-zero all, mul-zero given);
  below = omega (arith, mul-zero all, mul-zero given);
}
each_near given all before (need ∷ needs) zero some = near given all before need some
each_near given all before (need ∷ needs) (suc place) some = each_near given all (before + need) needs place some

pub shares_within_one : SharesWithinOne
shares_within_one pool needs place some = each_near (min pool (sum needs)) (sum needs) 0 needs place some

-- what falls to the needs up to one place, less what falls to those before it
abbrev between : (given all upto before : ℕ) → ℕ
between given all upto before = portion given all upto - portion given all before

each_between : (given all before : ℕ) (needs : List ℕ) (place : ℕ)
    → slice_index (portions given all before needs) place ≡ between given all (before + sum (take (suc place) needs)) (before + sum (take place needs))
each_between given all before [] place =
    let none : sum (take (suc place) []) ≡ sum (take place []) = ap sum (take-nil (suc place) ∙ sym (take-nil place)) in
    omega (arith, ap (λ s. portion given all (before + s)) none)
each_between given all before (need ∷ needs) zero = ap₂ (between given all) (omega arith) (omega arith)
each_between given all before (need ∷ needs) (suc place) =
    each_between given all (before + need) needs place
    ∙ ap₂ (between given all) (omega (arith, sum_cons need (take (suc place) needs))) (omega (arith, sum_cons need (take place needs)))

pub rounds_running_sums : RoundsRunningSums
rounds_running_sums pool needs place =
    let all = sum needs in
    let given = min pool all in
    each_between given all 0 needs place
    ∙ ap₂ (between given all) (zero-add _ ∙ ap (λ n. sum (take n needs)) (sym (add-one place))) (zero-add _)

reserved_at : (pool : ℕ) (parts needs : List ℕ) (place : ℕ) → slice_index (reserved pool parts needs) place ≡ ahead pool (slice_index parts place) (slice_index needs place)
reserved_at pool parts [] place = omega arith
reserved_at pool [] (need ∷ needs) zero = omega (arith, mul-zero pool)
reserved_at pool [] (need ∷ needs) (suc place) = reserved_at pool [] needs place
reserved_at pool (part ∷ parts) (need ∷ needs) zero = refl
reserved_at pool (part ∷ parts) (need ∷ needs) (suc place) = reserved_at pool parts needs place

pub parts_go_ahead : PartsGoAhead
parts_go_ahead below parts pool needs place =
    let first = reserved pool parts needs in
    omega (arith, get_or_plus first (below (pool - sum first) (less needs first)) place, reserved_at pool parts needs place)

pub parts_add_to_rest : PartsAddToRest
parts_add_to_rest below parts pool needs =
    let first = reserved pool parts needs in
    let rest = less needs first in
    record {
      first = first;
      rest = rest;
      goes_ahead = record { as_many = reserved_as_many pool parts needs; each = reserved_at pool parts needs };
      is_left = record { as_many = length_less needs first; each = get_or_less needs first };
      each = get_or_plus first (below (pool - sum first) rest);
    }
