-- Each sharing rule keeps the law.
use Rattle.std.specs.Prelude.{◌≡◌, ℕ, zero, suc, ◌+◌, ◌-◌, ◌*◌, ◌/◌, ◌≤◌, min, List, [], ◌∷◌, length, sum, slice_index, refl}
use Rattle.std.proofs.Common.{sym, ap, ◌∙◌, mul-add, mul-le-mul_right, mul-le-mul_left, mul-zero, zero-add, add-zero, le_trans, div-mul-le_self, le-div_iff_mul-le, arith}
use Rattle.std.proofs.Math.Nat.{add-mul-div_left, mul-div_left, zero-div, div-zero, mul-div-le}
use Rattle.std.proofs.lemmas.List.Sums.{sum_by-cons}
use Rattle.sharing.specs.Law.{SharingLaw, plus, less}
use Rattle.sharing.specs.Rules.{line_order, portion, portions, proportion, ahead, reserved, with_parts}

pub sum_cons : (x : ℕ) (xs : List ℕ) → sum (x ∷ xs) ≡ x + sum xs
sum_cons x xs = sum_by-cons (λ y. y) x xs

-- ---- line order

line_order_within : (pool : ℕ) (needs : List ℕ) (place : ℕ) → slice_index (line_order pool needs) place ≤ slice_index needs place
line_order_within pool [] place = omega arith
line_order_within pool (need ∷ needs) zero = omega arith
line_order_within pool (need ∷ needs) (suc place) = line_order_within (pool - need) needs place

pub line_order_keeps_law : (pool : ℕ) (needs : List ℕ) → SharingLaw pool needs (line_order pool needs)
line_order_keeps_law pool [] = record { as_many = refl; within = λ place. omega arith; whole = omega arith }
line_order_keeps_law pool (need ∷ needs) =
    let below = line_order_keeps_law (pool - need) needs in
    record {
      as_many = ap suc below.as_many;
      within = line_order_within pool (need ∷ needs);
      whole = omega (arith, below.whole, sum_cons need needs, sum_cons (min pool need) (line_order (pool - need) needs));
    }

-- ---- proportion

div_grows : (all a b : ℕ) → a ≤ b → a / all ≤ b / all
div_grows zero a b le = omega (arith, div-zero a, div-zero b)
div_grows (suc all) a b le =
    let fits : a / suc all * suc all ≤ b = le_trans (div-mul-le_self a (suc all)) le in
    (le-div_iff_mul-le (omega arith)).1 fits

-- a portion grows with the needs that it is for, and by no more than they do
pub portion_grows : (given all before need : ℕ) → portion given all before ≤ portion given all (before + need)
portion_grows given all before need = div_grows all _ _ (mul-le-mul_left given (omega arith))

portion_grows_within : (given all before need : ℕ) → given ≤ all → portion given all (before + need) ≤ portion given all before + need
portion_grows_within given zero before need small = omega (arith, div-zero (given * (before + need)))
portion_grows_within given (suc all) before need small =
    let more : given * (before + need) ≤ given * before + suc all * need = omega (arith, mul-add given before need, mul-le-mul_right need small) in
    omega (arith, div_grows (suc all) _ _ more, add-mul-div_left (given * before) need {y = suc all} (omega arith))

portions_as_many : (given all before : ℕ) (needs : List ℕ) → length (portions given all before needs) ≡ length needs
portions_as_many given all before [] = refl
portions_as_many given all before (need ∷ needs) = ap suc (portions_as_many given all (before + need) needs)

portions_within : (given all before : ℕ) (needs : List ℕ) (place : ℕ) → given ≤ all → slice_index (portions given all before needs) place ≤ slice_index needs place
portions_within given all before [] place small = omega arith
portions_within given all before (need ∷ needs) zero small = omega (arith, portion_grows_within given all before need small)
portions_within given all before (need ∷ needs) (suc place) small = portions_within given all (before + need) needs place small

-- the differences add up to the last portion less the first
portions_sum : (given all before : ℕ) (needs : List ℕ) → sum (portions given all before needs) + portion given all before ≡ portion given all (before + sum needs)
portions_sum given all before [] = omega (arith, ap (λ first. portion given all first) (add-zero before))
portions_sum given all before (need ∷ needs) =
    let rest = portions given all (before + need) needs in
    let own = portion given all (before + need) - portion given all before in
    let upto : portion given all (before + need + sum needs) ≡ portion given all (before + sum (need ∷ needs)) = ap (λ first. portion given all first) (omega (arith, sum_cons need needs)) in
    omega (arith, sum_cons own rest, portions_sum given all (before + need) needs, portion_grows given all before need, upto)

portion_none : (given all : ℕ) → portion given all 0 ≡ 0
portion_none given all = ap (λ n. n / all) (mul-zero given) ∙ zero-div all

portion_all : (given all : ℕ) → given ≤ all → portion given all all ≡ given
portion_all given zero small = div-zero _ ∙ omega arith
portion_all given (suc all) small = mul-div_left given (omega arith)

pub proportion_keeps_law : (pool : ℕ) (needs : List ℕ) → SharingLaw pool needs (proportion pool needs)
proportion_keeps_law pool needs =
    let all = sum needs in
    let given = min pool all in
    let small : given ≤ all = omega arith in
    record {
      as_many = portions_as_many given all 0 needs;
      within = λ place. portions_within given all 0 needs place small;
      whole = omega (arith, portions_sum given all 0 needs, portion_none given all, portion_all given all small, ap (λ first. portion given all first) (zero-add all));
    }

-- ---- sums and differences place by place

length_plus : (xs ys : List ℕ) → length xs ≡ length ys → length (plus xs ys) ≡ length xs
length_plus [] ys same = sym same
length_plus (x ∷ xs) [] same = refl
length_plus (x ∷ xs) (y ∷ ys) same = ap suc (length_plus xs ys (omega arith))

pub get_or_plus : (xs ys : List ℕ) (k : ℕ) → slice_index (plus xs ys) k ≡ slice_index xs k + slice_index ys k
get_or_plus [] ys k = omega arith
get_or_plus (x ∷ xs) [] k = omega arith
get_or_plus (x ∷ xs) (y ∷ ys) zero = refl
get_or_plus (x ∷ xs) (y ∷ ys) (suc k) = get_or_plus xs ys k

sum_plus : (xs ys : List ℕ) → sum (plus xs ys) ≡ sum xs + sum ys
sum_plus [] ys = omega arith
sum_plus (x ∷ xs) [] = omega arith
sum_plus (x ∷ xs) (y ∷ ys) =
    omega (arith, sum_cons (x + y) (plus xs ys), sum_cons x xs, sum_cons y ys, sum_plus xs ys)

pub length_less : (xs ys : List ℕ) → length (less xs ys) ≡ length xs
length_less [] ys = refl
length_less (x ∷ xs) [] = refl
length_less (x ∷ xs) (y ∷ ys) = ap suc (length_less xs ys)

pub get_or_less : (xs ys : List ℕ) (k : ℕ) → slice_index (less xs ys) k ≡ slice_index xs k - slice_index ys k
get_or_less [] ys k = omega arith
get_or_less (x ∷ xs) [] k = omega arith
get_or_less (x ∷ xs) (y ∷ ys) zero = refl
get_or_less (x ∷ xs) (y ∷ ys) (suc k) = get_or_less xs ys k

pub sum_less : (xs ys : List ℕ) → length ys ≡ length xs → ((k : ℕ) → slice_index ys k ≤ slice_index xs k) → sum (less xs ys) + sum ys ≡ sum xs
sum_less [] [] same within = omega arith
sum_less [] (y ∷ ys) same within = absurd (omega arith)
sum_less (x ∷ xs) [] same within = omega arith
sum_less (x ∷ xs) (y ∷ ys) same within =
    omega (arith, sum_cons (x - y) (less xs ys), sum_cons x xs, sum_cons y ys, within zero, sum_less xs ys (omega arith) (λ k. within (suc k)))

-- ---- shares added to shares

-- shares within the needs and the pool, and shares of what they leave of the pool that keep the law for what they leave of the
-- needs, are together shares of the whole that keep the law
pub together_keeps_law : (pool : ℕ) (needs first after : List ℕ)
    → length first ≡ length needs → ((place : ℕ) → slice_index first place ≤ slice_index needs place) → sum first ≤ pool
    → SharingLaw (pool - sum first) (less needs first) after → SharingLaw pool needs (plus first after)
together_keeps_law pool needs first after as_many within fits rest = record {
  as_many = length_plus first after (as_many ∙ sym (length_less needs first) ∙ sym rest.as_many) ∙ as_many;
  within = λ k. omega (arith, get_or_plus first after k, rest.within k, get_or_less needs first k, within k);
  whole = omega (arith, sum_plus first after, rest.whole, sum_less needs first as_many within);
}

-- so are shares that keep the law for a part of each need, and shares of what these leave
pub layered_keeps_law : (pool : ℕ) (needs some first after : List ℕ)
    → length some ≡ length needs → ((place : ℕ) → slice_index some place ≤ slice_index needs place) → SharingLaw pool some first
    → SharingLaw (pool - sum first) (less needs first) after → SharingLaw pool needs (plus first after)
layered_keeps_law pool needs some first after as_many within keeps_law rest =
    together_keeps_law pool needs first after (keeps_law.as_many ∙ as_many) (λ k. le_trans (keeps_law.within k) (within k)) (omega (arith, keeps_law.whole)) rest

-- ---- parts

pub reserved_as_many : (pool : ℕ) (parts needs : List ℕ) → length (reserved pool parts needs) ≡ length needs
reserved_as_many pool parts [] = refl
reserved_as_many pool [] (need ∷ needs) = ap suc (reserved_as_many pool [] needs)
reserved_as_many pool (part ∷ parts) (need ∷ needs) = ap suc (reserved_as_many pool parts needs)

reserved_within : (pool : ℕ) (parts needs : List ℕ) (k : ℕ) → slice_index (reserved pool parts needs) k ≤ slice_index needs k
reserved_within pool parts [] k = omega arith
reserved_within pool [] (need ∷ needs) zero = omega arith
reserved_within pool [] (need ∷ needs) (suc k) = reserved_within pool [] needs k
reserved_within pool (part ∷ parts) (need ∷ needs) zero = omega arith
reserved_within pool (part ∷ parts) (need ∷ needs) (suc k) = reserved_within pool parts needs k

-- the parts add up to no more of the pool than their sum is of the whole
reserved_of_pool : (pool : ℕ) (parts needs : List ℕ) → 10000 * sum (reserved pool parts needs) ≤ pool * sum parts
reserved_of_pool pool parts [] = omega arith
reserved_of_pool pool [] (need ∷ needs) = reserved_of_pool pool [] needs
reserved_of_pool pool (part ∷ parts) (need ∷ needs) =
    let all = ap (λ s. pool * s) (sum_cons part parts) ∙ mul-add pool part (sum parts) in
    omega (arith, sum_cons (ahead pool part need) (reserved pool parts needs), all, mul-div-le (pool * part) 10000, reserved_of_pool pool parts needs)

pub reserved_in_pool : (pool : ℕ) (parts needs : List ℕ) → sum parts ≤ 10000 → sum (reserved pool parts needs) ≤ pool
reserved_in_pool pool parts needs whole =
    omega (arith, reserved_of_pool pool parts needs, mul-le-mul_left pool whole)

module _ (below : ℕ → List ℕ → List ℕ) (law : (pool : ℕ) (needs : List ℕ) → SharingLaw pool needs (below pool needs)) where
  pub with_parts_keeps_law : (parts : List ℕ) → sum parts ≤ 10000 → (pool : ℕ) (needs : List ℕ) → SharingLaw pool needs (with_parts below parts pool needs)
  with_parts_keeps_law parts whole pool needs =
      let first = reserved pool parts needs in
      together_keeps_law pool needs first _ (reserved_as_many pool parts needs) (reserved_within pool parts needs) (reserved_in_pool pool parts needs whole)
      (law (pool - sum first) (less needs first))
