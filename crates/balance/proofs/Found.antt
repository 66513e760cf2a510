-- What is found in a list at a place, and what its elements come to.
use Rattle.std.proofs.Common.{◌≡◌, ℕ, zero, suc, ◌+◌, ◌<◌, length, List, [], ◌∷◌, map, ℤ, pos, ◌+ℤ◌, set, get_or, length-set, slice_get, Some, ◌≢◌, ◌⊎◌, inl, inr, ⊎_elim, refl, ap, ◌∙◌, arith, add-zero}
use Rattle.std.proofs.lemmas.Int.{ints}
use Rattle.std.proofs.lemmas.List.{get_or-set_same}
use Rattle.std.proofs.lemmas.Option.{slice_get-get_or, slice_get_within}
use Rattle.group.specs.Months.{by_place}

-- what the elements come to
abbrev pub sum_of : {A : Type 0} → (A → ℤ) → List A → ℤ
sum_of f [] = pos 0
sum_of f (x ∷ xs) = f x +ℤ sum_of f xs

-- one element is replaced
pub sum_of-set : {A : Type 0} (f : A → ℤ) (xs : List A) (i : ℕ) (x y : A) → slice_get xs i ≡ Some x → sum_of f (set xs i y) +ℤ f x ≡ sum_of f xs +ℤ f y
sum_of-set f [] i x y found = absurd cc
sum_of-set f (z ∷ zs) zero x y found = let same : z ≡ x = cc in let e = ap f same in omega (arith, ints, e)
sum_of-set f (z ∷ zs) (suc i) x y found = let rest = sum_of-set f zs i x y found in omega (arith, ints, rest)

-- what is found after it
pub found_after_set : {A : Type 0} (xs : List A) (i : ℕ) (y : A) (k : ℕ) (z : A) → slice_get (set xs i y) k ≡ Some z → ((k ≡ i) × (z ≡ y)) ⊎ ((i ≢ k) × (slice_get xs k ≡ Some z))
found_after_set [] i y k z found = inr (absurd cc)
found_after_set (x ∷ xs) zero y zero z found = inl (refl, cc)
found_after_set (x ∷ xs) zero y (suc k) z found = inr (λ e. absurd (omega arith), found)
found_after_set (x ∷ xs) (suc i) y zero z found = inr (λ e. absurd (omega arith), found)
found_after_set (x ∷ xs) (suc i) y (suc k) z found = ⊎_elim (λ h. inl (ap suc h.0, h.1)) (λ h. inr (λ e. h.0 (omega arith), h.1)) (found_after_set xs i y k z found)

-- what was put at a place within a list is found there
pub found_set : {A : Type 0} (xs : List A) (i : ℕ) (x : A) → i < length xs → slice_get (set xs i x) i ≡ Some x
found_set xs i x inside =
    let here : i < length (set xs i x) = omega (arith, inside, length-set xs i x) in
    slice_get-get_or (set xs i x) i x here ∙ ap Some (get_or-set_same xs i x x inside)

-- what is found in a list of what is made of the elements of another
pub found_in_map : {A B : Type 0} (f : A → B) (xs : List A) (k : ℕ) (z : B) → slice_get (map f xs) k ≡ Some z → (x : A) × (slice_get xs k ≡ Some x) × (f x ≡ z)
found_in_map f [] k z found = absurd cc
found_in_map f (x ∷ xs) zero z found = (x, refl, cc)
found_in_map f (x ∷ xs) (suc k) z found = found_in_map f xs k z found

pub found_by_place : {A B : Type 0} (f : ℕ → A → B) (first : ℕ) (xs : List A) (k : ℕ) (z : B) → slice_get (by_place f first xs) k ≡ Some z → (x : A) × (slice_get xs k ≡ Some x) × (f (first + k) x ≡ z)
found_by_place f first [] k z found = absurd cc
found_by_place f first (x ∷ xs) zero z found = (x, refl, rw add-zero cc)
found_by_place f first (x ∷ xs) (suc k) z found =
    let (y, at, is) = found_by_place f (first + 1) xs k z found in
    let same : first + suc k ≡ (first + 1) + k = omega arith in
    (y, at, ap (λ n. f n y) same ∙ is)

pub by_place_at : {A : Type 0} {B : Type 0} (f : ℕ → A → B) (first : ℕ) (xs : List A) (k : ℕ) (x : A) → slice_get xs k ≡ Some x → slice_get (by_place f first xs) k ≡ Some (f (first + k) x)
by_place_at f first [] k x found = absurd cc
by_place_at f first (y ∷ ys) zero x found = let same : y ≡ x = cc in rw (add-zero, same) refl
by_place_at f first (y ∷ ys) (suc k) x found =
    let same : (first + 1) + k ≡ first + suc k = omega arith in
    by_place_at f (first + 1) ys k x found ∙ ap (λ n. Some (f n x)) same

-- what was found there before
pub found_before_set : {A : Type 0} (xs : List A) (i : ℕ) (y d : A) (k : ℕ) (z : A) → slice_get (set xs i y) k ≡ Some z → slice_get xs k ≡ Some (get_or xs k d)
found_before_set xs i y d k z found =
    let inside = slice_get_within (set xs i y) k z found in
    slice_get-get_or xs k d (omega (arith, inside, length-set xs i y))

-- one element is replaced by one that comes to the same
pub sum_of-set_same : {A : Type 0} (f : A → ℤ) (xs : List A) (i : ℕ) (y d : A) → f y ≡ f (get_or xs i d) → sum_of f (set xs i y) ≡ sum_of f xs
sum_of-set_same f [] i y d same = refl
sum_of-set_same f (x ∷ xs) zero y d same = ap (λ n. n +ℤ sum_of f xs) same
sum_of-set_same f (x ∷ xs) (suc i) y d same = ap (λ n. f x +ℤ n) (sum_of-set_same f xs i y d same)

-- where nothing is left of each element, nothing is left of all
pub sum_of_nothing : {A : Type 0} (f : A → ℤ) (xs : List A) → ((x : A) → f x ≡ pos 0) → sum_of f xs ≡ pos 0
sum_of_nothing f [] none = refl
sum_of_nothing f (x ∷ xs) none = let rest = sum_of_nothing f xs none in omega (arith, ints, rest, none x)
