-- Of lists by place.
use Rattle.std.proofs.Common.{◌≡◌, ℕ, zero, suc, ◌+◌, ◌<◌, List, [], ◌∷◌, ◌++◌, length, take, slice_get, Some, get_or, All, refl, subst, sym, ap, ◌∙◌, add-zero, arith}
use Rattle.std.proofs.lemmas.Grind.{common_steps}
use Rattle.std.proofs.lemmas.List.{take_more}
use Rattle.std.proofs.lemmas.Option.{get_or_from_slice_get, slice_get_within}
use Rattle.group.specs.Months.{by_place}

-- what holds of each element of a list holds of one that is found in it
pub found_all : {X : Type 0} (P : X → Type 0) (xs : List X) (i : ℕ) (x : X) → All P xs → slice_get xs i ≡ Some x → P x
found_all P xs i x all is = subst P (get_or_from_slice_get xs i x x is) (all i x (slice_get_within xs i x is))

-- there is something for each element
pub length-by_place : {A B : Type 0} (f : ℕ → A → B) (first : ℕ) (xs : List A) → length (by_place f first xs) ≡ length xs
length-by_place f first [] = refl
length-by_place f first (x ∷ xs) = ap suc (length-by_place f (first + 1) xs)

-- what holds of each is found by its place
pub get_or-by_place : {A B : Type 0} (f : ℕ → A → B) (first : ℕ) (xs : List A) (k : ℕ) (d : A) (e : B) → k < length xs → get_or (by_place f first xs) k e ≡ f (first + k) (get_or xs k d)
get_or-by_place f first [] k d e inside = absurd (omega arith)
get_or-by_place f first (x ∷ xs) zero d e inside = rw add-zero refl
get_or-by_place f first (x ∷ xs) (suc k) d e inside = get_or-by_place f (first + 1) xs k d e (omega arith) ∙ ap (λ n. f n (get_or xs k d)) (omega arith)

-- one more element has one more
pub by_place_more : {A B : Type 0} (f : ℕ → A → B) (first : ℕ) (xs : List A) (x : A) → by_place f first (xs ++ x ∷ []) ≡ by_place f first xs ++ f (first + length xs) x ∷ []
by_place_more f first [] x = ap (λ n. f n x ∷ []) (sym (omega arith))
by_place_more f first (y ∷ ys) x = ap (λ l. f first y ∷ l) (by_place_more f (first + 1) ys x ∙ ap (λ n. by_place f (first + 1) ys ++ f n x ∷ []) (omega arith))

-- so far as one element more
pub by_place_next : {A B : Type 0} (f : ℕ → A → B) (xs : List A) (place : ℕ) (d : A) → place < length xs → by_place f 0 (take (place + 1) xs) ≡ by_place f 0 (take place xs) ++ f place (get_or xs place d) ∷ []
by_place_next f xs place d inside =
    let more = take_more xs place d inside in
    let front : length (take place xs) ≡ place = grind (arith, common_steps) in
    ap (by_place f 0) more ∙ (by_place_more f 0 (take place xs) (get_or xs place d) ∙ ap (λ n. by_place f 0 (take place xs) ++ f n (get_or xs place d) ∷ []) (omega (arith, front)))
