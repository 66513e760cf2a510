-- Texts without a separator, and how a separator cuts a text.
use Rattle.std.proofs.Common.{◌≡◌, ℕ, zero, suc, ◌^◌, ◌<◌, Bool, true, not, ◌&&◌, eqb, List, [], ◌∷◌, ◌++◌, length, get_or, ℤ, pos, negsuc, nat_abs, decimal, refl, ap, ◌∙◌, ap₂, arith, length-append}
use Rattle.fields.proofs.Reading.{own}
use Rattle.fields.specs.Cuts.{Lacks}
use Rattle.std.proofs.lemmas.Fmt.{digits_decimal}
use Rattle.std.proofs.lemmas.List.Elements.{All-append, All-from_get_or, All-get_or}
use Rattle.std.proofs.lemmas.List.{get_or_at}
use Rattle.std.proofs.lemmas.Str.Parse.{not_in_digits}
use Rattle.std.proofs.lemmas.Bool.{and_parts, eqb-false, not-true}
use Rattle.std.specs.Int.{IsInRange}
use Rattle.std.specs.Fmt.{signed_decimal}

-- a text without the separator is not cut by it
pub no_mark : (separator : ℕ) (a x b : List ℕ) → Lacks separator b → b ≡ a ++ (separator ∷ x) → ⊥
no_mark separator a x b lacks e =
    lacks (length a) (omega (arith, ap length e, length-append a (separator ∷ x))) (ap (λ l. get_or l (length a) 0) e ∙ get_or_at a separator x 0 (length a) refl)

pub lacks_append : (separator : ℕ) (a b : List ℕ) → Lacks separator a → Lacks separator b → Lacks separator (a ++ b)
lacks_append separator a b la lb k h =
    let P : ℕ → Type 0 = λ c. c ≡ separator → ⊥ in
    All-get_or P (a ++ b) k 0 h (All-append P a b (All-from_get_or P a 0 la) (All-from_get_or P b 0 lb))

pub lacks_one : (separator c : ℕ) → (c ≡ separator → ⊥) → Lacks separator (c ∷ [])
lacks_one separator c other zero h e = other e
lacks_one separator c other (suc k) h e = absurd (omega arith)

-- a text is cut at its first separator in one way
pub cut_once : (separator : ℕ) (a b x y : List ℕ) → Lacks separator a → Lacks separator b → a ++ (separator ∷ x) ≡ b ++ (separator ∷ y) → (a ≡ b) × (x ≡ y)
cut_once separator [] [] x y la lb e = (refl, cc)
cut_once separator [] (d ∷ b) x y la lb e = let same : d ≡ separator = cc in absurd (lb 0 (omega arith) same)
cut_once separator (c ∷ a) [] x y la lb e = let same : c ≡ separator = cc in absurd (la 0 (omega arith) same)
cut_once separator (c ∷ a) (d ∷ b) x y la lb e =
    let first : c ≡ d = cc in
    let after : a ++ (separator ∷ x) ≡ b ++ (separator ∷ y) = cc in
    let rest = cut_once separator a b x y (λ k h. la (suc k) (omega arith)) (λ k h. lb (suc k) (omega arith)) after in
    (ap₂ (λ c l. c ∷ l) first rest.0, rest.1)

-- a number's text has only digits
pub decimal_lacks : (separator n : ℕ) → (IsInRange 48 57 separator → ⊥) → n < 2 ^ 64 → Lacks separator (decimal n)
decimal_lacks separator n no_digit h = not_in_digits own (decimal n) separator (digits_decimal own n h) no_digit

abbrev free : ℕ → List ℕ → Bool
free separator [] = true
free separator (c ∷ cs) = not (eqb c separator) && free separator cs

-- a text that is written out lacks the separator where a test says so
pub lacks_by_test : (separator : ℕ) (bs : List ℕ) → free separator bs ≡ true → Lacks separator bs
lacks_by_test separator (c ∷ cs) test zero h e = eqb-false c separator (not-true _ (and_parts _ _ test).0) e
lacks_by_test separator (c ∷ cs) test (suc k) h e = lacks_by_test separator cs (and_parts _ _ test).1 k (omega arith) e
lacks_by_test separator [] test k h e = omega arith

-- a signed number's text has only digits, and a minus in front
pub signed_lacks : (separator : ℕ) (z : ℤ) → (IsInRange 48 57 separator → ⊥) → (45 ≡ separator → ⊥) → nat_abs z < 2 ^ 64 → Lacks separator (signed_decimal z)
signed_lacks separator (pos n) no_digit no_minus h = decimal_lacks separator n no_digit h
signed_lacks separator (negsuc n) no_digit no_minus h =
    lacks_append separator (45 ∷ []) (decimal (suc n)) (lacks_one separator 45 no_minus) (decimal_lacks separator (suc n) no_digit h)
