-- The last that passes a test is the first from the end that does.
use Rattle.std.proofs.Common.{◌≡◌, Bool, true, false, if◌then◌else◌, List, [], ◌∷◌, reverse, Option, Some, None, fold, refl, ap, ◌∙◌}
use Rattle.std.proofs.lemmas.Grind.{reverse_onto}
use Rattle.std.proofs.lemmas.List.Folds.{find-append}
use Rattle.std.specs.List.{find}
use Rattle.std.specs.Option.{option_or}

module _ {X : Type 0} where
  one_more : (found : Option X) (test : Bool) (x : X) (before : Option X) → option_or (option_or found (if test then Some x else None)) before ≡ option_or found (if test then Some x else before)
  one_more None true x before = refl
  one_more None false x before = refl
  one_more (Some y) test x before = refl

  pub last_found : (p : X → Bool) (xs : List X) (before : Option X) → option_or (find p (reverse xs)) before ≡ fold (λ last x. if p x then Some x else last) before xs
  last_found p [] before = refl
  last_found p (x ∷ xs) before =
      ap (λ found. option_or found before) (ap (find p) (reverse_onto xs x []) ∙ find-append p (reverse xs) (x ∷ []))
      ∙ one_more (find p (reverse xs)) (p x) x before
      ∙ last_found p xs (if p x then Some x else before)

  pub last_of_all : (p : X → Bool) (xs : List X) → find p (reverse xs) ≡ fold (λ last x. if p x then Some x else last) None xs
  last_of_all p xs = or_none (find p (reverse xs)) ∙ last_found p xs None
    where
      or_none : (found : Option X) → found ≡ option_or found None
      or_none None = refl
      or_none (Some x) = refl
