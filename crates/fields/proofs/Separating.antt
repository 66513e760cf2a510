-- Where the first byte that is a separator stands, or that none is.
use Rattle.std.proofs.Common.{◌≡◌, ℕ, zero, suc, ◌+◌, ◌-◌, ◌<◌, ◌≤◌, List, [], ◌∷◌, length, get_or, eqb, Some, None, Option, MatchOption, sym, ap, ◌∙◌, subst, ⊎_elim, arith, get_or-drop}
use Rattle.std.specs.List.{position_from, slice_range}
use Rattle.std.proofs.lemmas.List.{take_rest}
use Rattle.std.proofs.lemmas.Bool.Decides.{Decides-eqb, eqb_tells}
use Rattle.fields.specs.Cuts.{Lacks}
use Rattle.fields.specs.Separators.{IsFreeOf, IsNext}
use Rattle.memchr.specs.Find.{IsFirstByte, is_byte}

-- the byte at j is the first that is the separator
pub record FirstAt (separator : ℕ) (bs : List ℕ) (j : ℕ) : Type 0 where
  pub within : j < length bs
  pub is : get_or bs j 0 ≡ separator
  pub before : (k : ℕ) → k < j → get_or bs k 0 ≡ separator → ⊥

-- of bytes that stand from a place on, the place of the first that is the separator, or that none is
abbrev pub First : ℕ → ℕ → List ℕ → Option ℕ → Type 0
First separator low bs r = MatchOption r (Lacks separator bs) (λ i. (j : ℕ) × ((i ≡ low + j) × FirstAt separator bs j))

pub lacks_after : (separator b : ℕ) (bs : List ℕ) → (b ≡ separator → ⊥) → Lacks separator bs → Lacks separator (b ∷ bs)
lacks_after separator b bs other none zero h is = other is
lacks_after separator b bs other none (suc k) h is = none k (omega arith) is

before_after : (separator b : ℕ) (bs : List ℕ) (j : ℕ) → (b ≡ separator → ⊥) → FirstAt separator bs j → (k : ℕ) → k < suc j → get_or (b ∷ bs) k 0 ≡ separator → ⊥
before_after separator b bs j other first zero h is = other is
before_after separator b bs j other first (suc k) h is = first.before k (omega arith) is

first_after : (separator low b : ℕ) (bs : List ℕ) (r : Option ℕ) → (b ≡ separator → ⊥) → First separator (low + 1) bs r → First separator low (b ∷ bs) r
first_after separator low b bs None other none = lacks_after separator b bs other none
first_after separator low b bs (Some i) other (j, found) =
    (suc j, (omega (arith, found.0), record { within = omega (arith, found.1.within); is = found.1.is; before = before_after separator b bs j other found.1 }))

-- the search of bytes that stand from a place on finds the first that is the separator
pub first_from : (separator low : ℕ) (bs : List ℕ) → First separator low bs (position_from (λ b. eqb b separator) low bs)
first_from separator low [] = λ k h is. omega arith
first_from separator low (b ∷ bs) =
    ⊎_elim
    (λ yes. rw yes.0 (0, (omega arith, record { within = omega arith; is = yes.1; before = λ k h is. omega arith })))
    (λ no. rw no.0 (first_after separator low b bs _ no.1 (first_from separator (low + 1) bs)))
    (eqb_tells b separator)

-- so does a search by a test
pub first_byte : (separator : ℕ) (bs : List ℕ) (r : Option ℕ) → IsFirstByte (is_byte separator) bs r → First separator 0 bs r
first_byte separator bs None none = λ k h is. none k (omega arith) h ((Decides-eqb (get_or bs k 0) separator).1 is)
first_byte separator bs (Some i) found = (
  i,
  (
    omega arith,
    record {
      within = found.0.high;
      is = (Decides-eqb (get_or bs i 0) separator).0 found.1;
      before = λ k h is. found.0.before k (omega arith) h ((Decides-eqb (get_or bs k 0) separator).1 is);
    },
  ),
)

-- of all the bytes, the place is that of the first
pub at_start : (separator : ℕ) (bs : List ℕ) (i : ℕ) → First separator 0 bs (Some i) → FirstAt separator bs i
at_start separator bs i (j, found) = let alike : j ≡ i = omega (arith, found.0) in subst (FirstAt separator bs) alike found.1

-- what is so of the bytes from a place on
module _ (separator low : ℕ) (bs rest : List ℕ) (is : rest ≡ slice_range bs low (length bs)) (long : length rest + low ≡ length bs) where
  same : (k : ℕ) → get_or rest k 0 ≡ get_or bs (low + k) 0
  same k = ap (λ l. get_or l k 0) (is ∙ take_rest bs low) ∙ get_or-drop low bs k 0

  at_place : (k : ℕ) → low ≤ k → get_or rest (k - low) 0 ≡ get_or bs k 0
  at_place k above = same (k - low) ∙ ap (λ n. get_or bs n 0) (omega arith)

  pub none_from : First separator 0 rest None → IsFreeOf separator bs low (length bs)
  none_from none k above below e = none (k - low) (omega arith) (at_place k above ∙ e)

  pub found_from : (i : ℕ) → First separator 0 rest (Some i) → IsNext separator bs low (Some (low + i))
  found_from i (j, found) =
      let alike : j ≡ i = omega (arith, found.0) in
      (omega arith, omega (arith, found.1.within), sym (same i) ∙ ap (λ n. get_or rest n 0) (sym alike) ∙ found.1.is, λ k above below e. found.1.before (k - low) (omega arith) (at_place k above ∙ e))
