-- How many commas bytes have, counted part by part.
use Rattle.std.proofs.Common.{suc, ◌++◌, [], ◌∷◌, true, false, refl, ⊎_elim, ◌≡◌, ℕ, ◌+◌, cond, eqb, List, length, take, sym, ap, ap₂, ◌∙◌, subst, arith}
use Rattle.std.specs.List.{count_by, slice_range}
use Rattle.std.specs.Simd.Lanes.{chunk}
use Rattle.std.proofs.lemmas.Bool.Decides.{eqb_tells}
use Rattle.std.proofs.lemmas.List.{drop-take, take-take, take_rest}
use Rattle.fields.proofs.Separating.{lacks_after}
use Rattle.fields.specs.Cuts.{Lacks}
use Rattle.std.proofs.lemmas.List.Sums.{sum_by-cons, sum_by-take-drop}

-- how many of the bytes are commas
abbrev pub commas_in : List ℕ → ℕ
commas_in bs = count_by (λ byte. eqb byte 44) bs

-- the bytes up to a place, and the next n
pub block_counted : (bs : List ℕ) (i n j : ℕ) → j ≡ i + n → commas_in (take i bs) + commas_in (chunk i n bs) ≡ commas_in (take j bs)
block_counted bs i n j after =
    ap₂ (λ a b. commas_in a + commas_in b) (sym (take-take i (i + n) bs (omega arith))) (sym (drop-take i n bs))
    ∙ sum_by-take-drop (λ byte. cond (eqb byte 44) 1 0) (take (i + n) bs) i
    ∙ ap (λ k. commas_in (take k bs)) (sym after)

-- the bytes up to a place, and those from it on
pub rest_counted : (bs : List ℕ) (i j : ℕ) → i ≡ j → commas_in (take i bs) + commas_in (slice_range bs j (length bs)) ≡ commas_in bs
rest_counted bs i j same =
    subst (λ k. commas_in (take k bs) + commas_in (slice_range bs j (length bs)) ≡ commas_in bs) (sym same)
    (ap (λ l. commas_in (take j bs) + commas_in l) (take_rest bs j) ∙ sum_by-take-drop (λ byte. cond (eqb byte 44) 1 0) bs j)

-- the count of bytes after a first one that is a comma, or another
module _ (b : ℕ) (bs : List ℕ) where
  comma_counted : eqb b 44 ≡ true → commas_in (b ∷ bs) ≡ commas_in bs + 1
  comma_counted is = let one : cond {A = ℕ} (eqb b 44) 1 0 ≡ 1 = rw is in omega (arith, sum_by-cons (λ byte. cond (eqb byte 44) 1 0) b bs)

  other_counted : eqb b 44 ≡ false → commas_in (b ∷ bs) ≡ commas_in bs
  other_counted not = let none : cond {A = ℕ} (eqb b 44) 1 0 ≡ 0 = rw not in omega (arith, sum_by-cons (λ byte. cond (eqb byte 44) 1 0) b bs)

-- of bytes with no comma none is counted, and the other way round
pub none_counted : (bs : List ℕ) → Lacks 44 bs → commas_in bs ≡ 0
none_counted [] lacks = refl
none_counted (b ∷ bs) lacks =
    ⊎_elim
    (λ yes. absurd (lacks 0 (omega arith) yes.1))
    (λ no. other_counted b bs no.0 ∙ none_counted bs (λ k h. lacks (suc k) (omega arith)))
    (eqb_tells b 44)

pub lacks_by_count : (bs : List ℕ) → commas_in bs ≡ 0 → Lacks 44 bs
lacks_by_count [] none = λ k h is. omega arith
lacks_by_count (b ∷ bs) none =
    ⊎_elim
    (λ yes. absurd (omega (arith, comma_counted b bs yes.0)))
    (λ no. lacks_after 44 b bs no.1 (lacks_by_count bs (sym (other_counted b bs no.0) ∙ none)))
    (eqb_tells b 44)

-- the first comma is one more than those behind it
pub first_counted : (field rest : List ℕ) → Lacks 44 field → commas_in (field ++ (44 ∷ rest)) ≡ commas_in rest + 1
first_counted [] rest lacks = comma_counted 44 rest refl
first_counted (b ∷ field) rest lacks =
    ⊎_elim
    (λ yes. absurd (lacks 0 (omega arith) yes.1))
    (λ no. other_counted b (field ++ (44 ∷ rest)) no.0 ∙ first_counted field rest (λ k h. lacks (suc k) (omega arith)))
    (eqb_tells b 44)
