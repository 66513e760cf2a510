-- The commas part a text in one way only.
use Rattle.std.proofs.Common.{◌+◌, ◌<◌, set, take, append_assoc, ◌≡◌, ℕ, List, [], ◌∷◌, ◌++◌, length, sym, refl, ap, ◌∙◌, subst, ap₂, arith, Bor}
use Rattle.fields.proofs.Counting.{commas_in, first_counted, none_counted}
use Rattle.fields.proofs.Lacking.{cut_once, no_mark}
use Rattle.fields.specs.Cuts.{Lacks}
use Rattle.fields.specs.Partings.{IsParted, part_texts}
use Rattle.fields.specs.Rows.{texts_row}
use Rattle.std.proofs.lemmas.List.{length-set, map-append, take_all, take_more_set}
use Rattle.std.proofs.lemmas.List.Elements.{All-cons, All-head, All-nil, All-tail}

-- the first of the texts has no comma
first_lacks : {bs text : List ℕ} {texts : List (List ℕ)} → IsParted (text ∷ texts) bs → Lacks 44 text
first_lacks {bs} {text} {texts} is = All-head (Lacks 44) text texts is.commaless

-- the texts after the first are parted by the commas of what follows it
rest_parted : {bs text rest next : List ℕ} {texts : List (List ℕ)} → IsParted (text ∷ next ∷ texts) bs → rest ≡ texts_row (next ∷ texts) → IsParted (next ∷ texts) rest
rest_parted {bs} {text} {rest} {next} {texts} is whole = record {
  some = omega arith;
  commaless = All-tail (Lacks 44) text (next ∷ texts) is.commaless;
  whole = whole;
}

-- without a comma the bytes are one text
pub one_text : {bs text : List ℕ} → Lacks 44 bs → text ≡ bs → IsParted (text ∷ []) bs
one_text {bs} {text} lacks same = subst (λ t. IsParted (t ∷ []) bs) (sym same)
    (record { some = omega arith; commaless = All-cons (Lacks 44) bs [] lacks (All-nil (Lacks 44)); whole = refl })

-- the first comma ends one text more
pub one_more : {bs field rest text next : List ℕ} {texts : List (List ℕ)} → (bs ≡ field ++ (44 ∷ rest)) × Lacks 44 field → text ≡ field → IsParted (next ∷ texts) rest → IsParted (text ∷ next ∷ texts) bs
one_more {bs} {field} {rest} {text} {next} {texts} cut same is = subst (λ t. IsParted (t ∷ next ∷ texts) bs) (sym same) (record {
  some = omega arith;
  commaless = All-cons (Lacks 44) field (next ∷ texts) cut.1 is.commaless;
  whole = cut.0 ∙ ap (λ r. field ++ (44 ∷ r)) is.whole;
})

-- the same of whatever texts there are
pub cut_more : {bs field rest : List ℕ} → (bs ≡ field ++ (44 ∷ rest)) × Lacks 44 field → (texts : List (List ℕ)) → IsParted texts rest → IsParted (field ∷ texts) bs
cut_more {bs} {field} {rest} cut [] is = absurd (omega (arith, is.some))
cut_more {bs} {field} {rest} cut (next ∷ texts) is = one_more cut refl is

-- there is one text more than commas
pub texts_counted : (texts : List (List ℕ)) (bs : List ℕ) → IsParted texts bs → length texts ≡ commas_in bs + 1
texts_counted [] bs is = absurd (omega (arith, is.some))
texts_counted (text ∷ []) bs is = omega (arith, none_counted text (first_lacks is), ap commas_in is.whole)
texts_counted (text ∷ next ∷ texts) bs is =
    let rest = texts_row (next ∷ texts) in
    omega (arith, texts_counted (next ∷ texts) rest (rest_parted is refl), first_counted text rest (first_lacks is), ap commas_in is.whole)

-- the fields before a place, with any texts that part the rest, part the bytes
abbrev pub Leads : List (Bor (List ℕ)) → ℕ → List ℕ → List ℕ → Type 0
Leads fields place rest bs = (texts : List (List ℕ)) → IsParted texts rest → IsParted (part_texts (take place fields) ++ texts) bs

-- so do those with the field that the first comma of the rest ends
pub leads_on : {bs rest after : List ℕ} (fields : List (Bor (List ℕ))) (place : ℕ) (field : Bor (List ℕ)) → place < length fields → (rest ≡ field.now ++ (44 ∷ after)) × Lacks 44 field.now → Leads fields place rest bs → Leads (set fields place field) (place + 1) after bs
leads_on {bs} {rest} {after} fields place field within cut leads texts is =
    subst (λ parts. IsParted (part_texts parts ++ texts) bs) (sym (take_more_set fields place field within))
    (simp (map-append, append_assoc) (leads (field.now ∷ texts) (cut_more cut texts is)))

-- with the rest as the last field, all of them part the bytes
pub leads_to_all : {bs : List ℕ} (fields : List (Bor (List ℕ))) (place : ℕ) (rest : Bor (List ℕ)) → place + 1 ≡ length fields → Lacks 44 rest.now → Leads fields place rest.now bs → IsParted (part_texts (set fields place rest)) bs
leads_to_all {bs} fields place rest last lacks leads =
    let all : set fields place rest ≡ take place fields ++ (rest ∷ []) = sym (take_all (place + 1) (set fields place rest) (omega (arith, length-set {A = Bor (List ℕ)}))) ∙ take_more_set fields place rest (omega arith) in
    subst (λ parts. IsParted (part_texts parts) bs) (sym all) (simp map-append (leads (rest.now ∷ []) (one_text lacks refl)))

-- two partings of the same bytes are the same
pub one_parting : (bs text other : List ℕ) (texts others : List (List ℕ)) → IsParted (text ∷ texts) bs → IsParted (other ∷ others) bs → text ∷ texts ≡ other ∷ others
one_parting bs text other [] [] is too = ap (λ t. t ∷ []) (sym is.whole ∙ too.whole)
one_parting bs text other [] (o ∷ others) is too =
    absurd (no_mark 44 other (texts_row (o ∷ others)) text (first_lacks is) (sym is.whole ∙ too.whole))
one_parting bs text other (t ∷ texts) [] is too =
    absurd (no_mark 44 text (texts_row (t ∷ texts)) other (first_lacks too) (sym too.whole ∙ is.whole))
one_parting bs text other (t ∷ texts) (o ∷ others) is too =
    let same = cut_once 44 text other (texts_row (t ∷ texts)) (texts_row (o ∷ others)) (first_lacks is) (first_lacks too) (sym is.whole ∙ too.whole) in
    let rest = one_parting (texts_row (t ∷ texts)) t o texts others (rest_parted is refl) (rest_parted too same.1) in
    ap₂ (λ a b. a ∷ b) same.0 rest
