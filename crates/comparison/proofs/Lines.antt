-- One field more of a line of numbers.
use Rattle.std.proofs.Common.{◌≡◌, ◌==◌, ℕ, ◌+◌, ◌<◌, ◌≤◌, true, false, cond, List, [], ◌∷◌, ◌++◌, length, get_or, map, take, drop, Ok, Err, decimal, sym, refl, ap, ◌∙◌, ap₂, subst, inl, inr, append_assoc, take_all, take-append-drop, arith}
use Rattle.std.specs.List.{All, join_with_byte, onto_first, slice_split}
use Rattle.std.proofs.lemmas.Bool.{eqb-false}
use Rattle.std.proofs.lemmas.List.{drop_more, length-map, length_push, map-append, take_more}
use Rattle.std.proofs.lemmas.List.Splits.{join_with_byte-slice_split, length-slice_split}
use Rattle.std.proofs.lemmas.List.Elements.{All-cons, All-get_or, All-head, All-nil, All-push, All-tail}
use Rattle.fields.proofs.Lacking.{lacks_append, lacks_one}
use Rattle.fields.specs.Cuts.{Lacks}
use Rattle.comparison.specs.Rows.{HasUpToTenDigits, Starts, ReadsField, IsRowOf, ReadsNoRow, numbers_row, front_of}
use Rattle.comparison.specs.declared.problem.Problem.{Problem}
use Rattle.comparison.specs.declared.problem.Problem.TheVariants.{At, Memory, OfParts, OfRule}

-- the fields of a line: what stands between its commas
abbrev pub fields_of : List ℕ → List (List ℕ)
fields_of bs = slice_split (λ b. b == 44) bs

none_lacks : Lacks 44 []
none_lacks k h e = omega arith

fields_lack : (bs : List ℕ) → All (Lacks 44) (fields_of bs)
fields_lack [] = All-cons (Lacks 44) [] [] none_lacks (All-nil (Lacks 44))
fields_lack (b ∷ bs) =
    elim (b == 44) as (λ v. (b == 44) ≡ v → All (Lacks 44) (cond v ([] ∷ fields_of bs) (onto_first b (fields_of bs)))) [
      | true ↦ λ comma. All-cons (Lacks 44) [] (fields_of bs) none_lacks (fields_lack bs)
      | false ↦ λ other. onto (lacks_one 44 b (eqb-false b 44 other)) (fields_of bs) (fields_lack bs)
    ] refl
  where
    onto : Lacks 44 (b ∷ []) → (parts : List (List ℕ)) → All (Lacks 44) parts → All (Lacks 44) (onto_first b parts)
    onto own [] lack = All-cons (Lacks 44) (b ∷ []) [] own lack
    onto own (part ∷ parts) lack =
        All-cons (Lacks 44) (b ∷ part) parts (lacks_append 44 (b ∷ []) part own (All-head (Lacks 44) part parts lack)) (All-tail (Lacks 44) part parts lack)

-- numbers as fields, with commas between them
joined_row : (ns : List ℕ) → join_with_byte 44 (map decimal ns) ≡ numbers_row ns
joined_row [] = refl
joined_row (n ∷ []) = refl
joined_row (n ∷ m ∷ ns) = ap (λ l. decimal n ++ (44 ∷ l)) (joined_row (m ∷ ns))

-- the same with a comma after each, where more fields follow
joined_front : (ns field : List ℕ) (others : List (List ℕ)) → join_with_byte 44 (map decimal ns ++ (field ∷ others)) ≡ front_of ns ++ join_with_byte 44 (field ∷ others)
joined_front [] field others = refl
joined_front (n ∷ []) field others = simp append_assoc
joined_front (n ∷ m ∷ ns) field others =
    ap (λ l. decimal n ++ (44 ∷ l)) (joined_front (m ∷ ns) field others) ∙ simp append_assoc

-- the first of the fields begins them
starts : (field : List ℕ) (others : List (List ℕ)) → Lacks 44 field → Starts field (join_with_byte 44 (field ∷ others))
starts field [] lacks = (lacks, inl refl)
starts field (other ∷ others) lacks = (lacks, inr (join_with_byte 44 (other ∷ others), refl))

-- the line so far: its fields are these numbers, as far as they were read
pub record Sofar (most : ℕ) (bs : List ℕ) (read : ℕ) (before : List ℕ) : Type 0 where
  pub fields : take read (fields_of bs) ≡ map decimal before
  pub short : All HasUpToTenDigits before
  pub few : length before ≤ most

pub all_fields : (most : ℕ) (bs found : List ℕ) (read : ℕ) → Sofar most bs read found → length (fields_of bs) ≤ read → IsRowOf most bs found
all_fields most bs found read so_far done =
    let fields : fields_of bs ≡ map decimal found = sym (take_all read (fields_of bs) done) ∙ so_far.fields in
    record {
      text = sym (join_with_byte-slice_split 44 bs) ∙ ap (join_with_byte 44) fields ∙ joined_row found;
      short = so_far.short;
      some = omega (arith, ap length fields, length-map found decimal, length-slice_split (λ b. b == 44) bs);
      few = so_far.few;
    }

module _ (line most : ℕ) (bs before field : List ℕ) (read : ℕ) (so_far : Sofar most bs read before) (within : read < length (fields_of bs)) (is : field ≡ get_or (fields_of bs) read field) (exit : List ℕ) where
  pub field_more : ReadsField line most before field (Ok tt) exit → Sofar most bs (read + 1) exit
  field_more one =
      let n = one.1.0 in
      let fact = one.1.1 in
      subst (Sofar most bs (read + 1)) (sym fact.2) (record {
        fields = take_more (fields_of bs) read field within ∙ ap₂ (λ l f. l ++ (f ∷ [])) so_far.fields (sym is ∙ fact.1) ∙ sym (map-append decimal before (n ∷ []));
        short = All-push HasUpToTenDigits before n so_far.short fact.0;
        few = omega (arith, length_push before n, one.0);
      })

  -- the fields from this one on
  others : drop read (fields_of bs) ≡ field ∷ drop (read + 1) (fields_of bs)
  others = drop_more (fields_of bs) read field within ∙ ap (λ f. f ∷ drop (read + 1) (fields_of bs)) (sym is)

  pub field_fault : (e : Problem) → ReadsField line most before field (Err e) exit → ReadsNoRow line most bs e
  field_fault (OfRule refusal) one = one
  field_fault (OfParts refusal) one = one
  field_fault Memory one = tt
  field_fault (At fault) one = record {
    before = before;
    rest = join_with_byte 44 (drop read (fields_of bs));
    text = sym (join_with_byte-slice_split 44 bs)
        ∙ ap (join_with_byte 44) (sym (take-append-drop read (fields_of bs)) ∙ ap₂ (λ l r. l ++ r) so_far.fields others)
        ∙ joined_front before field (drop (read + 1) (fields_of bs))
        ∙ ap (λ l. front_of before ++ join_with_byte 44 l) (sym others);
    short = so_far.short;
    at_line = one.0;
    at_field = one.1;
    field = field;
    starts =
        let lacks = subst (Lacks 44) (sym is) (All-get_or (Lacks 44) (fields_of bs) read field within (fields_lack bs)) in
        subst (λ l. Starts field (join_with_byte 44 l)) (sym others) (starts field (drop (read + 1) (fields_of bs)) lacks);
    because = one.2;
  }
