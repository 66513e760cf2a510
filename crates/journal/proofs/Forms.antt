-- What the reader answers of a line's text.
use Rattle.std.proofs.Common.{All, ◌≡◌, ℕ, zero, suc, ◌≤◌, List, [], ◌∷◌, length, ◌↔◌, IsOk, Ok, Err, decimal, Result, sym, refl, ap, ap₂, ◌∙◌, subst, inl, inr, ⊎_elim, arith}
use Rattle.fields.proofs.Forming.{date_form, number_form, signed_form}
use Rattle.fields.proofs.Lacking.{decimal_lacks, lacks_by_test, signed_lacks}
use Rattle.fields.proofs.Parting.{one_parting}
use Rattle.fields.proofs.Spelling.{day_text_commaless}
use Rattle.fields.specs.Columns.{AreAllRight, IsFirstWrong, Form}
use Rattle.fields.specs.Cuts.{Lacks}
use Rattle.ledger.specs.declared.entry.Entry.TheVariants.{Change, Correction, Payment, Reading}
use Rattle.ledger.specs.declared.zone.Flow.{Flow}
use Rattle.ledger.specs.declared.zone.Flow.TheVariants.{Consumed, Delivered}
use Rattle.ledger.specs.declared.zone.Zone.{Zone}
use Rattle.ledger.specs.declared.zone.Zone.TheVariants.{Day, Night}
use Rattle.std.proofs.lemmas.List.{append_cancel_right}
use Rattle.std.proofs.lemmas.Bool.{false≢true}
use Rattle.std.proofs.lemmas.List.Elements.{All-cons, All-from_recursion, All-replicate}
use Rattle.journal.proofs.Sameness.{same_kind, same_line}
use Rattle.journal.specs.Lines.{HasForm, ReadsLine, RefusesLine, IsWritable, IsWrongAt, forms, kind_of, line_text, others}
use Rattle.journal.specs.Rows.{AreFieldsOf}
use Rattle.journal.specs.Words.{flow_word, kind_word, zone_word}
use Rattle.journal.specs.declared.kind.Kind.{Kind}
use Rattle.journal.specs.declared.kind.Kind.TheVariants as kinds
use Rattle.journal.specs.declared.line.Line.{Line}
use Rattle.journal.specs.declared.line.Line.TheVariants.{Enter, Issue, Year}
use Rattle.journal.specs.declared.refusal.LineFault.{LineFault}
use Rattle.journal.specs.declared.refusal.ReadRefusal.{ReadRefusal}
use Rattle.journal.specs.declared.refusal.ReadRefusal.TheVariants as refusals

-- ---- no text of a field has a comma

kind_lacks : (kind : Kind) → Lacks 44 (kind_word kind)
kind_lacks kinds.Reading = lacks_by_test 44 (kind_word kinds.Reading) refl
kind_lacks kinds.Change = lacks_by_test 44 (kind_word kinds.Change) refl
kind_lacks kinds.Correction = lacks_by_test 44 (kind_word kinds.Correction) refl
kind_lacks kinds.Payment = lacks_by_test 44 (kind_word kinds.Payment) refl
kind_lacks kinds.Issue = lacks_by_test 44 (kind_word kinds.Issue) refl
kind_lacks kinds.Year = lacks_by_test 44 (kind_word kinds.Year) refl

zone_lacks : (zone : Zone) → Lacks 44 (zone_word zone)
zone_lacks Day = lacks_by_test 44 (zone_word Day) refl
zone_lacks Night = lacks_by_test 44 (zone_word Night) refl

flow_lacks : (flow : Flow) → Lacks 44 (flow_word flow)
flow_lacks Consumed = lacks_by_test 44 (flow_word Consumed) refl
flow_lacks Delivered = lacks_by_test 44 (flow_word Delivered) refl

number_lacks : (n : ℕ) → n ≤ 999999999 → Lacks 44 (decimal n)
number_lacks n few = decimal_lacks 44 n (λ digit. omega arith) (omega arith)

missing_lacks : Lacks 44 (45 ∷ [])
missing_lacks = lacks_by_test 44 (45 ∷ []) refl

others_lack : (line : Line) → IsWritable line → All (Lacks 44) (others line)
others_lack (Enter (Reading register day value)) fine =
    All-from_recursion (Lacks 44) (others (Enter (Reading register day value)))
    (number_lacks register.place fine.0, (zone_lacks register.zone, (flow_lacks register.flow, (number_lacks value fine.1, (missing_lacks, (day_text_commaless day, tt))))))
others_lack (Enter (Change register day value start)) fine =
    All-from_recursion (Lacks 44) (others (Enter (Change register day value start)))
    (number_lacks register.place fine.0, (zone_lacks register.zone, (flow_lacks register.flow, (number_lacks value fine.1, (number_lacks start fine.2, (day_text_commaless day, tt))))))
others_lack (Enter (Correction register quantity)) fine =
    All-from_recursion (Lacks 44) (others (Enter (Correction register quantity)))
    (number_lacks register.place fine.0, (zone_lacks register.zone, (flow_lacks register.flow, (signed_lacks 44 quantity (λ digit. omega arith) (λ minus. omega arith) (omega (arith, fine.1)), (missing_lacks, (missing_lacks, tt))))))
others_lack (Enter (Payment place drams)) fine =
    All-from_recursion (Lacks 44) (others (Enter (Payment place drams)))
    (number_lacks place fine.0, (missing_lacks, (missing_lacks, (number_lacks drams fine.1, (missing_lacks, (missing_lacks, tt))))))
others_lack Issue fine = All-replicate (Lacks 44) 6 (45 ∷ []) missing_lacks
others_lack Year fine = All-replicate (Lacks 44) 6 (45 ∷ []) missing_lacks

-- ---- each field of a line has its form

others_right : (line : Line) → IsWritable line → AreAllRight (forms (kind_of line)) (others line)
others_right (Enter (Reading register day value)) fine =
    (number_form register.place fine.0, ((register.zone, refl), ((register.flow, refl), (number_form value fine.1, (refl, (date_form day fine.2, tt))))))
others_right (Enter (Change register day value start)) fine =
    (number_form register.place fine.0, ((register.zone, refl), ((register.flow, refl), (number_form value fine.1, (number_form start fine.2, (date_form day fine.3, tt))))))
others_right (Enter (Correction register quantity)) fine =
    (number_form register.place fine.0, ((register.zone, refl), ((register.flow, refl), (signed_form quantity fine.1, (refl, (refl, tt))))))
others_right (Enter (Payment place drams)) fine =
    (number_form place fine.0, (refl, (refl, (number_form drams fine.1, (refl, (refl, tt))))))
others_right Issue fine = (refl, (refl, (refl, (refl, (refl, (refl, tt))))))
others_right Year fine = (refl, (refl, (refl, (refl, (refl, (refl, tt))))))

six : (line : Line) → length (others line) ≡ 6
six (Enter (Reading register day value)) = refl
six (Enter (Change register day value start)) = refl
six (Enter (Correction register quantity)) = refl
six (Enter (Payment place drams)) = refl
six Issue = refl
six Year = refl

fields_are : (line : Line) (bs : List ℕ) → IsWritable line → bs ≡ line_text line → AreFieldsOf (kind_word (kind_of line) ∷ others line) bs
fields_are line bs fine e = record {
  seven = ap suc (six line);
  commaless = All-cons (Lacks 44) _ _ (kind_lacks (kind_of line)) (others_lack line fine);
  whole = e;
}

-- the text of a line has the form of a line
has_form : (line : Line) (bs : List ℕ) → IsWritable line → bs ≡ line_text line → HasForm bs
has_form line bs fine e = record {
  kind = kind_of line;
  rest = others line;
  right = others_right line fine;
  fields = fields_are line bs fine e;
}

-- ---- what has the form is not refused

not_both : (fs : List Form) (texts : List (List ℕ)) (place : ℕ) → IsFirstWrong fs texts place → AreAllRight fs texts → ⊥
not_both [] texts place wrong right = wrong
not_both (f ∷ fs) [] place wrong right = wrong
not_both (f ∷ fs) (text ∷ texts) zero wrong right = wrong right.0
not_both (f ∷ fs) (text ∷ texts) (suc place) wrong right = not_both fs texts place wrong.1 right.1

-- the seven fields of a line are the only ones
only_fields : (bs first : List ℕ) (rest texts : List (List ℕ)) → AreFieldsOf (first ∷ rest) bs → AreFieldsOf texts bs → first ∷ rest ≡ texts
only_fields bs first rest [] is too = absurd (omega (arith, too.seven))
only_fields bs first rest (other ∷ others) is too =
    one_parting _ first other rest others
    (record { some = omega arith; commaless = is.commaless; whole = refl })
    (record { some = omega arith; commaless = too.commaless; whole = append_cancel_right _ _ _ (sym is.whole ∙ too.whole) })

no_wrong : (kind : Kind) (rest : List (List ℕ)) (number : ℕ) → AreAllRight (forms kind) rest → IsWrongAt (kind_word kind ∷ rest) number → ⊥
no_wrong kind rest number right wrong =
    ⊎_elim (λ unknown. unknown.1 (kind, refl))
    (λ known.
    let same = same_kind kind known.0 known.1.0 in
    not_both (forms known.0) rest known.1.1.0 known.1.1.1.1 (subst (λ k. AreAllRight (forms k) rest) same right))
    wrong

not_refused : (bs : List ℕ) (refusal : ReadRefusal) → HasForm bs → RefusesLine bs refusal → ⊥
not_refused bs refusals.Fields has none = none (kind_word has.kind ∷ has.rest) has.fields
not_refused bs (refusals.Form field) has wrong =
    let same = only_fields bs (kind_word has.kind) has.rest wrong.0 has.fields wrong.1.0 in
    no_wrong has.kind has.rest field has.right (subst (λ texts. IsWrongAt texts field) (sym same) wrong.1.1)

-- ---- the answers of the reader

-- a line is read exactly where the bytes have the form of one
pub read_exactly : (bs : List ℕ) (number : ℕ) (r : Result Line LineFault) → ReadsLine bs number r → IsOk r ↔ HasForm bs
read_exactly bs number (Ok line) is = ((λ read. has_form line bs is.0 is.1), λ has. refl)
read_exactly bs number (Err fault) is =
    ((λ read. absurd (false≢true read)), λ has. absurd (not_refused bs fault.refusal has is.1))

same_text : (l m : Line) → IsWritable l → IsWritable m → line_text l ≡ line_text m → l ≡ m
same_text l m fine too e =
    let same = only_fields (line_text l) (kind_word (kind_of l)) (others l) (kind_word (kind_of m) ∷ others m)
    (fields_are l (line_text l) fine refl) (fields_are m (line_text l) too e) in
    let kind : kind_word (kind_of l) ≡ kind_word (kind_of m) = cc in
    let rest : others l ≡ others m = cc in
    same_line l m fine too (same_kind (kind_of l) (kind_of m) kind) rest

-- one field is the first wrong one
first_once : (fs : List Form) (texts : List (List ℕ)) (p q : ℕ) → IsFirstWrong fs texts p → IsFirstWrong fs texts q → p ≡ q
first_once [] texts p q wrong too = absurd wrong
first_once (f ∷ fs) [] p q wrong too = absurd wrong
first_once (f ∷ fs) (text ∷ texts) zero zero wrong too = refl
first_once (f ∷ fs) (text ∷ texts) zero (suc q) wrong too = absurd (wrong too.0)
first_once (f ∷ fs) (text ∷ texts) (suc p) zero wrong too = absurd (too wrong.0)
first_once (f ∷ fs) (text ∷ texts) (suc p) (suc q) wrong too = ap suc (first_once fs texts p q wrong.1 too.1)

wrong_once : (texts : List (List ℕ)) (m n : ℕ) → IsWrongAt texts m → IsWrongAt texts n → m ≡ n
wrong_once [] m n wrong too = absurd wrong
wrong_once (first ∷ rest) m n (inl unknown) (inl nor) = unknown.0 ∙ sym nor.0
wrong_once (first ∷ rest) m n (inl unknown) (inr known) = absurd (unknown.1 (known.0, known.1.0))
wrong_once (first ∷ rest) m n (inr known) (inl unknown) = absurd (unknown.1 (known.0, known.1.0))
wrong_once (first ∷ rest) m n (inr known) (inr too) =
    let same = same_kind known.0 too.0 (sym known.1.0 ∙ too.1.0) in
    let place = first_once (forms too.0) rest known.1.1.0 too.1.1.0
    (subst (λ k. IsFirstWrong (forms k) rest known.1.1.0) same known.1.1.1.1) too.1.1.1.1 in
    omega (arith, known.1.1.1.0, too.1.1.1.0)

refused_once : (bs : List ℕ) (a b : ReadRefusal) → RefusesLine bs a → RefusesLine bs b → a ≡ b
refused_once bs refusals.Fields refusals.Fields none too = refl
refused_once bs refusals.Fields (refusals.Form field) none wrong = absurd (none wrong.0 wrong.1.0)
refused_once bs (refusals.Form field) refusals.Fields wrong none = absurd (none wrong.0 wrong.1.0)
refused_once bs (refusals.Form m) (refusals.Form n) (texts, is) too = ap refusals.Form (same_field texts is)
  where
    same_field : (texts : List (List ℕ)) → AreFieldsOf texts bs × IsWrongAt texts m → m ≡ n
    same_field [] is = absurd is.1
    same_field (first ∷ rest) is =
        let same = only_fields bs first rest too.0 is.0 too.1.0 in
        wrong_once (first ∷ rest) m n is.1 (subst (λ texts. IsWrongAt texts n) (sym same) too.1.1)

-- the bytes leave one answer
pub one_answer : (bs : List ℕ) (number : ℕ) (r s : Result Line LineFault) → ReadsLine bs number r → ReadsLine bs number s → r ≡ s
one_answer bs number (Ok l) (Ok m) is too = ap Ok (same_text l m is.0 too.0 (sym is.1 ∙ too.1))
one_answer bs number (Ok line) (Err fault) is refused =
    absurd (not_refused bs fault.refusal (has_form line bs is.0 is.1) refused.1)
one_answer bs number (Err fault) (Ok line) refused is =
    absurd (not_refused bs fault.refusal (has_form line bs is.0 is.1) refused.1)
one_answer bs number (Err a) (Err b) is too =
    ap₂ (λ line refusal. Err (record { line = line; refusal = refusal })) (is.0 ∙ sym too.0)
    (refused_once bs a.refusal b.refusal is.1 too.1)
