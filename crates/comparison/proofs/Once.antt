-- A text asks at most one question, and has at most one first fault.
use Rattle.std.proofs.Common.{◌≡◌, ℕ, suc, ◌+◌, ◌<◌, ◌≤◌, List, [], ◌∷◌, ◌++◌, length, Some, decimal, sym, refl, ap, ◌∙◌, ap₂, subst, ⊎_elim, append_assoc, arith, length-append, zero-add}
use Rattle.std.specs.List.{All}
use Rattle.std.proofs.lemmas.Fmt.{decimal_injective}
use Rattle.std.proofs.lemmas.List.Elements.{All-head, All-tail}
use Rattle.fields.proofs.Lacking.{cut_once, no_mark}
use Rattle.fields.specs.Cuts.{Lacks}
use Rattle.comparison.proofs.Exact.{comma_no_digit, row_goes_on, row_lacks, short_lacks}
use Rattle.comparison.specs.Rows.{HasUpToTenDigits, IsWrongField, IsRowOf, Starts, Stops, front_of, numbers_row}
use Rattle.comparison.specs.Questions.{Begins, IsNoParts, HasOneFault, AsksOneQuestion, at, parts_text, second_endless, second_unread, third_line, first_endless, first_unread, no_need, no_parts}
use Rattle.comparison.specs.declared.question.Fault.{Fault}
use Rattle.comparison.specs.declared.question.Wrong.{Wrong}
use Rattle.comparison.specs.declared.question.Wrong.TheVariants.{LineFeed, Number, Missing, Surplus, Line}

-- ---- one question

same_short : (n m : ℕ) → HasUpToTenDigits n → HasUpToTenDigits m → decimal n ≡ decimal m → n ≡ m
same_short n m small less e = decimal_injective n m (omega arith) (omega arith) e

-- a number's text has no comma
uncut : (n : ℕ) → HasUpToTenDigits n → Lacks 44 (decimal n)
uncut n small = short_lacks 44 n comma_no_digit small

same_row : (ns ms : List ℕ) → All HasUpToTenDigits ns → All HasUpToTenDigits ms → 1 ≤ length ns → 1 ≤ length ms → numbers_row ns ≡ numbers_row ms → ns ≡ ms
same_row [] ms short also some more e = absurd (omega arith)
same_row (n ∷ ns) [] short also some more e = absurd (omega arith)
same_row (n ∷ []) (m ∷ []) short also some more e =
    ap (λ k. k ∷ []) (same_short n m (All-head HasUpToTenDigits n [] short) (All-head HasUpToTenDigits m [] also) e)
same_row (n ∷ []) (m ∷ m' ∷ ms) short also some more e =
    absurd (no_mark 44 (decimal m) (numbers_row (m' ∷ ms)) (decimal n) (uncut n (All-head HasUpToTenDigits n [] short)) e)
same_row (n ∷ n' ∷ ns) (m ∷ []) short also some more e =
    absurd (no_mark 44 (decimal n) (numbers_row (n' ∷ ns)) (decimal m) (uncut m (All-head HasUpToTenDigits m [] also)) (sym e))
same_row (n ∷ n' ∷ ns) (m ∷ m' ∷ ms) short also some more e =
    let first = All-head HasUpToTenDigits n (n' ∷ ns) short in
    let second = All-head HasUpToTenDigits m (m' ∷ ms) also in
    let cut = cut_once 44 (decimal n) (decimal m) (numbers_row (n' ∷ ns)) (numbers_row (m' ∷ ms)) (uncut n first) (uncut m second) e in
    let rest = same_row (n' ∷ ns) (m' ∷ ms) (All-tail HasUpToTenDigits n (n' ∷ ns) short) (All-tail HasUpToTenDigits m (m' ∷ ms) also) (omega arith) (omega arith) cut.1 in
    ap₂ (λ k l. k ∷ l) (same_short n m first second cut.0) rest

same_parts : (ps qs : List ℕ) → All HasUpToTenDigits ps → All HasUpToTenDigits qs → parts_text ps ≡ parts_text qs → ps ≡ qs
same_parts [] [] short also e = refl
same_parts [] (q ∷ qs) short also e = absurd (omega (arith, ap length e, length-append (numbers_row (q ∷ qs)) (10 ∷ [])))
same_parts (p ∷ ps) [] short also e = absurd (omega (arith, ap length e, length-append (numbers_row (p ∷ ps)) (10 ∷ [])))
same_parts (p ∷ ps) (q ∷ qs) short also e =
    same_row (p ∷ ps) (q ∷ qs) short also (omega arith) (omega arith) (cut_once 10 (numbers_row (p ∷ ps)) (numbers_row (q ∷ qs)) [] [] (row_lacks (p ∷ ps) short) (row_lacks (q ∷ qs) also) e).0

split_row : (pool other : ℕ) (needs others : List ℕ) → pool ∷ needs ≡ other ∷ others → (pool ≡ other) × (needs ≡ others)
split_row pool other needs others e = (cc, cc)

pub one_question : AsksOneQuestion
one_question bs pool other needs others parts further asks also =
    let cut = cut_once 10 (numbers_row (pool ∷ needs)) (numbers_row (other ∷ others)) (parts_text parts) (parts_text further) (row_lacks (pool ∷ needs) asks.short) (row_lacks (other ∷ others) also.short) (sym asks.text ∙ also.text) in
    let first = split_row pool other needs others (same_row (pool ∷ needs) (other ∷ others) asks.short also.short (omega arith) (omega arith) cut.0) in
    (first.0, first.1, same_parts parts further asks.short_parts also.short_parts cut.1)

-- ---- one fault

-- a field with a comma after it, and what begins the same text
first_field : (b : ℕ) (field more rest : List ℕ) → HasUpToTenDigits b → Starts field rest → rest ≡ decimal b ++ (44 ∷ more) → field ≡ decimal b
first_field b field more rest small starts is =
    ⊎_elim (λ whole. absurd (no_mark 44 (decimal b) more field starts.0 (sym whole ∙ is)))
    (λ cut. (cut_once 44 field (decimal b) cut.0 more starts.0 (uncut b small) (sym cut.1 ∙ is)).0)
    starts.1

-- a fault is at no field past the most
no_further : (most before : ℕ) (field : List ℕ) (wrong : Wrong) → IsWrongField most before field wrong → before ≤ most
no_further most before field Number why = omega (arith, why.0)
no_further most before field Surplus why = omega (arith, why)
no_further most before field LineFeed why = absurd why
no_further most before field Missing why = absurd why
no_further most before field Line why = absurd why

-- a field that is a number, with another after it that may be there, is not faulty
no_fault : (most before b : ℕ) (field : List ℕ) (wrong : Wrong) → HasUpToTenDigits b → field ≡ decimal b → before < most → IsWrongField most before field wrong → ⊥
no_fault most before b field Number small is few why = why.1 b small is
no_fault most before b field Surplus small is few why = omega (arith, why)
no_fault most before b field LineFeed small is few why = why
no_fault most before b field Missing small is few why = why
no_fault most before b field Line small is few why = why

same_wrong : (most before : ℕ) (field other : List ℕ) (wrong also : Wrong) → IsWrongField most before field wrong → IsWrongField most before other also → wrong ≡ also
same_wrong most before field other Number Number why too = refl
same_wrong most before field other Surplus Surplus why too = refl
same_wrong most before field other Number Surplus why too = absurd (omega (arith, why.0, too))
same_wrong most before field other Surplus Number why too = absurd (omega (arith, why, too.0))
same_wrong most before field other LineFeed also why too = absurd why
same_wrong most before field other Missing also why too = absurd why
same_wrong most before field other Line also why too = absurd why
same_wrong most before field other Number LineFeed why too = absurd too
same_wrong most before field other Number Missing why too = absurd too
same_wrong most before field other Number Line why too = absurd too
same_wrong most before field other Surplus LineFeed why too = absurd too
same_wrong most before field other Surplus Missing why too = absurd too
same_wrong most before field other Surplus Line why too = absurd too

-- two faults of one line are behind as many fields
module _ (most : ℕ) (field other : List ℕ) (wrong also : Wrong) where
  same_count : (front : ℕ) (fs gs : List ℕ) (rest more : List ℕ) → All HasUpToTenDigits fs → All HasUpToTenDigits gs → front_of fs ++ rest ≡ front_of gs ++ more → Starts field rest → Starts other more → IsWrongField most (front + length fs) field wrong → IsWrongField most (front + length gs) other also → length fs ≡ length gs
  same_count front [] [] rest more short too e starts begins why because = refl
  same_count front [] (g ∷ gs) rest more short too e starts begins why because =
      let small = All-head HasUpToTenDigits g gs too in
      let is = first_field g field (front_of gs ++ more) rest small starts (e ∙ simp append_assoc) in
      let few = no_further most (front + length (g ∷ gs)) other also because in
      absurd (no_fault most (front + 0) g field wrong small is (omega (arith, few)) why)
  same_count front (f ∷ fs) [] rest more short too e starts begins why because =
      let small = All-head HasUpToTenDigits f fs short in
      let is = first_field f other (front_of fs ++ rest) more small begins (sym e ∙ simp append_assoc) in
      let few = no_further most (front + length (f ∷ fs)) field wrong why in
      absurd (no_fault most (front + 0) f other also small is (omega (arith, few)) because)
  same_count front (f ∷ fs) (g ∷ gs) rest more short too e starts begins why because =
      let joined : decimal f ++ (44 ∷ (front_of fs ++ rest)) ≡ decimal g ++ (44 ∷ (front_of gs ++ more)) = simp append_assoc at e in
      let cut = cut_once 44 (decimal f) (decimal g) _ _ (uncut f (All-head HasUpToTenDigits f fs short)) (uncut g (All-head HasUpToTenDigits g gs too)) joined in
      let one : front + length (f ∷ fs) ≡ suc front + length fs = omega arith in
      let two : front + length (g ∷ gs) ≡ suc front + length gs = omega arith in
      ap suc (same_count (suc front) fs gs rest more (All-tail HasUpToTenDigits f fs short) (All-tail HasUpToTenDigits g gs too) cut.1 starts begins
      (subst (λ n. IsWrongField most n field wrong) one why) (subst (λ n. IsWrongField most n other also) two because))

same_fault : (fault other : Fault) → fault.line ≡ other.line → fault.field ≡ other.field → fault.wrong ≡ other.wrong → fault ≡ other
same_fault fault other line field wrong =
    ap (λ l. at l fault.field fault.wrong) line ∙ ap (λ f. at other.line f fault.wrong) field ∙ ap (λ w. at other.line other.field w) wrong

stops_once : (line most : ℕ) (bs : List ℕ) (fault other : Fault) → Stops line most bs fault → Stops line most bs other → fault ≡ other
stops_once line most bs fault other stops also =
    let count = same_count most stops.field also.field fault.wrong other.wrong 0 stops.before also.before stops.rest also.rest stops.short also.short (sym stops.text ∙ also.text) stops.starts also.starts
    (subst (λ n. IsWrongField most n stops.field fault.wrong) (sym (zero-add (length stops.before))) stops.because)
    (subst (λ n. IsWrongField most n also.field other.wrong) (sym (zero-add (length also.before))) also.because) in
    let because = subst (λ n. IsWrongField most n also.field other.wrong) (sym count) also.because in
    same_fault fault other (stops.at_line ∙ sym also.at_line) (stops.at_field ∙ ap (λ n. Some (n + 1)) count ∙ sym also.at_field)
    (same_wrong most (length stops.before) stops.field also.field fault.wrong other.wrong stops.because because)

-- ---- the text

-- a text without a line feed has no first line
endless : (bs first rest : List ℕ) → Lacks 10 bs → Begins bs first rest → ⊥
endless bs first rest none begins = no_mark 10 first rest bs none begins.0

-- a text has one first line
same_line : (bs first rest other more : List ℕ) → Begins bs first rest → Begins bs other more → (first ≡ other) × (rest ≡ more)
same_line bs first rest other more begins also = cut_once 10 first other rest more begins.1 also.1 (sym begins.0 ∙ also.0)

-- a line that stops is no row
stops_short : (line most : ℕ) (bs first rest other more ns : List ℕ) (fault : Fault) → Begins bs first rest → Begins bs other more → Stops line most first fault → IsRowOf most other ns → ⊥
stops_short line most bs first rest other more ns fault begins also stops is_row =
    row_goes_on line most first ns fault stops ((same_line bs first rest other more begins also).0 ∙ is_row.text) is_row.short is_row.some is_row.few

parts_once : (bs : List ℕ) (fault other : Fault) → IsNoParts bs fault → IsNoParts bs other → fault ≡ other
parts_once bs _ _ (second_endless some none) (second_endless some' none') = refl
parts_once bs _ _ (second_endless some none) (second_unread second rest fault begins stops) = absurd (endless bs second rest none begins)
parts_once bs _ _ (second_endless some none) (third_line second rest ps begins of more) = absurd (endless bs second rest none begins)
parts_once bs _ _ (second_unread second rest fault begins stops) (second_endless some none) = absurd (endless bs second rest none begins)
parts_once bs _ _ (second_unread second rest fault begins stops) (second_unread other more fault' begins' stops') =
    stops_once 2 32 other fault fault' (subst (λ l. Stops 2 32 l fault) (same_line bs second rest other more begins begins').0 stops) stops'
parts_once bs _ _ (second_unread second rest fault begins stops) (third_line other more ps begins' of some) = absurd (stops_short 2 32 bs second rest other more ps fault begins begins' stops of)
parts_once bs _ _ (third_line second rest ps begins of some) (second_endless some' none) = absurd (endless bs second rest none begins)
parts_once bs _ _ (third_line second rest ps begins of some) (second_unread other more fault begins' stops) = absurd (stops_short 2 32 bs other more second rest ps fault begins' begins stops of)
parts_once bs _ _ (third_line second rest ps begins of some) (third_line other more qs begins' of' some') = refl

-- one number alone and a number with needs behind it are not the same line
alone : (bs first rest other more needs : List ℕ) (pool pool' need : ℕ) → Begins bs first rest → Begins bs other more → IsRowOf 33 first (pool ∷ []) → IsRowOf 33 other (pool' ∷ need ∷ needs) → ⊥
alone bs first rest other more needs pool pool' need begins also one of =
    no_mark 44 (decimal pool') (numbers_row (need ∷ needs)) (decimal pool) (uncut pool (All-head HasUpToTenDigits pool [] one.short))
    (sym one.text ∙ (same_line bs first rest other more begins also).0 ∙ of.text)

pub one_fault : HasOneFault
one_fault bs _ _ (first_endless none) (first_endless none') = refl
one_fault bs _ _ (first_endless none) (first_unread first rest fault begins stops) = absurd (endless bs first rest none begins)
one_fault bs _ _ (first_endless none) (no_need first rest pool begins of) = absurd (endless bs first rest none begins)
one_fault bs _ _ (first_endless none) (no_parts first rest pool need needs fault begins of why) = absurd (endless bs first rest none begins)
one_fault bs _ _ (first_unread first rest fault begins stops) (first_endless none) = absurd (endless bs first rest none begins)
one_fault bs _ _ (first_unread first rest fault begins stops) (first_unread other more fault' begins' stops') =
    stops_once 1 33 other fault fault' (subst (λ l. Stops 1 33 l fault) (same_line bs first rest other more begins begins').0 stops) stops'
one_fault bs _ _ (first_unread first rest fault begins stops) (no_need other more pool begins' of) = absurd (stops_short 1 33 bs first rest other more (pool ∷ []) fault begins begins' stops of)
one_fault bs _ _ (first_unread first rest fault begins stops) (no_parts other more pool need needs fault' begins' of why) = absurd (stops_short 1 33 bs first rest other more (pool ∷ need ∷ needs) fault begins begins' stops of)
one_fault bs _ _ (no_need first rest pool begins of) (first_endless none) = absurd (endless bs first rest none begins)
one_fault bs _ _ (no_need first rest pool begins of) (first_unread other more fault begins' stops) = absurd (stops_short 1 33 bs other more first rest (pool ∷ []) fault begins' begins stops of)
one_fault bs _ _ (no_need first rest pool begins of) (no_need other more pool' begins' of') = refl
one_fault bs _ _ (no_need first rest pool begins of) (no_parts other more pool' need needs fault begins' of' why) = absurd (alone bs first rest other more needs pool pool' need begins begins' of of')
one_fault bs _ _ (no_parts first rest pool need needs fault begins of why) (first_endless none) = absurd (endless bs first rest none begins)
one_fault bs _ _ (no_parts first rest pool need needs fault begins of why) (first_unread other more fault' begins' stops) = absurd (stops_short 1 33 bs other more first rest (pool ∷ need ∷ needs) fault' begins' begins stops of)
one_fault bs _ _ (no_parts first rest pool need needs fault begins of why) (no_need other more pool' begins' of') = absurd (alone bs other more first rest needs pool' pool need begins' begins of' of)
one_fault bs _ _ (no_parts first rest pool need needs fault begins of why) (no_parts other more pool' need' needs' fault' begins' of' why') =
    parts_once more fault fault' (subst (λ l. IsNoParts l fault) (same_line bs first rest other more begins begins').1 why) why'
