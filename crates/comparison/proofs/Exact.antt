-- A text has one reading: where it stops at a fault, it asks no question.
use Rattle.std.proofs.Common.{◌≡◌, ℕ, ◌+◌, ◌≤◌, ◌⊎◌, List, [], ◌∷◌, ◌++◌, length, decimal, sym, ap, ◌∙◌, ⊎_elim, append_assoc, arith, length-append}
use Rattle.std.specs.Int.{IsInRange}
use Rattle.std.specs.List.{All}
use Rattle.std.proofs.lemmas.List.Elements.{All-head, All-tail}
use Rattle.fields.proofs.Lacking.{cut_once, decimal_lacks, lacks_append, lacks_one, no_mark}
use Rattle.fields.specs.Cuts.{Lacks}
use Rattle.comparison.specs.Rows.{HasUpToTenDigits, IsWrongField, IsNoNumber, Starts, Stops, front_of, numbers_row}
use Rattle.comparison.specs.Questions.{AsksNothing, Begins, IsNoParts, IsNoQuestion, parts_text, second_endless, second_unread, third_line, first_endless, first_unread, no_need, no_parts}
use Rattle.comparison.specs.declared.question.Fault.{Fault}
use Rattle.comparison.specs.declared.question.Wrong.{Wrong}
use Rattle.comparison.specs.declared.question.Wrong.TheVariants.{LineFeed, Number, Missing, Surplus, Line}

pub short_lacks : (separator n : ℕ) → (IsInRange 48 57 separator → ⊥) → HasUpToTenDigits n → Lacks separator (decimal n)
short_lacks separator n no_digit short = decimal_lacks separator n no_digit (omega arith)

pub comma_no_digit : IsInRange 48 57 44 → ⊥
comma_no_digit digit = omega arith

feed_no_digit : IsInRange 48 57 10 → ⊥
feed_no_digit digit = omega arith

pub row_lacks : (ns : List ℕ) → All HasUpToTenDigits ns → Lacks 10 (numbers_row ns)
row_lacks [] short = λ k h e. omega arith
row_lacks (n ∷ []) short = short_lacks 10 n feed_no_digit (All-head HasUpToTenDigits n [] short)
row_lacks (n ∷ m ∷ ns) short =
    lacks_append 10 (decimal n) (44 ∷ numbers_row (m ∷ ns)) (short_lacks 10 n feed_no_digit (All-head HasUpToTenDigits n (m ∷ ns) short))
    (lacks_append 10 (44 ∷ []) (numbers_row (m ∷ ns)) (lacks_one 10 44 (λ e. omega arith)) (row_lacks (m ∷ ns) (All-tail HasUpToTenDigits n (m ∷ ns) short)))

-- what follows the first numbers of a row is the row of the others
pub record Splits (before rest ns : List ℕ) : Type 0 where
  pub after : List ℕ
  pub counts : length ns ≡ length before + length after
  pub others : rest ≡ numbers_row after
  pub short : All HasUpToTenDigits after
  pub some : 1 ≤ length after

row_split : (before rest ns : List ℕ) → All HasUpToTenDigits before → All HasUpToTenDigits ns → 1 ≤ length ns → front_of before ++ rest ≡ numbers_row ns → Splits before rest ns
row_split [] rest ns short-before short some e = record { after = ns; counts = omega arith; others = e; short = short; some = some }
row_split (b ∷ before) rest [] short-before short some e = absurd (omega arith)
row_split (b ∷ before) rest (n ∷ []) short-before short some e =
    absurd (no_mark 44 (decimal b) (front_of before ++ rest) (decimal n) (short_lacks 44 n comma_no_digit (All-head HasUpToTenDigits n [] short)) (sym e ∙ simp append_assoc))
row_split (b ∷ before) rest (n ∷ m ∷ ns) short-before short some e =
    let joined : decimal b ++ (44 ∷ (front_of before ++ rest)) ≡ decimal n ++ (44 ∷ numbers_row (m ∷ ns)) = simp append_assoc at e in
    let parts = cut_once 44 (decimal b) (decimal n) _ _ (short_lacks 44 b comma_no_digit (All-head HasUpToTenDigits b before short-before)) (short_lacks 44 n comma_no_digit (All-head HasUpToTenDigits n (m ∷ ns) short)) joined in
    let below = row_split before rest (m ∷ ns) (All-tail HasUpToTenDigits b before short-before) (All-tail HasUpToTenDigits n (m ∷ ns) short) (omega arith) parts.1 in
    record { after = below.after; counts = omega (arith, below.counts); others = below.others; short = below.short; some = below.some }

-- the faults of a field or of their number are no faults of a row
module _ (most before : ℕ) (rest after : List ℕ) (others : rest ≡ numbers_row after) (short : All HasUpToTenDigits after) (some : 1 ≤ length after) (few : before + length after ≤ most) where
  field_is_number : (field : List ℕ) → Lacks 44 field → (rest ≡ field) ⊎ ((more : List ℕ) × (rest ≡ field ++ (44 ∷ more))) → IsNoNumber field → ⊥
  field_is_number field lacks starts none = found after others short some
    where
      found : (after : List ℕ) → rest ≡ numbers_row after → All HasUpToTenDigits after → 1 ≤ length after → ⊥
      found [] is short some = omega arith
      found (n ∷ []) is short some =
          ⊎_elim (λ whole. none n (All-head HasUpToTenDigits n [] short) (sym whole ∙ is))
          (λ cut. no_mark 44 field cut.0 (decimal n) (short_lacks 44 n comma_no_digit (All-head HasUpToTenDigits n [] short)) (sym is ∙ cut.1))
          starts
      found (n ∷ m ∷ ns) is short some =
          ⊎_elim (λ whole. no_mark 44 (decimal n) (numbers_row (m ∷ ns)) field lacks (sym whole ∙ is))
          (λ cut. none n (All-head HasUpToTenDigits n (m ∷ ns) short) (cut_once 44 field (decimal n) cut.0 (numbers_row (m ∷ ns)) lacks (short_lacks 44 n comma_no_digit (All-head HasUpToTenDigits n (m ∷ ns) short)) (sym cut.1 ∙ is)).0)
          starts

  no_cause : (wrong : Wrong) (field : List ℕ) → Starts field rest → IsWrongField most before field wrong → ⊥
  no_cause Number field starts why = field_is_number field starts.0 starts.1 why.1
  no_cause Surplus field starts why = omega arith
  no_cause LineFeed field starts why = why
  no_cause Missing field starts why = why
  no_cause Line field starts why = why

-- a row does not stop
pub row_goes_on : (line most : ℕ) (bs ns : List ℕ) (fault : Fault) → Stops line most bs fault → bs ≡ numbers_row ns → All HasUpToTenDigits ns → 1 ≤ length ns → length ns ≤ most → ⊥
row_goes_on line most bs ns fault stops is short some few =
    let split = row_split stops.before stops.rest ns stops.short short some (sym stops.text ∙ is) in
    no_cause most (length stops.before) stops.rest split.after split.others split.short split.some (omega (arith, split.counts)) fault.wrong stops.field stops.starts stops.because

-- ---- the text

pub begins_once : (bs first rest ns more : List ℕ) → All HasUpToTenDigits ns → Begins bs first rest → bs ≡ numbers_row ns ++ (10 ∷ more) → (first ≡ numbers_row ns) × (rest ≡ more)
begins_once bs first rest ns more short begins is =
    cut_once 10 first (numbers_row ns) rest more begins.1 (row_lacks ns short) (sym begins.0 ∙ is)

not_empty : (bs first rest : List ℕ) → Begins bs first rest → bs ≡ [] → ⊥
not_empty bs first rest begins is =
    omega (arith, ap length begins.0, length-append first (10 ∷ rest), ap length is)

parts_asked : (bs parts : List ℕ) (fault : Fault) → IsNoParts bs fault → bs ≡ parts_text parts → All HasUpToTenDigits parts → length parts ≤ 32 → ⊥
parts_asked bs [] _ (second_endless some none) is short few = omega (arith, ap length is)
parts_asked bs [] _ (second_unread second rest fault begins stops) is short few = not_empty bs second rest begins is
parts_asked bs [] _ (third_line second rest ps begins of more) is short few = not_empty bs second rest begins is
parts_asked bs (p ∷ ps) _ (second_endless some none) is short few = no_mark 10 (numbers_row (p ∷ ps)) [] bs none is
parts_asked bs (p ∷ ps) _ (second_unread second rest fault begins stops) is short few =
    row_goes_on 2 32 second (p ∷ ps) fault stops (begins_once bs second rest (p ∷ ps) [] short begins is).0 short (omega arith) few
parts_asked bs (p ∷ ps) _ (third_line second rest qs begins of more) is short few =
    omega (arith, ap length (begins_once bs second rest (p ∷ ps) [] short begins is).1)

need_asked : (bs first rest needs more : List ℕ) (pool alone : ℕ) → Begins bs first rest → first ≡ numbers_row (alone ∷ []) → HasUpToTenDigits alone → bs ≡ numbers_row (pool ∷ needs) ++ (10 ∷ more) → All HasUpToTenDigits (pool ∷ needs) → 1 ≤ length needs → ⊥
need_asked bs first rest [] more pool alone begins one small is short some = omega arith
need_asked bs first rest (need ∷ needs) more pool alone begins one small is short some =
    let first_is = (begins_once bs first rest (pool ∷ need ∷ needs) more short begins is).0 in
    no_mark 44 (decimal pool) (numbers_row (need ∷ needs)) (decimal alone) (short_lacks 44 alone comma_no_digit small) (sym one ∙ first_is)

pub asks_nothing : (bs : List ℕ) (fault : Fault) → IsNoQuestion bs fault → AsksNothing bs
asks_nothing bs _ (first_endless none) pool needs parts asks =
    no_mark 10 (numbers_row (pool ∷ needs)) (parts_text parts) bs none asks.text
asks_nothing bs _ (first_unread first rest fault begins stops) pool needs parts asks =
    row_goes_on 1 33 first (pool ∷ needs) fault stops (begins_once bs first rest (pool ∷ needs) (parts_text parts) asks.short begins asks.text).0 asks.short (omega arith) (omega (arith, asks.few))
asks_nothing bs _ (no_need first rest alone begins of) pool needs parts asks =
    need_asked bs first rest needs (parts_text parts) pool alone begins of.text (All-head HasUpToTenDigits alone [] of.short) asks.text asks.short asks.some
asks_nothing bs _ (no_parts first rest pool' need needs' fault begins of none) pool needs parts asks =
    parts_asked rest parts fault none (begins_once bs first rest (pool ∷ needs) (parts_text parts) asks.short begins asks.text).1 asks.short_parts asks.few_parts
