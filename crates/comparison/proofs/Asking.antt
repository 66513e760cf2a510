-- From the lines of a text to the question that it asks, or to the place at which it asks none.
use Rattle.std.proofs.Common.{◌≡◌, ℕ, ◌<◌, ◌≤◌, List, [], ◌∷◌, length, get_or, Some, None, sym, subst, ap₂, arith}
use Rattle.std.specs.List.{remove}
use Rattle.std.proofs.lemmas.List.{nil_from_length}
use Rattle.fields.specs.Cuts.{Lacks}
use Rattle.comparison.specs.Rows.{IsRowOf, ReadsNoRow}
use Rattle.comparison.specs.Questions.{AsksNothing, Begins, ReadsNoParts, IsNoQuestion, ReadsNoQuestion, at, second_endless, second_unread, third_line, first_endless, first_unread, no_need, no_parts}
use Rattle.comparison.proofs.Exact.{asks_nothing}
use Rattle.comparison.specs.declared.question.Fault.{Fault}
use Rattle.comparison.specs.declared.problem.Problem.{Problem}
use Rattle.comparison.specs.declared.problem.Problem.TheVariants.{At, Memory, OfParts, OfRule}
use Rattle.comparison.specs.declared.question.Wrong.TheVariants.{LineFeed, Missing, Line}

-- ---- the parts

pub parts_endless : (bs : List ℕ) (why : Problem) → why ≡ At (at 2 None LineFeed) → 0 < length bs → Lacks 10 bs → ReadsNoParts bs why
parts_endless bs why is some none = subst (ReadsNoParts bs) (sym is) (second_endless some none)

module _ (bs second rest : List ℕ) (begins : Begins bs second rest) where
  pub parts_no_row : (why : Problem) → ReadsNoRow 2 32 second why → ReadsNoParts bs why
  parts_no_row (At fault) stops = second_unread second rest fault begins stops
  parts_no_row (OfRule refusal) stops = stops
  parts_no_row (OfParts refusal) stops = stops
  parts_no_row Memory stops = tt

  pub parts_third : (why : Problem) → why ≡ At (at 3 None Line) → (ps : List ℕ) → IsRowOf 32 second ps → 0 < length rest → ReadsNoParts bs why
  parts_third why is ps is_row more = subst (ReadsNoParts bs) (sym is) (third_line second rest ps begins is_row more)

-- ---- the question

told : {bs : List ℕ} {fault : Fault} → IsNoQuestion bs fault → IsNoQuestion bs fault × AsksNothing bs
told {bs} {fault} why = (why, asks_nothing bs fault why)

pub question_endless : (bs : List ℕ) (why : Problem) → why ≡ At (at 1 None LineFeed) → Lacks 10 bs → ReadsNoQuestion bs why
question_endless bs why is none = subst (ReadsNoQuestion bs) (sym is) (told (first_endless none))

-- the first number of a row is the pool, and the others are the needs
uncons : (ns needs : List ℕ) (pool : ℕ) → 1 ≤ length ns → pool ≡ get_or ns 0 pool → needs ≡ remove ns 0 → ns ≡ pool ∷ needs
uncons [] needs pool some first others = absurd (omega arith)
uncons (n ∷ ns) needs pool some first others = ap₂ (λ x l. x ∷ l) (sym first) (sym others)

module _ (bs first rest : List ℕ) (begins : Begins bs first rest) where
  pub question_no_row : (why : Problem) → ReadsNoRow 1 33 first why → ReadsNoQuestion bs why
  question_no_row (At fault) stops = told (first_unread first rest fault begins stops)
  question_no_row (OfRule refusal) stops = stops
  question_no_row (OfParts refusal) stops = stops
  question_no_row Memory stops = tt

  module _ (ns needs : List ℕ) (pool : ℕ) (is_row : IsRowOf 33 first ns) (head : pool ≡ get_or ns 0 pool) (others : needs ≡ remove ns 0) where
    whole_row : IsRowOf 33 first (pool ∷ needs)
    whole_row = subst (IsRowOf 33 first) (uncons ns needs pool is_row.some head others) is_row

    pub question_no_need : (why : Problem) → why ≡ At (at 1 (Some 2) Missing) → length needs ≡ 0 → ReadsNoQuestion bs why
    question_no_need why is none =
        let alone = subst (λ l. IsRowOf 33 first (pool ∷ l)) (nil_from_length needs none) whole_row in
        subst (ReadsNoQuestion bs) (sym is) (told (no_need first rest pool begins alone))

    with_need : (l : List ℕ) → IsRowOf 33 first (pool ∷ l) → 0 < length l → (why : Problem) → ReadsNoParts rest why → ReadsNoQuestion bs why
    with_need [] r some why none = absurd (omega arith)
    with_need (need ∷ l) r some (At fault) none = told (no_parts first rest pool need l fault begins r none)
    with_need (need ∷ l) r some (OfRule refusal) none = none
    with_need (need ∷ l) r some (OfParts refusal) none = none
    with_need (need ∷ l) r some Memory none = tt

    pub question_no_parts : 0 < length needs → (why : Problem) → ReadsNoParts rest why → ReadsNoQuestion bs why
    question_no_parts some why none = with_need needs whole_row some why none
