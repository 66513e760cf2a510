-- The two readings on a 29 February.
use Rattle.std.proofs.Common.{◌≡◌, ℕ, List, [], ◌∷◌, Some, None, Ok, Err, codes, decimal, sym, refl, ap, ◌∙◌, subst, inr, arith}
use Rattle.calendar.proofs.Named.{dated, same_date}
use Rattle.calendar.specs.Dates.{date_of_day, day_of_date}
use Rattle.calendar.specs.declared.date.Date.{Date}
use Rattle.fields.proofs.Forming.{day_spelled, number_form}
use Rattle.fields.proofs.Lacking.{lacks_by_test}
use Rattle.fields.proofs.Spelling.{same_date_text, short_date}
use Rattle.fields.specs.Columns.{DateForm, NumberForm}
use Rattle.fields.specs.Cuts.{Lacks}
use Rattle.fields.specs.Rows.{line_of}
use Rattle.fields.specs.Texts.{date_text}
use Rattle.journal.specs.Lines.{ReadsLine, RefusesLine}
use Rattle.journal.specs.declared.kind.Kind.TheVariants as kinds
use Rattle.journal.specs.declared.line.Line.TheVariants.{Enter}
use Rattle.journal.specs.declared.refusal.ReadRefusal.TheVariants.{Form}
use Rattle.ledger.specs.declared.entry.Entry.TheVariants.{Reading}
use Rattle.ledger.specs.declared.zone.Flow.TheVariants.{Delivered}
use Rattle.ledger.specs.declared.zone.Zone.TheVariants.{Day}
use Rattle.worked_cases.specs.Cases.{ReadsLeapDayOnly, register}
use Rattle.std.proofs.lemmas.List.Elements.{All-from_recursion}
use Rattle.std.specs.Fmt.{digits}

abbrev leap_day : (year : ℕ) → Date
leap_day year = record { year = year; month = 2; day = 29 }

nought : decimal 0 ≡ codes "0"
unfolding digits
nought = refl

nine_hundred : decimal 900 ≡ codes "900"
unfolding digits
nine_hundred = refl

-- the line up to its date
abbrev before : List ℕ → List (List ℕ)
before date = codes "READ" ∷ codes "0" ∷ codes "DAY" ∷ codes "GIVE" ∷ codes "900" ∷ codes "-" ∷ date ∷ []

in_2024 : (line : ℕ) → ReadsLine (codes "READ,0,DAY,GIVE,900,-,2024-02-29\n") line (Ok (Enter (Reading register 8825 900)))
in_2024 line =
    let date : leap_day 2024 ≡ date_of_day 8825 = same_date (leap_day 2024) 8825 refl in (
      (omega arith, omega arith, omega arith),
      ap (λ d. line_of (before (date_text d))) date
          ∙ ap (λ n. line_of (codes "READ" ∷ n ∷ codes "DAY" ∷ codes "GIVE" ∷ codes "900" ∷ codes "-" ∷ date_text (date_of_day 8825) ∷ [])) (sym nought)
          ∙ ap (λ n. line_of (codes "READ" ∷ decimal 0 ∷ codes "DAY" ∷ codes "GIVE" ∷ n ∷ codes "-" ∷ date_text (date_of_day 8825) ∷ [])) (sym nine_hundred),
    )

no_date : DateForm (codes "2023-02-29") → ⊥
no_date form =
    let is = day_spelled (codes "2023-02-29") form in
    let day = is.0 in
    let early = is.1.0 in
    let same : leap_day 2023 ≡ date_of_day day = same_date_text (leap_day 2023) (date_of_day day) (omega arith, omega arith, omega arith) (short_date day early) is.1.1 in
    let none : None ≡ Some day = ap day_of_date same ∙ dated day early in
    let z : ◌≡◌ {A = ℕ} 0 1 = cc in
    omega arith

refused_in_2023 : RefusesLine (codes "READ,0,DAY,GIVE,900,-,2023-02-29\n") (Form 7)
refused_in_2023 = (
  before (codes "2023-02-29"),
  (
    record {
      seven = refl;
      commaless = All-from_recursion (Lacks 44) (before (codes "2023-02-29"))
          (lacks_by_test 44 (codes "READ") refl, (lacks_by_test 44 (codes "0") refl, (lacks_by_test 44 (codes "DAY") refl, (lacks_by_test 44 (codes "GIVE") refl, (lacks_by_test 44 (codes "900") refl, (lacks_by_test 44 (codes "-") refl, (lacks_by_test 44 (codes "2023-02-29") refl, tt)))))));
      whole = refl;
    },
    inr (kinds.Reading, (refl, (5, (refl, (subst NumberForm nought (number_form 0 (omega arith)), ((Day, refl), ((Delivered, refl), (subst NumberForm nine_hundred (number_form 900 (omega arith)), (refl, no_date))))))))),
  ),
)

in_2023 : (line : ℕ) → ReadsLine (codes "READ,0,DAY,GIVE,900,-,2023-02-29\n") line (Err (record { line = line; refusal = Form 7 }))
in_2023 line = (refl, refused_in_2023)

pub read_or_refused : ReadsLeapDayOnly
read_or_refused = record { leap_day_of_2024 = in_2024; no_leap_day_of_2023 = in_2023; by_number = refl }
