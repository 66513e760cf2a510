use Rattle.std.proofs.Common.{◌≤◌, ◌∙◌, sym, subst}
use Rattle.fields.proofs.Forming.{date_form, day_spelled, no_value}
use Rattle.fields.specs.Columns.{DateForm}
use Rattle.fields.specs.Texts.{day_text}
use Rattle.fields.proofs.column.DatedColumn.of.Goals as goal

pub returns-in_err-day : goal.returns-in_err-day
returns-in_err-day c =
    rw c.from_residual.ensures
    (no_value DateForm (λ d. d ≤ 36524) day_text (λ x. x.0) _ (day_spelled _)
    (λ day early e. c.in_err-day.ensures day early (c.in-Date.ensures.0 ∙ e)))

pub returns : goal.returns
returns c =
    let e = sym c.in-Date.ensures.0 ∙ c.in_ok-day.ensures.1 in
    (subst DateForm (sym e) (date_form _ c.in_ok-day.ensures.0), (c.in_ok-day.ensures.0, e))
