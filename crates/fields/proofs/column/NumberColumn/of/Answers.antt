use Rattle.std.proofs.Common.{◌≤◌, ◌∙◌, decimal, sym, subst, arith}
use Rattle.fields.proofs.Forming.{no_value, number_form, number_spelled}
use Rattle.fields.proofs.Looks.{no_number}
use Rattle.fields.specs.Columns.{NumberForm}
use Rattle.fields.proofs.column.NumberColumn.of.Goals as goal

pub returns-in_default : goal.returns-in_default
returns-in_default c =
    no_value NumberForm (λ n. n ≤ 999999999) decimal (λ x. x.0) _ (number_spelled _)
    (λ n few. no_number _ _ c.token_of.ensures c.in_default.not-Number n (omega arith))

pub returns-in_err-short_number : goal.returns-in_err-short_number
returns-in_err-short_number c =
    rw c.from_residual.ensures
    (no_value NumberForm (λ n. n ≤ 999999999) decimal (λ x. x.0) _ (number_spelled _)
    (λ n few e. c.in_err-short_number.ensures n few (c.in-Number.ensures.0 ∙ e)))

pub returns : goal.returns
returns c =
    let e = sym c.in-Number.ensures.0 ∙ c.in_ok-short_number.ensures.1 in
    (subst NumberForm (sym e) (number_form _ c.in_ok-short_number.ensures.0), (c.in_ok-short_number.ensures.0, e))
