use Rattle.std.proofs.Common.{◌≤◌, ◌∙◌, nat_abs, sym, subst, arith, rules}
use Rattle.fields.proofs.Forming.{no_value, signed_form, signed_spelled}
use Rattle.fields.proofs.Looks.{no_signed}
use Rattle.fields.specs.Columns.{SignedForm}
use Rattle.std.specs.Fmt.{signed_decimal}
use Rattle.fields.proofs.column.SignedColumn.of.Goals as goal

pub returns-in_default : goal.returns-in_default
returns-in_default c =
    no_value SignedForm (λ z. nat_abs z ≤ 999999999) signed_decimal (λ x. x.0) _ (signed_spelled _)
    (λ z few. no_signed _ _ c.token_of.ensures c.in_default.not-Number 999999999 z (omega arith) few)

pub returns-in_err-short_signed : goal.returns-in_err-short_signed
returns-in_err-short_signed c =
    rw c.from_residual.ensures
    (no_value SignedForm (λ z. nat_abs z ≤ 999999999) signed_decimal (λ x. x.0) _ (signed_spelled _)
    (λ z few e. c.in_err-short_signed.ensures z few (c.in-Number.ensures.0 ∙ e)))

pub returns : goal.returns
returns c =
    let e = sym c.in-Number.ensures.0 ∙ c.in_ok-short_signed.ensures.1 in
    (subst SignedForm (sym e) (signed_form _ c.in_ok-short_signed.ensures.0), search rules)
