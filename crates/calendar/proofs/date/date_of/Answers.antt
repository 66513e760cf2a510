use Rattle.std.proofs.Common.{◌-◌, ◌%◌, Some, sym, ap, ◌∙◌, subst, arith}
use Rattle.calendar.proofs.Months.{first_next, usual_length}
use Rattle.calendar.proofs.Named.{named, unnamed}
use Rattle.calendar.proofs.Numbered.{agree, date_found, past_the_last}
use Rattle.calendar.specs.Dates.{IsDateOf, date_in}
use Rattle.calendar.specs.Gregorian.{year_of}
use Rattle.calendar.proofs.date.date_of.Goals as goal

pub returns-in_err-month : goal.returns-in_err-month
returns-in_err-month c = record {
  date = rw c.from_residual.ensures (c.in_err-month.ensures, past_the_last c.args.day c.in_err-month.ensures);
  named = c.from_residual.ensures ∙ unnamed c.args.day c.in_err-month.ensures;
  agree = agree;
}

pub date_in-requires : goal.date_in-requires
date_in-requires c =
    let month = c.in_ok-month.month in
    let within = c.in_ok-month.ensures in
    omega (arith, within.1, within.2, c.first.ensures, first_next month, (usual_length (year_of month) (month % 12) (omega arith)).1)

pub returns : goal.returns
returns c =
    let within = c.in_ok-month.ensures in
    let made = c.date_in.ensures ∙ ap (λ first. date_in c.in_ok-month.month (c.args.day - first)) c.first.ensures in
    let of = subst (λ d. IsDateOf c.args.day (Some d)) (sym made) (date_found c.in_ok-month.month c.args.day within.0 within.1 within.2) in
    record { date = of; named = named c.date_in.result c.args.day of.0; agree = agree }
