use Rattle.std.proofs.Common.{vec_items, arith, true-eqb, false-eqb}
use Rattle.std.proofs.lemmas.Result.{err_from_is_err_and}
use Rattle.comparison.proofs.Asking.{question_endless, question_no_row, question_no_need, question_no_parts}
use Rattle.comparison.proofs.question.read.Goals as goal

pub returns-in_default : goal.returns-in_default
returns-in_default c = question_endless c.args.text.now _ c.wrong_at.ensures c.in_default.ensures

pub returns-in_err-needs : goal.returns-in_err-needs
returns-in_err-needs c =
    let p = err_from_is_err_and c.from_residual.result c.from_residual.ensures.1 in
    rw (p.1, p.2) (question_no_row c.args.text.now _ _ c.in-Some.ensures _ c.in_err-needs.ensures)

pub returns-then-is_empty : goal.returns-then-is_empty
returns-then-is_empty c =
    let none = true-eqb _ 0 c.if-is_empty.ensures in
    let long = c.remove-pool.new.self.ok.0 in
    question_no_need c.args.text.now c.in-Some.first.now c.in-Some.rest.now c.in-Some.ensures (vec_items c.in_ok-needs.needs) (vec_items c.remove-pool.new.self) c.remove-pool.result c.in_ok-needs.ensures c.remove-pool.ensures.value c.remove-pool.ensures.items _ c.wrong_at-then-is_empty.ensures (omega (arith, none, long))

pub returns-in_err-parts : goal.returns-in_err-parts
returns-in_err-parts c =
    let p = err_from_is_err_and c.from_residual-in_err-parts.result c.from_residual-in_err-parts.ensures.1 in
    let some = false-eqb _ 0 c.if-is_empty.ensures in
    let long = c.remove-pool.new.self.ok.0 in
    rw (p.1, p.2) (question_no_parts c.args.text.now c.in-Some.first.now c.in-Some.rest.now c.in-Some.ensures (vec_items c.in_ok-needs.needs) (vec_items c.remove-pool.new.self) c.remove-pool.result c.in_ok-needs.ensures c.remove-pool.ensures.value c.remove-pool.ensures.items (omega (arith, some, long)) _ c.in_err-parts.ensures)
