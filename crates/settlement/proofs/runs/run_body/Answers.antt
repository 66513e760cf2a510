use Rattle.std.proofs.Common.{◌+◌, Ok, Err, length, ap, arith, refl}
use Rattle.std.proofs.lemmas.Grind.{common_steps}
use Rattle.std.proofs.lemmas.List.{length-append}
use Rattle.settlement.proofs.Going.{going_begins, going_ends, going_on, going_stops}
use Rattle.settlement.proofs.Terms.{by_terms, same_on}
use Rattle.settlement.specs.Steps.{DoesText}
use Rattle.settlement.proofs.runs.run_body.Goals as goal

pub loop-text-init : goal.loop-text-init
loop-text-init g c = (going_begins _ _ _ _ _ _ c.requires, record { rule = refl; tariff = refl })

pub overflow_add-line : goal.overflow_add-line
overflow_add-line g c =
    let (whole, some, lines) = c.in-Some.ensures in
    let longer = length-append c.in-Some.text.now c.in-Some.after.now in
    grind (arith, common_steps, c.loop-text.invariant.0.counted, ap length whole, longer, some)

pub run_line-requires : goal.run_line-requires
run_line-requires g c = c.loop-text.invariant.0.inside

pub returns-in-Err-clause-done : goal.returns-in-Err-clause-done
returns-in-Err-clause-done g c =
    let (going, same) = c.loop-text.invariant in
    let (whole, some, lines) = c.in-Some.ensures in
    let done = by_terms g.R.SharingRule.sharing g.T.Tariff.price c.args.book.now c.loop-text.book same (λ share prices. DoesText share prices c.in-Some.text.now (c.loop-text.line + 1) c.loop-text.written (c.loop-text.out, c.loop-text.book.group) (Err c.in-Err.fault) (c.run_line.new.out, c.run_line.new.book.group)) c.in-Err.ensures.done in
    going_stops _ _ _ _ _ _ _ _ _ _ _ going _ c.in-Some.after.now _ _ _ lines done

pub returns-in-Err-clause-terms : goal.returns-in-Err-clause-terms
returns-in-Err-clause-terms g c = same_on _ _ _ c.loop-text.invariant.1 c.run_line.ensures.terms

pub loop-text-smaller : goal.loop-text-smaller
loop-text-smaller g c =
    let (whole, some, lines) = c.in-Some.ensures in
    omega (arith, ap length whole, length-append c.in-Some.text.now c.in-Some.after.now, some)

pub loop-text-preserved : goal.loop-text-preserved
loop-text-preserved g c =
    let (going, same) = c.loop-text.invariant in
    let (whole, some, lines) = c.in-Some.ensures in
    let done = by_terms g.R.SharingRule.sharing g.T.Tariff.price c.args.book.now c.loop-text.book same (λ share prices. DoesText share prices c.in-Some.text.now (c.loop-text.line + 1) c.loop-text.written (c.loop-text.out, c.loop-text.book.group) (Ok c.in-Ok.end) (c.run_line.new.out, c.run_line.new.book.group)) c.in-Ok.ensures.done in (
      going_on _ _ _ _ _ _ _ _ _ _ _ going _ _ _ _ _ lines whole some (grind (arith, common_steps)) c.in-Ok.ensures.inside done,
      same_on _ _ _ same c.run_line.ensures.terms,
    )

pub returns-clause-done : goal.returns-clause-done
returns-clause-done g c = going_ends _ _ _ _ _ _ _ _ _ _ _ c.loop-text.invariant.0 c.in_default.ensures

pub returns-clause-terms : goal.returns-clause-terms
returns-clause-terms g c = c.loop-text.invariant.1
