use Rattle.std.proofs.Common.{◌<◌, arith, length}
use Rattle.std.proofs.lemmas.Grind.{common_steps}
use Rattle.std.proofs.lemmas.Option.{slice_get-get_or}
use Rattle.settlement.proofs.Billing.{all_bills, none_so_far, one_more}
use Rattle.settlement.proofs.bills.write_bills.Goals as goal

pub loop-place-init : goal.loop-place-init
loop-place-init c = none_so_far _ _ _ _

pub write_whole-end-requires : goal.write_whole-end-requires
write_whole-end-requires c =
    let so_far = c.loop-place.invariant in
    omega (arith, so_far.put.stop, so_far.within, c.requires.few, c.requires.room)

pub loop-place-preserved : goal.loop-place-preserved
loop-place-preserved c =
    let inside : c.loop-place.place < length c.args.bills.now = grind (arith, common_steps) in
    one_more _ _ _ _ _ _ _ _ _ _ (slice_get-get_or _ _ _ inside) (omega (arith, c.requires.room)) c.loop-place.invariant c.write_whole-end.ensures.end c.write_whole-end.ensures.text c.write_whole-end.ensures.within_128

pub returns-clause-end : goal.returns-clause-end
returns-clause-end c = (all_bills _ _ _ _ _ _ _ (omega arith) c.loop-place.invariant).0.stop

pub returns-clause-text : goal.returns-clause-text
returns-clause-text c = (all_bills _ _ _ _ _ _ _ (omega arith) c.loop-place.invariant).0.held

pub returns-clause-within_room : goal.returns-clause-within_room
returns-clause-within_room c = omega (arith, (all_bills _ _ _ _ _ _ _ (omega arith) c.loop-place.invariant).1, c.requires.few)
