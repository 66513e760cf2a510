use Rattle.std.proofs.Common.{◌≡◌, ◌-◌, length, get_or, sum, refl, ap, ◌∙◌, ap₂, arith}
use Rattle.sharing.specs.Law.{plus, less}
use Rattle.sharing.specs.Refusals.{answer}
use Rattle.sharing.specs.Rules.{reserved}
use Rattle.sharing.proofs.Admission.{admitted, admits}
use Rattle.sharing.specs.KeepingTheLaw.{reserved_in_pool, length_less, get_or_less}
use Rattle.sharing.proofs.Layers.{own_fits, aside_more, added_more, all_aside, at_start, rest_admitted}
use Rattle.sharing.proofs.parts.PartsSharingRule.share.Goals as goal

pub loop-place-init : goal.loop-place-init
loop-place-init g c = record {
  long = refl;
  fits = reserved_in_pool c.args.pool c.args.self.now.parts c.args.needs.now c.args.self.now.whole;
  same = refl;
  begun = refl;
}

pub overflow_sub-left : goal.overflow_sub-left
overflow_sub-left g c =
    own_fits c.args.pool c.args.self.now.parts c.args.needs.now c.loop-place.place _ c.loop-place-test.true c.ahead-own.ensures c.loop-place.left c.loop-place.invariant.fits

pub loop-place-preserved : goal.loop-place-preserved
loop-place-preserved g c =
    let ns = c.args.needs.now in
    let fit = admitted c.args.pool ns (length c.args.shares.now) c.in_ok-admit.ensures in
    aside_more c.args.pool c.args.self.now.parts ns c.loop-place.place _ c.loop-place-test.true c.ahead-own.ensures _ _ _ _ fit.few c.loop-place.invariant

pub returns-in_err-share-clause-answers : goal.returns-in_err-share-clause-answers
returns-in_err-share-clause-answers g c =
    let pool = c.args.pool in
    let ps = c.args.self.now.parts in
    let ns = c.args.needs.now in
    let places = length c.args.shares.now in
    let all = all_aside pool ps ns c.loop-place.place c.loop-place-test.false _ _ _ _ c.loop-place.auto.place-end c.loop-place.invariant in
    let fit = rest_admitted pool ns (reserved pool ps ns) places (admitted pool ns places c.in_ok-admit.ensures) in
    let never = c.in_err-share.ensures.answers ∙ ap₂ (λ p l. answer p l places) all.0 all.1 ∙ admits _ _ places fit in
    cc

pub loop-place-2-init : goal.loop-place-2-init
loop-place-2-init g c =
    let pool = c.args.pool in
    let ps = c.args.self.now.parts in
    let ns = c.args.needs.now in
    let all = all_aside pool ps ns c.loop-place.place c.loop-place-test.false _ _ _ _ c.loop-place.auto.place-end c.loop-place.invariant in
    record {
      given = c.in_ok-share.ensures.writes ∙ ap₂ (g.R.SharingRule.sharing c.args.self.now.rule) all.0 all.1;
      same = refl;
      begun = refl;
    }

pub overflow_add-shares : goal.overflow_add-shares
overflow_add-shares g c =
    let ns = c.args.needs.now in
    let first = reserved c.args.pool c.args.self.now.parts ns in
    let place = c.loop-place-2.place in
    let inv = c.loop-place-2.invariant in
    let fit = admitted c.args.pool ns (length c.args.shares.now) c.in_ok-admit.ensures in
    let keeps_law = g.met.R.SharingRule.keeps_law c.args.self.now.rule (c.args.pool - sum first) (less ns first) in
    let share = at_start c.loop-place-2.shares c.share.new.shares place inv.same ∙ ap (λ l. get_or l place 0) inv.given in
    omega (arith, share, keeps_law.within place, get_or_less ns first place, fit.needs_within place, c.ahead.ensures)

pub loop-place-2-preserved : goal.loop-place-2-preserved
loop-place-2-preserved g c =
    let ns = c.args.needs.now in
    let first = reserved c.args.pool c.args.self.now.parts ns in
    let inv = c.loop-place-2.invariant in
    let keeps_law = g.met.R.SharingRule.keeps_law c.args.self.now.rule (c.args.pool - sum first) (less ns first) in
    let long : length c.share.new.shares ≡ length ns = ap length inv.given ∙ keeps_law.as_many ∙ length_less ns first in
    let more = added_more c.args.pool c.args.self.now.parts ns c.loop-place-2.place c.ahead.result c.loop-place-2-test.true c.ahead.ensures c.loop-place-2.shares c.share.new.shares (plus first c.share.new.shares) (c.loop-place-2.auto.shares ∙ long) long inv.same inv.begun in
    record { given = inv.given; same = more.0; begun = more.1 }
