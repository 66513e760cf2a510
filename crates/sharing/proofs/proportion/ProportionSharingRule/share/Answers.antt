use Rattle.std.proofs.Common.{◌≡◌, min, length, sum, ap, ◌∙◌, ap₂, arith}
use Rattle.sharing.specs.Rules.{portions}
use Rattle.sharing.proofs.Admission.{admitted, sum_within}
use Rattle.sharing.proofs.proportion.ProportionSharingRule.share.Goals as goal

pub loop-place-init : goal.loop-place-init
loop-place-init c =
    let ns = c.args.needs.now in
    let small = sum_within _ _ _ (admitted c.args.pool ns (length c.args.shares.now) c.in_ok-admit.ensures) in
    let all : c.saturating_sum-all.result ≡ sum ns = omega arith in
    record {
      small = omega arith;
      split = omega arith;
      begun = ap₂ (λ given all. portions given all 0 ns) (c.min-given.ensures ∙ ap (min c.args.pool) all) all;
    }
