use Rattle.std.proofs.Common.{◌≡◌, ◌+◌, ◌≤◌, drop, sum}
use Rattle.sharing.specs.Rules.{portions, proportion}
use Rattle.sharing.proofs.Writing.{Begun}
use Rattle.sharing.proofs.proportion.ProportionSharingRule.share.Given as goal

abbrev pub invariant-loop-place : goal.invariant-loop-place
invariant-loop-place l =
    let to-come = drop l.place l.needs in
    record {
      small : l.all ≤ 64000000;
      split : l.before + sum to-come ≡ l.all;
      begun : Begun l.shares l.place (portions l.given l.all l.before to-come) (proportion l.pool l.needs);
    }
