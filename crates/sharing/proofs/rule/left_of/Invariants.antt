use Rattle.std.proofs.Common.{◌≡◌, ◌-◌, drop, sum}
use Rattle.sharing.proofs.rule.left_of.Given as goal

abbrev pub invariant-loop-share : goal.invariant-loop-share
invariant-loop-share l = l.left - sum (drop l.share-index l.shares) ≡ l.pool - sum l.shares
