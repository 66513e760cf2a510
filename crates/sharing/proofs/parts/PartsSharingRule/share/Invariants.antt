use Rattle.std.proofs.Common.{◌≡◌, ◌-◌, drop, sum}
use Rattle.sharing.specs.Law.{plus, less}
use Rattle.sharing.specs.Rules.{reserved}
use Rattle.sharing.proofs.Layers.{Aside}
use Rattle.sharing.proofs.Writing.{Begun}
use Rattle.sharing.proofs.parts.PartsSharingRule.share.Given as goal

abbrev pub invariant-loop-place : goal.invariant-loop-place
invariant-loop-place g l =
    let parts = l.self.parts in
    let first = reserved l.pool parts l.needs in
    Aside l.pool parts l.needs l.place l.left l.rest (l.pool - sum first) (less l.needs first)

abbrev pub invariant-loop-place-2 : goal.invariant-loop-place-2
invariant-loop-place-2 g l =
    let to-come = reserved l.pool (drop l.place l.self.parts) (drop l.place l.needs) in
    let first = reserved l.pool l.self.parts l.needs in
    let below = l.initial.shares in
    record {
      given : below ≡ g.R.SharingRule.sharing l.self.rule (l.pool - sum first) (less l.needs first);
      same : drop l.place l.shares ≡ drop l.place below;
      begun : Begun l.shares l.place (plus to-come (drop l.place below)) (plus first below);
    }
