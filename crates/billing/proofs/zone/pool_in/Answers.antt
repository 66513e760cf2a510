use Rattle.std.proofs.Common.{◌≡◌, ◌+◌, min, rules, refl, arith}
use Rattle.std.proofs.lemmas.Fn.{fold_over, fronts}
use Rattle.std.proofs.lemmas.Iterator.{YieldsList-from_slice}
use Rattle.billing.proofs.Pools.{pool_more}
use Rattle.billing.specs.Zones.{pool_of, surplus}
use Rattle.billing.proofs.zone.pool_in.Goals as goal
use Rattle.billing.proofs.zone.pool_in.Goals.{After-fold-pool}

-- the sum stays at the largest number
pool_summed : (c : After-fold-pool) → c.fold-pool.result ≡ min (pool_of c.args.carried c.args.nets.now) 18446744073709551615
pool_summed c =
    let nets = c.args.nets.now in
    let carried = c.args.carried in
    fold_over fronts (λ y. y.now) _ (λ before pool. pool ≡ min (pool_of carried before) 18446744073709551615) _
    (λ before pool net more f' is called. let own : more ≡ min (pool + surplus net.now) 18446744073709551615 = search rules in (omega (arith, own, is, pool_more carried before net.now), refl))
    c.iter.result nets carried c.fold-pool.result (YieldsList-from_slice nets cc).runs (omega arith) c.fold-pool.ensures.ran

pub returns-then-pool-gt-MOST_POOL : goal.returns-then-pool-gt-MOST_POOL
returns-then-pool-gt-MOST_POOL c = grind (arith, pool_summed (goal.at.returns-then-pool-gt-MOST_POOL c).After-fold-pool)

pub returns : goal.returns
returns c = grind (arith, pool_summed (goal.at.returns c).After-fold-pool)
