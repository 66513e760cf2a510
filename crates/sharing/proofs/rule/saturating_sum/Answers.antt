use Rattle.std.proofs.Common.{◌≡◌, ℕ, ◌+◌, ◌-◌, ◌^◌, min, List, [], ◌∷◌, sum, fold, ◌∙◌, ap, rules, arith}
use Rattle.std.proofs.iter.runs.Made.{chains}
use Rattle.sharing.specs.KeepingTheLaw.{sum_cons}
use Rattle.sharing.proofs.rule.saturating_sum.Goals as goal

-- a sum that stops at a limit is the smaller of the sum and the limit
fold_capped : (limit before : ℕ) (amounts : List ℕ) → fold (λ so_far amount. min (so_far + amount) limit) (min before limit) amounts ≡ min (before + sum amounts) limit
fold_capped limit before [] = omega arith
fold_capped limit before (amount ∷ amounts) =
    ap (λ so_far. fold (λ s a. min (s + a) limit) so_far amounts) (omega arith) ∙ fold_capped limit (before + amount) amounts ∙ omega (arith, sum_cons amount amounts)

pub returns : goal.returns
returns c =
    let in_turn : c.fold.result ≡ fold (λ so_far amount. min (so_far + amount) (2 ^ 64 - 1)) 0 c.args.amounts.now = search (rules, chains) in
    in_turn ∙ fold_capped (2 ^ 64 - 1) 0 c.args.amounts.now ∙ omega arith
