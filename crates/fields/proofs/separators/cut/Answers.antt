use Rattle.std.specs.List.{position_from}
use Rattle.std.proofs.Common.{◌≡◌, ℕ, ◌<◌, eqb, List, ◌∷◌, ◌++◌, Some, sym, ap, ◌∙◌, subst, arith}
use Rattle.fields.proofs.Separating.{First, FirstAt, at_start, first_from}
use Rattle.fields.proofs.separators.cut.Goals as goal

pub returns-in_err-i : goal.returns-in_err-i
returns-in_err-i c =
    rw c.from_residual.ensures (subst (First 44 0 c.args.text.now) (sym c.in_err-i.ensures) (first_from 44 0 c.args.text.now))

first : (text : List ℕ) (i : ℕ) → Some i ≡ position_from (λ byte. eqb byte 44) 0 text → FirstAt 44 text i
first text i is = at_start 44 text i (subst (First 44 0 text) (sym is) (first_from 44 0 text))

pub around-requires : goal.around-requires
around-requires c = (first c.args.text.now c.in_ok-i.i c.in_ok-i.ensures).within

pub returns : goal.returns
returns c =
    let comma = first c.args.text.now c.in_ok-i.i c.in_ok-i.ensures in (
      c.around.ensures.whole ∙ ap (λ b. c.around.result.0.now ++ (b ∷ c.around.result.1.now)) comma.is,
      λ k h e. let before : k < c.in_ok-i.i = omega (arith, c.around.ensures.before) in comma.before k before (sym (c.around.ensures.same k before) ∙ e),
    )
