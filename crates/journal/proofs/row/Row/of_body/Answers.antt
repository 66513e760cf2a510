use Rattle.std.proofs.Common.{◌≡◌, ℕ, List, [], ◌∷◌, length, get_or, refl, subst, rules, arith, Bor}
use Rattle.fields.specs.Partings.{IsParted, part_texts}
use Rattle.journal.proofs.row.Row.of_body.Goals as goal

-- the texts of seven parts, one by one
seven : (parts : List (Bor (List ℕ))) (d : Bor (List ℕ)) → length parts ≡ 7 → part_texts parts ≡ (get_or parts 0 d).now ∷ (get_or parts 1 d).now ∷ (get_or parts 2 d).now ∷ (get_or parts 3 d).now ∷ (get_or parts 4 d).now ∷ (get_or parts 5 d).now ∷ (get_or parts 6 d).now ∷ []
seven [] d count = absurd (omega arith)
seven (p0 ∷ []) d count = absurd (omega arith)
seven (p0 ∷ p1 ∷ []) d count = absurd (omega arith)
seven (p0 ∷ p1 ∷ p2 ∷ []) d count = absurd (omega arith)
seven (p0 ∷ p1 ∷ p2 ∷ p3 ∷ []) d count = absurd (omega arith)
seven (p0 ∷ p1 ∷ p2 ∷ p3 ∷ p4 ∷ []) d count = absurd (omega arith)
seven (p0 ∷ p1 ∷ p2 ∷ p3 ∷ p4 ∷ p5 ∷ []) d count = absurd (omega arith)
seven (p0 ∷ p1 ∷ p2 ∷ p3 ∷ p4 ∷ p5 ∷ p6 ∷ []) d count = refl
seven (p0 ∷ p1 ∷ p2 ∷ p3 ∷ p4 ∷ p5 ∷ p6 ∷ p7 ∷ parts) d count = absurd (omega arith)

pub returns : goal.returns
returns c =
    let cut = c.in_ok-cut_into.ensures in (
      rw (c.new.ensures.whole, c.new-2.ensures.whole, c.new-3.ensures.whole, c.new-4.ensures.whole, c.new-5.ensures.whole, c.new-6.ensures.whole, c.new-7.ensures.whole)
          (subst (λ texts. IsParted texts c.args.body.now) (seven c.cut_into.new.fields _ (omega (arith, cut.0))) cut.1),
      search rules,
    )
