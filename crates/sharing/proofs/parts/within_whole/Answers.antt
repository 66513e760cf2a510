use Rattle.std.proofs.Common.{◌≡◌, ℕ, ◌+◌, ◌<◌, true, false, nat_le, List, [], ◌∷◌, length, map, sum, None, Some, Option, refl, sym, ap, ◌∙◌, rules, tests, arith}
use Rattle.std.specs.Iterator.{Yields}
use Rattle.std.specs.List.{FoldsTo}
use Rattle.std.specs.Option.{MatchOption, is_some}
use Rattle.std.proofs.iter.runs.Made.{zero_default}
use Rattle.std.proofs.lemmas.Bool.{le-leb, lt-leb}
use Rattle.std.proofs.lemmas.Iterator.{YieldsList, YieldsList-from_slice}
use Rattle.std.proofs.lemmas.Iterator.Consumers.{YieldsList-so_far, YieldsList-turn, YieldsList-end}
use Rattle.std.proofs.lemmas.List.Sums.{sum_by_more, sum_by-take-le}
use Rattle.sharing.specs.KeepingTheLaw.{sum_cons}
use Rattle.sharing.proofs.parts.within_whole.Goals as goal

-- a turn takes its item off what is left
module _ {A F : Type 0} (v : A → ℕ) (turn : F × ℕ → A → F × ℕ → Type 0) (takes : (p : F × ℕ) (x : A) (q : F × ℕ) → turn p x q → p.1 ≡ v x + q.1) where
  taken : (xs : List A) (p q : F × ℕ) → FoldsTo turn p xs q → p.1 ≡ sum (map v xs) + q.1
  taken [] p q same = omega (arith, ap (λ (s : F × ℕ). s.1) same)
  taken (x ∷ xs) p q turns =
      omega (arith, sum_cons (v x) (map v xs), takes p x turns.0 turns.1, taken xs turns.0 q turns.2)

  -- the turns end where no item is left, or at the first that is over what is left: there is an answer just where all items are within it
  module _ {S : Type 0} {steps : S → Option A → S → Type 0} {s : S} {all : List ℕ} (items : YieldsList steps v s all) (r : Option ℕ) (xs : List A) (p q : F × ℕ) (turns : FoldsTo turn p xs q) (t u : S) (so_far : Yields steps s xs t) where
    decided : (next : Option A) → steps t next u → MatchOption next (is_some r ≡ true) (λ x. (is_some r ≡ false) × (q.1 < v x)) → is_some r ≡ nat_le (sum all) p.1
    decided None step done =
        let every = ap sum (YieldsList-end items xs t so_far None u refl step).0 in
        done ∙ sym (le-leb (sum all) p.1 (omega (arith, taken xs p q turns, every)))
    decided (Some x) step over =
        let here = YieldsList-turn items xs t so_far (Some x) u x refl step in
        let i = length xs in
        let item = here.1 ∙ zero_default all i (v x) here.0 in
        let front = ap sum (YieldsList-so_far items xs t so_far) in
        over.0 ∙ sym (lt-leb (sum all) p.1 (omega (arith, taken xs p q turns, front, item, over.1, sum_by_more (λ n. n) all i 0 here.0, sum_by-take-le (λ n. n) all (i + 1))))

pub returns : goal.returns
returns c =
    let ran = c.try_fold.ensures.ran in
    c.is_some.ensures ∙ decided (λ y. y.now) _ (λ p x q step. search (rules, tests)) (YieldsList-from_slice c.args.parts.now cc) c.try_fold.result ran.0 _ _ ran.5 _ _ ran.4.1 ran.1 ran.4.2 (search (rules, tests))
